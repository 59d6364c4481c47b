-- The steps of naming.
use Rattle.std.proofs.Common.{◌≡◌, ℕ, zero, suc, ◌+◌, ◌<◌, ◌≤◌, List, [], ◌∷◌, ◌++◌, Option, Some, None, length, take, drop, fold, get_or, slice_get, option_and_then, refl, sym, ap, ◌∙◌, subst, arith, append-nil, append_assoc, length-append, length-set}
use Rattle.std.specs.Prelude.{Result, Ok, Err, IfErr, OnOk, slice_set}
use Rattle.std.specs.Option.{option_flatten}
use Rattle.std.proofs.lemmas.List.{take-append-drop}
use Rattle.std.proofs.lemmas.List.Sums.{fold-append, fold_more}
use Rattle.hw_model.specs.Problem.{Problem}
use Rattle.hw_model.specs.declared.lit.Lit.{Lit}
use Rattle.hw_cert_lines.specs.declared.line.Line.{Line}
use Rattle.hw_cert_lines.specs.declared.line.Line.TheVariants as lines
use Rattle.hw_cert_lines.specs.Lines.{source_line}
use Rattle.hw_trail_laws.specs.declared.event.Event.{Event}
use Rattle.hw_trail_laws.specs.declared.event.Why.{Why}
use Rattle.hw_trail_laws.specs.declared.event.Why.TheVariants as whys
use Rattle.hw_trail_laws.specs.Trails.{TrailModel}
use Rattle.hw_cert.specs.declared.log.LogStop.{LogStop}
use Rattle.hw_cert.specs.declared.log.LogStop.TheVariants as stops
use Rattle.hw_cert.specs.Logs.{LogModel, IsWhole, TakesLine}
use Rattle.hw_search_laws.specs.Searches.{SearchModel, why_at, written_at}
use Rattle.hw_search_laws.specs.Turns.{why_lines, with_written, Cited, cite_by, cite, cited, cite_conflict}
use Rattle.hw_search_laws.specs.Laws.{lemma_lines}
use Rattle.hw_search_ledger.specs.Handing.{TakesAll, StopsWithin, Hands}
use Rattle.hw_search_ledger.specs.Naming.{known_number, search_on, naming, taught, Numbers, NamesBy}
use Rattle.hw_search_ledger.proofs.Handed.{all_none, all_whole, memory_after, all_on, stop_on, stop_in, stop_more, one_taken, one_stopped}

pub why_of_event : (t : TrailModel) (q : ℕ) (event : Event) (why : Why) → slice_get t.events q ≡ Some event → event.why ≡ Some why → why_at t q ≡ Some why
why_of_event t q event why e f = ap (option_and_then (λ (x : Event). x.why)) e ∙ f

pub at_place : {A : Type 0} (xs : List A) (q : ℕ) (x : A) → q < length xs → x ≡ get_or xs q x → slice_get xs q ≡ Some x
at_place [] q x lt e = absurd (omega (arith, lt))
at_place (y ∷ xs) zero x lt e = ap (λ z. Some z) (sym e)
at_place (y ∷ xs) (suc q) x lt e = at_place xs q x (omega (arith, lt)) e

pub written_is : (ws : List (Option ℕ)) (q : ℕ) (w : Option ℕ) → q < length ws → w ≡ get_or ws q w → option_flatten (slice_get ws q) ≡ w
written_is ws q w lt e = ap (λ (o : Option (Option ℕ)). option_flatten o) (at_place ws q w lt e)

-- ---- one reason

known_by : (c : Cited) (q : ℕ) (why : Why) (w : Option ℕ) (n : ℕ) → known_number why w ≡ Some n → cite_by c q (Some why) w ≡ record c { hints = c.hints ++ n ∷ [] }
known_by c q (whys.Lemma number clause) w n e = ap (λ k. record c { hints = c.hints ++ k ∷ [] }) (let same : number ≡ n = cc in same)
known_by c q (whys.Source source clause) None n e = absurd cc
known_by c q (whys.Source source clause) (Some m) n e = ap (λ k. record c { hints = c.hints ++ k ∷ [] }) (let same : m ≡ n = cc in same)
known_by c q (whys.Priced clause) None n e = absurd cc
known_by c q (whys.Priced clause) (Some m) n e = ap (λ k. record c { hints = c.hints ++ k ∷ [] }) (let same : m ≡ n = cc in same)

new_by : (c : Cited) (q : ℕ) (why : Why) (w : Option ℕ) → known_number why w ≡ None → cite_by c q (Some why) w ≡ record { search = with_written c.search q; lines = c.lines ++ why_lines c.search.problem why; hints = c.hints ++ (c.search.clause_lines + 1) ∷ [] }
new_by c q (whys.Lemma number clause) w e = absurd cc
new_by c q (whys.Source source clause) None e = refl
new_by c q (whys.Source source clause) (Some m) e = absurd cc
new_by c q (whys.Priced clause) None e = refl
new_by c q (whys.Priced clause) (Some m) e = absurd cc

cite_at : (c : Cited) (q : ℕ) (why : Why) (w : Option ℕ) → why_at c.search.trail q ≡ Some why → written_at c.search q ≡ w → cite c q ≡ cite_by c q (Some why) w
cite_at c q why w e f = ap (λ o. cite_by c q o (written_at c.search q)) e ∙ ap (λ o. cite_by c q (Some why) o) f

pub cite_known : (c : Cited) (q : ℕ) (why : Why) (w : Option ℕ) (n : ℕ) → why_at c.search.trail q ≡ Some why → written_at c.search q ≡ w → known_number why w ≡ Some n → cite c q ≡ record c { hints = c.hints ++ n ∷ [] }
cite_known c q why w n e f k = cite_at c q why w e f ∙ known_by c q why w n k

pub cite_new : (c : Cited) (q : ℕ) (why : Why) (w : Option ℕ) → why_at c.search.trail q ≡ Some why → written_at c.search q ≡ w → known_number why w ≡ None → cite c q ≡ record { search = with_written c.search q; lines = c.lines ++ why_lines c.search.problem why; hints = c.hints ++ (c.search.clause_lines + 1) ∷ [] }
cite_new c q why w e f k = cite_at c q why w e f ∙ new_by c q why w k

-- ---- what is known after a hint was pushed

pub hands_then : (plan : List Line) (old new : LogModel) (result : Result Unit LogStop) → IfErr result (λ stop. stop ≡ stops.NoMemory) → TakesAll plan old new → Hands plan old new result
hands_then plan old new (Ok done) e t = t
hands_then plan old new (Err stop) e t = subst (λ x. StopsWithin x plan (length plan) old new) (sym e) (memory_after plan old new t)

pub names_then : (c : Cited) (result : Result Unit LogStop) (old_written : List (Option ℕ)) (old_lines : ℕ) (written : List (Option ℕ)) (lines : ℕ) (hints : List ℕ) → length written ≡ length old_written → old_lines ≤ lines → OnOk result (Numbers c written lines hints) → NamesBy c result old_written old_lines written lines hints
names_then c (Ok done) old_written old_lines written lines hints l k n = n
names_then c (Err stop) old_written old_lines written lines hints l k n = record { long = l; low = k }

pub ok_then : {A E : Type 0} (result : Result A E) (P Q : Type 0) → OnOk result P → (P → Q) → OnOk result Q
ok_then (Ok done) P Q p h = h p
ok_then (Err stop) P Q p h = tt

-- ---- the two ways

pub known_names : (s : SearchModel) (f : Problem) (t : TrailModel) (ws : List (Option ℕ)) (lines : ℕ) (hints new : List ℕ) (q : ℕ) (why : Why) (w : Option ℕ) (n : ℕ) (result : Result Unit LogStop) → why_at t q ≡ Some why → option_flatten (slice_get ws q) ≡ w → known_number why w ≡ Some n → OnOk result (new ≡ hints ++ n ∷ [])
    → NamesBy (cite (naming (search_on s f t ws lines) hints) q) result ws lines ws lines new
known_names s f t ws lines hints new q why w n result e g k h =
    let c = naming (search_on s f t ws lines) hints in
    subst (λ x. NamesBy x result ws lines ws lines new) (sym (cite_known c q why w n e g k))
    (names_then (record c { hints = c.hints ++ n ∷ [] }) result ws lines ws lines new refl (omega arith) (ok_then result (new ≡ hints ++ n ∷ []) (Numbers (record c { hints = c.hints ++ n ∷ [] }) ws lines new) h (λ e. record { same_written = refl; same_lines = refl; same_hints = e })))

pub known_hands : (s : SearchModel) (f : Problem) (t : TrailModel) (ws : List (Option ℕ)) (lines : ℕ) (hints : List ℕ) (q : ℕ) (why : Why) (w : Option ℕ) (n : ℕ) (result : Result Unit LogStop) (log : LogModel) → why_at t q ≡ Some why → option_flatten (slice_get ws q) ≡ w → known_number why w ≡ Some n → IsWhole log → IfErr result (λ stop. stop ≡ stops.NoMemory)
    → Hands (cite (naming (search_on s f t ws lines) hints) q).lines log log result
known_hands s f t ws lines hints q why w n result log e g k whole m =
    let c = naming (search_on s f t ws lines) hints in
    subst (λ (x : Cited). Hands x.lines log log result) (sym (cite_known c q why w n e g k)) (hands_then [] log log result m (all_none log whole))

pub new_lines : (s : SearchModel) (f : Problem) (t : TrailModel) (ws : List (Option ℕ)) (lines : ℕ) (hints : List ℕ) (q : ℕ) (why : Why) (w : Option ℕ) → why_at t q ≡ Some why → option_flatten (slice_get ws q) ≡ w → known_number why w ≡ None
    → (cite (naming (search_on s f t ws lines) hints) q).lines ≡ why_lines f why
new_lines s f t ws lines hints q why w e g k = ap (λ (x : Cited). x.lines) (cite_new (naming (search_on s f t ws lines) hints) q why w e g k)

pub new_names : (s : SearchModel) (f : Problem) (t : TrailModel) (ws : List (Option ℕ)) (lines : ℕ) (hints new : List ℕ) (q : ℕ) (why : Why) (w : Option ℕ) (result : Result Unit LogStop) → why_at t q ≡ Some why → option_flatten (slice_get ws q) ≡ w → known_number why w ≡ None → OnOk result (new ≡ hints ++ (lines + 1) ∷ [])
    → NamesBy (cite (naming (search_on s f t ws lines) hints) q) result ws lines (slice_set ws q (Some (lines + 1))) (lines + 1) new
new_names s f t ws lines hints new q why w result e g k h =
    let c = naming (search_on s f t ws lines) hints in
    let d : Cited = record { search = with_written c.search q; lines = c.lines ++ why_lines c.search.problem why; hints = c.hints ++ (c.search.clause_lines + 1) ∷ [] } in
    subst (λ x. NamesBy x result ws lines (slice_set ws q (Some (lines + 1))) (lines + 1) new) (sym (cite_new c q why w e g k))
    (names_then d result ws lines (slice_set ws q (Some (lines + 1))) (lines + 1) new (length-set ws q (Some (lines + 1))) (omega arith) (ok_then result (new ≡ hints ++ (lines + 1) ∷ []) (Numbers d (slice_set ws q (Some (lines + 1))) (lines + 1) new) h (λ e. record { same_written = refl; same_lines = refl; same_hints = e })))

-- ---- one reason after others

abbrev with_numbers : SearchModel → List (Option ℕ) → ℕ → SearchModel
with_numbers s ws n = record s { written = ws; clause_lines = n }

from_by : (c : Cited) (q : ℕ) (o : Option Why) (w : Option ℕ) → cite_by c q o w ≡ record { search = (cite_by (naming c.search c.hints) q o w).search; lines = c.lines ++ (cite_by (naming c.search c.hints) q o w).lines; hints = (cite_by (naming c.search c.hints) q o w).hints }
from_by c q None w = ap (λ xs. record c { lines = xs }) (sym (append-nil c.lines))
from_by c q (Some (whys.Lemma number clause)) w = ap (λ xs. record c { lines = xs; hints = c.hints ++ number ∷ [] }) (sym (append-nil c.lines))
from_by c q (Some (whys.Source source clause)) (Some n) = ap (λ xs. record c { lines = xs; hints = c.hints ++ n ∷ [] }) (sym (append-nil c.lines))
from_by c q (Some (whys.Source source clause)) None = refl
from_by c q (Some (whys.Priced clause)) (Some n) = ap (λ xs. record c { lines = xs; hints = c.hints ++ n ∷ [] }) (sym (append-nil c.lines))
from_by c q (Some (whys.Priced clause)) None = refl

pub cite_from : (c : Cited) (q : ℕ) → cite c q ≡ record { search = (cite (naming c.search c.hints) q).search; lines = c.lines ++ (cite (naming c.search c.hints) q).lines; hints = (cite (naming c.search c.hints) q).hints }
cite_from c q = from_by c q (why_at c.search.trail q) (written_at c.search q)

same_by : (c : Cited) (q : ℕ) (o : Option Why) (w : Option ℕ) → (cite_by c q o w).search ≡ with_numbers c.search (cite_by c q o w).search.written (cite_by c q o w).search.clause_lines
same_by c q None w = refl
same_by c q (Some (whys.Lemma number clause)) w = refl
same_by c q (Some (whys.Source source clause)) (Some n) = refl
same_by c q (Some (whys.Source source clause)) None = refl
same_by c q (Some (whys.Priced clause)) (Some n) = refl
same_by c q (Some (whys.Priced clause)) None = refl

pub fold_same : (c : Cited) (qs : List ℕ) → (fold cite c qs).search ≡ with_numbers c.search (fold cite c qs).search.written (fold cite c qs).search.clause_lines
fold_same c [] = refl
fold_same c (q ∷ qs) = fold_same (cite c q) qs ∙ ap (λ (x : SearchModel). with_numbers x (fold cite (cite c q) qs).search.written (fold cite (cite c q) qs).search.clause_lines) (same_by c q (why_at c.search.trail q) (written_at c.search q))

more_by : (c : Cited) (q : ℕ) (o : Option Why) (w : Option ℕ) → (more : List Line) × ((cite_by c q o w).lines ≡ c.lines ++ more)
more_by c q None w = ([], sym (append-nil c.lines))
more_by c q (Some (whys.Lemma number clause)) w = ([], sym (append-nil c.lines))
more_by c q (Some (whys.Source source clause)) (Some n) = ([], sym (append-nil c.lines))
more_by c q (Some (whys.Source source clause)) None = (source_line c.search.problem source clause ∷ [], refl)
more_by c q (Some (whys.Priced clause)) (Some n) = ([], sym (append-nil c.lines))
more_by c q (Some (whys.Priced clause)) None = (lines.Priced clause ∷ [], refl)

pub fold_lines : (c : Cited) (qs : List ℕ) → (more : List Line) × ((fold cite c qs).lines ≡ c.lines ++ more)
fold_lines c [] = ([], sym (append-nil c.lines))
fold_lines c (q ∷ qs) =
    let one = more_by c q (why_at c.search.trail q) (written_at c.search q) in
    let all = fold_lines (cite c q) qs in
    (one.0 ++ all.0, all.1 ∙ ap (λ xs. xs ++ all.0) one.1 ∙ append_assoc c.lines one.0 all.0)

-- the numbers so far are those of a search
pub naming_is : (s : SearchModel) (f : Problem) (t : TrailModel) (ws now : List (Option ℕ)) (n lines : ℕ) (old hints : List ℕ) (qs : List ℕ) → Numbers (fold cite (naming (search_on s f t ws n) old) qs) now lines hints
    → naming (search_on s f t now lines) hints ≡ naming (fold cite (naming (search_on s f t ws n) old) qs).search (fold cite (naming (search_on s f t ws n) old) qs).hints
naming_is s f t ws now n lines old hints qs m =
    let c = fold cite (naming (search_on s f t ws n) old) qs in
    ap (λ xs. naming (search_on s f t xs lines) hints) m.same_written ∙ ap (λ k. naming (search_on s f t c.search.written k) hints) m.same_lines ∙ ap (λ xs. naming (search_on s f t c.search.written c.search.clause_lines) xs) m.same_hints ∙ ap (λ x. naming x c.hints) (sym (fold_same (naming (search_on s f t ws n) old) qs))

pub step_lines : (s : SearchModel) (f : Problem) (t : TrailModel) (ws now : List (Option ℕ)) (n lines : ℕ) (old hints qs : List ℕ) (i d : ℕ) (begun log new : LogModel) → i < length qs → Numbers (fold cite (naming (search_on s f t ws n) old) (take i qs)) now lines hints
    → TakesAll (fold cite (naming (search_on s f t ws n) old) (take i qs)).lines begun log → TakesAll (cite (naming (search_on s f t now lines) hints) (get_or qs i d)).lines log new
    → TakesAll (fold cite (naming (search_on s f t ws n) old) (take (i + 1) qs)).lines begun new
step_lines s f t ws now n lines old hints qs i d begun log new lt m a b =
    let c0 = naming (search_on s f t ws n) old in
    let c = fold cite c0 (take i qs) in
    let q = get_or qs i d in
    let b' = subst (λ x. TakesAll (cite x q).lines log new) (naming_is s f t ws now n lines old hints (take i qs) m) b in
    let all = all_on c.lines (cite (naming c.search c.hints) q).lines begun log new a b' in
    subst (λ (x : Cited). TakesAll x.lines begun new) (sym (fold_more cite c0 qs i d lt)) (subst (λ (x : Cited). TakesAll x.lines begun new) (sym (cite_from c q)) all)

pub step_numbers : (s : SearchModel) (f : Problem) (t : TrailModel) (ws now next : List (Option ℕ)) (n lines after : ℕ) (old hints new qs : List ℕ) (i d : ℕ) → i < length qs → Numbers (fold cite (naming (search_on s f t ws n) old) (take i qs)) now lines hints
    → Numbers (cite (naming (search_on s f t now lines) hints) (get_or qs i d)) next after new
    → Numbers (fold cite (naming (search_on s f t ws n) old) (take (i + 1) qs)) next after new
step_numbers s f t ws now next n lines after old hints new qs i d lt m k =
    let c0 = naming (search_on s f t ws n) old in
    let c = fold cite c0 (take i qs) in
    let q = get_or qs i d in
    let k' = subst (λ x. Numbers (cite x q) next after new) (naming_is s f t ws now n lines old hints (take i qs) m) k in
    subst (λ x. Numbers x next after new) (sym (fold_more cite c0 qs i d lt)) (subst (λ x. Numbers x next after new) (sym (cite_from c q)) (record { same_written = k'.same_written; same_lines = k'.same_lines; same_hints = k'.same_hints }))

pub step_stops : (s : SearchModel) (f : Problem) (t : TrailModel) (ws now : List (Option ℕ)) (n lines : ℕ) (old hints qs : List ℕ) (i d : ℕ) (stop : LogStop) (begun log new : LogModel) → i < length qs → Numbers (fold cite (naming (search_on s f t ws n) old) (take i qs)) now lines hints
    → TakesAll (fold cite (naming (search_on s f t ws n) old) (take i qs)).lines begun log → StopsWithin stop (cite (naming (search_on s f t now lines) hints) (get_or qs i d)).lines (length (cite (naming (search_on s f t now lines) hints) (get_or qs i d)).lines) log new
    → StopsWithin stop (fold cite (naming (search_on s f t ws n) old) qs).lines (length (fold cite (naming (search_on s f t ws n) old) qs).lines) begun new
step_stops s f t ws now n lines old hints qs i d stop begun log new lt m a b =
    let c0 = naming (search_on s f t ws n) old in
    let c = fold cite c0 (take i qs) in
    let q = get_or qs i d in
    let b' = subst (λ x. StopsWithin stop (cite x q).lines (length (cite x q).lines) log new) (naming_is s f t ws now n lines old hints (take i qs) m) b in
    let one = (cite (naming c.search c.hints) q).lines in
    let all = stop_on stop c.lines one (length one) begun log new a b' in
    let more = fold_lines (cite c q) (drop (i + 1) qs) in
    let whole : (fold cite c0 qs).lines ≡ (c.lines ++ one) ++ more.0 =
    ap (λ xs. (fold cite c0 xs).lines) (sym (take-append-drop (i + 1) qs)) ∙ ap (λ (x : Cited). x.lines) (fold-append cite c0 (take (i + 1) qs) (drop (i + 1) qs)) ∙ ap (λ (x : Cited). (fold cite x (drop (i + 1) qs)).lines) (fold_more cite c0 qs i d lt) ∙ more.1 ∙ ap (λ (x : Cited). x.lines ++ more.0) (cite_from c q) in
    let l = length-append c.lines one in
    let l2 = length-append (c.lines ++ one) more.0 in
    subst (λ xs. StopsWithin stop xs (length xs) begun new) (sym whole)
    (stop_more stop ((c.lines ++ one) ++ more.0) (length c.lines + length one) (length ((c.lines ++ one) ++ more.0)) begun new (omega (arith, l, l2))
    (stop_in stop (c.lines ++ one) more.0 (length c.lines + length one) begun new (omega (arith, l)) all))

-- ---- the conflict

pub conflict_lines : (s : SearchModel) (f : Problem) (hints : List ℕ) (why : Why) → s.problem ≡ f → (cite_conflict (naming s hints) why).lines ≡ why_lines f why
conflict_lines s f hints (whys.Lemma number clause) e = refl
conflict_lines s f hints (whys.Source source clause) e = ap (λ p. source_line p source clause ∷ []) e
conflict_lines s f hints (whys.Priced clause) e = refl

pub conflict_from : (c : Cited) (why : Why) → cite_conflict c why ≡ record { search = (cite_conflict (naming c.search c.hints) why).search; lines = c.lines ++ (cite_conflict (naming c.search c.hints) why).lines; hints = (cite_conflict (naming c.search c.hints) why).hints }
conflict_from c (whys.Lemma number clause) = ap (λ xs. record c { lines = xs; hints = c.hints ++ number ∷ [] }) (sym (append-nil c.lines))
conflict_from c (whys.Source source clause) = refl
conflict_from c (whys.Priced clause) = refl

pub taught_lines : (s : SearchModel) (f : Problem) (t : TrailModel) (ws now : List (Option ℕ)) (n lines : ℕ) (hints : List ℕ) (qs : List ℕ) (why : Why) → Numbers (cited (search_on s f t ws n) qs) now lines hints
    → (taught (search_on s f t ws n) why qs).lines ≡ (cited (search_on s f t ws n) qs).lines ++ (cite_conflict (naming (search_on s f t now lines) hints) why).lines
taught_lines s f t ws now n lines hints qs why m =
    let c = cited (search_on s f t ws n) qs in
    ap (λ (x : Cited). x.lines) (conflict_from c why) ∙ ap (λ (x : Cited). c.lines ++ (cite_conflict x why).lines) (sym (naming_is s f t ws now n lines [] hints qs m))

pub taught_hands : (s : SearchModel) (f : Problem) (t : TrailModel) (ws now : List (Option ℕ)) (n lines : ℕ) (hints qs : List ℕ) (why : Why) (old mid new : LogModel) → Numbers (cited (search_on s f t ws n) qs) now lines hints
    → TakesAll (cited (search_on s f t ws n) qs).lines old mid → TakesAll (cite_conflict (naming (search_on s f t now lines) hints) why).lines mid new
    → TakesAll (taught (search_on s f t ws n) why qs).lines old new
taught_hands s f t ws now n lines hints qs why old mid new m a b =
    subst (λ xs. TakesAll xs old new) (sym (taught_lines s f t ws now n lines hints qs why m)) (all_on (cited (search_on s f t ws n) qs).lines (cite_conflict (naming (search_on s f t now lines) hints) why).lines old mid new a b)

-- it stopped at a reason
pub reasons_stop : (s : SearchModel) (f : Problem) (t : TrailModel) (ws : List (Option ℕ)) (n : ℕ) (qs : List ℕ) (why : Why) (stop : LogStop) (old new : LogModel)
    → StopsWithin stop (cited (search_on s f t ws n) qs).lines (length (cited (search_on s f t ws n) qs).lines) old new
    → StopsWithin stop (taught (search_on s f t ws n) why qs).lines (length (taught (search_on s f t ws n) why qs).lines) old new
reasons_stop s f t ws n qs why stop old new a =
    let c = cited (search_on s f t ws n) qs in
    let more = (cite_conflict (naming c.search c.hints) why).lines in
    let e : (taught (search_on s f t ws n) why qs).lines ≡ c.lines ++ more = ap (λ (x : Cited). x.lines) (conflict_from c why) in
    subst (λ xs. StopsWithin stop xs (length xs) old new) (sym e) (stop_more stop (c.lines ++ more) (length c.lines) (length (c.lines ++ more)) old new (omega (arith, length-append c.lines more)) (stop_in stop c.lines more (length c.lines) old new (omega arith) a))

-- it stopped at the conflict
pub conflict_stops : (s : SearchModel) (f : Problem) (t : TrailModel) (ws now : List (Option ℕ)) (n lines : ℕ) (hints qs : List ℕ) (why : Why) (stop : LogStop) (old mid new : LogModel) → Numbers (cited (search_on s f t ws n) qs) now lines hints
    → TakesAll (cited (search_on s f t ws n) qs).lines old mid → StopsWithin stop (cite_conflict (naming (search_on s f t now lines) hints) why).lines (length (cite_conflict (naming (search_on s f t now lines) hints) why).lines) mid new
    → StopsWithin stop (taught (search_on s f t ws n) why qs).lines (length (taught (search_on s f t ws n) why qs).lines) old new
conflict_stops s f t ws now n lines hints qs why stop old mid new m a b =
    let c = cited (search_on s f t ws n) qs in
    let more = (cite_conflict (naming (search_on s f t now lines) hints) why).lines in
    subst (λ xs. StopsWithin stop xs (length xs) old new) (sym (taught_lines s f t ws now n lines hints qs why m)) (stop_more stop (c.lines ++ more) (length c.lines + length more) (length (c.lines ++ more)) old new (omega (arith, length-append c.lines more)) (stop_on stop c.lines more (length more) old mid new a b))

-- a conflict changes no number of a reason
pub same_conflict : (c : Cited) (why : Why) → (cite_conflict c why).search.written ≡ c.search.written
same_conflict c (whys.Lemma number clause) = refl
same_conflict c (whys.Source source clause) = refl
same_conflict c (whys.Priced clause) = refl

pub taught_numbers : (s : SearchModel) (f : Problem) (t : TrailModel) (ws now : List (Option ℕ)) (n lines after : ℕ) (hints new qs : List ℕ) (why : Why) → Numbers (cited (search_on s f t ws n) qs) now lines hints
    → after ≡ (cite_conflict (naming (search_on s f t now lines) hints) why).search.clause_lines → new ≡ (cite_conflict (naming (search_on s f t now lines) hints) why).hints
    → Numbers (taught (search_on s f t ws n) why qs) now after new
taught_numbers s f t ws now n lines after hints new qs why m e h =
    let c = cited (search_on s f t ws n) qs in
    let same = naming_is s f t ws now n lines [] hints qs m in
    record {
      same_written = m.same_written ∙ sym (same_conflict c why);
      same_lines = e ∙ ap (λ (x : Cited). (cite_conflict x why).search.clause_lines) same ∙ sym (ap (λ (x : Cited). x.search.clause_lines) (conflict_from c why));
      same_hints = h ∙ ap (λ (x : Cited). (cite_conflict x why).hints) same ∙ sym (ap (λ (x : Cited). x.hints) (conflict_from c why));
    }

-- where nothing was named before
pub numbers_from : (s : SearchModel) (f : Problem) (t : TrailModel) (ws now : List (Option ℕ)) (n lines : ℕ) (none hints qs : List ℕ) → none ≡ [] → Numbers (fold cite (naming (search_on s f t ws n) none) qs) now lines hints → Numbers (cited (search_on s f t ws n) qs) now lines hints
numbers_from s f t ws now n lines none hints qs e m = subst (λ xs. Numbers (fold cite (naming (search_on s f t ws n) xs) qs) now lines hints) e m

pub taken_from : (s : SearchModel) (f : Problem) (t : TrailModel) (ws : List (Option ℕ)) (n : ℕ) (none qs : List ℕ) (old new : LogModel) → none ≡ [] → TakesAll (fold cite (naming (search_on s f t ws n) none) qs).lines old new → TakesAll (cited (search_on s f t ws n) qs).lines old new
taken_from s f t ws n none qs old new e m = subst (λ xs. TakesAll (fold cite (naming (search_on s f t ws n) xs) qs).lines old new) e m

-- ---- the lemma after them

pub lemma_taken : (c : Cited) (lemma : List Lit) (hints : List ℕ) (old mid new : LogModel) (done : Unit {0}) → hints ≡ c.hints → TakesAll c.lines old mid → TakesLine (lines.Lemma lemma hints) mid new (Ok done) → TakesAll (lemma_lines c lemma) old new
lemma_taken c lemma hints old mid new done e a t = all_on c.lines (lines.Lemma lemma c.hints ∷ []) old mid new a (subst (λ xs. TakesAll (lines.Lemma lemma xs ∷ []) mid new) e (one_taken (lines.Lemma lemma hints) mid new done t))

pub lemma_stopped : (c : Cited) (lemma : List Lit) (hints : List ℕ) (stop : LogStop) (old mid new : LogModel) → hints ≡ c.hints → TakesAll c.lines old mid → TakesLine (lines.Lemma lemma hints) mid new (Err stop) → StopsWithin stop (lemma_lines c lemma) (length c.lines) old new
lemma_stopped c lemma hints stop old mid new e a t =
    stop_more stop (lemma_lines c lemma) (length c.lines + 0) (length c.lines) old new (omega arith)
    (stop_on stop c.lines (lines.Lemma lemma c.hints ∷ []) 0 old mid new a (subst (λ xs. StopsWithin stop (lines.Lemma lemma xs ∷ []) 0 mid new) e (one_stopped (lines.Lemma lemma hints) stop mid new (all_whole c.lines old mid a) t)))

pub lemma_early : (c : Cited) (lemma : List Lit) (stop : LogStop) (old new : LogModel) → StopsWithin stop c.lines (length c.lines) old new → StopsWithin stop (lemma_lines c lemma) (length c.lines) old new
lemma_early c lemma stop old new a = stop_in stop c.lines (lines.Lemma lemma c.hints ∷ []) (length c.lines) old new (omega arith) a

pub table_stopped : (table row : List ℕ) (stop : LogStop) (old new : LogModel) → table ≡ row → IsWhole old → TakesLine (lines.Table table) old new (Err stop) → StopsWithin stop (lines.Table row ∷ []) 0 old new
table_stopped table row stop old new e whole t = subst (λ xs. StopsWithin stop (lines.Table xs ∷ []) 0 old new) e (one_stopped (lines.Table table) stop old new whole t)
