-- The best of lines, and timetables that carry no more.
use Rattle.std.proofs.Common.{◌≡◌, ◌∙◌, ◌++◌, ◌+◌, ◌<◌, ◌≤◌, ℕ, List, [], ◌∷◌, Option, Some, None, Result, Ok, Err, get_or, inl, inr, length, take, sym, ap, subst, append_assoc, append-nil, arith}
use Rattle.std.specs.Prelude.{All, IsSomeAnd, IsTrue, Vec, option_and_then}
use Rattle.std.specs.declared.alloc.Global.{Global}
use Rattle.std.proofs.lemmas.Bool.{ltb-true}
use Rattle.std.proofs.lemmas.List.{take_all}
use Rattle.std.proofs.lemmas.List.Elements.{All-more}
use Rattle.hw_model.specs.Problem.{Problem}
use Rattle.hw_model.specs.Timetables.{beats, cargo}
use Rattle.hw_cert_lines.specs.declared.line.Line.{Line}
use Rattle.hw_cert_lines.specs.declared.line.Line.TheVariants as lines
use Rattle.hw_cert_lines.specs.Kept.{Kept, kept_of}
use Rattle.hw_cert_lines.specs.Lines.{best_of, last_table, table_after}
use Rattle.hw_cert_lines.specs.Valid.{Holds, Valid, ValidAfter, ValidFrom}
use Rattle.hw_cert_lines.proofs.Pushed.{one_more}
use Rattle.hw_cert_course.specs.Courses.{AddsLines, CourseStands, ExtendsBy, LeavesOut, OfferingMeets}
use Rattle.hw_cert_course.specs.declared.going_on.Course.{Course}
use Rattle.hw_cert_course.specs.declared.stop.CourseStop.{CourseStop}
use Rattle.hw_cert_course.proofs.Extended.{extends_self, offered_adds}
use Rattle.hw_cert_join.specs.Joining.{BestMeets, CarriesNoMore, EachCarriesNoMore, IsNoMore, TakesBest}

-- ---- cargoes

pub no_more_itself : (a : Option ℕ) → IsNoMore a a
no_more_itself None = tt
no_more_itself (Some a) = omega arith

pub no_more_on : (a b c : Option ℕ) → IsNoMore a b → IsNoMore b c → IsNoMore a c
no_more_on None b c h k = tt
no_more_on (Some a) None c h k = absurd h
no_more_on (Some a) (Some b) None h k = absurd k
no_more_on (Some a) (Some b) (Some c) h k = let le : a ≤ b = h in let on : b ≤ c = k in omega (arith, le, on)

above : (best new : Option ℕ) → IsSomeAnd new (λ c. IsTrue (beats c best)) → IsNoMore best new
above None new h = tt
above (Some best) None h = absurd h
above (Some best) (Some c) h = let lt : best < c = ltb-true best c h in omega (arith, lt)

-- ---- valid lines never lower the best

new_best : (f : Problem) (before : List Line) (line : Line) → Holds f before line → IsNoMore (best_of f before) (option_and_then (cargo f) (table_after (last_table before) line))
new_best f before (lines.Table table) h = above (best_of f before) (cargo f table) h.1
new_best f before (lines.Explain n clause) h = no_more_itself (best_of f before)
new_best f before (lines.Order v w x clause) h = no_more_itself (best_of f before)
new_best f before (lines.Goal clause) h = no_more_itself (best_of f before)
new_best f before (lines.Lemma clause hints) h = no_more_itself (best_of f before)
new_best f before (lines.Delete ids) h = no_more_itself (best_of f before)
new_best f before (lines.Toll toll) h = no_more_itself (best_of f before)
new_best f before (lines.Tariff tariff) h = no_more_itself (best_of f before)
new_best f before (lines.Priced clause) h = no_more_itself (best_of f before)
new_best f before (lines.Bound bound) h = no_more_itself (best_of f before)

one_rises : (f : Problem) (before : List Line) (line : Line) → ValidAfter f before line → IsNoMore (best_of f before) (best_of f (before ++ line ∷ []))
one_rises f before line h = subst (IsNoMore (best_of f before)) (sym (one_more f before line).best) (new_best f before line h.claim)

rises_from : (f : Problem) (more before : List Line) → ValidFrom f before more → IsNoMore (best_of f before) (best_of f (before ++ more))
rises_from f [] before h = subst (λ (all : List Line). IsNoMore (best_of f before) (best_of f all)) (sym (append-nil before)) (no_more_itself (best_of f before))
rises_from f (line ∷ more) before h =
    let later = rises_from f more (before ++ line ∷ []) h.1 in
    let same : (before ++ line ∷ []) ++ more ≡ before ++ line ∷ more = append_assoc before (line ∷ []) more in
    no_more_on (best_of f before) (best_of f (before ++ line ∷ [])) (best_of f (before ++ line ∷ more)) (one_rises f before line h.0) (subst (λ (all : List Line). IsNoMore (best_of f (before ++ line ∷ [])) (best_of f all)) same later)

valid_later : (f : Problem) (xs start ys : List Line) → ValidFrom f start (xs ++ ys) → ValidFrom f (start ++ xs) ys
valid_later f [] start ys h = subst (λ (all : List Line). ValidFrom f all ys) (sym (append-nil start)) h
valid_later f (x ∷ xs) start ys h = subst (λ (all : List Line). ValidFrom f all ys) (append_assoc start (x ∷ []) xs) (valid_later f xs (start ++ x ∷ []) ys h.1)

valid_lines : {f : Problem} {course : Course} → CourseStands f course → Valid f course.lines.items
valid_lines {course = course} h = subst (λ (g : Problem). Valid g course.lines.items) h.checked h.follows.valid

pub stands_from : {f : Problem} {a b : Course} → CourseStands f a → ExtendsBy a b → CourseStands f b
stands_from {b = b} h k = subst (λ (g : Problem). CourseStands g b) h.problem k.adds.stands

pub best_rises : {f : Problem} {a b : Course} → CourseStands f a → ExtendsBy a b → IsNoMore (best_of f a.lines.items) (best_of f b.lines.items)
best_rises {f = f} {a = a} {b = b} h k =
    let whole : Valid f (a.lines.items ++ k.more) = subst (Valid f) k.adds.parts (valid_lines (stands_from h k)) in
    subst (λ (all : List Line). IsNoMore (best_of f a.lines.items) (best_of f all)) (sym k.adds.parts) (rises_from f k.more a.lines.items (valid_later f a.lines.items [] k.more whole))

-- ---- timetables that carry no more

pub carries_higher : (f : Problem) (low high : Option ℕ) (line : Line) → IsNoMore low high → CarriesNoMore f low line → CarriesNoMore f high line
carries_higher f low high (lines.Table table) up h = no_more_on (cargo f table) low high h up
carries_higher f low high (lines.Explain n clause) up h = tt
carries_higher f low high (lines.Order v w x clause) up h = tt
carries_higher f low high (lines.Goal clause) up h = tt
carries_higher f low high (lines.Lemma clause hints) up h = tt
carries_higher f low high (lines.Delete ids) up h = tt
carries_higher f low high (lines.Toll toll) up h = tt
carries_higher f low high (lines.Tariff tariff) up h = tt
carries_higher f low high (lines.Priced clause) up h = tt
carries_higher f low high (lines.Bound bound) up h = tt

pub all_higher : (f : Problem) (low high : Option ℕ) (all : List Line) → IsNoMore low high → All (CarriesNoMore f low) all → All (CarriesNoMore f high) all
all_higher f low high all up h = λ i line lt. carries_higher f low high _ up (h i line lt)

pub each_higher : (f : Problem) (low high : Option ℕ) (certs : List (Vec Line Global)) → IsNoMore low high → EachCarriesNoMore f low certs → EachCarriesNoMore f high certs
each_higher f low high certs up h = λ i cert lt. all_higher f low high _ up (h i cert lt)

-- ---- the best that was found among some lines

-- it carries at least what another one carried before them
pub record BestAlong (f : Problem) (before best : Option ℕ) (all : List Line) : Type 0 where
  pub keeps : IsNoMore before best
  pub lines : All (CarriesNoMore f best) all

pub along_next : {f : Problem} {before best next : Option ℕ} (all : List Line) (i : ℕ) (line : Line) → i < length all → line ≡ get_or all i line → BestAlong f before best (take i all) → IsNoMore best next → CarriesNoMore f next line → BestAlong f before next (take (i + 1) all)
along_next {f = f} {before = before} {best = best} {next = next} all i line lt is h up carries = record {
  keeps = no_more_on before best next h.keeps up;
  lines = All-more (CarriesNoMore f next) all i line lt (all_higher f best next (take i all) up h.lines) (subst (CarriesNoMore f next) is carries);
}

pub certs_next : (f : Problem) (best next : Option ℕ) (certs : List (Vec Line Global)) (i : ℕ) (cert : Vec Line Global) → i < length certs → EachCarriesNoMore f best (take i certs) → IsNoMore best next → All (CarriesNoMore f next) (get_or certs i cert).items → EachCarriesNoMore f next (take (i + 1) certs)
certs_next f best next certs i cert lt h up carry = All-more (λ (one : Vec Line Global). All (CarriesNoMore f next) one.items) certs i cert lt (each_higher f best next (take i certs) up h) carry

pub certs_end : (f : Problem) (best : Option ℕ) (certs : List (Vec Line Global)) (i : ℕ) → length certs ≤ i → EachCarriesNoMore f best (take i certs) → EachCarriesNoMore f best certs
certs_end f best certs i le h = subst (EachCarriesNoMore f best) (take_all i certs le) h

-- ---- a timetable that is offered

taken_best : (course after : Course) (table : List ℕ) → AddsLines course after (lines.Table table ∷ []) → IsNoMore (cargo course.flat.now table) (best_of course.flat.now after.lines.items)
taken_best course after table h =
    let f = course.flat.now in
    let best : best_of f after.lines.items ≡ cargo f table = ap (best_of f) h.parts ∙ (one_more f course.lines.items (lines.Table table)).best in
    subst (IsNoMore (cargo f table)) (sym best) (no_more_itself (cargo f table))

kept_best : (cargo best : Option ℕ) → IsSomeAnd cargo (λ c. IsSomeAnd best (λ most. c ≤ most)) → IsNoMore cargo best
kept_best None best h = absurd h
kept_best (Some c) best h = h

left_best : (course after : Course) (table : List ℕ) → CourseStands course.flat.now course → LeavesOut course after (lines.Table table) → IsNoMore (cargo course.flat.now table) (best_of course.flat.now after.lines.items)
left_best course after table stands h =
    let f = course.flat.now in
    let kept : course.checker.kept ≡ kept_of f course.lines.items = stands.follows.kept ∙ ap (λ (g : Problem). kept_of g course.lines.items) stands.checked in
    let best : course.checker.kept.best ≡ best_of f after.lines.items = ap (λ (k : Kept). k.best) kept ∙ ap (λ (now : Course). best_of f now.lines.items) (sym h.same) in
    subst (IsNoMore (cargo f table)) best (kept_best (cargo f table) course.checker.kept.best h.no_more)

offered_best : (course after : Course) (table : List ℕ) → CourseStands course.flat.now course → OfferingMeets course (lines.Table table) (Ok after) → IsNoMore (cargo course.flat.now table) (best_of course.flat.now after.lines.items)
offered_best course after table stands (inl h) = taken_best course after table h
offered_best course after table stands (inr h) = left_best course after table stands h

-- the best of all was offered
pub by_offer : (course : Course) (certs : List (Vec Line Global)) (table : List ℕ) (result : Result Course CourseStop) → CourseStands course.flat.now course → EachCarriesNoMore course.flat.now (cargo course.flat.now table) certs → OfferingMeets course (lines.Table table) result → BestMeets course certs result
by_offer course certs table (Ok after) stands best h =
    let adds = offered_adds course after (lines.Table table) stands h in
    record {
      extends = record { more = adds.more; adds = adds.adds };
      best = each_higher course.flat.now (cargo course.flat.now table) (best_of course.flat.now after.lines.items) certs (offered_best course after table stands h) best;
    }
by_offer course certs table (Err stop) stands best h = h

-- none has a cargo
pub none_offered : (course : Course) (certs : List (Vec Line Global)) → CourseStands course.flat.now course → EachCarriesNoMore course.flat.now None certs → BestMeets course certs (Ok course)
none_offered course certs stands best = record {
  extends = extends_self stands;
  best = each_higher course.flat.now None (best_of course.flat.now course.lines.items) certs tt best;
}

-- more lines may follow
pub best_on : {f : Problem} {a b : Course} (certs : List (Vec Line Global)) → CourseStands f a → ExtendsBy a b → EachCarriesNoMore f (best_of f a.lines.items) certs → EachCarriesNoMore f (best_of f b.lines.items) certs
best_on {f = f} {a = a} {b = b} certs h k best = each_higher f (best_of f a.lines.items) (best_of f b.lines.items) certs (best_rises h k) best

pub best_taken : {f : Problem} {a b : Course} {certs : List (Vec Line Global)} → CourseStands f a → TakesBest a b certs → EachCarriesNoMore f (best_of f b.lines.items) certs
best_taken {b = b} {certs = certs} h k = subst (λ (g : Problem). EachCarriesNoMore g (best_of g b.lines.items) certs) h.problem k.best
