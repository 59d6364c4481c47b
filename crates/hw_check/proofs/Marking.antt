-- How certificates are renewed from the last line back.
use Rattle.std.proofs.Common.{◌≡◌, ℕ, ◌+◌, ◌<◌, ◌≤◌, Bool, true, false, ◌&&◌, not, List, [], ◌∷◌, ◌++◌, reverse, Option, Some, None, is_some, length, get_or, take, drop, filter, max, fold, All, refl, sym, ap, ◌∙◌, subst, arith, append_assoc}
use Rattle.std.proofs.lemmas.Bool.{and_parts}
use Rattle.std.proofs.lemmas.List.{take_more, take_all, take-append-le, reverse-append}
use Rattle.std.proofs.lemmas.List.Elements.{All-head, All-tail, All-weaker}
use Rattle.std.specs.List.{cons_option, range_with_len}
use Rattle.std.specs.List.Sorted.{IsStrictlyIncreasing}
use Rattle.hw_model.specs.declared.lit.Lit.{Lit}
use Rattle.hw_cert_lines.specs.declared.line.Line.{Line}
use Rattle.hw_cert_lines.specs.Lines.{clause_of, clause_count}
use Rattle.hw_cert_laws.specs.Renewing.{hints_of, has_hint, is_hint_of, last_named, deletions, undeleting, next_number, renewed_from, IsNumbered}
use Rattle.hw_cert_laws.proofs.Fitting.{last_ascends}
use Rattle.hw_cert_laws.proofs.Naming.{from_among}
use Rattle.hw_cert_laws.proofs.Numbered.{count_append}
use Rattle.hw_check.specs.Marks.{Marks, is_among_numbers}
use Rattle.hw_check.proofs.Ascending.{among_filter, among_range, at_most_greatest, same_ascending}

-- ---- the hints of which a line is the last

last_among : (line : Line) (later : List Line) (id : ℕ) → is_among_numbers id (last_named line later) ≡ (has_hint id line && not (is_hint_of later id))
last_among line later id = among_filter (λ id. has_hint id line && not (is_hint_of later id)) (range_with_len 0 (fold max 0 (hints_of line) + 1)) id ∙ within (has_hint id line && not (is_hint_of later id)) _ (λ e.
    let most = at_most_greatest 0 (hints_of line) id (and_parts _ _ e).0 in
    among_range 0 _ id (omega arith) (omega (arith, most)))
  where
    within : (test in_range : Bool) → (test ≡ true → in_range ≡ true) → (test && in_range) ≡ test
    within true in_range e = e refl
    within false in_range e = refl

-- what is kept of the hints is what no later line names, where the marks say that
pub last_unmarked : (line : Line) (later : List Line) (marked : List Bool) (kept ids : List ℕ) → All (λ id. id < length marked) (hints_of line) → Marks marked later → kept ≡ filter (λ id. not (get_or marked id false)) (hints_of line) → IsStrictlyIncreasing ids → ((id : ℕ) → is_among_numbers id ids ≡ is_among_numbers id kept) → ids ≡ last_named line later
last_unmarked line later marked kept ids within marks is ascends same = same_ascending ids (last_named line later) ascends (last_ascends line later) (λ id. same id ∙ ap (is_among_numbers id) is ∙ among_filter (λ id. not (get_or marked id false)) (hints_of line) id ∙ by id (has_hint id line) refl ∙ sym (last_among line later id))
  where
    by : (id : ℕ) (here : Bool) → has_hint id line ≡ here → (not (get_or marked id false) && here) ≡ (here && not (is_hint_of later id))
    by id true e = with_true _ ∙ ap not (marks id (from_among (λ id. id < length marked) (hints_of line) id e within))
      where
        with_true : (b : Bool) → (b && true) ≡ b
        with_true true = refl
        with_true false = refl
    by id false e = with_false _
      where
        with_false : (b : Bool) → (b && false) ≡ false
        with_false true = refl
        with_false false = refl

-- ---- clause lines

-- how many numbers a line with such a clause takes
abbrev pub numbers_of : Option (List Lit) → ℕ
numbers_of o = length (cons_option o [])

pub count_next : (all : List Line) (i : ℕ) (line : Line) → i < length all → line ≡ get_or all i line → clause_count (take (i + 1) all) ≡ clause_count (take i all) + numbers_of (clause_of line)
count_next all i line lt is = ap clause_count (take_more all i line lt ∙ ap (λ one. take i all ++ one ∷ []) (sym is)) ∙ count_append (take i all) (line ∷ [])

pub numbered_one : (o : Option (List Lit)) → is_some o ≡ true → numbers_of o ≡ 1
numbered_one None e = absurd cc
numbered_one (Some clause) e = refl

pub numbered_none : (o : Option (List Lit)) → is_some o ≡ false → numbers_of o ≡ 0
numbered_none None e = refl
numbered_none (Some clause) e = absurd cc

-- ---- from the last line back

-- the lines left, the next number, the marks, and what was made of the later lines, the last one first
pub record Renews (all left : List Line) (number : ℕ) (marked : List Bool) (made : List Line) : Type 0 where
  pub later : List Line
  pub whole : all ≡ left ++ later
  pub counted : number ≡ clause_count left
  pub long : length marked ≡ clause_count all + 1
  pub marks : Marks marked later
  pub made_of : made ≡ reverse (renewed_from (number + 1) later)

same_deletions : (line : Line) (later : List Line) (number next : ℕ) (o : Option (List Lit)) → number ≡ next + numbers_of o → (deletions (next + 1) line later o ≡ deletions number line later o) × (next_number (next + 1) o ≡ number + 1)
same_deletions line later number next None e = (refl, omega (arith, e))
same_deletions line later number next (Some clause) e = (ap (λ n. deletions n line later (Some clause)) (sym e), omega (arith, e))

pub one_taken : (all old new : List Line) (line : Line) (number next : ℕ) (marked marked' : List Bool) (made made' : List Line) → (r : Renews all old number marked made) → old ≡ new ++ line ∷ [] → number ≡ next + numbers_of (clause_of line) → length marked' ≡ length marked → Marks marked' (line ∷ r.later) → made' ≡ made ++ reverse (undeleting line ++ deletions number line r.later (clause_of line)) → Renews all new next marked' made'
one_taken all old new line number next marked marked' made made' r split at long marks put =
    let own = same_deletions line r.later number next (clause_of line) at in
    let lines : List Line = undeleting line ++ deletions number line r.later (clause_of line) in
    let rest : List Line = renewed_from (number + 1) r.later in
    let counted : number ≡ clause_count new + numbers_of (clause_of line) = r.counted ∙ ap clause_count split ∙ count_append new (line ∷ []) in
    let whole : all ≡ new ++ line ∷ r.later = r.whole ∙ ap (λ left. left ++ r.later) split ∙ append_assoc new (line ∷ []) r.later in
    let together : renewed_from (next + 1) (line ∷ r.later) ≡ lines ++ rest = ap (λ due. undeleting line ++ due ++ renewed_from (next_number (next + 1) (clause_of line)) r.later) own.0 ∙ ap (λ n. lines ++ renewed_from n r.later) own.1 in
    record {
      later = line ∷ r.later;
      whole = whole;
      counted = omega (arith, counted, at);
      long = long ∙ r.long;
      marks = marks;
      made_of = put ∙ ap (λ back. back ++ reverse lines) r.made_of ∙ sym (reverse-append lines rest) ∙ sym (ap reverse together);
    }

-- a whole list written back
written : (len : ℕ) (new old : List Bool) → len ≡ length new → take len (new ++ drop (length new) old) ≡ new
written len new old is =
    let le : len ≤ length new = omega (arith, is) in
    let all : length new ≤ len = omega (arith, is) in
    take-append-le len new (drop (length new) old) le ∙ take_all len new all

-- the same with marks that are borrowed and written back
pub one_written : (all old new : List Line) (line : Line) (number next len : ℕ) (marked lent after : List Bool) (made made' : List Line) → Renews all old number marked made → old ≡ new ++ line ∷ [] → number ≡ next + numbers_of (clause_of line) → lent ≡ marked → len ≡ length lent → length after ≡ length lent → ((later : List Line) → Marks lent later → Marks after (line ∷ later)) → ((later : List Line) → Marks lent later → made' ≡ made ++ reverse (undeleting line ++ deletions number line later (clause_of line))) → Renews all new next (take len (after ++ drop (length after) marked)) made'
one_written all old new line number next len marked lent after made made' r split at is len_is long marks put =
    let known : Marks lent r.later = subst (λ marked. Marks marked r.later) (sym is) r.marks in
    subst (λ marked. Renews all new next marked made') (sym (written len after marked (len_is ∙ sym long)))
    (one_taken all old new line number next marked after made made' r split at (long ∙ ap length is) (marks r.later known) (put r.later known))

-- ---- what a line needs

pub number_below : (all old : List Line) (number : ℕ) (marked : List Bool) (made : List Line) → Renews all old number marked made → number < length marked
number_below all old number marked made r =
    let most = ap clause_count r.whole ∙ count_append old r.later in
    omega (arith, r.counted, r.long, most)

all_later : (P : Line → Type 0) (new later : List Line) (line : Line) → All P (new ++ line ∷ later) → P line
all_later P [] later line all = All-head P line later all
all_later P (x ∷ new) later line all = all_later P new later line (All-tail P x (new ++ line ∷ later) all)

pub hints_below : (all old new : List Line) (line : Line) (number : ℕ) (marked : List Bool) (made : List Line) → Renews all old number marked made → IsNumbered all → old ≡ new ++ line ∷ [] → All (λ id. id < length marked) (hints_of line)
hints_below all old new line number marked made r numbered split =
    let whole : all ≡ new ++ line ∷ r.later = r.whole ∙ ap (λ left. left ++ r.later) split ∙ append_assoc new (line ∷ []) r.later in
    let named = all_later (λ line. All (λ id. id ≤ clause_count all) (hints_of line)) new r.later line (subst (All (λ line. All (λ id. id ≤ clause_count all) (hints_of line))) whole numbered.named) in
    All-weaker (λ id. id ≤ clause_count all) (λ id. id < length marked) (λ id le. omega (arith, le, r.long)) (hints_of line) named

pub one_at_least : (all old new : List Line) (line : Line) (number : ℕ) (marked : List Bool) (made : List Line) → Renews all old number marked made → old ≡ new ++ line ∷ [] → number ≡ clause_count new + numbers_of (clause_of line)
one_at_least all old new line number marked made r split = r.counted ∙ ap clause_count split ∙ count_append new (line ∷ [])
