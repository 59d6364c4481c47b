-- The lines of the ships' values, where one is bad and where none is.
use Rattle.std.proofs.Common.{◌≡◌, ◌≢◌, ℕ, zero, suc, ◌+◌, ◌*◌, ◌<◌, ◌≤◌, Bool, true, false, List, [], ◌∷◌, ◌++◌, map, length, Option, Some, None, Result, Ok, Err, All, refl, sym, ap, ◌∙◌, subst, arith, codes, unwrap_or}
use Rattle.std.proofs.lemmas.List.Elements.{All-nil, All-cons}
use Rattle.hw_lemmas.specs.Operators.{◌>>=◌}
use Rattle.hw_model.specs.declared.rule.Rule.{Rule}
use Rattle.hw_model.specs.declared.rule.Rule.TheVariants.{Tugs}
use Rattle.hw_flat.specs.declared.fault.FlatWord.TheVariants as words
use Rattle.hw_flat.specs.Text.{Fault, row_at, rows_at}
use Rattle.hw_flat.specs.TextForms.{row_form}
use Rattle.hw_flat.specs.TextWritten.{row_text, rule_text, rows_in}
use Rattle.hw_flat.proofs.TextRows.{width, last_in, RowsFit, rows_read}
use Rattle.hw_flat.proofs.TextBack.{rows_back}
use Rattle.hw_flat_laws.specs.FirstLines.{later_line}
use Rattle.hw_flat_laws.proofs.Same.{Parts, Full, full_after, full_is, has}
use Rattle.hw_flat_laws.proofs.Refusals.{Refused, followed, past_line_form, refused_line, refused_short}

abbrev pub Row : Type 0
Row = List (Option ℕ)

pub is_err : {A : Type 0} (r : Result A Fault) (e d : Fault) → r ≡ Err e → r ≡ Err d → e ≡ d
is_err r e d h k = cc

pub not_both : {A : Type 0} (r : Result A Fault) (x : A) (e : Fault) → r ≡ Ok x → r ≡ Err e → ⊥
not_both r x e h k = cc

-- a step that can't fail didn't
pub before_done : {A B : Type 0} (r : Result A Fault) (f : A → B) (e : Fault) → (r >>= λ x. Ok (f x)) ≡ Err e → r ≡ Err e
before_done (Ok x) f e h = absurd cc
before_done (Err d) f e h = cc

-- ---- ships without a value

nones : ℕ → Row
nones zero = []
nones (suc n) = None ∷ nones n

nones_count : (n : ℕ) → length (nones n) ≡ n
unfolding nones
nones_count zero = refl
nones_count (suc n) = ap suc (nones_count n)

nones_small : (n : ℕ) → All (λ v. unwrap_or v 0 ≤ 1_000_000_000_000) (nones n)
unfolding nones
nones_small zero = All-nil (λ v. unwrap_or v 0 ≤ 1_000_000_000_000)
nones_small (suc n) = All-cons (λ v. unwrap_or v 0 ≤ 1_000_000_000_000) None (nones n) (omega arith) (nones_small n)

nones_nothing : (n i : ℕ) → last_in (nones n) i ≡ 0
unfolding nones
nones_nothing zero i = refl
nones_nothing (suc n) zero = refl
nones_nothing (suc n) (suc i) = nones_nothing n i

-- the least that may follow the ships' lines: `end`, and before it a rule that needs hours where fleets have them
abbrev pub hour_rule : Rule
hour_rule = Tugs 1_001 [] (record { ship = 0; tugs = 1; hold = 1 } ∷ [])

abbrev pub hour_rules : Bool → List Rule
hour_rules false = []
hour_rules true = hour_rule ∷ []

abbrev pub ending : List Rule → Parts
ending rules = map rule_text rules ++ codes "end" ∷ [] ∷ []

pub full_ending : (rules : List Rule) → Full (ending rules)
full_ending rules = full_after (map rule_text rules) (codes "end" ∷ [] ∷ []) (codes "end", [] ∷ [], refl)

abbrev pub Ended : Bool → Row × Parts → Type 0
Ended hours x = x.1 ≡ ending (hour_rules hours)

-- lines that read
pub record Filled (stay hours : Bool) (slots number ships : ℕ) : Type 0 where
  pub first : List ℕ
  pub more : Parts
  pub value : Row × Parts
  pub ended : Ended hours value
  pub reads : rows_at stay slots number ships (first ∷ more) ≡ Ok value

pub filled : (stay hours : Bool) (slots number ships : ℕ) → Filled stay hours slots number ships
filled stay hours slots number ships =
    let last : Parts = ending (hour_rules hours) in
    let last_full : Full last = full_ending (hour_rules hours) in
    let values : Row = nones (ships * width stay slots) in
    let fits : RowsFit stay slots ships values = record { size = nones_count (ships * width stay slots); small = nones_small (ships * width stay slots); last = λ ship lt t. nones_nothing (ships * width stay slots) (ship * width stay slots + slots) } in
    let lines : Parts = map (row_text slots) (rows_in ships (width stay slots) values) in
    let full : Full (lines ++ last) = full_after lines last last_full in
    record {
      first = full.0;
      more = full.1;
      value = (values, last);
      ended = refl;
      reads = ap (rows_at stay slots number ships) (sym full.2) ∙ rows_back stay slots number ships values last last_full fits;
    }

-- ---- one of the lines is bad

pub record ShipsRefused (stay hours : Bool) (slots number ships : ℕ) (parts : Parts) (e : Fault) : Type 0 where
  pub count : ℕ
  pub place : e.number ≡ number + count
  pub word : e.word ≡ words.Values
  pub below : count < ships
  pub wrong : has (row_form stay slots) (later_line count parts) ≡ None
  pub refused : Refused (Ended hours) (rows_at stay slots number ships) parts e count

pub ships_refused : (stay hours : Bool) (slots number ships : ℕ) (parts : Parts) (e : Fault) → 1 ≤ length parts → rows_at stay slots number ships parts ≡ Err e → ShipsRefused stay hours slots number ships parts e
unfolding rows_at row_at
ships_refused stay hours slots number zero parts e some h = absurd (not_both (rows_at stay slots number zero parts) ([], parts) e refl h)
ships_refused stay hours slots number (suc ships) [] e some h = absurd (omega (arith, some))
ships_refused stay hours slots number (suc ships) (line ∷ []) e some h =
    let f = filled stay hours slots number (suc ships) in
    let d : Fault = record { number = number; word = words.Values } in
    subst (ShipsRefused stay hours slots number (suc ships) (line ∷ [])) (is_err (rows_at stay slots number (suc ships) (line ∷ [])) d e refl h)
    (record { count = 0; place = omega arith; word = refl; below = omega arith; wrong = refl; refused = refused_short (Ended hours) (rows_at stay slots number (suc ships)) line d f.first f.more f.value f.ended f.reads (λ y. refl) })
ships_refused stay hours slots number (suc ships) (line ∷ next ∷ parts) e some h =
    elim (row_form stay slots line) as (λ o. row_form stay slots line ≡ o → ShipsRefused stay hours slots number (suc ships) (line ∷ next ∷ parts) e) [
      | None ↦ λ form.
          let f = filled stay hours slots number (suc ships) in
          let d : Fault = record { number = number; word = words.Values } in
          let bad : (y : List ℕ) (ys : Parts) → rows_at stay slots number (suc ships) (line ∷ y ∷ ys) ≡ Err d = λ y ys. rw form refl in
          subst (ShipsRefused stay hours slots number (suc ships) (line ∷ next ∷ parts)) (is_err (rows_at stay slots number (suc ships) (line ∷ next ∷ parts)) d e (bad next parts) h)
          (record { count = 0; place = omega arith; word = refl; below = omega arith; wrong = form; refused = refused_line (Ended hours) (rows_at stay slots number (suc ships)) line next parts d f.first f.more f.value f.ended f.reads bad })
      | Some row ↦ λ form.
          let step : (others : Parts) → Full others → rows_at stay slots number (suc ships) (line ∷ others) ≡ (rows_at stay slots (number + 1) ships others >>= λ more. Ok (row ++ more.0, more.1)) = λ others full. rw (full.2, form) refl in
          let later : rows_at stay slots (number + 1) ships (next ∷ parts) ≡ Err e = before_done (rows_at stay slots (number + 1) ships (next ∷ parts)) (λ more. (row ++ more.0, more.1)) e (sym (step (next ∷ parts) (next, parts, refl)) ∙ h) in
          let r = ships_refused stay hours slots (number + 1) ships (next ∷ parts) e (omega arith) later in
          record {
            count = suc r.count;
            place = omega (arith, r.place);
            word = r.word;
            below = omega (arith, r.below);
            wrong = r.wrong;
            refused = past_line_form (Ended hours) (λ others. rows_at stay slots (number + 1) ships others >>= λ more. Ok (row ++ more.0, more.1)) (rows_at stay slots number (suc ships)) line (next ∷ parts) e r.count step
                (followed (Ended hours) (Ended hours) (rows_at stay slots (number + 1) ships) (λ more. Ok (row ++ more.0, more.1)) (next ∷ parts) e r.count (λ value done. ((row ++ value.0, value.1), done, refl)) r.refused);
          }
    ] refl

-- ---- none of them is

-- the lines that were read; with another rest after them they are read too
pub record ShipsRead (stay : Bool) (slots number ships : ℕ) (parts : Parts) (x : Row × Parts) : Type 0 where
  pub front : Parts
  pub lines : parts ≡ front ++ x.1
  pub each : length front ≡ ships
  pub reads : (others : Parts) → Full others → rows_at stay slots number ships (front ++ others) ≡ Ok (x.0, others)

rows_count : (ships slots width : ℕ) (values : Row) → length (map (row_text slots) (rows_in ships width values)) ≡ ships
rows_count zero slots width values = refl
rows_count (suc ships) slots width values = ap suc (rows_count ships slots width _)

pub ships_read : (stay : Bool) (slots number ships : ℕ) (parts : Parts) (x : Row × Parts) → rows_at stay slots number ships parts ≡ Ok x → ShipsRead stay slots number ships parts x
ships_read stay slots number ships parts x h =
    let r = rows_read stay slots number ships parts x h in
    record {
      front = map (row_text slots) (rows_in ships (width stay slots) x.0);
      lines = r.0;
      each = rows_count ships slots (width stay slots) x.0;
      reads = λ others full. rows_back stay slots number ships x.0 others full r.1;
    }

pub last_step : (r : Result (Row × Parts) Fault) (row : Row) (x : Row × Parts) → (r >>= λ more. Ok (row ++ more.0, more.1)) ≡ Ok x → (y : Row × Parts) × (r ≡ Ok y) × (y.1 ≡ x.1)
last_step (Err d) row x k = absurd cc
last_step (Ok y) row x k = let e : (row ++ y.0, y.1) ≡ x = cc in (y, refl, ap (λ z. z.1) e)

-- something is left after them
pub ships_leave : (stay : Bool) (slots number ships : ℕ) (parts : Parts) (x : Row × Parts) → Full parts → rows_at stay slots number ships parts ≡ Ok x → Full x.1
unfolding rows_at row_at
ships_leave stay slots number zero parts x full h = let e : ([], parts) ≡ x = cc in subst (λ (y : Row × Parts). Full y.1) e full
ships_leave stay slots number (suc ships) [] x full h = absurd cc
ships_leave stay slots number (suc ships) (line ∷ []) x full h = absurd cc
ships_leave stay slots number (suc ships) (line ∷ next ∷ parts) x full h =
    elim (row_form stay slots line) as (λ o. row_form stay slots line ≡ o → Full x.1) [
      | None ↦ λ form.
          let bad : rows_at stay slots number (suc ships) (line ∷ next ∷ parts) ≡ Err (record { number = number; word = words.Values }) = rw form refl in
          absurd (not_both (rows_at stay slots number (suc ships) (line ∷ next ∷ parts)) x _ h bad)
      | Some row ↦ λ form.
          let step : rows_at stay slots number (suc ships) (line ∷ next ∷ parts) ≡ (rows_at stay slots (number + 1) ships (next ∷ parts) >>= λ more. Ok (row ++ more.0, more.1)) = rw form refl in
          let r = last_step (rows_at stay slots (number + 1) ships (next ∷ parts)) row x (sym step ∙ h) in
          let left = ships_leave stay slots (number + 1) ships (next ∷ parts) r.0 (next, parts, refl) r.1 in
          full_is r.0.1 x.1 r.2 left
    ] refl

-- the last of them is not `end`
pub last_ship : (stay : Bool) (slots number ships : ℕ) (parts : Parts) (x : Row × Parts) → rows_at stay slots number (suc ships) parts ≡ Ok x → later_line ships parts ≢ Some (codes "end")
unfolding rows_at row_at
last_ship stay slots number ships [] x h = absurd cc
last_ship stay slots number ships (line ∷ []) x h = absurd cc
last_ship stay slots number ships (line ∷ next ∷ parts) x h =
    elim (row_form stay slots line) as (λ o. row_form stay slots line ≡ o → later_line ships (line ∷ next ∷ parts) ≢ Some (codes "end")) [
      | None ↦ λ form.
          let bad : rows_at stay slots number (suc ships) (line ∷ next ∷ parts) ≡ Err (record { number = number; word = words.Values }) = rw form refl in
          absurd (not_both (rows_at stay slots number (suc ships) (line ∷ next ∷ parts)) x _ h bad)
      | Some row ↦ λ form.
          elim ships as (λ n. ships ≡ n → later_line n (line ∷ next ∷ parts) ≢ Some (codes "end")) [
            | zero ↦ λ none s.
                let same : line ≡ codes "end" = cc in
                let ends : row_form stay slots line ≡ None = ap (row_form stay slots) same in
                cc
            | suc more ↦ λ some.
                let step : rows_at stay slots number (suc ships) (line ∷ next ∷ parts) ≡ (rows_at stay slots (number + 1) (suc more) (next ∷ parts) >>= λ y. Ok (row ++ y.0, y.1)) = rw (form, some) refl in
                let r = last_step (rows_at stay slots (number + 1) (suc more) (next ∷ parts)) row x (sym step ∙ h) in
                last_ship stay slots (number + 1) more (next ∷ parts) r.0 r.1
          ] refl
    ] refl

-- each of them has its form
pub each_ship : (stay : Bool) (slots number ships : ℕ) (parts : Parts) (x : Row × Parts) → rows_at stay slots number ships parts ≡ Ok x → (i : ℕ) → i < ships → has (row_form stay slots) (later_line i parts) ≢ None
unfolding rows_at row_at
each_ship stay slots number zero parts x h i lt = absurd (omega (arith, lt))
each_ship stay slots number (suc ships) [] x h i lt = absurd cc
each_ship stay slots number (suc ships) (line ∷ []) x h i lt = absurd cc
each_ship stay slots number (suc ships) (line ∷ next ∷ parts) x h i lt =
    elim (row_form stay slots line) as (λ o. row_form stay slots line ≡ o → has (row_form stay slots) (later_line i (line ∷ next ∷ parts)) ≢ None) [
      | None ↦ λ form.
          let bad : rows_at stay slots number (suc ships) (line ∷ next ∷ parts) ≡ Err (record { number = number; word = words.Values }) = rw form refl in
          absurd (not_both (rows_at stay slots number (suc ships) (line ∷ next ∷ parts)) x _ h bad)
      | Some row ↦ λ form.
          let step : rows_at stay slots number (suc ships) (line ∷ next ∷ parts) ≡ (rows_at stay slots (number + 1) ships (next ∷ parts) >>= λ y. Ok (row ++ y.0, y.1)) = rw form refl in
          let r = last_step (rows_at stay slots (number + 1) ships (next ∷ parts)) row x (sym step ∙ h) in
          elim i as (λ n. n < suc ships → has (row_form stay slots) (later_line n (line ∷ next ∷ parts)) ≢ None) [
            | zero ↦ λ _ s. cc
            | suc j ↦ λ k. each_ship stay slots (number + 1) ships (next ∷ parts) r.0 r.1 j (omega (arith, k))
          ] lt
    ] refl
