-- What the lines of a text are where it has its form: the lines of its problem, which keeps the limits.
use Rattle.std.proofs.Common.{IsTrue, ◌≡◌, ℕ, zero, suc, ◌+◌, ◌*◌, ◌-◌, ◌<◌, ◌≤◌, Bool, true, false, cond, List, [], ◌∷◌, ◌++◌, map, length, take, drop, Option, Some, None, option_map, Result, Ok, Err, refl, sym, ap, ◌∙◌, subst, arith, codes, decimal, bytes_eq, slice_get, unwrap_or, option_and_then, All, append_assoc}
use Rattle.std.proofs.Math.Path.{ap₂}
use Rattle.std.proofs.lemmas.List.{take_at, drop_at, length-append}
use Rattle.std.proofs.lemmas.List.Elements.{All-nil, All-cons, All-append}
use Rattle.hw_lemmas.specs.Operators.{◌>>=◌}
use Rattle.hw_model.specs.declared.rule.Rule.{Rule}
use Rattle.hw_model.specs.Limits.{StepsSail, IsFlat}
use Rattle.hw_model.specs.Problem.{Problem, horizon}
use Rattle.hw_text.specs.Numbers.{number_up_to, number_from_to}
use Rattle.hw_text.specs.Parts.{first_part, words_of, at_end}
use Rattle.hw_text.proofs.Spelled.{is_spelled}
use Rattle.hw_text.proofs.Signs.{from_to_is}
use Rattle.hw_flat.specs.declared.fault.FlatWord.{FlatWord}
use Rattle.hw_flat.specs.declared.fault.FlatWord.TheVariants as words
use Rattle.hw_flat.specs.Text.{Fault, fault, formed, line_at, row_at, rows_at, rule_before, rules_at, hours_needed, problem_of, finished, problem_of_lines}
use Rattle.hw_flat.specs.TextForms.{header_form, both, size_words, size_form, value_word, stay_word, last_values, row_values, row_words, row_form, rule_form, any_hours}
use Rattle.hw_flat.specs.TextWritten.{header_text, size_text, value_text, stay_text, row_texts, row_text, rule_text, rows_in, problem_lines, IsWritable}
use Rattle.hw_flat.proofs.HourRules.{RuleIn, hours_are}
use Rattle.hw_flat.proofs.TextWords.{bound, first_read, same_text, rejoined, rule_read}

abbrev Row : Type 0
Row = List (Option ℕ)

-- the length of a row
abbrev pub width : Bool → ℕ → ℕ
width stay slots = cond stay (slots + 1) slots

abbrev Small : Option ℕ → Type 0
Small v = unwrap_or v 0 ≤ 1_000_000_000_000

abbrev pub last_in : Row → ℕ → ℕ
last_in row slot = unwrap_or (option_and_then (λ v. v) (slice_get row slot)) 0

-- the limits of a row: as many values as its slots ask, small ones, and none or 0 in the last slot
pub record RowFits (stay : Bool) (slots : ℕ) (row : List (Option ℕ)) : Type 0 where
  pub size : length row ≡ width stay slots
  pub small : All (λ v. unwrap_or v 0 ≤ 1_000_000_000_000) row
  pub last : last_in row slots ≡ 0

value_read : (word : List ℕ) (value : Option ℕ) → value_word word ≡ Some value → (word ≡ value_text value) × (unwrap_or value 0 ≤ 1_000_000_000_000)
value_read word value h =
    elim (bytes_eq word (codes "-")) as (λ b. bytes_eq word (codes "-") ≡ b → cond b (Some None) (option_map (λ n. Some n) (number_up_to 1_000_000_000_000 word)) ≡ Some value → (word ≡ value_text value) × (unwrap_or value 0 ≤ 1_000_000_000_000)) [
      | true ↦ λ e k. none value (is_some _ value k) (same_text _ _ e)
      | false ↦ λ e k. number _ value refl k
    ] refl h
  where
    is_some : (x y : Option ℕ) → Some x ≡ Some y → x ≡ y
    is_some x y k = cc

    none : (v : Option ℕ) → None ≡ v → word ≡ codes "-" → (word ≡ value_text v) × (unwrap_or v 0 ≤ 1_000_000_000_000)
    none None k e = (e, omega arith)
    none (Some x) k e = absurd cc

    number : (o : Option ℕ) (v : Option ℕ) → number_up_to 1_000_000_000_000 word ≡ o → option_map (λ n. Some n) o ≡ Some v → (word ≡ value_text v) × (unwrap_or v 0 ≤ 1_000_000_000_000)
    number None v e k = absurd cc
    number (Some x) None e k = absurd cc
    number (Some x) (Some y) e k =
        let s = is_spelled 1_000_000_000_000 word x (omega arith) e in
        let same : x ≡ y = cc in
        (s.0 ∙ ap decimal same, omega (arith, s.1, same))

stay_read : (word : List ℕ) (value : Option ℕ) → stay_word word ≡ Some value → (word ≡ stay_text value) × (unwrap_or value 0 ≡ 0)
stay_read word value h =
    elim (bytes_eq word (codes "y")) as (λ b. bytes_eq word (codes "y") ≡ b → cond b (Some (Some 0)) (cond (bytes_eq word (codes "n")) (Some None) None) ≡ Some value → (word ≡ stay_text value) × (unwrap_or value 0 ≡ 0)) [
      | true ↦ λ e k. some value (is_some _ value k) (same_text _ _ e)
      | false ↦ λ _ j.
          elim (bytes_eq word (codes "n")) as (λ b. bytes_eq word (codes "n") ≡ b → cond b (Some None) None ≡ Some value → (word ≡ stay_text value) × (unwrap_or value 0 ≡ 0)) [
            | true ↦ λ e k. none value (is_some _ value k) (same_text _ _ e)
            | false ↦ λ e k. absurd cc
          ] refl j
    ] refl h
  where
    is_some : (x y : Option ℕ) → Some x ≡ Some y → x ≡ y
    is_some x y k = cc

    some : (v : Option ℕ) → Some 0 ≡ v → word ≡ codes "y" → (word ≡ stay_text v) × (unwrap_or v 0 ≡ 0)
    some None k e = absurd cc
    some (Some x) k e = let z : 0 ≡ x = cc in (e, sym z)

    none : (v : Option ℕ) → None ≡ v → word ≡ codes "n" → (word ≡ stay_text v) × (unwrap_or v 0 ≡ 0)
    none None k e = (e, refl)
    none (Some x) k e = absurd cc

abbrev RowRead : Bool → ℕ → List (List ℕ) → Row → Type 0
RowRead stay slots words row = (words ≡ row_texts slots row) × RowFits stay slots row

last_read : (stay : Bool) (words : List (List ℕ)) (row : Row) → last_values stay words ≡ Some row → RowRead stay 0 words row
last_read false [] [] h = (refl, record { size = refl; small = All-nil Small; last = refl })
last_read false [] (v ∷ row) h = absurd cc
last_read false (word ∷ words) row h = absurd cc
last_read true [] row h = absurd cc
last_read true (word ∷ next ∷ words) row h = absurd cc
last_read true (word ∷ []) row h = by_word (stay_word word) row refl h
  where
    by_word : (o : Option (Option ℕ)) (r : Row) → stay_word word ≡ o → option_map (λ v. v ∷ []) o ≡ Some r → RowRead true 0 (word ∷ []) r
    by_word None r e k = absurd cc
    by_word (Some v) [] e k = absurd cc
    by_word (Some v) (x ∷ y ∷ r) e k = absurd cc
    by_word (Some v) (x ∷ []) e k =
        let same : v ≡ x = cc in
        let s = stay_read word x (e ∙ ap Some same) in
        (ap (λ w. w ∷ []) s.0, record { size = refl; small = All-cons Small x [] (omega (arith, s.1)) (All-nil Small); last = s.1 })

values_read : (stay : Bool) (slots : ℕ) (words : List (List ℕ)) (row : Row) → row_values stay slots words ≡ Some row → RowRead stay slots words row
values_read stay zero words row h = last_read stay words row h
values_read stay (suc slots) [] row h = absurd cc
values_read stay (suc slots) (word ∷ words) row h =
    let f = first_read (value_word word) (row_values stay slots words) row h in
    let v = value_read word f.0 f.2 in
    let r = values_read stay slots words f.1 f.3 in
    subst (RowRead stay (suc slots) (word ∷ words)) f.4
    (ap₂ ◌∷◌ v.0 r.0, record { size = ap suc r.1.size ∙ wider stay; small = All-cons Small f.0 f.1 v.1 r.1.small; last = r.1.last })
  where
    wider : (b : Bool) → suc (width b slots) ≡ width b (suc slots)
    wider true = omega arith
    wider false = refl

-- a line that is a row is its one text
row_read : (stay : Bool) (slots : ℕ) (line : List ℕ) (row : Row) → row_form stay slots line ≡ Some row → (line ≡ row_text slots row) × RowFits stay slots row
row_read stay slots line row h = let r = by_words (words_of line) h in (rejoined 32 line _ r.0, r.1)
  where
    by_words : (ws : List (List ℕ)) → row_words stay slots ws ≡ Some row → (ws ≡ codes "v" ∷ row_texts slots row) × RowFits stay slots row
    by_words [] h = absurd cc
    by_words (key ∷ ws) h =
        elim (bytes_eq key (codes "v")) as (λ b. bytes_eq key (codes "v") ≡ b → cond b (row_values stay slots ws) None ≡ Some row → (key ∷ ws ≡ codes "v" ∷ row_texts slots row) × RowFits stay slots row) [
          | true ↦ λ e k. let r = values_read stay slots ws row k in (ap₂ ◌∷◌ (same_text _ _ e) r.0, r.1)
          | false ↦ λ e k. absurd cc
        ] refl h

-- ---- steps of the lines

pub step : {A B : Type 0} (r : Result A Fault) (f : A → Result B Fault) (y : B) → (r >>= f) ≡ Ok y → (x : A) × (r ≡ Ok x) × (f x ≡ Ok y)
step (Err e) f y h = absurd cc
step (Ok x) f y h = (x, refl, h)

is_formed : {A : Type 0} (number : ℕ) (word : FlatWord) (o : Option A) (x : A) → formed number word o ≡ Ok x → o ≡ Some x
is_formed number word None x h = absurd cc
is_formed number word (Some y) x h = cc

abbrev ok : {A : Type 0} → A → Result A Fault
ok x = Ok x

is_ok : {A : Type 0} (x y : A) → ok x ≡ ok y → x ≡ y
is_ok x y h = cc

is_line : (number : ℕ) (word : FlatWord) (parts : List (List ℕ)) (x : List ℕ × List (List ℕ)) → line_at number word parts ≡ Ok x → parts ≡ x.0 ∷ x.1
is_line number word parts x h = by_parts parts (is_formed number word (first_part parts) x h)
  where
    by_parts : (ps : List (List ℕ)) → first_part ps ≡ Some x → ps ≡ x.0 ∷ x.1
    by_parts [] h = absurd cc
    by_parts (p ∷ []) h = absurd cc
    by_parts (p ∷ q ∷ ps) h = let e : (p, q ∷ ps) ≡ x = cc in ap (λ y. y.0 ∷ y.1) e

not_fault : {A : Type 0} (e : Fault) (x : A) → Err e ≡ ok x → ⊥
not_fault e x h = absurd cc

-- ---- rows

-- the limits of the rows of values
pub record RowsFit (stay : Bool) (slots ships : ℕ) (values : List (Option ℕ)) : Type 0 where
  pub size : length values ≡ ships * width stay slots
  pub small : All (λ v. unwrap_or v 0 ≤ 1_000_000_000_000) values
  pub last : (ship : ℕ) → ship < ships → IsTrue stay → last_in values (ship * width stay slots + slots) ≡ 0

abbrev RowsRead : Bool → ℕ → ℕ → List (List ℕ) → Row × List (List ℕ) → Type 0
RowsRead stay slots ships parts x = (parts ≡ map (row_text slots) (rows_in ships (width stay slots) x.0) ++ x.1) × RowsFit stay slots ships x.0

get_left : (xs ys : Row) (i : ℕ) → i < length xs → slice_get (xs ++ ys) i ≡ slice_get xs i
get_left [] ys i lt = absurd (omega (arith, lt))
get_left (x ∷ xs) ys zero lt = refl
get_left (x ∷ xs) ys (suc i) lt = get_left xs ys i (omega (arith, lt))

get_right : (xs ys : Row) (i : ℕ) → slice_get (xs ++ ys) (length xs + i) ≡ slice_get ys i
get_right [] ys i = let n : 0 + i ≡ i = omega arith in ap (slice_get ys) n
get_right (x ∷ xs) ys i = let n : suc (length xs) + i ≡ suc (length xs + i) = omega arith in ap (slice_get (x ∷ xs ++ ys)) n ∙ get_right xs ys i

rows_fit : (stay : Bool) (slots ships : ℕ) (row more : Row) → RowFits stay slots row → RowsFit stay slots ships more → RowsFit stay slots (suc ships) (row ++ more)
rows_fit stay slots ships row more r m = record {
  size = omega (arith, length-append row more, r.size, m.size);
  small = All-append Small row more r.small m.small;
  last = last_at;
}
  where
    at : Row → ℕ → ℕ
    at xs i = last_in xs i

    wide : IsTrue stay → slots < width stay slots
    wide t = elim stay as (λ b. IsTrue b → slots < width b slots) [ true ↦ λ u. omega arith | false ↦ λ u. absurd cc ] t

    last_at : (ship : ℕ) → ship < suc ships → IsTrue stay → last_in (row ++ more) (ship * width stay slots + slots) ≡ 0
    last_at zero lt t =
        let n : 0 * width stay slots + slots ≡ slots = omega arith in
        let within : slots < length row = let w = wide t in omega (arith, w, r.size) in
        ap (last_in (row ++ more)) n ∙ ap (λ o. unwrap_or (option_and_then (λ v. v) o) 0) (get_left row more slots within) ∙ r.last
    last_at (suc ship) lt t =
        let n : suc ship * width stay slots + slots ≡ length row + (ship * width stay slots + slots) = omega (arith, r.size) in
        ap (last_in (row ++ more)) n ∙ ap (λ o. unwrap_or (option_and_then (λ v. v) o) 0) (get_right row more (ship * width stay slots + slots)) ∙ m.last ship (omega (arith, lt)) t

pub rows_read : (stay : Bool) (slots number ships : ℕ) (parts : List (List ℕ)) (x : Row × List (List ℕ)) → rows_at stay slots number ships parts ≡ Ok x → RowsRead stay slots ships parts x
unfolding rows_at row_at
rows_read stay slots number zero parts x h =
    subst (RowsRead stay slots 0 parts) (is_ok ([], parts) x h) (refl, record { size = omega arith; small = All-nil Small; last = λ ship lt t. absurd (omega (arith, lt)) })
rows_read stay slots number (suc ships) parts x h =
    let a = step (row_at stay slots number parts) _ x h in
    let l = step (line_at number words.Values parts) _ a.0 a.1 in
    let line : parts ≡ l.0.0 ∷ l.0.1 = is_line number words.Values parts l.0 l.1 in
    let f = step (formed number words.Values (row_form stay slots l.0.0)) _ a.0 l.2 in
    let row = row_read stay slots l.0.0 f.0 (is_formed number words.Values (row_form stay slots l.0.0) f.0 f.1) in
    let got : (f.0, l.0.1) ≡ a.0 = is_ok (f.0, l.0.1) a.0 f.2 in
    let b = step (rows_at stay slots (number + 1) ships a.0.1) _ x a.2 in
    let more = rows_read stay slots (number + 1) ships a.0.1 b.0 b.1 in
    let is_row : f.0 ≡ a.0.0 = ap (λ y. y.0) got in
    let is_rest : l.0.1 ≡ a.0.1 = ap (λ y. y.1) got in
    let fits : RowFits stay slots a.0.0 = subst (RowFits stay slots) is_row row.1 in
    let text : parts ≡ row_text slots a.0.0 ∷ (map (row_text slots) (rows_in ships (width stay slots) b.0.0) ++ b.0.1) =
    line ∙ ap₂ ◌∷◌ (row.0 ∙ ap (row_text slots) is_row) (is_rest ∙ more.0) in
    let first : take (width stay slots) (a.0.0 ++ b.0.0) ≡ a.0.0 = take_at a.0.0 b.0.0 (width stay slots) fits.size in
    let others : drop (width stay slots) (a.0.0 ++ b.0.0) ≡ b.0.0 = drop_at a.0.0 b.0.0 (width stay slots) fits.size in
    let rows : row_text slots a.0.0 ∷ (map (row_text slots) (rows_in ships (width stay slots) b.0.0) ++ b.0.1) ≡ map (row_text slots) (rows_in (suc ships) (width stay slots) (a.0.0 ++ b.0.0)) ++ b.0.1 =
    ap₂ ◌∷◌ (ap (row_text slots) (sym first)) (ap (λ (vs : Row). map (row_text slots) (rows_in ships (width stay slots) vs) ++ b.0.1) (sym others)) in
    subst (RowsRead stay slots (suc ships) parts) (is_ok (a.0.0 ++ b.0.0, b.0.1) x b.2) (text ∙ rows, rows_fit stay slots ships a.0.0 b.0.0 fits more.1)

-- ---- rules

before_read : (number room : ℕ) (o : Option Rule) (read : Result (List Rule × List (List ℕ)) Fault) (x : List Rule × List (List ℕ)) → rule_before number room o read ≡ Ok x
    → (rule : Rule) × (1 ≤ room) × (o ≡ Some rule) × ((read >>= λ y. Ok (rule ∷ y.0, y.1)) ≡ Ok x)
before_read number room None read x h = absurd cc
before_read number zero (Some rule) read x h = absurd cc
before_read number (suc room) (Some rule) read x h = (rule, omega arith, refl, h)

abbrev RulesRead : Bool → ℕ → ℕ → ℕ → List (List ℕ) → List Rule × List (List ℕ) → Type 0
RulesRead hours ships slots room parts x = (parts ≡ map rule_text x.0 ++ codes "end" ∷ x.1) × All (RuleIn hours ships slots) x.0 × (length x.0 ≤ room)

pub rules_read : (hours : Bool) (ships slots number room : ℕ) (parts : List (List ℕ)) (x : List Rule × List (List ℕ)) → ships ≤ 40 → slots ≤ 512 → rules_at (rule_form hours ships slots) number room parts ≡ Ok x → RulesRead hours ships slots room parts x
unfolding rules_at
rules_read hours ships slots number room [] x few few' h = absurd cc
rules_read hours ships slots number room (line ∷ []) x few few' h = absurd cc
rules_read hours ships slots number room (line ∷ next ∷ parts) x few few' h =
    let form : List ℕ → Option Rule = rule_form hours ships slots in
    let Fits : Rule → Type 0 = RuleIn hours ships slots in
    elim (bytes_eq line (codes "end")) as (λ b. bytes_eq line (codes "end") ≡ b → cond b (Ok ([], next ∷ parts)) (rule_before number room (form line) (rules_at form (number + 1) (room - 1) (next ∷ parts))) ≡ Ok x → RulesRead hours ships slots room (line ∷ next ∷ parts) x) [
      | true ↦ λ e k. subst (RulesRead hours ships slots room (line ∷ next ∷ parts)) (is_ok ([], next ∷ parts) x k) (ap (λ l. l ∷ next ∷ parts) (same_text _ _ e), All-nil Fits, omega arith)
      | false ↦ λ _ k.
          let b = before_read number room (form line) (rules_at form (number + 1) (room - 1) (next ∷ parts)) x k in
          let r = rule_read hours ships slots line b.0 few few' b.2 in
          let s = step (rules_at form (number + 1) (room - 1) (next ∷ parts)) _ x b.3 in
          let more = rules_read hours ships slots (number + 1) (room - 1) (next ∷ parts) s.0 few few' s.1 in
          let count : length s.0.0 ≤ room - 1 = more.2 in
          subst (RulesRead hours ships slots room (line ∷ next ∷ parts)) (is_ok (b.0 ∷ s.0.0, s.0.1) x s.2) (ap₂ ◌∷◌ r.0 more.0, All-cons Fits b.0 s.0.0 r.1 more.1, omega (arith, count, b.1))
    ] refl h

-- ---- the whole text

header_read : (line : List ℕ) (version : Bool × Bool) → header_form line ≡ Some version → line ≡ header_text version.0 version.1
header_read line version h =
    elim (bytes_eq line (codes "flat 1")) as (λ b. bytes_eq line (codes "flat 1") ≡ b → cond b (Some (false, false)) (cond (bytes_eq line (codes "flat 2")) (Some (true, false)) (cond (bytes_eq line (codes "flat 3")) (Some (false, true)) (cond (bytes_eq line (codes "flat 4")) (Some (true, true)) None))) ≡ Some version → line ≡ header_text version.0 version.1) [
      | true ↦ λ e k. told (false, false) k (same_text _ _ e)
      | false ↦ λ _ j.
          elim (bytes_eq line (codes "flat 2")) as (λ b. bytes_eq line (codes "flat 2") ≡ b → cond b (Some (true, false)) (cond (bytes_eq line (codes "flat 3")) (Some (false, true)) (cond (bytes_eq line (codes "flat 4")) (Some (true, true)) None)) ≡ Some version → line ≡ header_text version.0 version.1) [
            | true ↦ λ e k. told (true, false) k (same_text _ _ e)
            | false ↦ λ _ i.
                elim (bytes_eq line (codes "flat 3")) as (λ b. bytes_eq line (codes "flat 3") ≡ b → cond b (Some (false, true)) (cond (bytes_eq line (codes "flat 4")) (Some (true, true)) None) ≡ Some version → line ≡ header_text version.0 version.1) [
                  | true ↦ λ e k. told (false, true) k (same_text _ _ e)
                  | false ↦ λ _ l.
                      elim (bytes_eq line (codes "flat 4")) as (λ b. bytes_eq line (codes "flat 4") ≡ b → cond b (Some (true, true)) None ≡ Some version → line ≡ header_text version.0 version.1) [
                        | true ↦ λ e k. told (true, true) k (same_text _ _ e)
                        | false ↦ λ e k. absurd cc
                      ] refl l
                ] refl i
          ] refl j
    ] refl h
  where
    is_some : (x y : Bool × Bool) → Some x ≡ Some y → x ≡ y
    is_some x y k = cc

    told : (x : Bool × Bool) → Some x ≡ Some version → line ≡ header_text x.0 x.1 → line ≡ header_text version.0 version.1
    told x k e = e ∙ ap (λ y. header_text y.0 y.1) (is_some x version k)

-- the limits of the numbers of ships and slots
record SizeRead (line : List ℕ) (size : ℕ × ℕ) : Type 0 where
  text : line ≡ size_text size.0 size.1
  some_ship : 1 ≤ size.0
  few_ships : size.0 ≤ 40
  some_slot : 1 ≤ size.1
  few_slots : size.1 ≤ 512

size_read : (line : List ℕ) (size : ℕ × ℕ) → size_form line ≡ Some size → SizeRead line size
size_read line size h = by_words (words_of line) refl h
  where
    is_some : (x y : ℕ × ℕ) → Some x ≡ Some y → x ≡ y
    is_some x y k = cc

    by_words : (ws : List (List ℕ)) → words_of line ≡ ws → size_words ws ≡ Some size → SizeRead line size
    by_words [] w h = absurd cc
    by_words (key ∷ []) w h = absurd cc
    by_words (key ∷ a ∷ []) w h = absurd cc
    by_words (key ∷ a ∷ b ∷ c ∷ ws) w h = absurd cc
    by_words (key ∷ a ∷ b ∷ []) w h =
        elim (bytes_eq key (codes "size")) as (λ t. bytes_eq key (codes "size") ≡ t → cond t (both (number_from_to 1 40 a) (number_from_to 1 512 b)) None ≡ Some size → SizeRead line size) [
          | true ↦ λ e k.
              let m = bound (number_from_to 1 40 a) _ size k in
              let r = from_to_is 1 40 a m.0 (omega arith) m.1 in
              let n = bound (number_from_to 1 512 b) _ size m.2 in
              let s = from_to_is 1 512 b n.0 (omega arith) n.1 in
              let words_are : words_of line ≡ codes "size" ∷ decimal m.0 ∷ decimal n.0 ∷ [] = w ∙ ap₂ ◌∷◌ (same_text _ _ e) (ap₂ ◌∷◌ r.0 (ap₂ ◌∷◌ s.0 refl)) in
              subst (SizeRead line) (is_some (m.0, n.0) size n.2) (record { text = rejoined 32 line _ words_are; some_ship = r.1; few_ships = r.2; some_slot = s.1; few_slots = s.2 })
          | false ↦ λ e k. absurd cc
        ] refl h

-- what a text that reads as a problem is
pub record TextRead (parts : List (List ℕ)) (f : Problem) : Type 0 where
  pub lines : parts ≡ problem_lines f ++ [] ∷ []
  pub limits : IsFlat f
  pub writable : IsWritable f

horizon_is : (stay : Bool) (size : ℕ × ℕ) (values : Row) (rules : List Rule) → horizon (problem_of stay size values rules) ≡ size.1
horizon_is true size values rules = omega arith
horizon_is false size values rules = refl

nothing_left : (parts : List (List ℕ)) → at_end parts ≡ true → parts ≡ [] ∷ []
nothing_left [] h = absurd cc
nothing_left ([] ∷ []) h = refl
nothing_left ([] ∷ p ∷ parts) h = absurd cc
nothing_left ((x ∷ xs) ∷ parts) h = absurd cc

problem_read : (parts : List (List ℕ)) (stay hours : Bool) (size : ℕ × ℕ) (values : Row) (rules : List Rule) (first second : List ℕ) (rest third : List (List ℕ)) → first ≡ header_text stay hours → SizeRead second size
    → parts ≡ first ∷ rest → rest ≡ second ∷ third → third ≡ map (row_text size.1) (rows_in size.0 (width stay size.1) values) ++ (map rule_text rules ++ codes "end" ∷ [] ∷ [])
    → RowsFit stay size.1 size.0 values → All (RuleIn hours size.0 size.1) rules → any_hours rules ≡ hours → length rules ≤ 4_000 → TextRead parts (problem_of stay size values rules)
problem_read parts stay hours size values rules first second rest third header z p q t fits each told few = record {
  lines = p ∙ ap₂ ◌∷◌ (header ∙ ap (header_text stay) (sym told)) (q ∙ ap₂ ◌∷◌ (z.text ∙ ap (size_text size.0) (sym same)) (t ∙ body ∙ ap (λ n. map (row_text n) (rows_in size.0 (width stay size.1) values) ++ map rule_text rules ++ codes "end" ∷ [] ++ [] ∷ []) (sym same)));
  limits = record {
    some_ship = z.some_ship;
    few_ships = z.few_ships;
    some_slot = omega (arith, same, z.some_slot);
    few_slots = omega (arith, same, z.few_slots);
    each_value = fits.size;
    last_value = λ ship lt s. let e = last ship lt s in omega (arith, e);
    small_values = fits.small;
    few_rules = few;
    each_rule = λ k d lt. (each k d lt).fits;
    steps_sail = subst (λ n. All (StepsSail n) rules) (sym same) (λ k d lt. (each k d lt).sails);
  };
  writable = last;
}
  where
    same : horizon (problem_of stay size values rules) ≡ size.1
    same = horizon_is stay size values rules

    last : IsWritable (problem_of stay size values rules)
    last ship lt s = ap (λ n. last_in values (ship * width stay size.1 + n)) same ∙ fits.last ship lt s

    body : map (row_text size.1) (rows_in size.0 (width stay size.1) values) ++ (map rule_text rules ++ codes "end" ∷ [] ∷ []) ≡ map (row_text size.1) (rows_in size.0 (width stay size.1) values) ++ map rule_text rules ++ codes "end" ∷ [] ++ [] ∷ []
    body =
        sym (append_assoc (map (row_text size.1) (rows_in size.0 (width stay size.1) values)) (map rule_text rules) (codes "end" ∷ [] ∷ []))
        ∙ sym (append_assoc (map (row_text size.1) (rows_in size.0 (width stay size.1) values) ++ map rule_text rules) (codes "end" ∷ []) ([] ∷ []))

-- the end of a text that reads: a rule needs the hours that there are, and nothing is left
finished_read : (version : Bool × Bool) (size : ℕ × ℕ) (values : Row) (rules : List Rule) (parts : List (List ℕ)) (f : Problem) → finished version size values rules parts ≡ Ok f → (hours_needed version.1 rules ≡ true) × (at_end parts ≡ true) × (problem_of version.0 size values rules ≡ f)
finished_read version size values rules parts f h =
    elim (hours_needed version.1 rules) as (λ n. hours_needed version.1 rules ≡ n → cond n (cond (at_end parts) (Ok (problem_of version.0 size values rules)) (fault (4 + size.0 + length rules) words.Tail)) (fault (3 + size.0 + length rules) words.Rule) ≡ Ok f
    → (hours_needed version.1 rules ≡ true) × (at_end parts ≡ true) × (problem_of version.0 size values rules ≡ f)) [
      | true ↦ λ needed j.
          elim (at_end parts) as (λ t. at_end parts ≡ t → cond t (Ok (problem_of version.0 size values rules)) (fault (4 + size.0 + length rules) words.Tail) ≡ Ok f → (hours_needed version.1 rules ≡ true) × (at_end parts ≡ true) × (problem_of version.0 size values rules ≡ f)) [
            | true ↦ λ e k. (needed, e, is_ok (problem_of version.0 size values rules) f k)
            | false ↦ λ e k. absurd (not_fault _ f k)
          ] refl j
      | false ↦ λ e k. absurd (not_fault _ f k)
    ] refl h

pub text_read : (parts : List (List ℕ)) (f : Problem) → problem_of_lines parts ≡ Ok f → TextRead parts f
unfolding problem_of_lines
text_read parts f h =
    let a = step (line_at 1 words.Header parts) _ f h in
    let s = step (formed 1 words.Header (header_form a.0.0)) _ f a.2 in
    let b = step (line_at 2 words.Size a.0.1) _ f s.2 in
    let z = step (formed 2 words.Size (size_form b.0.0)) _ f b.2 in
    let size = size_read b.0.0 z.0 (is_formed 2 words.Size (size_form b.0.0) z.0 z.1) in
    let r = step (rows_at s.0.0 z.0.1 3 z.0.0 b.0.1) _ f z.2 in
    let rows = rows_read s.0.0 z.0.1 3 z.0.0 b.0.1 r.0 r.1 in
    let u = step (rules_at (rule_form s.0.1 z.0.0 z.0.1) (3 + z.0.0) 4_000 r.0.1) _ f r.2 in
    let rules = rules_read s.0.1 z.0.0 z.0.1 (3 + z.0.0) 4_000 r.0.1 u.0 size.few_ships size.few_slots u.1 in
    let end = finished_read s.0 z.0 r.0.0 u.0.0 u.0.1 f u.2 in
    let header = header_read a.0.0 s.0 (is_formed 1 words.Header (header_form a.0.0) s.0 s.1) in
    let third : b.0.1 ≡ map (row_text z.0.1) (rows_in z.0.0 (width s.0.0 z.0.1) r.0.0) ++ (map rule_text u.0.0 ++ codes "end" ∷ [] ∷ []) =
    rows.0 ∙ ap (λ ps. map (row_text z.0.1) (rows_in z.0.0 (width s.0.0 z.0.1) r.0.0) ++ ps) (rules.0 ∙ ap (λ ps. map rule_text u.0.0 ++ codes "end" ∷ ps) (nothing_left u.0.1 end.1)) in
    subst (TextRead parts) end.2
    (problem_read parts s.0.0 s.0.1 z.0 r.0.0 u.0.0 a.0.0 b.0.0 a.0.1 b.0.1 header size (is_line 1 words.Header parts a.0 a.1) (is_line 2 words.Size a.0.1 b.0 b.1) third rows.1 rules.1 (hours_are s.0.1 z.0.0 z.0.1 u.0.0 rules.1 end.0) rules.2)

pub text_is : (parts : List (List ℕ)) (first : List ℕ) (rest : List (List ℕ)) (version : Bool × Bool) (second : List ℕ) (third : List (List ℕ)) (size : ℕ × ℕ) (values : Row) (fourth : List (List ℕ)) (rules : List Rule) (fifth : List (List ℕ)) → line_at 1 words.Header parts ≡ Ok (first, rest)
    → header_form first ≡ Some version → line_at 2 words.Size rest ≡ Ok (second, third) → size_form second ≡ Some size → rows_at version.0 size.1 3 size.0 third ≡ Ok (values, fourth) → rules_at (rule_form version.1 size.0 size.1) (3 + size.0) 4_000 fourth ≡ Ok (rules, fifth)
    → hours_needed version.1 rules ≡ true → at_end fifth ≡ true → problem_of_lines parts ≡ Ok (problem_of version.0 size values rules)
unfolding problem_of_lines
text_is parts first rest version second third size values fourth rules fifth a b c d e f n g = rw (a, b, c, d, e, f, n, g) refl
