-- The lines of the rules, where one is bad and where none is.
use Rattle.std.proofs.Common.{◌≡◌, ◌≢◌, ℕ, zero, suc, ◌+◌, ◌-◌, ◌<◌, ◌≤◌, Bool, true, false, List, [], ◌∷◌, ◌++◌, map, length, get_or, Option, Some, None, Result, Ok, Err, All, refl, sym, ap, ◌∙◌, subst, arith, codes, bytes_eq, append_assoc}
use Rattle.std.proofs.Math.Path.{ap₂}
use Rattle.std.proofs.lemmas.List.Elements.{All-nil, All-cons}
use Rattle.hw_lemmas.specs.Operators.{◌>>=◌}
use Rattle.hw_model.specs.declared.rule.Rule.{Rule}
use Rattle.hw_flat.specs.declared.fault.FlatWord.{FlatWord}
use Rattle.hw_flat.specs.declared.fault.FlatWord.TheVariants as words
use Rattle.hw_flat.specs.Text.{Fault, rules_at}
use Rattle.hw_flat.specs.TextForms.{rule_form}
use Rattle.hw_flat.specs.TextWritten.{rule_text}
use Rattle.hw_flat.proofs.HourRules.{RuleIn}
use Rattle.hw_flat.proofs.TextWords.{rule_read}
use Rattle.hw_flat.proofs.TextRows.{rules_read}
use Rattle.hw_flat.proofs.TextBack.{rules_back}
use Rattle.hw_flat_laws.specs.FirstLines.{later_line}
use Rattle.hw_flat_laws.proofs.Same.{Parts, Full, full_is, has}
use Rattle.hw_flat_laws.proofs.Refusals.{Dead, dead_followed, dead_past_line, dead_line, dead_short}
use Rattle.hw_flat_laws.proofs.ShipLines.{is_err, not_both, before_done}

-- a form of rules
abbrev pub Form : Type 0
Form = List ℕ → Option Rule

-- what the word says of the line
abbrev pub SaysOfRule : Form → ℕ → ℕ → Parts → FlatWord → Type 0
SaysOfRule form room count parts words.Rule = (later_line count parts ≢ Some (codes "end")) × (has form (later_line count parts) ≡ None)
SaysOfRule form room count parts words.Many = (count ≡ room) × ((rule : Rule) × (has form (later_line count parts) ≡ Some rule))
SaysOfRule form room count parts _ = ⊥

said_later : (form : Form) (room count : ℕ) (line next : List ℕ) (parts : Parts) (word : FlatWord) → 1 ≤ room → SaysOfRule form (room - 1) count (next ∷ parts) word → SaysOfRule form room (suc count) (line ∷ next ∷ parts) word
said_later form room count line next parts words.Rule some s = s
said_later form room count line next parts words.Many some s = (omega (arith, s.0, some), s.1)
said_later form room count line next parts words.Header some s = absurd s
said_later form room count line next parts words.Size some s = absurd s
said_later form room count line next parts words.Values some s = absurd s
said_later form room count line next parts words.Tail some s = absurd s

-- the rules before the bad line, as they are written, and the parts from it on
pub record RulesRefused (hours : Bool) (ships slots number room : ℕ) (parts : Parts) (e : Fault) : Type 0 where
  pub count : ℕ
  pub place : e.number ≡ number + count
  pub few : count ≤ room
  pub before : (i : ℕ) → count ≡ suc i → later_line i parts ≢ Some (codes "end")
  pub says : SaysOfRule (rule_form hours ships slots) room count parts e.word
  pub dead : Dead (rules_at (rule_form hours ships slots) number room) parts e count
  pub rules : List Rule
  pub rest : Parts
  pub full : Full rest
  pub lines : parts ≡ map rule_text rules ++ rest
  pub each : length rules ≡ count
  pub good : All (RuleIn hours ships slots) rules

other_text : (line : List ℕ) → bytes_eq line (codes "end") ≡ false → Some line ≡ Some (codes "end") → ⊥
other_text line other s =
    let same : line ≡ codes "end" = cc in
    let ends : bytes_eq line (codes "end") ≡ true = ap (λ l. bytes_eq l (codes "end")) same in
    cc

-- the first line is bad
first_bad : (hours : Bool) (ships slots number room : ℕ) (parts : Parts) (word : FlatWord) → Full parts → SaysOfRule (rule_form hours ships slots) room 0 parts word → Dead (rules_at (rule_form hours ships slots) number room) parts (record { number = number; word = word }) 0
    → RulesRefused hours ships slots number room parts (record { number = number; word = word })
first_bad hours ships slots number room parts word full says dead = record {
  count = 0;
  place = omega arith;
  few = omega arith;
  before = λ i k. absurd (omega (arith, k));
  says = says;
  dead = dead;
  rules = [];
  rest = parts;
  full = full;
  lines = refl;
  each = refl;
  good = All-nil (RuleIn hours ships slots);
}

-- a line that is no rule
no_rule : (hours : Bool) (ships slots number room : ℕ) (line next : List ℕ) (parts : Parts) (e : Fault) → bytes_eq line (codes "end") ≡ false → rule_form hours ships slots line ≡ None → rules_at (rule_form hours ships slots) number room (line ∷ next ∷ parts) ≡ Err e
    → RulesRefused hours ships slots number room (line ∷ next ∷ parts) e
unfolding rules_at
no_rule hours ships slots number room line next parts e other none h =
    let form : Form = rule_form hours ships slots in
    let d : Fault = record { number = number; word = words.Rule } in
    let bad : (y : List ℕ) (ys : Parts) → rules_at form number room (line ∷ y ∷ ys) ≡ Err d = λ y ys. rw (other, none) refl in
    subst (RulesRefused hours ships slots number room (line ∷ next ∷ parts)) (is_err (rules_at form number room (line ∷ next ∷ parts)) d e (bad next parts) h)
    (first_bad hours ships slots number room (line ∷ next ∷ parts) words.Rule (line, next ∷ parts, refl) (other_text line other, none) (dead_line (rules_at form number room) line next parts d bad))

-- a rule where no more may come
too_many : (hours : Bool) (ships slots number room : ℕ) (line next : List ℕ) (parts : Parts) (rule : Rule) (e : Fault) → bytes_eq line (codes "end") ≡ false → rule_form hours ships slots line ≡ Some rule → room ≡ 0 → rules_at (rule_form hours ships slots) number room (line ∷ next ∷ parts) ≡ Err e
    → RulesRefused hours ships slots number room (line ∷ next ∷ parts) e
unfolding rules_at
too_many hours ships slots number room line next parts rule e other some none h =
    let form : Form = rule_form hours ships slots in
    let d : Fault = record { number = number; word = words.Many } in
    let bad : (y : List ℕ) (ys : Parts) → rules_at form number room (line ∷ y ∷ ys) ≡ Err d = λ y ys. rw (other, some, none) refl in
    subst (RulesRefused hours ships slots number room (line ∷ next ∷ parts)) (is_err (rules_at form number room (line ∷ next ∷ parts)) d e (bad next parts) h)
    (first_bad hours ships slots number room (line ∷ next ∷ parts) words.Many (line, next ∷ parts, refl) (sym none, (rule, some)) (dead_line (rules_at form number room) line next parts d bad))

-- a rule before a bad line
rule_step : (form : Form) (number room less : ℕ) (line : List ℕ) (rule : Rule) (others : Parts) → bytes_eq line (codes "end") ≡ false → form line ≡ Some rule → room ≡ suc less → Full others → rules_at form number room (line ∷ others) ≡ (rules_at form (number + 1) (room - 1) others >>= λ x. Ok (rule ∷ x.0, x.1))
unfolding rules_at
rule_step form number room less line rule others other is some full = rw (full.2, other, is, some) refl

a_rule : (hours : Bool) (ships slots number room less : ℕ) (line next : List ℕ) (parts : Parts) (rule : Rule) (e : Fault) → ships ≤ 40 → slots ≤ 512 → bytes_eq line (codes "end") ≡ false → rule_form hours ships slots line ≡ Some rule → room ≡ suc less
    → rules_at (rule_form hours ships slots) number room (line ∷ next ∷ parts) ≡ Err e
    → (rules_at (rule_form hours ships slots) (number + 1) (room - 1) (next ∷ parts) ≡ Err e → RulesRefused hours ships slots (number + 1) (room - 1) (next ∷ parts) e) → RulesRefused hours ships slots number room (line ∷ next ∷ parts) e
a_rule hours ships slots number room less line next parts rule e few few' other is some h prefixed =
    let form : Form = rule_form hours ships slots in
    let step : (others : Parts) → Full others → rules_at form number room (line ∷ others) ≡ (rules_at form (number + 1) (room - 1) others >>= λ x. Ok (rule ∷ x.0, x.1)) = λ others full. rule_step form number room less line rule others other is some full in
    let r = prefixed (before_done (rules_at form (number + 1) (room - 1) (next ∷ parts)) (λ x. (rule ∷ x.0, x.1)) e (sym (step (next ∷ parts) (next, parts, refl)) ∙ h)) in
    let read = rule_read hours ships slots line rule few few' is in
    record {
      count = suc r.count;
      place = omega (arith, r.place);
      few = omega (arith, r.few, some);
      before = before r.count r.before;
      says = said_later form room r.count line next parts e.word (omega (arith, some)) r.says;
      dead = dead_past_line (λ others. rules_at form (number + 1) (room - 1) others >>= λ x. Ok (rule ∷ x.0, x.1)) (rules_at form number room) line (next ∷ parts) e r.count step
          (dead_followed (rules_at form (number + 1) (room - 1)) (λ x. Ok (rule ∷ x.0, x.1)) (next ∷ parts) e r.count r.dead);
      rules = rule ∷ r.rules;
      rest = r.rest;
      full = r.full;
      lines = ap₂ ◌∷◌ read.0 r.lines;
      each = ap suc r.each;
      good = All-cons (RuleIn hours ships slots) rule r.rules read.1 r.good;
    }
  where
    before : (count : ℕ) → ((i : ℕ) → count ≡ suc i → later_line i (next ∷ parts) ≢ Some (codes "end")) → (i : ℕ) → suc count ≡ suc i → later_line i (line ∷ next ∷ parts) ≢ Some (codes "end")
    before count earlier zero k = other_text line other
    before count earlier (suc i) k = earlier i (omega (arith, k))

pub rules_refused : (hours : Bool) (ships slots number room : ℕ) (parts : Parts) (e : Fault) → ships ≤ 40 → slots ≤ 512 → 1 ≤ length parts → rules_at (rule_form hours ships slots) number room parts ≡ Err e → RulesRefused hours ships slots number room parts e
unfolding rules_at
rules_refused hours ships slots number room [] e few few' some h = absurd (omega (arith, some))
rules_refused hours ships slots number room (line ∷ []) e few few' some h =
    let form : Form = rule_form hours ships slots in
    let d : Fault = record { number = number; word = words.Rule } in
    subst (RulesRefused hours ships slots number room (line ∷ [])) (is_err (rules_at form number room (line ∷ [])) d e refl h)
    (first_bad hours ships slots number room (line ∷ []) words.Rule (line, [], refl) (λ s. cc, refl) (dead_short (rules_at form number room) line d (λ y. refl)))
rules_refused hours ships slots number room (line ∷ next ∷ parts) e few few' some h =
    elim (bytes_eq line (codes "end")) as (λ b. bytes_eq line (codes "end") ≡ b → RulesRefused hours ships slots number room (line ∷ next ∷ parts) e) [
      | true ↦ λ ends. let good : rules_at (rule_form hours ships slots) number room (line ∷ next ∷ parts) ≡ Ok ([], next ∷ parts) = rw ends refl in absurd (not_both (rules_at (rule_form hours ships slots) number room (line ∷ next ∷ parts)) ([], next ∷ parts) e good h)
      | false ↦ λ other.
          elim (rule_form hours ships slots line) as (λ o. rule_form hours ships slots line ≡ o → RulesRefused hours ships slots number room (line ∷ next ∷ parts) e) [
            | None ↦ λ is. no_rule hours ships slots number room line next parts e other is h
            | Some rule ↦ λ is.
                elim room as (λ n. room ≡ n → RulesRefused hours ships slots number room (line ∷ next ∷ parts) e) [
                  | zero ↦ λ none. too_many hours ships slots number room line next parts rule e other is none h
                  | suc less ↦ λ more. a_rule hours ships slots number room less line next parts rule e few few' other is more h (rules_refused hours ships slots (number + 1) (room - 1) (next ∷ parts) e few few' (omega arith))
                ] refl
          ] refl
    ] refl

-- ---- none of them is bad

-- the lines that were read up to `end`; with another rest after them they are read too
pub record RulesRead (hours : Bool) (ships slots number room : ℕ) (parts : Parts) (x : List Rule × Parts) : Type 0 where
  pub lines : parts ≡ (map rule_text x.0 ++ codes "end" ∷ []) ++ x.1
  pub good : All (RuleIn hours ships slots) x.0
  pub few : length x.0 ≤ room
  pub reads : (others : Parts) → Full others → rules_at (rule_form hours ships slots) number room ((map rule_text x.0 ++ codes "end" ∷ []) ++ others) ≡ Ok (x.0, others)

pub rules_were_read : (hours : Bool) (ships slots number room : ℕ) (parts : Parts) (x : List Rule × Parts) → ships ≤ 40 → slots ≤ 512 → rules_at (rule_form hours ships slots) number room parts ≡ Ok x → RulesRead hours ships slots number room parts x
rules_were_read hours ships slots number room parts x small small' h =
    let r = rules_read hours ships slots number room parts x small small' h in
    record {
      lines = r.0 ∙ sym (append_assoc (map rule_text x.0) (codes "end" ∷ []) x.1);
      good = r.1;
      few = r.2;
      reads = λ others full. ap (rules_at (rule_form hours ships slots) number room) (append_assoc (map rule_text x.0) (codes "end" ∷ []) others) ∙ rules_back hours ships slots number room x.0 others full small small' r.1 r.2;
    }

last_step : (r : Result (List Rule × Parts) Fault) (rule : Rule) (x : List Rule × Parts) → (r >>= λ y. Ok (rule ∷ y.0, y.1)) ≡ Ok x → (y : List Rule × Parts) × (r ≡ Ok y) × ((rule ∷ y.0, y.1) ≡ x)
last_step (Err d) rule x k = absurd cc
last_step (Ok y) rule x k = let e : (rule ∷ y.0, y.1) ≡ x = cc in (y, refl, e)

-- something is left after `end`
pub rules_leave : (form : Form) (number room : ℕ) (parts : Parts) (x : List Rule × Parts) → rules_at form number room parts ≡ Ok x → Full x.1
unfolding rules_at
rules_leave form number room [] x h = absurd cc
rules_leave form number room (line ∷ []) x h = absurd cc
rules_leave form number room (line ∷ next ∷ parts) x h =
    elim (bytes_eq line (codes "end")) as (λ b. bytes_eq line (codes "end") ≡ b → Full x.1) [
      | true ↦ λ ends.
          let good : rules_at form number room (line ∷ next ∷ parts) ≡ Ok ([], next ∷ parts) = rw ends refl in
          let e : ([], next ∷ parts) ≡ x = cc in
          (next, parts, sym (ap (λ y. y.1) e))
      | false ↦ λ other.
          elim (form line) as (λ o. form line ≡ o → Full x.1) [
            | None ↦ λ is. let bad : rules_at form number room (line ∷ next ∷ parts) ≡ Err (record { number = number; word = words.Rule }) = rw (other, is) refl in absurd (not_both (rules_at form number room (line ∷ next ∷ parts)) x _ h bad)
            | Some rule ↦ λ is.
                elim room as (λ n. room ≡ n → Full x.1) [
                  | zero ↦ λ none. let bad : rules_at form number room (line ∷ next ∷ parts) ≡ Err (record { number = number; word = words.Many }) = rw (other, is, none) refl in absurd (not_both (rules_at form number room (line ∷ next ∷ parts)) x _ h bad)
                  | suc less ↦ λ more.
                      let step = rule_step form number room less line rule (next ∷ parts) other is more (next, parts, refl) in
                      let r = last_step (rules_at form (number + 1) (room - 1) (next ∷ parts)) rule x (sym step ∙ h) in
                      let left = rules_leave form (number + 1) (room - 1) (next ∷ parts) r.0 r.1 in
                      full_is r.0.1 x.1 (ap (λ z. z.1) r.2) left
                ] refl
          ] refl
    ] refl

-- each of them has its form
pub each_rule : (form : Form) (number room : ℕ) (parts : Parts) (x : List Rule × Parts) → rules_at form number room parts ≡ Ok x → (i : ℕ) (d : Rule) → i < length x.0 → has form (later_line i parts) ≡ Some (get_or x.0 i d)
unfolding rules_at
each_rule form number room [] x h i d lt = absurd cc
each_rule form number room (line ∷ []) x h i d lt = absurd cc
each_rule form number room (line ∷ next ∷ parts) x h i d lt =
    elim (bytes_eq line (codes "end")) as (λ b. bytes_eq line (codes "end") ≡ b → has form (later_line i (line ∷ next ∷ parts)) ≡ Some (get_or x.0 i d)) [
      | true ↦ λ ends.
          let good : rules_at form number room (line ∷ next ∷ parts) ≡ Ok ([], next ∷ parts) = rw ends refl in
          let e : ([], next ∷ parts) ≡ x = cc in
          let none : 0 ≡ length x.0 = ap (λ (y : List Rule × Parts). length y.0) e in
          absurd (omega (arith, none, lt))
      | false ↦ λ other.
          elim (form line) as (λ o. form line ≡ o → has form (later_line i (line ∷ next ∷ parts)) ≡ Some (get_or x.0 i d)) [
            | None ↦ λ is. let bad : rules_at form number room (line ∷ next ∷ parts) ≡ Err (record { number = number; word = words.Rule }) = rw (other, is) refl in absurd (not_both (rules_at form number room (line ∷ next ∷ parts)) x _ h bad)
            | Some rule ↦ λ is.
                elim room as (λ n. room ≡ n → has form (later_line i (line ∷ next ∷ parts)) ≡ Some (get_or x.0 i d)) [
                  | zero ↦ λ none. let bad : rules_at form number room (line ∷ next ∷ parts) ≡ Err (record { number = number; word = words.Many }) = rw (other, is, none) refl in absurd (not_both (rules_at form number room (line ∷ next ∷ parts)) x _ h bad)
                  | suc less ↦ λ more.
                      let step = rule_step form number room less line rule (next ∷ parts) other is more (next, parts, refl) in
                      let r = last_step (rules_at form (number + 1) (room - 1) (next ∷ parts)) rule x (sym step ∙ h) in
                      let count : suc (length r.0.0) ≡ length x.0 = ap (λ (y : List Rule × Parts). length y.0) r.2 in
                      let items : rule ∷ r.0.0 ≡ x.0 = ap (λ (y : List Rule × Parts). y.0) r.2 in
                      elim i as (λ n. n < length x.0 → has form (later_line n (line ∷ next ∷ parts)) ≡ Some (get_or x.0 n d)) [
                        | zero ↦ λ _. is ∙ ap (λ (xs : List Rule). Some (get_or xs 0 d)) items
                        | suc j ↦ λ k. each_rule form (number + 1) (room - 1) (next ∷ parts) r.0 r.1 j d (omega (arith, k, count)) ∙ ap (λ (xs : List Rule). Some (get_or xs (suc j) d)) items
                      ] lt
                ] refl
          ] refl
    ] refl
