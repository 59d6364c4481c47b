-- Rows, bars and fleets, one step on.
use Rattle.std.proofs.Common.{◌≡◌, ◌≤◌, ◌<◌, ◌+◌, ◌-◌, ◌++◌, ◌∙◌, ℕ, zero, suc, Bool, true, false, cond, List, [], ◌∷◌, length, drop, take, filter, get_or, add-one, ap, refl, sym, arith}
use Rattle.std.proofs.Math.ListN.{drop_of_length-le}
use Rattle.std.proofs.Math.Seq.{drop-cons}
use Rattle.hw_model.specs.declared.rule.Rule.{Rule}
use Rattle.hw_model.specs.Problem.{Problem}
use Rattle.hw_chart_flat.specs.Fleets.{is_fleet}
use Rattle.hw_chart_flat.specs.Rows.{wait_bar, flat_wait_bars, planned_row, planned_row_text, planned_rows, unplanned_row, unplanned_row_text, unplanned_rows}

-- the rule at a place, and those after it
rule_at : (place : ℕ) (rules : List Rule) (rule : Rule) → place < length rules → rule ≡ get_or rules place rule → drop place rules ≡ rule ∷ drop (place + 1) rules
rule_at place rules rule lt e = rw (add-one, drop-cons rules place rule lt, ← e) refl

pub wait_next : (table : List ℕ) (ship : ℕ) (rules : List Rule) (i : ℕ) (rule : Rule) → i < length rules → rule ≡ get_or rules i rule → flat_wait_bars table ship (drop i rules) ≡ wait_bar table ship rule ++ flat_wait_bars table ship (drop (i + 1) rules)
wait_next table ship rules i rule lt e = ap (flat_wait_bars table ship) (rule_at i rules rule lt e)

pub wait_end : (table : List ℕ) (ship : ℕ) (rules : List Rule) (i : ℕ) → length rules ≤ i → flat_wait_bars table ship (drop i rules) ≡ []
wait_end table ship rules i le = ap (flat_wait_bars table ship) (drop_of_length-le rules le)

pub planned_next : (f : Problem) (table : List ℕ) (ship count : ℕ) → ship < count → planned_rows f table ship (count - ship) ≡ planned_row_text f table (planned_row f table ship) ++ planned_rows f table (ship + 1) (count - (ship + 1))
planned_next f table ship count lt =
    let e : count - ship ≡ suc (count - (ship + 1)) = omega (arith, lt) in
    ap (planned_rows f table ship) e

pub planned_end : (f : Problem) (table : List ℕ) (ship count : ℕ) → count ≤ ship → planned_rows f table ship (count - ship) ≡ []
planned_end f table ship count le =
    let e : count - ship ≡ 0 = omega (arith, le) in
    ap (planned_rows f table ship) e

pub unplanned_next : (f : Problem) (ship count : ℕ) → ship < count → unplanned_rows f ship (count - ship) ≡ unplanned_row_text f (unplanned_row f ship) ++ unplanned_rows f (ship + 1) (count - (ship + 1))
unplanned_next f ship count lt =
    let e : count - ship ≡ suc (count - (ship + 1)) = omega (arith, lt) in
    ap (unplanned_rows f ship) e

pub unplanned_end : (f : Problem) (ship count : ℕ) → count ≤ ship → unplanned_rows f ship (count - ship) ≡ []
unplanned_end f ship count le =
    let e : count - ship ≡ 0 = omega (arith, le) in
    ap (unplanned_rows f ship) e

-- the first fleet from a place on, and the fleets after it
pub fleets_next : (left from place : ℕ) (rules : List Rule) (rule : Rule) → 0 < left → place < length rules → rule ≡ get_or rules place rule → is_fleet rule ≡ true → filter is_fleet (drop place rules) ≡ filter is_fleet (drop from rules) → take left (filter is_fleet (drop from rules)) ≡ rule ∷ take (left - 1) (filter is_fleet (drop (place + 1) rules))
fleets_next left from place rules rule some lt e fleet same =
    let more : left ≡ suc (left - 1) = omega (arith, some) in
    ap (λ (n : ℕ). take n (filter is_fleet (drop from rules))) more ∙ ap (take (suc (left - 1))) (sym same ∙ rule_first place rules rule lt e fleet)
  where
    rule_first : (place : ℕ) (rules : List Rule) (rule : Rule) → place < length rules → rule ≡ get_or rules place rule → is_fleet rule ≡ true → filter is_fleet (drop place rules) ≡ rule ∷ filter is_fleet (drop (place + 1) rules)
    rule_first place rules rule lt e fleet =
        ap (filter is_fleet) (rule_at place rules rule lt e) ∙ ap (λ (b : Bool). cond b (rule ∷ filter is_fleet (drop (place + 1) rules)) (filter is_fleet (drop (place + 1) rules))) fleet

-- a rule that isn't one on tugs is passed over
pub fleets_past : (place : ℕ) (rules : List Rule) (rule : Rule) → place < length rules → rule ≡ get_or rules place rule → is_fleet rule ≡ false → filter is_fleet (drop (place + 1) rules) ≡ filter is_fleet (drop place rules)
fleets_past place rules rule lt e other =
    sym (ap (filter is_fleet) (rule_at place rules rule lt e) ∙ ap (λ (b : Bool). cond b (rule ∷ filter is_fleet (drop (place + 1) rules)) (filter is_fleet (drop (place + 1) rules))) other)

-- after the last rule there is none
pub fleets_end : (left from place : ℕ) (rules : List Rule) → length rules ≤ place → filter is_fleet (drop place rules) ≡ filter is_fleet (drop from rules) → take left (filter is_fleet (drop from rules)) ≡ []
fleets_end left from place rules le same =
    let none : filter is_fleet (drop from rules) ≡ [] = sym same ∙ ap (filter is_fleet) (drop_of_length-le rules le) in
    take_nothing left (filter is_fleet (drop from rules)) none
  where
    take_nothing : (n : ℕ) (fleets : List Rule) → fleets ≡ [] → take n fleets ≡ []
    take_nothing zero fleets e = refl
    take_nothing (suc n) fleets e = ap (take (suc n)) e
