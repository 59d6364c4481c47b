-- How many rows there are at most.
use Rattle.std.proofs.Common.{ℕ, zero, suc, ◌+◌, ◌-◌, ◌*◌, ◌/◌, ◌≤◌, pos, ◌≤ℤ◌, Bool, true, false, cond, nat_lt, List, [], ◌∷◌, length, All, arith, length-append}
use Rattle.std.specs.Prelude.{◌-ℤ◌}
use Rattle.std.proofs.lemmas.Int.{ints}
use Rattle.std.proofs.lemmas.List.Elements.{All-head, All-tail}
use Rattle.hw_model.specs.declared.rule.Hole.{Hole}
use Rattle.hw_model.specs.declared.rule.Rule.{Rule}
use Rattle.hw_model.specs.declared.rule.Rule.TheVariants.{Pair, After, Tugs}
use Rattle.hw_model.specs.Limits.{HoleFits, IsFlat, RuleFits}
use Rattle.hw_model.specs.Problem.{Problem, horizon}
use Rattle.hw_model.specs.Rules.{fleet_in}
use Rattle.hw_model_laws.proofs.Horizon.{slots_le}
use Rattle.hw_flat_programme.specs.declared.format.Sense.TheVariants.{AtMost}
use Rattle.hw_flat_programme.specs.declared.span.Span.{Span}
use Rattle.hw_flat_programme.specs.Programmes.{Row, weight_of}
use Rattle.hw_flat_programme.specs.Rows.{terms_of, row_at_most, numbered_rows, slot_from, width, group_spans, window_rows, hole_rows, after_spans, job_spans, rule_rows, rules_rows, rows_of, ship_rows}
use Rattle.hw_flat_programme.proofs.Holes.{le_slot_from}
use Rattle.hw_flat_programme.proofs.Empty.{length-ship_rows}

one_row : (f : Problem) (bound : ℕ) (spans : List Span) → length (row_at_most f bound spans) ≤ 1
one_row f bound spans = by (nat_lt bound (weight_of (terms_of f spans)))
  where
    by : (b : Bool) → length {A = Row} (cond b (record { terms = terms_of f spans; sense = AtMost; bound = bound } ∷ []) []) ≤ 1
    by true = omega arith
    by false = omega arith

numbered_few : (f : Problem) (bound : ℕ → ℕ) (spans : ℕ → List Span) (k count : ℕ) → length (numbered_rows f bound spans k count) ≤ count
numbered_few f bound spans k zero = omega arith
numbered_few f bound spans k (suc more) = omega (arith, length-append (row_at_most f (bound k) (spans k)) (numbered_rows f bound spans (k + 1) more), one_row f (bound k) (spans k), numbered_few f bound spans (k + 1) more)

width_few : (hole : Hole) → HoleFits hole → width hole ≤ 1024
width_few hole fits =
    let near : (hole.hi -ℤ hole.lo) ≤ℤ pos 2046 = omega (arith, ints, fits.from_least, fits.to_most) in
    let few : slot_from (hole.hi -ℤ hole.lo) ≤ 2046 = le_slot_from (hole.hi -ℤ hole.lo) 2046 near in
    half (slot_from (hole.hi -ℤ hole.lo)) few
  where
    half : (n : ℕ) → n ≤ 2046 → n / 2 + 1 ≤ 1024
    half n few = omega (arith, few)

windows_few : (f : Problem) (v w : ℕ) (hole : Hole) → horizon f ≤ 512 → HoleFits hole → length (window_rows f v w hole) ≤ 1535
windows_few f v w hole short fits = omega (arith, numbered_few f (λ k. 1) (group_spans f v w hole) 0 (horizon f + width hole - 1), width_few hole fits, short)

holes_few : (f : Problem) (v w : ℕ) (holes : List Hole) → horizon f ≤ 512 → All HoleFits holes → length (hole_rows f v w holes) ≤ 1535 * length holes
holes_few f v w [] short fit = omega arith
holes_few f v w (hole ∷ holes) short fit =
    omega (arith, length-append (window_rows f v w hole) (hole_rows f v w holes), windows_few f v w hole short (All-head HoleFits hole holes fit), holes_few f v w holes short (All-tail HoleFits hole holes fit))

rule_few : (f : Problem) (rule : Rule) → horizon f ≤ 512 → RuleFits f.ships rule → length (rule_rows f rule) ≤ 12280
rule_few f (Pair v w holes) short fits = omega (arith, holes_few f v w holes short fits.each_hole, fits.few_holes)
rule_few f (After v w gap) short fits = omega (arith, numbered_few f (λ k. 1) (after_spans f v w gap) 0 f.slots, slots_le f, short)
rule_few f (Tugs fleet later jobs) short fits = omega (arith, numbered_few f (fleet_in fleet later) (job_spans jobs) 0 (horizon f), short)

rules_few : (f : Problem) (rules : List Rule) → horizon f ≤ 512 → All (RuleFits f.ships) rules → length (rules_rows f rules) ≤ 12280 * length rules
rules_few f [] short fit = omega arith
rules_few f (rule ∷ rules) short fit =
    omega (arith, length-append (rule_rows f rule) (rules_rows f rules), rule_few f rule short (All-head (RuleFits f.ships) rule rules fit), rules_few f rules short (All-tail (RuleFits f.ships) rule rules fit))

pub rows_few : (f : Problem) → IsFlat f → length (rows_of f) ≤ 40 + 4000 * 12280
rows_few f flat =
    omega (arith, length-append (ship_rows f 0 f.ships) (rules_rows f f.rules), length-ship_rows f 0 f.ships, flat.few_ships, flat.few_rules, rules_few f f.rules flat.few_slots flat.each_rule)
