-- Problems for demonstrations: what is drawn, in order, from the words of a generator.
use Rattle.std.specs.Prelude.{ℕ, ◌+◌, ◌-◌, ◌*◌, ◌%◌, ◌==◌, min, pos, neg_ℤ, false, List, [], ◌∷◌, ◌++◌, Option, Some, None, if◌then◌else◌}
use Rattle.std.specs.List.{range_with_len}
use Rattle.rand_pcg.specs.Lcg.{Lcg, started, increment_of}
use Rattle.rand_pcg.specs.Pcg.{multiplier_64, pcg32}
use Rattle.hw_model.specs.declared.rule.Job.{Job}
use Rattle.hw_model.specs.declared.rule.Rule.{Rule}
use Rattle.hw_model.specs.declared.rule.Rule.TheVariants.{Pair, Tugs}
use Rattle.hw_model.specs.Problem.{Problem}

-- ---- drawing

-- the generator of a demonstration: its number is the first state, and its stream is 1
unfoldable pub generator : ℕ → Lcg
generator number = started 64 multiplier_64 number (increment_of 64 1)

-- a number below n, which is the next word modulo n, and the generator after that word
unfoldable pub draw : ℕ → Lcg → ℕ × Lcg
draw n g = ((pcg32 g).0 % n, (pcg32 g).1)

-- what was drawn, and then what is drawn next
abbrev pub and_then : {B : Type 0} → List B × Lcg → (Lcg → List B × Lcg) → List B × Lcg
and_then drawn next = (drawn.0 ++ (next drawn.1).0, (next drawn.1).1)

-- what is drawn for each of the items, one item after the other
abbrev pub in_turn : {A B : Type 0} → (A → Lcg → List B × Lcg) → List A → Lcg → List B × Lcg
in_turn make [] g = ([], g)
in_turn make (item ∷ items) g = and_then (make item g) (in_turn make items)

-- the numbers from first up to but not including end
abbrev pub from_to : ℕ → ℕ → List ℕ
from_to first end = range_with_len first (end - first)

-- ---- values

-- how far the water has risen in a slot: up for 25 slots and down again for 25
abbrev pub rise : ℕ → ℕ
rise slot = min (slot % 50) (50 - slot % 50)

-- a ship's value in a slot, none one time in twenty
abbrev pub value_drawn : ℕ → ℕ → Lcg → List (Option ℕ) × Lcg
value_drawn tpc slot g = ((if (draw 20 g).0 == 0 then None else Some (tpc * (10 + rise slot))) ∷ [], (draw 20 g).1)

-- a ship's values, slot by slot, after its tonnes per centimetre
abbrev pub row_drawn : ℕ → ℕ → Lcg → List (Option ℕ) × Lcg
row_drawn slots ship g = in_turn (value_drawn (50 + (draw 50 g).0)) (from_to 0 slots) (draw 50 g).1

abbrev pub values_drawn : ℕ → ℕ → Lcg → List (Option ℕ) × Lcg
values_drawn ships slots = in_turn (row_drawn slots) (from_to 0 ships)

-- ---- rules

-- the two ships keep apart: the one hole goes from 1 to 3 slots before to 1 to 3 slots after
abbrev pub pair_drawn : ℕ → ℕ → Lcg → List Rule × Lcg
pair_drawn v w g =
    let before = draw 3 g in
    let after = draw 3 before.1 in
    (Pair v w (record { lo = neg_ℤ (pos (1 + before.0)); hi = pos (1 + after.0) } ∷ []) ∷ [], after.1)

-- a rule of ship v with each ship after it
abbrev pub pairs_of_drawn : ℕ → ℕ → Lcg → List Rule × Lcg
pairs_of_drawn ships v = in_turn (pair_drawn v) (from_to (v + 1) ships)

-- a rule of each two ships
abbrev pub pairs_drawn : ℕ → Lcg → List Rule × Lcg
pairs_drawn ships = in_turn (pairs_of_drawn ships) (from_to 0 ships)

-- a ship's job: 1 or 2 tugs, for 2 to 5 slots
abbrev pub job_drawn : ℕ → Lcg → List Job × Lcg
job_drawn ship g =
    let tugs = draw 2 g in
    let hold = draw 4 tugs.1 in
    (record { ship = ship; tugs = 1 + tugs.0; hold = 2 + hold.0 } ∷ [], hold.1)

abbrev pub jobs_drawn : ℕ → Lcg → List Job × Lcg
jobs_drawn ships = in_turn job_drawn (from_to 0 ships)

-- the rules of two ships, and after them one on the jobs, which share four tugs
abbrev pub rules_drawn : ℕ → Lcg → List Rule
rules_drawn ships g = (pairs_drawn ships g).0 ++ Tugs 4 [] (jobs_drawn ships (pairs_drawn ships g).1).0 ∷ []

-- ---- the problem

-- the values are drawn first, and then the rules
abbrev pub drawn_from : Lcg → ℕ → ℕ → Problem
drawn_from g ships slots = record {
  ships = ships;
  slots = slots;
  stay = false;
  values = (values_drawn ships slots g).0;
  rules = rules_drawn ships (values_drawn ships slots g).1;
}

-- the problem of a demonstration's number: its values are drawn first, ship by ship and slot by slot, then a rule of each two
-- ships, then the rule on tugs
abbrev pub demonstration : ℕ → ℕ → ℕ → Problem
demonstration number ships slots = drawn_from (generator number) ships slots
