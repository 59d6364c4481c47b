-- The flat problem of a port.
use Rattle.std.specs.Prelude.{ℕ, ◌+◌, pos, ◌+ℤ◌, ◌-ℤ◌, nat_lt, if◌then◌else◌, List, [], ◌∷◌, ◌++◌, map, length, filter, flat_map, Option, Some, None}
use Rattle.std.specs.List.{range_with_len}
use Rattle.std.specs.Ordering.{int_eq}
use Rattle.hw_model.specs.declared.rule.Hole.{Hole}
use Rattle.hw_model.specs.declared.rule.Job.{Job}
use Rattle.hw_model.specs.declared.rule.Rule.{Rule}
use Rattle.hw_model.specs.declared.rule.Rule.TheVariants.{Pair, After, Tugs}
use Rattle.hw_model.specs.Problem.{Problem}
use Rattle.hw_port.specs.declared.parts.Stretch.{Stretch}
use Rattle.hw_port.specs.declared.parts.BerthPair.{BerthPair}
use Rattle.hw_port.specs.declared.parts.AfterPair.{AfterPair}
use Rattle.hw_port.specs.Parts.{ShipParts}
use Rattle.hw_port.specs.Whole.{Parts}
use Rattle.hw_tide.specs.Levels.{TideParts}
use Rattle.hw_port_model.specs.Numbers.{whole, horizon_of, some_may_stay, alike, separation_of, hold_of}
use Rattle.hw_port_model.specs.Drafts.{ship_value}

-- ---- values

-- the value of the slot that means staying: nothing is carried by a ship that may stay
abbrev pub stay_value : ShipParts → Option ℕ
stay_value s = if s.may_stay then Some 0 else None

-- a ship's values, slot by slot; the last one of staying, where some ship may stay
abbrev pub value_row : Parts → TideParts → ShipParts → List (Option ℕ)
value_row p h s = map (ship_value p h s) (range_with_len 0 (horizon_of p)) ++ (if some_may_stay p then stay_value s ∷ [] else [])

-- ---- pairs

-- the differences that keep two ships of the same direction too close
abbrev pub separation_hole : Parts → ShipParts → ShipParts → Hole
separation_hole p s r = record { lo = pos 1 -ℤ separation_of p r s; hi = separation_of p s r -ℤ pos 1 }

-- the differences with which two ships meet in a section
abbrev pub section_hole : Stretch → Stretch → Hole
section_hole a b = record { lo = a.enter -ℤ b.leave +ℤ pos 1; hi = a.leave -ℤ b.enter -ℤ pos 1 }

-- the holes of a stretch with those stretches of another ship that are in the same section
abbrev pub holes_with : Stretch → List Stretch → List Hole
holes_with a others = map (section_hole a) (filter (λ b. int_eq b.section a.section) others)

-- a hole for each section that both ships use, in the order of the sections
abbrev pub shared_holes : List Stretch → List Stretch → List Hole
shared_holes channel others = flat_map (λ a. holes_with a others) channel

-- the forbidden differences of two ships
abbrev pub holes_of : Parts → ShipParts → ShipParts → List Hole
holes_of p s r = if alike s r then separation_hole p s r ∷ [] else shared_holes s.channel r.channel

-- a rule, where some difference is forbidden
abbrev pub pair_rule : ℕ → ℕ → List Hole → List Rule
pair_rule v w [] = []
pair_rule v w (hole ∷ holes) = Pair v w (hole ∷ holes) ∷ []

-- the rules of ship v with the ships from w on
abbrev pub pairs_with : Parts → ℕ → ShipParts → ℕ → List ShipParts → List Rule
pairs_with p v s w [] = []
pairs_with p v s w (r ∷ more) = pair_rule v w (holes_of p s r) ++ pairs_with p v s (w + 1) more

-- the rules of the ships from v on, each with those after it
abbrev pub pairs_from : Parts → ℕ → List ShipParts → List Rule
pairs_from p v [] = []
pairs_from p v (s ∷ more) = pairs_with p v s (v + 1) more ++ pairs_from p (v + 1) more

-- ---- berths, ships after others, and tugs

abbrev pub berth_rule : BerthPair → Rule
berth_rule b = After (whole b.outgoing) (whole b.incoming) (whole b.clear)

abbrev pub after_rule : AfterPair → Rule
after_rule a = After (whole a.first) (whole a.second) (whole a.gap)

-- a ship's job, where it has tugs
abbrev pub job_of : Parts → ℕ → ShipParts → List Job
job_of p v s = if nat_lt 0 (whole s.tugs) then record { ship = v; tugs = whole s.tugs; hold = hold_of p s } ∷ [] else []

-- the jobs of the ships from v on
abbrev pub jobs_from : Parts → ℕ → List ShipParts → List Job
jobs_from p v [] = []
jobs_from p v (s ∷ more) = job_of p v s ++ jobs_from p (v + 1) more

-- a rule on tugs, where a ship has some: the fleet has them in each slot
abbrev pub tug_rule : ℕ → List Job → List Rule
tug_rule fleet [] = []
tug_rule fleet (job ∷ jobs) = Tugs fleet [] (job ∷ jobs) ∷ []

-- the rules: pairs of ships, berths, ships after others, tugs
abbrev pub rules_of : Parts → List Rule
rules_of p = pairs_from p 0 p.ships ++ (map berth_rule p.berths ++ (map after_rule p.after ++ tug_rule (whole p.fleet) (jobs_from p 0 p.ships)))

-- the flat problem of a port: one slot more than the port has, where some ship may stay
abbrev pub flattened : Parts → TideParts → Problem
flattened p h = record {
  ships = length p.ships;
  slots = if some_may_stay p then horizon_of p + 1 else horizon_of p;
  stay = some_may_stay p;
  values = flat_map (value_row p h) p.ships;
  rules = rules_of p;
}
