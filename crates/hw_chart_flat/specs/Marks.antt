-- Which marks are in a picture: those that its legend names.
use Rattle.std.specs.Prelude.{ℕ, Bool, false, ◌&&◌, not, nat_lt, Option, Some, None, List, slice_index}
use Rattle.std.specs.List.{list_any, range_with_len}
use Rattle.hw_model.specs.declared.rule.Rule.{Rule}
use Rattle.hw_model.specs.declared.rule.Rule.TheVariants.{Pair, After, Tugs}
use Rattle.hw_model.specs.Problem.{Problem, horizon}
use Rattle.hw_model.specs.Rules.{busy}
use Rattle.hw_chart.specs.Figures.{is_met, is_top_touched}
use Rattle.hw_chart_flat.specs.declared.marks.FlatMark.{FlatMark}
use Rattle.hw_chart_flat.specs.declared.marks.FlatMark.TheVariants.{HasValue, HasMost, CouldMove, Sails, HoldsTugs, MustWait, WholeFleet}
use Rattle.hw_chart_flat.specs.Fleets.{fleets}
use Rattle.hw_rules.specs.Fleets.{rule_fleet, rule_jobs}
use Rattle.hw_chart_flat.specs.Moves.{flat_open_level}
use Rattle.hw_chart_flat.specs.Values.{sails_nowhere}

-- a ship has a value in some slot, so it has its greatest one in some slot too
abbrev pub some_has_value : Problem → Bool
some_has_value f = list_any (λ ship. not (sails_nowhere f ship)) (range_with_len 0 f.ships)

-- a ship alone could sail in some slot
abbrev pub some_could_move : Problem → List ℕ → Bool
some_could_move f table = list_any (λ ship. is_top_touched (flat_open_level f table ship) (horizon f)) (range_with_len 0 f.ships)

-- a ship sails, where ships sail in this many slots
abbrev pub some_sails : ℕ → List ℕ → Bool
some_sails slots table = list_any (λ slot. nat_lt slot slots) table

-- a job of a fleet's is that of a ship that sails
abbrev pub holds_some : ℕ → List ℕ → Rule → Bool
holds_some slots table rule = list_any (λ job. nat_lt (slice_index table job.ship) slots) (rule_jobs rule)

-- the second ship of a rule sails, and some time must pass after the first
abbrev pub awaits_first : ℕ → List ℕ → Rule → Bool
awaits_first slots table (Pair v w holes) = false
awaits_first slots table (After v w gap) = nat_lt (slice_index table w) slots && nat_lt 0 gap
awaits_first slots table (Tugs fleet later jobs) = false

-- a fleet is held whole in some slot
abbrev pub is_held_whole : ℕ → List ℕ → Rule → Bool
is_held_whole slots table rule = is_met (busy rule table) (rule_fleet rule) slots

-- the picture of a timetable has this mark
abbrev pub planned_has : Problem → List ℕ → FlatMark → Bool
planned_has f table HasValue = some_has_value f
planned_has f table HasMost = some_has_value f
planned_has f table CouldMove = some_could_move f table
planned_has f table Sails = some_sails (horizon f) table
planned_has f table HoldsTugs = list_any (holds_some (horizon f) table) (fleets f)
planned_has f table MustWait = list_any (awaits_first (horizon f) table) f.rules
planned_has f table WholeFleet = list_any (is_held_whole (horizon f) table) (fleets f)

-- and one without a timetable
abbrev pub unplanned_has : Problem → FlatMark → Bool
unplanned_has f HasValue = some_has_value f
unplanned_has f HasMost = some_has_value f
unplanned_has f CouldMove = false
unplanned_has f Sails = false
unplanned_has f HoldsTugs = false
unplanned_has f MustWait = false
unplanned_has f WholeFleet = false

abbrev pub is_flat_marked : Problem → Option (List ℕ) → FlatMark → Bool
is_flat_marked f None mark = unplanned_has f mark
is_flat_marked f (Some table) mark = planned_has f table mark
