use Rattle.std.proofs.Common.{◌≡◌, drop, filter}
use Rattle.hw_chart_flat.specs.Fleets.{is_fleet}
use Rattle.hw_chart_flat.proofs.fleets.next.Given as goal

-- what is left has the same fleets
abbrev pub invariant-loop-place : goal.invariant-loop-place
invariant-loop-place l = filter is_fleet (drop l.place l.fn.fleets.rules.now) ≡ filter is_fleet (drop l.fn.fleets.from l.fn.fleets.rules.now)
