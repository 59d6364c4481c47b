use Rattle.std.proofs.Common.{rules, ◌≡◌, ◌<◌, pos, ◌+ℤ◌, to_z, of_z, w64, ◌∙◌}
use Rattle.std.specs.Prelude.{count_by}
use Rattle.std.proofs.lemmas.Int.{to_z-of_z}
use Rattle.hw_rules.proofs.Holes.{next_round, each_round, ahead}
use Rattle.hw_rules.proofs.spacing.+covered.Goals as goal

pub covered-requires : goal.covered-requires
covered-requires t c =
    let next : to_z w64 (of_z w64 c.past_hole.result) ≡ (c.in-Some.hole.hi +ℤ pos 1) = to_z-of_z w64 c.past_hole.result (search rules) ∙ c.past_hole.ensures in
    let less : count_by (ahead (to_z w64 (of_z w64 c.past_hole.result))) c.args.holes.now < count_by (ahead c.args.lo) c.args.holes.now =
    next_round c.args.holes.now c.args.lo _ _ c.in-Some.hole (to_z-of_z w64 c.args.lo c.ranges.lo) next c.in-Some.ensures in
    search (rules, less, c.decreases)

pub returns-in-Some : goal.returns-in-Some
returns-in-Some t c =
    let next : to_z w64 (of_z w64 c.past_hole.result) ≡ (c.in-Some.hole.hi +ℤ pos 1) = to_z-of_z w64 c.past_hole.result (search rules) ∙ c.past_hole.ensures in
    each_round c.args.holes.now c.args.lo _ _ c.args.hi _ c.in-Some.hole c.covered.result (to_z-of_z w64 c.args.lo c.ranges.lo) next (to_z-of_z w64 c.args.hi c.ranges.hi) c.in-Some.ensures c.covered.ensures
