use Rattle.std.proofs.Common.{List, Option, ℕ, ◌++◌, ap, sym, ◌∙◌}
use Rattle.hw_plan_texts.specs.Grids.{row_of}
use Rattle.hw_plan_texts.proofs.Grids.{grid_more}
use Rattle.hw_clash.specs.Parts.{part_value}
use Rattle.hw_clash.proofs.parting.values_of.Goals as goal

pub loop-ship-preserved : goal.loop-ship-preserved
loop-ship-preserved c =
    c.in_ok-put_row.ensures
    ∙ (ap (λ (xs : List (Option ℕ)). xs ++ row_of (part_value c.args.wished.now c.args.kept.now) c.args.wished.now.problem.slots c.loop-ship.ship) c.loop-ship.invariant
    ∙ sym (grid_more (part_value c.args.wished.now c.args.kept.now) c.loop-ship.ship c.args.wished.now.problem.slots))
