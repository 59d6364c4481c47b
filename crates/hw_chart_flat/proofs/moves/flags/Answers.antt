use Rattle.std.proofs.Common.{[], ◌∷◌, length-append, arith}
use Rattle.hw_model.specs.Timetables.{Permits}
use Rattle.hw_chart_flat.specs.Moves.{flag_place, with_move}
use Rattle.hw_chart_flat.proofs.Flags.{flag_more}
use Rattle.hw_chart_flat.proofs.moves.flags.Goals as goal

pub loop-place-preserved : goal.loop-place-preserved
loop-place-preserved c =
    let before = c.loop-place.invariant in
    let long = length-append c.loop-place.flags.items (c.in_ok-flag_at.field-0 ∷ []) in
    (rw c.in_ok-push.ensures.items (omega (arith, long, before.0)), λ ship slot a b lt. rw c.in_ok-push.ensures.items (flag_more c.loop-place.flags.items _ c.loop-place.place (flag_place ship slot) (Permits c.args.flat.now (with_move c.args.table.now ship slot)) before.0 lt (λ less. before.1 ship slot a b less) (λ e. c.in_ok-flag_at.ensures ship slot e a b)))
