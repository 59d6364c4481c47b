use Rattle.std.proofs.Common.{pos, refl}
use Rattle.hw_desk.proofs.Written.{puts_on, puts_same, puts_nothing}
use Rattle.hw_flat_programme.specs.Rows.{hole_rows, window_rows}
use Rattle.hw_flat_programme.specs.Texts.{rows_text}
use Rattle.hw_flat_programme.proofs.Onward.{rows_text-append, copies_next, items_end}
use Rattle.hw_flat_programme.proofs.rows.put_holes.Goals as goal

pub loop-hole-preserved : goal.loop-hole-preserved
loop-hole-preserved g c = λ end h. c.loop-hole.invariant end (puts_same _ (copies_next (rows_text c.args.format c.args.apart.now.slots) (rows_text-append c.args.format c.args.apart.now.slots) (window_rows c.args.apart.now c.args.v c.args.w) (hole_rows c.args.apart.now c.args.v c.args.w) (λ x xs. refl) c.loop-hole.hole-index c.args.holes.now (record { lo = pos 0; hi = pos 0 }) c.loop-hole-test.true) (puts_on c.put_hole.ensures h))

pub returns : goal.returns
returns g c = c.loop-hole.invariant _ (puts_same _ (items_end (rows_text c.args.format c.args.apart.now.slots) (hole_rows c.args.apart.now c.args.v c.args.w) refl c.loop-hole.hole-index c.args.holes.now c.loop-hole-test.false) (puts_nothing _))
