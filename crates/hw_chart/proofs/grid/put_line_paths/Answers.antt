use Rattle.std.proofs.Common.{ap, sym}
use Rattle.hw_desk.proofs.Written.{puts_on, puts_same, puts_nothing}
use Rattle.hw_chart.specs.Grids.{line_paths}
use Rattle.hw_chart.proofs.Onward.{paths_next, paths_end}
use Rattle.hw_chart.proofs.grid.put_line_paths.Goals as goal

pub loop-i-preserved : goal.loop-i-preserved
loop-i-preserved g c = λ end h. c.loop-i.invariant end (puts_same _ (paths_next c.args.axis c.loop-i.i c.div_ceil-count.result c.loop-i-test.true) (puts_on c.put_line_path.ensures h))

pub returns : goal.returns
returns g c = puts_same _ (ap (line_paths c.args.axis 0) (sym c.div_ceil-count.ensures)) (c.loop-i.invariant _ (puts_same _ (paths_end c.args.axis c.loop-i.i c.div_ceil-count.result c.loop-i-test.false) (puts_nothing _)))
