use Rattle.std.proofs.Common.{append-nil}
use Rattle.hw_desk.proofs.Written.{puts_on}
use Rattle.hw_chart.specs.Outcomes.{sign_path}
use Rattle.hw_chart.proofs.outcome.put_badge.Goals as goal

pub returns : goal.returns
returns g c = puts_on (rw c.disc.ensures at c.put_shape.ensures) (rw (c.sign.ensures, append-nil (sign_path c.args.verdict)) at c.put_shape-2.ensures)
