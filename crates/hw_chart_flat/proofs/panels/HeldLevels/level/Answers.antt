use Rattle.std.proofs.Common.{length}
use Rattle.std.proofs.Math.Logic.{∥∥₁_elim}
use Rattle.hw_chart_flat.proofs.Fits.{rule_fits_prop}
use Rattle.hw_chart_flat.proofs.panels.HeldLevels.level.Goals as goal

pub busy-requires : goal.busy-requires
busy-requires c = record { rule_fits = ∥∥₁_elim c.args.self.now.fits (rule_fits_prop (length c.args.self.now.table.now) c.args.self.now.rule.now) (λ fits. fits) }
