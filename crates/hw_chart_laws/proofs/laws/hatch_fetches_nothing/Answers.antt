use Rattle.std.proofs.Common.{refl}
use Rattle.hw_chart_laws.proofs.laws.hatch_fetches_nothing.Goals as goal

pub returns : goal.returns
returns c = record { no_import = refl; no_outside = refl }
