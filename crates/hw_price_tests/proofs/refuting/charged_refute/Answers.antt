use Rattle.std.proofs.Common.{rules, ◌≡◌}
use Rattle.hw_price_laws.specs.Computed.{prices_refute}
use Rattle.hw_price_laws.proofs.Tops.{means}
use Rattle.hw_price_tests.proofs.refuting.charged_refute.Goals as goal

pub returns-clause-means : goal.returns-clause-means
returns-clause-means c =
    let told : c.falls_short.result ≡ prices_refute c.args.flat.now c.args.tolls.now c.args.tariff.now c.args.best c.args.room.now = search rules in
    means c.args.flat.now c.args.tolls.now c.args.tariff.now c.args.best c.args.room.now c.falls_short.result c.charged_balances-balance.ensures.limits c.requires.tolls told
