use Rattle.std.proofs.Common.{◌<◌, length, sym, subst}
use Rattle.hw_price_laws.specs.Tolls.{IsToll}
use Rattle.hw_check.proofs.checker.Checker.with_toll.Goals as goal

pub invariant_of-self : goal.invariant_of-self
invariant_of-self c =
    let f = c.self.inside.flat.now in
    let toll : IsToll f c.args.toll = subst (λ s. IsToll s.problem c.args.toll) (sym c.self.view_is) c.requires.toll in
    let few : length c.self.inside.prices.tolls < 10_000 = subst (λ s. length s.kept.tolls < 10_000) (sym c.self.view_is) c.requires.few in
    record {
      lits = c.self.invariant.lits;
      bounded = c.self.invariant.bounded;
      good = c.in_ok-declare.ensures.good f c.self.invariant.good toll few;
      fits = c.self.invariant.fits;
    }
