use Rattle.std.proofs.Common.{◌≡◌, None, length, sym, subst}
use Rattle.hw_cert_lines.specs.Refusals.{first_unknown}
use Rattle.hw_cert_lines.proofs.Priced.{tariff_fits}
use Rattle.hw_price_laws.specs.Prices.{TariffFits}
use Rattle.hw_cert_laws.proofs.Priced.{known_from}
use Rattle.hw_check.proofs.checker.Checker.with_tariff.Goals as goal

pub put_in_force-requires-clause-fits : goal.put_in_force-requires-clause-fits
put_in_force-requires-clause-fits c =
    let count = length c.self.inside.prices.tolls in
    let known : first_unknown count c.args.tariff.now.dues ≡ None = subst (λ s. first_unknown (length s.kept.tolls) c.args.tariff.now.dues ≡ None) (sym c.self.view_is) c.requires.known in
    let fits : TariffFits count c.args.tariff.now = tariff_fits count c.args.tariff.now c.self.invariant.good.few c.requires.fits (known_from count c.args.tariff.now.dues known) in
    subst (TariffFits count) (sym c.in_ok-copied.ensures.value) fits

pub invariant_of-self : goal.invariant_of-self
invariant_of-self c = record {
  lits = c.self.invariant.lits;
  bounded = c.self.invariant.bounded;
  good = c.in_ok-put_in_force.ensures.good;
  fits = c.self.invariant.fits;
}
