use Rattle.std.proofs.Common.{◌≡◌, ◌∙◌, ◌&&◌, true, map, sym}
use Rattle.hw_price_laws.specs.declared.tariff.Due.{Due}
use Rattle.hw_cert.specs.Fits.{ascends, prices_small}
use Rattle.hw_cert_join.proofs.Tariffs.{any_tariff}
use Rattle.hw_cert_join.proofs.numbering.joined_tariff.Goals as goal

pub returns : goal.returns
returns c =
    let good : (prices_small c.tariff.inside.0.0 c.sort_by_key.new.self.items && ascends 0 (map (λ (due : Due). due.toll) c.sort_by_key.new.self.items)) ≡ true = rw c.deref.ensures.value at (sym c.is_tariff.ensures ∙ c.if-not-is_tariff.false) in
    record { fits = any_tariff (record { scale = c.tariff.inside.0.0; dues = c.sort_by_key.new.self.items }) good }
