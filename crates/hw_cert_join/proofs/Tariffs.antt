-- Tariffs within their limits.
use Rattle.std.proofs.Common.{◌≡◌, Bool, true, false, ◌&&◌, Option, None, Some, map, refl}
use Rattle.std.specs.Prelude.{IfSome, option_and_then}
use Rattle.std.proofs.lemmas.Bool.{and_parts}
use Rattle.hw_lemmas.specs.Operators.{◌or_else◌}
use Rattle.hw_price_laws.specs.declared.tariff.Due.{Due}
use Rattle.hw_price_laws.specs.declared.tariff.Tariff.{Tariff}
use Rattle.hw_model.specs.Problem.{Problem}
use Rattle.hw_cert_lines.specs.declared.line.Line.{Line}
use Rattle.hw_cert_lines.specs.declared.line.Line.TheVariants as lines
use Rattle.hw_cert_lines.specs.Lines.{clause_of}
use Rattle.hw_cert_lines.specs.Valid.{LineFits}
use Rattle.hw_cert.specs.declared.stop.FormWord.TheVariants.{Form, Range}
use Rattle.hw_cert.specs.Fits.{ascends, prices_small, word_unless}
use Rattle.hw_cert.proofs.Shapes.{fits_problem}
use Rattle.hw_cert_join.specs.Numbering.{IsAnyTariff}

neither : (a b : Bool) → a ≡ true → b ≡ true → (word_unless Form a or_else word_unless Range b) ≡ None
neither true true e h = refl
neither false b e h = absurd cc
neither true false e h = absurd cc

pub any_tariff : (tariff : Tariff) → (prices_small tariff.scale tariff.dues && ascends 0 (map (λ (due : Due). due.toll) tariff.dues)) ≡ true → IsAnyTariff (lines.Tariff tariff)
any_tariff tariff h = record { fits = λ f. limits f; none = refl }
  where
    limits : (f : Problem) → LineFits f (lines.Tariff tariff)
    limits f =
        let p = and_parts (prices_small tariff.scale tariff.dues) (ascends 0 (map (λ (due : Due). due.toll) tariff.dues)) h in
        fits_problem f (lines.Tariff tariff) (neither (prices_small tariff.scale tariff.dues) (ascends 0 (map (λ (due : Due). due.toll) tariff.dues)) p.0 p.1)

pub offered_fits : (f : Problem) (found : Option Line) → IfSome found IsAnyTariff → IfSome found (LineFits f)
offered_fits f None h = tt
offered_fits f (Some line) h = h.fits f

pub offers_none : (found : Option Line) → IfSome found IsAnyTariff → option_and_then clause_of found ≡ None
offers_none None h = refl
offers_none (Some line) h = h.none
