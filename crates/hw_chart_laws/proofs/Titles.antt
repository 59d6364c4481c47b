-- What a certificate shows is written without marks.
use Rattle.std.proofs.Common.{ℕ, Option, Some, None, codes, refl}
use Rattle.hw_cert_lines.specs.declared.check.Verdict.{Verdict}
use Rattle.hw_cert_lines.specs.declared.check.Verdict.TheVariants.{Optimal, Infeasible, Unfinished}
use Rattle.std.specs.List.{concat}
use Rattle.hw_chart_svg.specs.Numbers.{tonnes_label}
use Rattle.hw_chart.specs.declared.outcome.CargoUnit.{CargoUnit}
use Rattle.hw_chart.specs.declared.outcome.CargoUnit.TheVariants.{Tonnes, Plain as PlainUnit}
use Rattle.hw_chart.specs.declared.outcome.Outcome.{Outcome}
use Rattle.hw_chart.specs.Outcomes.{amount_parts, cargo_in_unit, disc_class, meaning_by, meaning_text, most_parts, sign_path, title_by, title_text, unit_text}
use Rattle.hw_chart_laws.proofs.Plain.{Plain, both, letters, nothing, number}

plain_tenths : (n : ℕ) → Plain (tonnes_label n)
unfolding tonnes_label
plain_tenths n = both (number _) (both (letters (codes ".") refl) (both (number _) nothing))

plain_cargo : (unit : CargoUnit) (cargo : ℕ) → Plain (cargo_in_unit unit cargo)
plain_cargo Tonnes cargo = plain_tenths cargo
plain_cargo PlainUnit cargo = number cargo

plain_unit : (unit : CargoUnit) → Plain (unit_text unit)
plain_unit Tonnes = letters _ refl
plain_unit PlainUnit = letters _ refl

plain_amount : (unit : CargoUnit) (cargo : ℕ) → Plain (concat (amount_parts unit cargo))
plain_amount unit cargo = both (plain_cargo unit cargo) (both (plain_unit unit) nothing)

plain_most : (unit : CargoUnit) (bound : Option ℕ) → Plain (concat (most_parts unit bound))
plain_most unit None = nothing
plain_most unit (Some bound) = both (letters (codes ", at most ") refl) (plain_amount unit bound)

title_plain : (unit : CargoUnit) (bound : Option ℕ) (verdict : Verdict) → Plain (title_by unit bound verdict)
title_plain unit bound (Optimal cargo) = both (letters (codes "Proved best: ") refl) (plain_amount unit cargo)
title_plain unit bound Infeasible = letters _ refl
title_plain unit bound (Unfinished (Some cargo)) = both (letters (codes "Not proved best: ") refl) (both (plain_cargo unit cargo) (both (plain_unit unit) (plain_most unit bound)))
title_plain unit bound (Unfinished None) = both (letters (codes "No plan") refl) (plain_most unit bound)

pub plain_title : (unit : CargoUnit) (outcome : Outcome) → Plain (title_text unit outcome)
plain_title unit outcome = title_plain unit outcome.bound outcome.verdict

meaning_plain : (unit : CargoUnit) (bound : Option ℕ) (verdict : Verdict) → Plain (meaning_by unit bound verdict)
meaning_plain unit bound (Optimal cargo) = letters _ refl
meaning_plain unit bound Infeasible = letters _ refl
meaning_plain unit None (Unfinished (Some cargo)) = letters _ refl
meaning_plain unit (Some bound) (Unfinished (Some cargo)) = both (letters (codes "this timetable is permitted; the certificate proves that none carries more than ") refl) (plain_amount unit bound)
meaning_plain unit None (Unfinished None) = letters _ refl
meaning_plain unit (Some bound) (Unfinished None) = both (letters (codes "the certificate has no timetable; it proves that none carries more than ") refl) (plain_amount unit bound)

pub plain_meaning : (unit : CargoUnit) (outcome : Outcome) → Plain (meaning_text unit outcome)
plain_meaning unit outcome = meaning_plain unit outcome.bound outcome.verdict

pub plain_disc : (verdict : Verdict) → Plain (disc_class verdict)
plain_disc (Optimal cargo) = letters _ refl
plain_disc Infeasible = letters _ refl
plain_disc (Unfinished best) = letters _ refl

pub plain_sign : (verdict : Verdict) → Plain (sign_path verdict)
plain_sign (Optimal cargo) = letters _ refl
plain_sign Infeasible = letters _ refl
plain_sign (Unfinished best) = letters _ refl
