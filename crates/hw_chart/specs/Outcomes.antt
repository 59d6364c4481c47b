-- What a certificate shows, as the title, the meaning and the badge of a picture.
use Rattle.std.specs.Prelude.{ℕ, List, [], ◌∷◌, ◌++◌, Option, Some, None, codes, decimal}
use Rattle.std.specs.List.{concat}
use Rattle.hw_cert_lines.specs.declared.check.Verdict.{Verdict}
use Rattle.hw_cert_lines.specs.declared.check.Verdict.TheVariants.{Optimal, Infeasible, Unfinished}
use Rattle.hw_chart_svg.specs.Numbers.{tonnes_label}
use Rattle.hw_chart_svg.specs.Shapes.{shape}
use Rattle.hw_chart.specs.declared.outcome.CargoUnit.{CargoUnit}
use Rattle.hw_chart.specs.declared.outcome.CargoUnit.TheVariants.{Tonnes, Plain}
use Rattle.hw_chart.specs.declared.outcome.Outcome.{Outcome}

-- a cargo as it is written
abbrev pub cargo_in_unit : CargoUnit → ℕ → List ℕ
cargo_in_unit Tonnes cargo = tonnes_label cargo
cargo_in_unit Plain cargo = decimal cargo

abbrev pub unit_text : CargoUnit → List ℕ
unit_text Tonnes = codes " t"
unit_text Plain = []

-- a cargo with its unit
abbrev pub amount_parts : CargoUnit → ℕ → List (List ℕ)
amount_parts unit cargo = cargo_in_unit unit cargo ∷ unit_text unit ∷ []

-- what no permitted timetable carries more than, where that is known
abbrev pub most_parts : CargoUnit → Option ℕ → List (List ℕ)
most_parts unit None = []
most_parts unit (Some bound) = codes ", at most " ∷ amount_parts unit bound

-- the title by a bound and a verdict. A bound is spoken of only where the verdict is unfinished
abbrev pub title_by : CargoUnit → Option ℕ → Verdict → List ℕ
title_by unit bound (Optimal cargo) = concat (codes "Proved best: " ∷ amount_parts unit cargo)
title_by unit bound Infeasible = codes "Infeasible"
title_by unit bound (Unfinished (Some cargo)) = concat (codes "Not proved best: " ∷ cargo_in_unit unit cargo ∷ unit_text unit ∷ most_parts unit bound)
title_by unit bound (Unfinished None) = concat (codes "No plan" ∷ most_parts unit bound)

abbrev pub title_text : CargoUnit → Outcome → List ℕ
title_text unit outcome = title_by unit outcome.bound outcome.verdict

-- what is meant, by a bound and a verdict
abbrev pub meaning_by : CargoUnit → Option ℕ → Verdict → List ℕ
meaning_by unit bound (Optimal cargo) = codes "the certificate proves that no permitted timetable carries more"
meaning_by unit bound Infeasible = codes "the certificate proves that no timetable is permitted"
meaning_by unit None (Unfinished (Some cargo)) = codes "this timetable is permitted; of others nothing is proved"
meaning_by unit (Some bound) (Unfinished (Some cargo)) = concat (codes "this timetable is permitted; the certificate proves that none carries more than " ∷ amount_parts unit bound)
meaning_by unit None (Unfinished None) = codes "the certificate has no timetable and proves nothing"
meaning_by unit (Some bound) (Unfinished None) = concat (codes "the certificate has no timetable; it proves that none carries more than " ∷ amount_parts unit bound)

abbrev pub meaning_text : CargoUnit → Outcome → List ℕ
meaning_text unit outcome = meaning_by unit outcome.bound outcome.verdict

abbrev pub disc_class : Verdict → List ℕ
disc_class (Optimal cargo) = codes "tu"
disc_class Infeasible = codes "in"
disc_class (Unfinished best) = codes "be"

-- a tick, a cross or a bar
abbrev pub sign_path : Verdict → List ℕ
sign_path (Optimal cargo) = codes "M21 28l5 5l8-9"
sign_path Infeasible = codes "M22 23l10 10M32 23l-10 10"
sign_path (Unfinished best) = codes "M21 28h12"

-- a sign in a disc
abbrev pub badge : Verdict → List ℕ
badge verdict = shape (disc_class verdict) (codes "M16 28a11 11 0 1 0 22 0a11 11 0 1 0-22 0z") ++ shape (codes "ck") (sign_path verdict)
