-- The head of a repair's picture: what a certificate of the repair shows, by the problem's own cargo.
use Rattle.std.specs.Prelude.{ℕ, List, [], ◌∷◌, ◌++◌, Option, Some, None, codes, decimal, option_map}
use Rattle.std.specs.List.{concat}
use Rattle.hw_cert_lines.specs.declared.check.Verdict.{Verdict}
use Rattle.hw_cert_lines.specs.declared.check.Verdict.TheVariants.{Optimal, Infeasible, Unfinished}
use Rattle.hw_chart_svg.specs.Lettering.{line}
use Rattle.hw_chart_svg.specs.Sheets.{picture_begin}
use Rattle.hw_chart.specs.Headings.{ground, style}
use Rattle.hw_chart.specs.Outcomes.{badge, title_text}
use Rattle.hw_chart.specs.declared.outcome.CargoUnit.{CargoUnit}
use Rattle.hw_chart.specs.declared.outcome.Outcome.{Outcome}
use Rattle.hw_repair.specs.Repaired.{own_cargo}
use Rattle.hw_chart_repair.specs.declared.sheet.TheConstants.{MARKS}

-- the style sheet of the marks is one constant
unfoldable pub marks_style : List ℕ
marks_style = MARKS.now

-- a verdict on the repair's problem, by the problem's own cargo
abbrev pub own_verdict : ℕ → Verdict → Verdict
own_verdict ships (Optimal d) = Optimal (own_cargo ships d)
own_verdict ships Infeasible = Infeasible
own_verdict ships (Unfinished best) = Unfinished (option_map (own_cargo ships) best)

abbrev pub own_outcome : ℕ → Outcome → Outcome
own_outcome ships o = record { verdict = own_verdict ships o.verdict; bound = option_map (own_cargo ships) o.bound }

-- how many ships are moved, where there is a timetable
abbrev pub moved_count_text : Option ℕ → List ℕ
moved_count_text None = []
moved_count_text (Some count) = concat (codes ", moved " ∷ decimal count ∷ [])

abbrev pub repair_title : CargoUnit → Outcome → Option ℕ → List ℕ
repair_title unit o count = title_text unit o ++ moved_count_text count

-- what is meant, by a bound and a verdict
abbrev pub repair_meaning_by : Option ℕ → Verdict → List ℕ
repair_meaning_by bound (Optimal cargo) = codes "the certificate proves that no timetable that meets the plan carries more, or as much with fewer ships moved"
repair_meaning_by bound Infeasible = codes "the certificate proves that no timetable meets the plan"
repair_meaning_by None (Unfinished (Some cargo)) = codes "this timetable meets the plan; of others nothing is proved"
repair_meaning_by (Some bound) (Unfinished (Some cargo)) = codes "this timetable meets the plan; the certificate proves that none that does carries more than the bound"
repair_meaning_by None (Unfinished None) = codes "the certificate has no timetable and proves nothing"
repair_meaning_by (Some bound) (Unfinished None) = codes "the certificate has no timetable; it proves that none that meets the plan carries more than the bound"

abbrev pub repair_meaning_text : Outcome → List ℕ
repair_meaning_text o = repair_meaning_by o.bound o.verdict

-- the title, what it means, and the sizes of the problem
abbrev pub head_lines : List ℕ → Outcome → List ℕ → List ℕ
head_lines title o sizes = concat (line (codes "h") 48 36 title ∷ line (codes "m") 48 56 (repair_meaning_text o) ∷ line (codes "m r") 1268 36 sizes ∷ [])

abbrev pub head_by : List ℕ → Outcome → ℕ → List ℕ → List ℕ
head_by title o height sizes = concat (picture_begin 1280 height title ∷ style ∷ marks_style ∷ ground height ∷ badge o.verdict ∷ head_lines title o sizes ∷ [])

unfoldable pub repair_picture_head : CargoUnit → Outcome → Option ℕ → ℕ → List ℕ → List ℕ
repair_picture_head unit o count height sizes = head_by (repair_title unit o count) o height sizes
