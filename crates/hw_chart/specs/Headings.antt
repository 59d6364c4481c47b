-- The head of a picture: its title and ground.
use Rattle.std.specs.Prelude.{ℕ, List, [], ◌∷◌, codes}
use Rattle.std.specs.List.{concat}
use Rattle.hw_chart_svg.specs.Lettering.{line}
use Rattle.hw_chart_svg.specs.Shapes.{block}
use Rattle.hw_chart_svg.specs.Sheets.{picture_begin}
use Rattle.hw_chart.specs.declared.style.TheConstants.{STYLE}
use Rattle.hw_chart.specs.declared.outcome.CargoUnit.{CargoUnit}
use Rattle.hw_chart.specs.declared.outcome.Outcome.{Outcome}
use Rattle.hw_chart.specs.Outcomes.{badge, meaning_text, title_text}

-- the style sheet is one constant
unfoldable pub style : List ℕ
style = STYLE.now

abbrev pub ground : ℕ → List ℕ
ground height = block (codes "gr") (record { left = 0; right = 1280; top = 0; bottom = height })

-- the title, what it means, and the sizes of the problem
abbrev pub heading_lines : CargoUnit → Outcome → List ℕ → List ℕ
heading_lines unit outcome sizes = concat (line (codes "h") 48 36 (title_text unit outcome) ∷ line (codes "m") 48 56 (meaning_text unit outcome) ∷ line (codes "m r") 1268 36 sizes ∷ [])

abbrev pub heading : CargoUnit → Outcome → ℕ → List ℕ → List ℕ
heading unit outcome height sizes = concat (picture_begin 1280 height (title_text unit outcome) ∷ style ∷ ground height ∷ badge outcome.verdict ∷ heading_lines unit outcome sizes ∷ [])
