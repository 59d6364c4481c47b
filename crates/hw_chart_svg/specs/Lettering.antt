-- Lines of text.
use Rattle.std.specs.Prelude.{◌≡◌, ℕ, List, [], ◌∷◌, codes, decimal, if◌then◌else◌, nat_lt}
use Rattle.std.specs.List.{concat}
use Rattle.hw_chart_svg.specs.Names.{escaped}
use Rattle.hw_chart_svg.specs.Shortened.{shortened}
use Rattle.hw_chart_svg.specs.Widths.{width_of}

unfoldable pub text_begin : List ℕ → ℕ → ℕ → List ℕ
text_begin class x y = concat (codes "<text class=\"" ∷ class ∷ codes "\" x=\"" ∷ decimal x ∷ codes "\" y=\"" ∷ decimal y ∷ codes "\"" ∷ [])

-- a text of a class at a place
abbrev pub line : List ℕ → ℕ → ℕ → List ℕ → List ℕ
line class x y text = concat (text_begin class x y ∷ codes ">" ∷ text ∷ codes "</text>\n" ∷ [])

-- a name that is too wide for its place, with the whole of it as the title, which viewers show on request
abbrev pub shortened_line : List ℕ → ℕ → ℕ → List ℕ → ℕ → List ℕ
shortened_line class x y name place = concat (text_begin class x y ∷ codes "><title>" ∷ escaped name ∷ codes "</title>" ∷ escaped (shortened name place) ∷ codes "</text>\n" ∷ [])

-- a name of a class at a place, and the width of that
abbrev pub name_line : List ℕ → ℕ → ℕ → List ℕ → ℕ → List ℕ
name_line class x y name place = if nat_lt place (width_of name) then shortened_line class x y name place else line class x y (escaped name)

-- names that are written alike at the same place are the same: the whole name stands in each line
abbrev pub NameLinesReadBack : Type 0
NameLinesReadBack = (class : List ℕ) (x y place : ℕ) (name other : List ℕ) → name_line class x y name place ≡ name_line class x y other place → name ≡ other
