-- Shapes as text: a class, which says how a shape is filled, and a path.
use Rattle.std.specs.Prelude.{ℕ, List, [], ◌∷◌, codes, decimal}
use Rattle.std.specs.List.{concat}
use Rattle.hw_chart_svg.specs.declared.area.Area.{Area}

unfoldable pub shape_begin : List ℕ → List ℕ
shape_begin class = concat (codes "<path class=\"" ∷ class ∷ codes "\" d=\"" ∷ [])

-- a shape of a class, along a path
abbrev pub shape : List ℕ → List ℕ → List ℕ
shape class path = concat (shape_begin class ∷ path ∷ codes "\"/>\n" ∷ [])

-- the path around an area
unfoldable pub area_path : Area → List ℕ
area_path a = concat (codes "M" ∷ decimal a.left ∷ codes " " ∷ decimal a.top ∷ codes "H" ∷ decimal a.right ∷ codes "V" ∷ decimal a.bottom ∷ codes "H" ∷ decimal a.left ∷ codes "z" ∷ [])

-- a filled area
abbrev pub block : List ℕ → Area → List ℕ
block class area = shape class (area_path area)

-- a filled area with a title, which viewers show on request
abbrev pub titled : List ℕ → Area → List ℕ → List ℕ
titled class area title = concat (shape_begin class ∷ area_path area ∷ codes "\"><title>" ∷ title ∷ codes "</title></path>\n" ∷ [])
