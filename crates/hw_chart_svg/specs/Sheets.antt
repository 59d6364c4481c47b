-- A picture, and the windows and lists on it.
use Rattle.std.specs.Prelude.{ℕ, List, [], ◌∷◌, codes, decimal}
use Rattle.std.specs.List.{concat}
use Rattle.hw_chart_svg.specs.declared.sheet.Window.{Window}

abbrev pub svg_end : List ℕ
svg_end = codes "</svg>\n"

abbrev pub title_end : List ℕ
title_end = codes "</title>\n"

abbrev pub list_begin : List ℕ
list_begin = codes "<g role=\"list\">\n"

abbrev pub item_begin : List ℕ
item_begin = codes "<g role=\"listitem\"><title>"

abbrev pub group_end : List ℕ
group_end = codes "</g>\n"

unfoldable pub size_begin : ℕ → ℕ → List ℕ
size_begin width height = concat (codes "<svg xmlns=\"http://www.w3.org/2000/svg\" width=\"" ∷ decimal width ∷ codes "\" height=\"" ∷ decimal height ∷ codes "\" viewBox=\"0 0 " ∷ decimal width ∷ codes " " ∷ decimal height ∷ codes "\" role=\"graphics-document\" aria-label=\"" ∷ [])

-- a picture begins, of a size and with a title
abbrev pub picture_begin : ℕ → ℕ → List ℕ → List ℕ
picture_begin width height title = concat (size_begin width height ∷ title ∷ codes "\" xml:lang=\"en\" xml:space=\"preserve\">\n<title>" ∷ title ∷ title_end ∷ [])

-- a picture of what stands on it
abbrev pub picture : ℕ → ℕ → List ℕ → List ℕ → List ℕ
picture width height title inside = concat (picture_begin width height title ∷ inside ∷ svg_end ∷ [])

-- a window begins: units of its own to the right and down
unfoldable pub window_begin : Window → List ℕ
window_begin w = concat (codes "<svg x=\"" ∷ decimal w.x ∷ codes "\" y=\"" ∷ decimal w.y ∷ codes "\" width=\"" ∷ decimal w.width ∷ codes "\" height=\"" ∷ decimal w.height ∷ codes "\" viewBox=\"0 0 " ∷ decimal w.across ∷ codes " " ∷ decimal w.down ∷ codes "\" preserveAspectRatio=\"none\">\n" ∷ [])

-- a window with what is seen in it
abbrev pub window : Window → List ℕ → List ℕ
window w inside = concat (window_begin w ∷ inside ∷ svg_end ∷ [])

-- a list of what stands in it
abbrev pub list_of : List ℕ → List ℕ
list_of inside = concat (list_begin ∷ inside ∷ group_end ∷ [])

-- an item of a list, with a title
abbrev pub item : List ℕ → List ℕ → List ℕ
item title inside = concat (item_begin ∷ title ∷ title_end ∷ inside ∷ group_end ∷ [])
