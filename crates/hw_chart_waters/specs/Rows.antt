-- High and low waters, and their labels, by hand.
use Rattle.std.specs.Prelude.{◌≡◌, ℕ, ℤ, pos, negsuc, List, [], ◌∷◌, codes, length, slice_index_or}
use Rattle.hw_tide.specs.Levels.{TideParts}
use Rattle.hw_chart_waters.specs.declared.stand.Stand.{Stand}
use Rattle.hw_chart_waters.specs.declared.stand.WaterKind.{WaterKind}
use Rattle.hw_chart_waters.specs.declared.stand.WaterKind.TheVariants.{High, Low}
use Rattle.hw_chart_waters.specs.Columns.{ColumnParts}
use Rattle.hw_chart_svg.specs.Widths.{small_width}
use Rattle.hw_chart_waters.specs.Labels.{named_stands, stand_half, waters_text}
use Rattle.hw_chart_waters.specs.Stands.{stands}

-- the rows from one to before another
abbrev pub rows_until : ℕ → ℕ → Stand
rows_until first end = record { first = first; end = end }

-- the waters among these heights
abbrev pub waters_among : WaterKind → List ℤ → List Stand
waters_among kind heights = stands kind (λ row. slice_index_or heights row (pos 0)) (length heights)

-- heights at one waypoint, every quarter of an hour from six in the morning on, and how many slots are shown
abbrev pub tide_at_one : List ℤ → TideParts
tide_at_one heights = record { rows = length heights; columns = 1; heights = heights }

abbrev pub morning : List ℤ → ℕ → ColumnParts
morning heights span = record { tide = tide_at_one heights; place = 0; rows = length heights; span = span; minutes = 15; midnight = 360 }

-- up and down by a centimetre from row to row
abbrev pub ripples : List ℤ
ripples = pos 0 ∷ pos 1 ∷ pos 0 ∷ pos 1 ∷ pos 0 ∷ pos 1 ∷ pos 0 ∷ pos 1 ∷ pos 0 ∷ pos 1 ∷ pos 0 ∷ pos 1 ∷ pos 0 ∷ pos 1 ∷ pos 0 ∷ pos 1 ∷ []

-- what these definitions say of them
pub record WaterRows : Type 0 where
  -- two rows at the top are one high water
  pub flat_top : waters_among High (pos 100 ∷ pos 250 ∷ pos 250 ∷ pos 120 ∷ []) ≡ rows_until 1 3 ∷ []
  -- the water rises on after a flat part
  pub ledge : waters_among High (pos 1 ∷ pos 2 ∷ pos 2 ∷ pos 3 ∷ []) ≡ []
  pub ledge_low : waters_among Low (pos 1 ∷ pos 2 ∷ pos 2 ∷ pos 3 ∷ []) ≡ []
  -- nothing is known before the first row and after the last one
  pub at_the_edges : waters_among High (pos 5 ∷ pos 4 ∷ pos 6 ∷ []) ≡ []
  pub between_them : waters_among Low (pos 5 ∷ pos 4 ∷ pos 6 ∷ []) ≡ rows_until 1 2 ∷ []
  pub flat_to_the_end : waters_among High (pos 5 ∷ pos 6 ∷ pos 6 ∷ []) ≡ []
  pub all_flat : waters_among High (pos 7 ∷ pos 7 ∷ pos 7 ∷ []) ≡ []
  -- the last high water is lower than the first low one
  pub to_neaps : waters_among High (pos 10 ∷ pos 40 ∷ pos 30 ∷ pos 35 ∷ pos 20 ∷ pos 25 ∷ pos 5 ∷ []) ≡ rows_until 1 2 ∷ rows_until 3 4 ∷ rows_until 5 6 ∷ []
  pub low_waters : waters_among Low (pos 10 ∷ pos 40 ∷ pos 30 ∷ pos 35 ∷ pos 20 ∷ pos 25 ∷ pos 5 ∷ []) ≡ rows_until 2 3 ∷ rows_until 4 5 ∷ []
  pub below_zero : waters_among High (negsuc 2 ∷ negsuc 0 ∷ negsuc 1 ∷ []) ≡ rows_until 1 2 ∷ []
  -- the middle of the second row and the third one
  pub label : waters_text (morning (pos 100 ∷ pos 250 ∷ pos 250 ∷ pos 120 ∷ []) 4) High 134 ≡ codes "<text class=\"m c\" x=\"532\" y=\"134\">06:22 2.50</text>\n"
  pub low_label : waters_text (morning (pos 0 ∷ negsuc 24 ∷ pos 3 ∷ []) 4) Low 189 ≡ codes "<text class=\"m c\" x=\"442\" y=\"189\">06:15 -0.25</text>\n"
  -- nine digits, a colon, two points and a blank
  pub measure : small_width (codes "06:22 2.50") ≡ 67
  pub half : stand_half (morning ripples 40) (rows_until 1 2) ≡ 34
  -- of seven high waters three have room: the others would meet these
  pub room : named_stands (morning ripples 40) High ≡ rows_until 1 2 ∷ rows_until 7 8 ∷ rows_until 13 14 ∷ []
  -- the first is moved to the edge of the plot
  pub moved : waters_text (morning (pos 0 ∷ pos 1 ∷ pos 0 ∷ []) 40) High 134 ≡ codes "<text class=\"m c\" x=\"206\" y=\"134\">06:15 0.01</text>\n"
