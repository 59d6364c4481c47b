-- Panels of tugs against a fleet by the hour, which hasn't as many tugs in every slot. The fleet of such a panel is the greatest.
use Rattle.std.specs.Prelude.{ℕ, ◌+◌, ◌-◌, List, [], ◌∷◌, ◌++◌, codes, decimal}
use Rattle.std.specs.List.{concat}
use Rattle.hw_chart_svg.specs.Figures.{steps}
use Rattle.hw_chart_svg.specs.Lettering.{line}
use Rattle.hw_chart_svg.specs.Sheets.{svg_end}
use Rattle.hw_chart.specs.declared.panel.Panel.{Panel}
use Rattle.hw_chart.specs.Figures.{greatest_level, whole_level}
use Rattle.hw_chart.specs.Panels.{panel_tall, panel_window}

-- the least and the greatest number of tugs
abbrev pub hours_label : Panel → ℕ → List ℕ
hours_label p least = line (codes "b") 16 (p.y + 16) (codes "Tugs") ++ line (codes "m") 16 (p.y + 32) (concat (codes "fleet of " ∷ decimal least ∷ codes " to " ∷ decimal p.fleet ∷ []))

-- over the slots in which tugs are counted, in each as high as the fleet in it
abbrev pub hours_ground : Panel → (ℕ → ℕ) → List ℕ
hours_ground p fleet = steps (codes "wi") (λ slot. panel_tall p - fleet slot) 0 p.slots (panel_tall p)

-- in each slot the tugs that there are and those that are held, and where these are all
abbrev pub hours_inside : Panel → (ℕ → ℕ) → (ℕ → ℕ) → List ℕ
hours_inside p fleet held = concat (hours_ground p fleet ∷ steps (codes "tu") (λ slot. panel_tall p - held slot) 0 p.slots (panel_tall p) ∷ steps (codes "fu") (λ slot. whole_level (fleet slot) (panel_tall p) (held slot)) 0 p.slots (panel_tall p) ∷ [])

abbrev pub at_most_of_hours : Panel → ℕ → ℕ → List ℕ
at_most_of_hours p least most = line (codes "m") 900 (p.y + 16) (concat (codes "at most " ∷ decimal most ∷ codes " of " ∷ decimal least ∷ codes " to " ∷ decimal p.fleet ∷ codes " held at once" ∷ []))

-- a panel where there is no timetable
abbrev pub unplanned_hours : Panel → ℕ → (ℕ → ℕ) → List ℕ
unplanned_hours p least fleet = concat (hours_label p least ∷ panel_window p ∷ hours_ground p fleet ∷ svg_end ∷ [])

-- a panel with the tugs that a timetable holds in each slot
abbrev pub planned_hours : Panel → ℕ → (ℕ → ℕ) → (ℕ → ℕ) → List ℕ
planned_hours p least fleet held = concat (hours_label p least ∷ panel_window p ∷ hours_inside p fleet held ∷ svg_end ∷ at_most_of_hours p least (greatest_level held p.slots) ∷ [])
