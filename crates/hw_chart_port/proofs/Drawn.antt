-- A picture is drawn over as many slots as it shows, and part by part.
use Rattle.std.proofs.Common.{◌≡◌, ◌++◌, ◌∙◌, ℕ, List, [], ◌∷◌, Option, ap, sym, subst, append_assoc, append-nil}
use Rattle.hw_desk.specs.Writers.{WriterState, Puts}
use Rattle.std.specs.List.{concat}
use Rattle.hw_chart.specs.declared.outcome.Outcome.{Outcome}
use Rattle.hw_chart.specs.Legends.{LegendEntry}
use Rattle.hw_port.specs.Whole.{Parts}
use Rattle.hw_tide.specs.Levels.{TideParts}
use Rattle.hw_chart_port.specs.Pictures.{picture_of_chart, port_picture}
use Rattle.hw_chart_port.specs.Rests.{port_rest, rest_of_picture}
use Rattle.hw_chart_port.specs.Spans.{port_picture_span}

pub drawn : (p : Parts) (h : TideParts) (table : Option (List ℕ)) (outcome : Outcome) (span : ℕ) (x y : WriterState) → span ≡ port_picture_span p table → Puts (picture_of_chart (record { port = p; tide = h; table = table; span = span }) outcome) x y → Puts (port_picture p h table outcome) x y
unfolding port_picture
drawn p h table outcome span x y e drawing = subst (λ n. Puts (picture_of_chart (record { port = p; tide = h; table = table; span = n }) outcome) x y) e drawing

-- the same of what it has between its head and its end
pub rest_drawn : (p : Parts) (h : TideParts) (table : Option (List ℕ)) (more : List LegendEntry) (span : ℕ) (x y : WriterState) → span ≡ port_picture_span p table → Puts (rest_of_picture (record { port = p; tide = h; table = table; span = span }) more) x y → Puts (port_rest p h table more) x y
unfolding port_rest
rest_drawn p h table more span x y e drawing = subst (λ n. Puts (rest_of_picture (record { port = p; tide = h; table = table; span = n }) more) x y) e drawing

-- the parts of a picture, grouped by what its rest has
pub regrouped : (head hint legend panels times line end : List ℕ) → concat ((head ++ (hint ++ legend)) ∷ panels ∷ concat (times ∷ line ∷ end ∷ []) ∷ []) ≡ concat (head ∷ hint ∷ concat (legend ∷ panels ∷ times ∷ line ∷ []) ∷ end ∷ [])
regrouped head hint legend panels times line end =
    ap (λ (foot : List ℕ). (head ++ (hint ++ legend)) ++ (panels ++ foot)) (append-nil (concat (times ∷ line ∷ end ∷ [])))
    ∙ append_assoc head (hint ++ legend) (concat (panels ∷ times ∷ line ∷ end ∷ []))
    ∙ ap (λ (text : List ℕ). head ++ text) (append_assoc hint legend (concat (panels ∷ times ∷ line ∷ end ∷ [])))
    ∙ ap (λ (text : List ℕ). head ++ (hint ++ text)) (sym inner)
  where
    inner : concat (legend ∷ panels ∷ times ∷ line ∷ []) ++ concat (end ∷ []) ≡ concat (legend ∷ panels ∷ times ∷ line ∷ end ∷ [])
    inner =
        append_assoc legend (concat (panels ∷ times ∷ line ∷ [])) (concat (end ∷ []))
        ∙ ap (λ (text : List ℕ). legend ++ text) (append_assoc panels (concat (times ∷ line ∷ [])) (concat (end ∷ []))
        ∙ ap (λ (text : List ℕ). panels ++ text) (append_assoc times (concat (line ∷ [])) (concat (end ∷ []))
        ∙ ap (λ (text : List ℕ). times ++ text) (append_assoc line [] (concat (end ∷ [])))))
