-- A picture, part by part.
use Rattle.std.proofs.Common.{◌≡◌, ◌++◌, ◌∙◌, ℕ, List, [], ◌∷◌, ap, sym, append_assoc, append-nil}
use Rattle.std.specs.List.{concat}

-- the parts of a picture, grouped by what its rest has
pub regrouped : (heading legend body grid line end : List ℕ) → concat ((heading ++ legend) ∷ body ∷ concat (grid ∷ line ∷ end ∷ []) ∷ []) ≡ concat (heading ∷ concat (legend ∷ body ∷ (grid ++ line) ∷ []) ∷ end ∷ [])
regrouped heading legend body grid line end =
    ap (λ (foot : List ℕ). (heading ++ legend) ++ (body ++ foot)) (append-nil (concat (grid ∷ line ∷ end ∷ [])))
    ∙ append_assoc heading legend (concat (body ∷ grid ∷ line ∷ end ∷ []))
    ∙ ap (λ (text : List ℕ). heading ++ text) (sym inner)
  where
    lines : ((grid ++ line) ++ []) ++ concat (end ∷ []) ≡ concat (grid ∷ line ∷ end ∷ [])
    lines = append_assoc (grid ++ line) [] (concat (end ∷ [])) ∙ append_assoc grid line (concat (end ∷ []))

    inner : concat (legend ∷ body ∷ (grid ++ line) ∷ []) ++ concat (end ∷ []) ≡ concat (legend ∷ body ∷ grid ∷ line ∷ end ∷ [])
    inner =
        append_assoc legend (concat (body ∷ (grid ++ line) ∷ [])) (concat (end ∷ []))
        ∙ ap (λ (text : List ℕ). legend ++ text) (append_assoc body ((grid ++ line) ++ []) (concat (end ∷ [])) ∙ ap (λ (text : List ℕ). body ++ text) lines)
