-- Lines that are sent one after another.
use Rattle.std.proofs.Common.{◌≡◌, ◌<◌, ◌+◌, ℕ, List, [], ◌∷◌, ◌++◌, map, take, length, get_or, refl, sym, ap, ◌∙◌, append_assoc}
use Rattle.std.proofs.lemmas.List.{take_more}
use Rattle.hw_text.specs.Parts.{ended_lines}
use Rattle.hw_cert_lines.specs.declared.line.Line.{Line}
use Rattle.hw_cert.specs.Texts.{line_text}

ended_more : (all : List Line) (line : Line) → ended_lines (map line_text (all ++ line ∷ [])) ≡ ended_lines (map line_text all) ++ (line_text line ++ 10 ∷ [])
ended_more [] line = refl
ended_more (first ∷ more) line = ap (λ (rest : List ℕ). line_text first ++ 10 ∷ rest) (ended_more more line) ∙ sym (append_assoc (line_text first) (10 ∷ ended_lines (map line_text more)) (line_text line ++ 10 ∷ []))

-- the text of one more line
pub ended_next : (all : List Line) (i : ℕ) (line : Line) → i < length all → line ≡ get_or all i line → ended_lines (map line_text (take (i + 1) all)) ≡ ended_lines (map line_text (take i all)) ++ (line_text line ++ 10 ∷ [])
ended_next all i line lt is =
    ap (λ (lines : List Line). ended_lines (map line_text lines)) (take_more all i line lt)
    ∙ ended_more (take i all) (get_or all i line)
    ∙ ap (λ (l : Line). ended_lines (map line_text (take i all)) ++ (line_text l ++ 10 ∷ [])) (sym is)
