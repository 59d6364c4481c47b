-- How many tolls lines declare, one line after another.
use Rattle.std.proofs.Common.{◌≡◌, ◌∙◌, ◌+◌, ◌-◌, ◌^◌, ◌<◌, ◌++◌, ◌∷◌, ℕ, List, [], get_or, length, min, take, ap, sym, arith, length-append}
use Rattle.std.proofs.lemmas.List.{take_more}
use Rattle.std.proofs.lemmas.List.Elements.{filter_map-append}
use Rattle.hw_cert_lines.specs.declared.line.Line.{Line}
use Rattle.hw_cert_lines.specs.Tolled.{toll_of, tolls_of}

-- a count up to the greatest number, with one more line
pub tolls_next : (all : List Line) (i : ℕ) (line : Line) (count more : ℕ) → i < length all → line ≡ get_or all i line → count ≡ min (length (tolls_of (take i all))) (2 ^ 32 - 1) → more ≡ min (count + length (tolls_of (line ∷ []))) (2 ^ 32 - 1) → more ≡ min (length (tolls_of (take (i + 1) all))) (2 ^ 32 - 1)
tolls_next all i line count more lt is counted e =
    let next : tolls_of (take (i + 1) all) ≡ tolls_of (take i all) ++ tolls_of (line ∷ []) = ap tolls_of (take_more all i line lt ∙ ap (λ (one : Line). take i all ++ one ∷ []) (sym is)) ∙ filter_map-append toll_of (take i all) (line ∷ []) in
    omega (arith, ap length next ∙ length-append (tolls_of (take i all)) (tolls_of (line ∷ [])), counted, e)
