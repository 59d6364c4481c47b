-- The text of a line is its words, each but the first after a space.
use Rattle.std.proofs.Common.{◌≡◌, ℕ, List, [], ◌∷◌, ◌++◌, map, decimal, refl, sym, ap, ◌∙◌, append_assoc, append-nil}
use Rattle.std.specs.Prelude.{codes}
use Rattle.std.specs.List.{flat_map, join_with_byte}
use Rattle.hw_model.specs.declared.lit.Lit.{Lit}
use Rattle.hw_price_laws.specs.declared.toll.Block.{Block}
use Rattle.hw_cert_lines.specs.declared.line.Line.{Line}
use Rattle.hw_price_laws.specs.declared.tariff.Due.{Due}
use Rattle.hw_price_laws.specs.declared.toll.Toll.TheVariants as tolls
use Rattle.hw_cert_lines.specs.declared.line.Line.TheVariants as lines
use Rattle.hw_cert.specs.Texts.{lit_text, block_text, price_text, line_text}
use Rattle.hw_cert.specs.Worded.{spaced_number, spaced_numbers, lits_text, blocks_text, prices_text, worded}

joined : (w : List ℕ) (ws : List (List ℕ)) → join_with_byte 32 (w ∷ ws) ≡ w ++ flat_map (λ v. 32 ∷ v) ws
joined w [] = sym (append-nil w)
joined w (v ∷ vs) = ap (λ (t : List ℕ). w ++ 32 ∷ t) (joined v vs)

numbers_each : (ns : List ℕ) → flat_map (λ v. 32 ∷ v) (map decimal ns) ≡ spaced_numbers ns
numbers_each [] = refl
numbers_each (n ∷ ns) = ap (λ (t : List ℕ). spaced_number n ++ t) (numbers_each ns)

lits_each : (ls : List Lit) → flat_map (λ v. 32 ∷ v) (map lit_text ls) ≡ lits_text ls
lits_each [] = refl
lits_each (l ∷ ls) = ap (λ (t : List ℕ). (32 ∷ lit_text l) ++ t) (lits_each ls)

blocks_each : (bs : List Block) → flat_map (λ v. 32 ∷ v) (map block_text bs) ≡ blocks_text bs
blocks_each [] = refl
blocks_each (b ∷ bs) = ap (λ (t : List ℕ). (32 ∷ block_text b) ++ t) (blocks_each bs)

prices_each : (dues : List Due) → flat_map (λ v. 32 ∷ v) (map price_text dues) ≡ prices_text dues
prices_each [] = refl
prices_each (due ∷ dues) = ap (λ (t : List ℕ). (32 ∷ price_text due) ++ t) (prices_each dues)

lits_then : (ls : List Lit) (ws : List (List ℕ)) → flat_map (λ v. 32 ∷ v) (map lit_text ls ++ ws) ≡ lits_text ls ++ flat_map (λ v. 32 ∷ v) ws
lits_then [] ws = refl
lits_then (l ∷ ls) ws = ap (λ (t : List ℕ). (32 ∷ lit_text l) ++ t) (lits_then ls ws) ∙ sym (append_assoc (32 ∷ lit_text l) (lits_text ls) (flat_map (λ v. 32 ∷ v) ws))

pub line_worded : (line : Line) → line_text line ≡ worded line
line_worded (lines.Table table) = joined (codes "t") (map decimal table) ∙ ap (λ (t : List ℕ). codes "t" ++ t) (numbers_each table)
line_worded (lines.Explain n clause) = joined (codes "e") (decimal n ∷ map lit_text clause) ∙ ap (λ (t : List ℕ). codes "e" ++ (spaced_number n ++ t)) (lits_each clause)
line_worded (lines.Order v w x clause) = joined (codes "o") (decimal v ∷ decimal w ∷ decimal x ∷ map lit_text clause) ∙ ap (λ (t : List ℕ). codes "o" ++ (spaced_number v ++ (spaced_number w ++ (spaced_number x ++ t)))) (lits_each clause)
line_worded (lines.Goal clause) = joined (codes "g") (map lit_text clause) ∙ ap (λ (t : List ℕ). codes "g" ++ t) (lits_each clause)
line_worded (lines.Lemma clause hints) =
    joined (codes "l") (map lit_text clause ++ codes ";" ∷ map decimal hints) ∙ ap (λ (t : List ℕ). codes "l" ++ t) (lits_then clause (codes ";" ∷ map decimal hints) ∙ ap (λ (t : List ℕ). lits_text clause ++ (codes " ;" ++ t)) (numbers_each hints))
line_worded (lines.Delete ids) = joined (codes "d") (map decimal ids) ∙ ap (λ (t : List ℕ). codes "d" ++ t) (numbers_each ids)
line_worded (lines.Toll (tolls.Narrows blocks)) = joined (codes "n") (map block_text blocks) ∙ ap (λ (t : List ℕ). codes "n" ++ t) (blocks_each blocks)
line_worded (lines.Toll (tolls.Tugs n slot weights most)) =
    joined (codes "u") (decimal n ∷ decimal slot ∷ decimal most ∷ map decimal weights) ∙ ap (λ (t : List ℕ). codes "u" ++ (spaced_number n ++ (spaced_number slot ++ (spaced_number most ++ t)))) (numbers_each weights)
line_worded (lines.Tariff tariff) = joined (codes "y") (decimal tariff.scale ∷ map price_text tariff.dues) ∙ ap (λ (t : List ℕ). codes "y" ++ (spaced_number tariff.scale ++ t)) (prices_each tariff.dues)
line_worded (lines.Priced clause) = joined (codes "p") (map lit_text clause) ∙ ap (λ (t : List ℕ). codes "p" ++ t) (lits_each clause)
line_worded (lines.Bound bound) = joined (codes "b") (decimal bound ∷ []) ∙ ap (λ (t : List ℕ). codes "b" ++ t) (append-nil (spaced_number bound))
