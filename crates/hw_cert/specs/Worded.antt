-- The text of a line, word by word.
use Rattle.std.specs.Prelude.{ℕ, List, ◌∷◌, ◌++◌, codes, decimal}
use Rattle.std.specs.List.{flat_map}
use Rattle.hw_model.specs.declared.lit.Lit.{Lit}
use Rattle.hw_price_laws.specs.declared.toll.Block.{Block}
use Rattle.hw_cert_lines.specs.declared.line.Line.{Line}
use Rattle.hw_cert_lines.specs.declared.line.Line.TheVariants as lines
use Rattle.hw_price_laws.specs.declared.tariff.Due.{Due}
use Rattle.hw_price_laws.specs.declared.toll.Toll.TheVariants as tolls
use Rattle.hw_cert.specs.Texts.{lit_text, block_text, price_text}

-- a number after a space
abbrev pub spaced_number : ℕ → List ℕ
spaced_number n = 32 ∷ decimal n

abbrev pub spaced_numbers : List ℕ → List ℕ
spaced_numbers = flat_map spaced_number

-- literals, each after a space
abbrev pub lits_text : List Lit → List ℕ
lits_text = flat_map (λ lit. 32 ∷ lit_text lit)

-- blocks, each after a space
abbrev pub blocks_text : List Block → List ℕ
blocks_text = flat_map (λ block. 32 ∷ block_text block)

-- prices, each after a space
abbrev pub prices_text : List Due → List ℕ
prices_text = flat_map (λ due. 32 ∷ price_text due)

-- the text of a line
abbrev pub worded : Line → List ℕ
worded (lines.Table table) = codes "t" ++ spaced_numbers table
worded (lines.Explain n clause) = codes "e" ++ (spaced_number n ++ lits_text clause)
worded (lines.Order v w x clause) = codes "o" ++ (spaced_number v ++ (spaced_number w ++ (spaced_number x ++ lits_text clause)))
worded (lines.Goal clause) = codes "g" ++ lits_text clause
worded (lines.Lemma clause hints) = codes "l" ++ (lits_text clause ++ (codes " ;" ++ spaced_numbers hints))
worded (lines.Delete ids) = codes "d" ++ spaced_numbers ids
worded (lines.Toll (tolls.Narrows blocks)) = codes "n" ++ blocks_text blocks
worded (lines.Toll (tolls.Tugs n slot weights most)) = codes "u" ++ (spaced_number n ++ (spaced_number slot ++ (spaced_number most ++ spaced_numbers weights)))
worded (lines.Tariff tariff) = codes "y" ++ (spaced_number tariff.scale ++ prices_text tariff.dues)
worded (lines.Priced clause) = codes "p" ++ lits_text clause
worded (lines.Bound bound) = codes "b" ++ spaced_number bound
