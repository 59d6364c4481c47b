-- The one text of each line, and of a certificate.
use Rattle.std.specs.Prelude.{ℕ, List, [], ◌∷◌, ◌++◌, codes, decimal, map}
use Rattle.hw_model.specs.declared.lit.Lit.{Lit}
use Rattle.hw_model.specs.declared.lit.Lit.TheVariants.{AtOrAfter, Before, First, NotFirst}
use Rattle.hw_text.specs.Parts.{spaced, ended_lines}
use Rattle.hw_price_laws.specs.declared.toll.Block.{Block}
use Rattle.hw_cert_lines.specs.declared.line.Line.{Line}
use Rattle.hw_cert_lines.specs.declared.line.Line.TheVariants as lines
use Rattle.hw_price_laws.specs.declared.tariff.Due.{Due}
use Rattle.hw_price_laws.specs.declared.toll.Toll.TheVariants as tolls
use Rattle.hw_cert.specs.declared.version.Version.{Version}
use Rattle.hw_cert.specs.declared.version.Version.TheVariants.{One, Two, Three}

-- two numbers with a point between
abbrev pub pair_text : ℕ → ℕ → List ℕ
pair_text x y = decimal x ++ 46 ∷ decimal y

-- a literal is a letter, a number, a point and a number
abbrev pub lit_text : Lit → List ℕ
lit_text (AtOrAfter ship slot) = codes "a" ++ pair_text ship slot
lit_text (Before ship slot) = codes "b" ++ pair_text ship slot
lit_text (First v w) = codes "f" ++ pair_text v w
lit_text (NotFirst v w) = codes "n" ++ pair_text v w

-- a ship and two slots with colons between
abbrev pub block_text : Block → List ℕ
block_text block = decimal block.ship ++ 58 ∷ (decimal block.low ++ 58 ∷ decimal block.high)

-- a toll and its price with a colon between
abbrev pub price_text : Due → List ℕ
price_text due = decimal due.toll ++ 58 ∷ decimal due.price

-- the words of a line
abbrev pub line_words : Line → List (List ℕ)
line_words (lines.Table table) = codes "t" ∷ map decimal table
line_words (lines.Explain n clause) = codes "e" ∷ decimal n ∷ map lit_text clause
line_words (lines.Order v w x clause) = codes "o" ∷ decimal v ∷ decimal w ∷ decimal x ∷ map lit_text clause
line_words (lines.Goal clause) = codes "g" ∷ map lit_text clause
line_words (lines.Lemma clause hints) = codes "l" ∷ (map lit_text clause ++ codes ";" ∷ map decimal hints)
line_words (lines.Delete ids) = codes "d" ∷ map decimal ids
line_words (lines.Toll (tolls.Narrows blocks)) = codes "n" ∷ map block_text blocks
line_words (lines.Toll (tolls.Tugs n slot weights most)) = codes "u" ∷ decimal n ∷ decimal slot ∷ decimal most ∷ map decimal weights
line_words (lines.Tariff tariff) = codes "y" ∷ decimal tariff.scale ∷ map price_text tariff.dues
line_words (lines.Priced clause) = codes "p" ∷ map lit_text clause
line_words (lines.Bound bound) = codes "b" ∷ decimal bound ∷ []

-- the one text of a line, without its end
abbrev pub line_text : Line → List ℕ
line_text line = spaced (line_words line)

-- the first line of a certificate
abbrev pub certificate_header : Version → List ℕ
certificate_header One = codes "cert 1"
certificate_header Two = codes "cert 2"
certificate_header Three = codes "cert 3"

-- the header and then the lines, each ended by a line feed
abbrev pub cert_text : Version → List Line → List ℕ
cert_text version all = ended_lines (certificate_header version ∷ map line_text all)
