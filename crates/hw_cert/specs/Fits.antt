-- The first bad word of a line that has its form, and what a line's bytes read as.
use Rattle.std.specs.Prelude.{ℕ, ◌+◌, ◌==◌, Bool, true, ◌&&◌, nat_lt, nat_le, List, [], ◌∷◌, Option, Some, None, Result, Ok, Err, length, map, if◌then◌else◌}
use Rattle.std.specs.List.{list_all}
use Rattle.hw_lemmas.specs.Operators.{◌or_else◌}
use Rattle.hw_model.specs.declared.limits.TheConstants.{MOST_CARGO, MOST_HELD, MOST_SHIPS, MOST_TUGS}
use Rattle.hw_model.specs.declared.lit.Lit.{Lit}
use Rattle.hw_model.specs.declared.shape.Shape.{Shape}
use Rattle.hw_model.specs.Lits.{BadLit, out_of_range, not_normal, first_bad}
use Rattle.hw_price_laws.specs.declared.limits.TheConstants.{MOST_PRICE, MOST_SCALE}
use Rattle.hw_price_laws.specs.declared.toll.Block.{Block}
use Rattle.hw_cert_lines.specs.declared.line.Line.{Line}
use Rattle.hw_cert_lines.specs.declared.line.Line.TheVariants as lines
use Rattle.hw_price_laws.specs.declared.tariff.Due.{Due}
use Rattle.hw_price_laws.specs.declared.toll.Toll.TheVariants as tolls
use Rattle.hw_cert.specs.declared.stop.FormWord.{FormWord}
use Rattle.hw_cert.specs.declared.stop.FormWord.TheVariants.{Form, Range, Normal}
use Rattle.hw_cert.specs.declared.version.Version.{Version}
use Rattle.hw_cert.specs.Spelled.{spelled}

-- the word, unless the test holds
abbrev pub word_unless : FormWord → Bool → Option FormWord
word_unless word b = if b then None else Some word

-- a bad literal, by what it breaks
abbrev pub lit_fault : Option BadLit → Option FormWord
lit_fault None = None
lit_fault (Some (out_of_range place)) = Some Range
lit_fault (Some (not_normal place)) = Some Normal

-- the first bad literal
abbrev pub clause_fault : Shape → List Lit → Option FormWord
clause_fault shape lits = lit_fault (first_bad shape lits)

-- each number is above the one before it
abbrev pub ascends : ℕ → List ℕ → Bool
ascends before [] = true
ascends before (n ∷ ns) = nat_lt before n && ascends n ns

-- each number but the first is above the one before it
abbrev pub rises : List ℕ → Bool
rises [] = true
rises (n ∷ ns) = ascends n ns

-- a ship of the problem, and slots of it that don't fall
abbrev pub block_fits_shape : Shape → Block → Bool
block_fits_shape shape block = nat_lt block.ship shape.ships && (nat_le block.low block.high && nat_lt block.high shape.slots)

-- 1 to `MOST_SHIPS` such blocks, of ascending ships
abbrev pub blocks_fit : Shape → List Block → Bool
blocks_fit shape blocks = nat_lt 0 (length blocks) && (nat_le (length blocks) MOST_SHIPS && (list_all (block_fits_shape shape) blocks && rises (map (λ block. block.ship) blocks)))

-- a sum and weights within their limits
abbrev pub weights_small : ℕ → List ℕ → Bool
weights_small most weights = nat_le most MOST_HELD && list_all (λ weight. nat_le weight MOST_TUGS) weights

-- the number of a rule, a slot of the problem, and at most `MOST_SHIPS` weights
abbrev pub weights_fit : Shape → ℕ → ℕ → List ℕ → Bool
weights_fit shape n slot weights = nat_le shape.ships n && (nat_lt n (shape.ships + shape.rules) && (nat_lt slot shape.slots && nat_le (length weights) MOST_SHIPS))

-- a scale and prices within their limits
abbrev pub prices_small : ℕ → List Due → Bool
prices_small scale prices = nat_le scale MOST_SCALE && list_all (λ due. nat_le due.price MOST_PRICE) prices

-- a number above its limit, which is no form, or else the first bad word from the left, the count of slots last
abbrev pub first_fault : Shape → Line → Option FormWord
first_fault shape (lines.Table table) = word_unless Range (list_all (λ slot. nat_lt slot shape.slots) table && length table == shape.ships)
first_fault shape (lines.Explain n clause) = word_unless Range (nat_lt n (shape.ships + shape.rules)) or_else clause_fault shape clause
first_fault shape (lines.Order v w x clause) = word_unless Range (nat_lt v w && (nat_lt w x && nat_lt x shape.ships)) or_else clause_fault shape clause
first_fault shape (lines.Goal clause) = clause_fault shape clause
first_fault shape (lines.Lemma clause hints) = clause_fault shape clause or_else word_unless Range (list_all (λ id. nat_lt 0 id) hints)
first_fault shape (lines.Delete ids) = word_unless Range (nat_lt 0 (length ids) && ascends 0 ids)
first_fault shape (lines.Toll (tolls.Narrows blocks)) = word_unless Range (blocks_fit shape blocks)
first_fault shape (lines.Toll (tolls.Tugs n slot weights most)) = word_unless Form (weights_small most weights) or_else word_unless Range (weights_fit shape n slot weights)
first_fault shape (lines.Tariff tariff) = word_unless Form (prices_small tariff.scale tariff.dues) or_else word_unless Range (ascends 0 (map (λ due. due.toll) tariff.dues))
first_fault shape (lines.Priced clause) = clause_fault shape clause
first_fault shape (lines.Bound bound) = word_unless Form (nat_le bound MOST_CARGO)

-- a line, unless a word is bad
abbrev pub unless_bad : Line → Option FormWord → Result Line FormWord
unless_bad line None = Ok line
unless_bad line (Some word) = Err word

-- a line of this shape, or its first bad word
abbrev pub fitted : Shape → Option Line → Result Line FormWord
fitted shape None = Err Form
fitted shape (Some line) = unless_bad line (first_fault shape line)

-- the line whose text the bytes are, or why they are the text of none
abbrev pub line_read : Shape → Version → List ℕ → Result Line FormWord
line_read shape version bytes = fitted shape (spelled version bytes)
