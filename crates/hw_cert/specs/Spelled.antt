-- What a line's words spell, whatever the problem.
use Rattle.std.specs.Prelude.{ℕ, ◌-◌, ◌^◌, ◌==◌, Bool, true, false, List, [], ◌∷◌, Option, Some, None, option_map, option_and_then, nat_lt, length, bytes_eq, codes, if◌then◌else◌}
use Rattle.hw_model.specs.declared.lit.Lit.{Lit}
use Rattle.hw_model.specs.declared.lit.Lit.TheVariants.{AtOrAfter, Before, First, NotFirst}
use Rattle.hw_text.specs.Numbers.{number_up_to}
use Rattle.hw_text.specs.Parts.{parts_of, words_of, put_first}
use Rattle.hw_price_laws.specs.declared.toll.Block.{Block}
use Rattle.hw_cert_lines.specs.declared.line.Line.{Line}
use Rattle.hw_cert_lines.specs.declared.line.Line.TheVariants as lines
use Rattle.hw_price_laws.specs.declared.tariff.Due.{Due}
use Rattle.hw_price_laws.specs.declared.toll.Toll.TheVariants as tolls
use Rattle.hw_cert.specs.declared.version.Version.{Version}
use Rattle.hw_cert.specs.declared.version.Version.TheVariants.{One, Two, Three}

-- a number of a certificate, up to 4,294,967,295
abbrev pub number_word : List ℕ → Option ℕ
number_word word = number_up_to (2 ^ 32 - 1) word

-- a price or a bound, up to 18,446,744,073,709,551,615
abbrev pub wide_word : List ℕ → Option ℕ
wide_word word = number_up_to (2 ^ 64 - 1) word

-- both values, where both are there
abbrev pub both_values : {A B : Type 0} → Option A → Option B → Option (A × B)
both_values None o = None
both_values (Some a) None = None
both_values (Some a) (Some b) = Some (a, b)

-- the numbers that the words spell, where each spells one
abbrev pub all_numbers : List (List ℕ) → Option (List ℕ)
all_numbers [] = Some []
all_numbers (word ∷ words) = put_first (number_word word) (all_numbers words)

-- what the words spell by such a reading, where each spells something
abbrev pub all_of : {A : Type 0} → (List ℕ → Option A) → List (List ℕ) → Option (List A)
all_of read [] = Some []
all_of read (word ∷ words) = put_first (read word) (all_of read words)

-- the list, unless it is empty
abbrev pub some_of : {A : Type 0} → List A → Option (List A)
some_of ns = if nat_lt 0 (length ns) then Some ns else None

-- the same of one word or more
abbrev pub some_numbers : List (List ℕ) → Option (List ℕ)
some_numbers words = option_and_then some_of (all_numbers words)

-- the two numbers of two words
abbrev pub number_pair : List (List ℕ) → Option (ℕ × ℕ)
number_pair (x ∷ y ∷ []) = both_values (number_word x) (number_word y)
number_pair _ = None

-- the block of three words
abbrev pub block_parts : List (List ℕ) → Option Block
block_parts (ship ∷ low ∷ high ∷ []) = option_map (λ p. record { ship = p.0; low = p.1.0; high = p.1.1 }) (both_values (number_word ship) (both_values (number_word low) (number_word high)))
block_parts _ = None

-- the block that a word spells: a ship and two slots with colons between them
abbrev pub block_word : List ℕ → Option Block
block_word word = block_parts (parts_of 58 word)

-- the price of two words
abbrev pub price_parts : List (List ℕ) → Option Due
price_parts (toll ∷ price ∷ []) = option_map (λ p. record { toll = p.0; price = p.1 }) (both_values (number_word toll) (wide_word price))
price_parts _ = None

-- the price that a word spells: a toll and its price with a colon between them
abbrev pub price_word : List ℕ → Option Due
price_word word = price_parts (parts_of 58 word)

-- the literal of this letter: a, b, f or n
abbrev pub lettered : ℕ → ℕ × ℕ → Option Lit
lettered letter p =
    if letter == 97 then Some (AtOrAfter p.0 p.1)
    else if letter == 98 then Some (Before p.0 p.1)
    else if letter == 102 then Some (First p.0 p.1)
    else if letter == 110 then Some (NotFirst p.0 p.1)
    else None

-- the literal that a word spells: a letter, and two numbers with a point between them
abbrev pub lit_word : List ℕ → Option Lit
lit_word [] = None
lit_word (letter ∷ rest) = option_and_then (lettered letter) (number_pair (parts_of 46 rest))

-- literals, and the words after the `;` that ends them, if one does
pub record Lits : Type 0 where
  pub lits : List Lit
  pub remainder : Option (List (List ℕ))

-- a literal put before others
abbrev pub put_lit : Option Lit → Option Lits → Option Lits
put_lit None o = None
put_lit (Some lit) None = None
put_lit (Some lit) (Some found) = Some (record { lits = lit ∷ found.lits; remainder = found.remainder })

-- the literals up to the first `;` or the end
abbrev pub lits_of : List (List ℕ) → Option Lits
lits_of [] = Some (record { lits = []; remainder = None })
lits_of (word ∷ words) = if bytes_eq word (codes ";") then Some (record { lits = []; remainder = Some words }) else put_lit (lit_word word) (lits_of words)

-- no `;` ends the literals
abbrev pub unparted : List Lit → Option (List (List ℕ)) → Option (List Lit)
unparted lits None = Some lits
unparted lits (Some words) = None

-- words that are literals alone
abbrev pub only_lits : List (List ℕ) → Option (List Lit)
only_lits words = option_and_then (λ found. unparted found.lits found.remainder) (lits_of words)

-- `SLOT ..`
abbrev pub table_form : List (List ℕ) → Option Line
table_form words = option_map lines.Table (some_numbers words)

-- `RESTRICTION LITS`
abbrev pub explain_form : List (List ℕ) → Option Line
explain_form [] = None
explain_form (n ∷ words) = option_map (λ p. lines.Explain p.0 p.1) (both_values (number_word n) (only_lits words))

-- `V W X LITS`
abbrev pub order_form : List (List ℕ) → Option Line
order_form (v ∷ w ∷ x ∷ words) = option_map (λ p. lines.Order p.0 p.1.0 p.1.1.0 p.1.1.1) (both_values (number_word v) (both_values (number_word w) (both_values (number_word x) (only_lits words))))
order_form _ = None

-- `LITS`
abbrev pub goal_form : List (List ℕ) → Option Line
goal_form words = option_map lines.Goal (only_lits words)

-- the hints after the `;`
abbrev pub hinted_form : List Lit → Option (List (List ℕ)) → Option Line
hinted_form lits None = None
hinted_form lits (Some words) = option_map (lines.Lemma lits) (all_numbers words)

-- `LITS ; ID ..`
abbrev pub lemma_form : List (List ℕ) → Option Line
lemma_form words = option_and_then (λ found. hinted_form found.lits found.remainder) (lits_of words)

-- `ID ..`, from version 2 on
abbrev pub delete_form : Version → List (List ℕ) → Option Line
delete_form One words = None
delete_form Two words = option_map lines.Delete (some_numbers words)
delete_form Three words = option_map lines.Delete (some_numbers words)

-- a form that version 3 alone has
abbrev pub third : Version → Option Line → Option Line
third One o = None
third Two o = None
third Three o = o

-- the line that declares narrows of these blocks
abbrev pub narrows_line : List Block → Line
narrows_line blocks = lines.Toll (tolls.Narrows blocks)

-- the line that declares a toll of these weights
abbrev pub tugs_line : ℕ → ℕ → ℕ → List ℕ → Line
tugs_line n slot most weights = lines.Toll (tolls.Tugs n slot weights most)

-- the line that puts these prices in force
abbrev pub tariff_line : ℕ → List Due → Line
tariff_line scale dues = lines.Tariff (record { scale = scale; dues = dues })

-- `SHIP:LOW:HIGH ..`
abbrev pub narrows_form : Version → List (List ℕ) → Option Line
narrows_form version words = third version (option_map narrows_line (option_and_then some_of (all_of block_word words)))

abbrev pub tug_toll_words : List (List ℕ) → Option Line
tug_toll_words (n ∷ slot ∷ most ∷ words) = option_map (λ p. tugs_line p.0 p.1.0 p.1.1.0 p.1.1.1) (both_values (number_word n) (both_values (number_word slot) (both_values (number_word most) (all_numbers words))))
tug_toll_words _ = None

-- `RESTRICTION SLOT MOST WEIGHT ..`
abbrev pub tugs_form : Version → List (List ℕ) → Option Line
tugs_form version words = third version (tug_toll_words words)

abbrev pub tariff_words : List (List ℕ) → Option Line
tariff_words [] = None
tariff_words (scale ∷ words) = option_map (λ p. tariff_line p.0 p.1) (both_values (number_word scale) (all_of price_word words))

-- `SCALE TOLL:PRICE ..`
abbrev pub tariff_form : Version → List (List ℕ) → Option Line
tariff_form version words = third version (tariff_words words)

-- `LITS`
abbrev pub priced_form : Version → List (List ℕ) → Option Line
priced_form version words = third version (option_map lines.Priced (only_lits words))

abbrev pub bound_words : List (List ℕ) → Option Line
bound_words (bound ∷ []) = option_map lines.Bound (wide_word bound)
bound_words _ = None

-- `BOUND`
abbrev pub bound_form : Version → List (List ℕ) → Option Line
bound_form version words = third version (bound_words words)

-- the line of this form, with these words after its first
abbrev pub form_of : Version → List ℕ → List (List ℕ) → Option Line
form_of version kind words =
    if bytes_eq (codes "t") kind then table_form words
    else if bytes_eq (codes "e") kind then explain_form words
    else if bytes_eq (codes "o") kind then order_form words
    else if bytes_eq (codes "g") kind then goal_form words
    else if bytes_eq (codes "l") kind then lemma_form words
    else if bytes_eq (codes "d") kind then delete_form version words
    else if bytes_eq (codes "n") kind then narrows_form version words
    else if bytes_eq (codes "u") kind then tugs_form version words
    else if bytes_eq (codes "y") kind then tariff_form version words
    else if bytes_eq (codes "p") kind then priced_form version words
    else if bytes_eq (codes "b") kind then bound_form version words
    else None

abbrev pub spelled_line : Version → List (List ℕ) → Option Line
spelled_line version [] = None
spelled_line version (kind ∷ words) = form_of version kind words

-- the line whose form the bytes have in this version, its numbers not yet tested
abbrev pub spelled : Version → List ℕ → Option Line
spelled version bytes = spelled_line version (words_of bytes)

-- the version that this word names
abbrev pub version_word : List ℕ → Option Version
version_word word =
    if bytes_eq word (codes "1") then Some One
    else if bytes_eq word (codes "2") then Some Two
    else if bytes_eq word (codes "3") then Some Three
    else None

abbrev pub header_words : List (List ℕ) → Option Version
header_words (kind ∷ word ∷ []) = if bytes_eq (codes "cert") kind then version_word word else None
header_words _ = None

-- the version is this one or an earlier one
abbrev pub is_within : Version → Version → Bool
is_within most One = true
is_within One Two = false
is_within Two Two = true
is_within Three Two = true
is_within One Three = false
is_within Two Three = false
is_within Three Three = true

-- the version, where it is within the greatest one
abbrev pub kept_to : Version → Version → Option Version
kept_to most version = if is_within most version then Some version else None

-- the version of a header, where it is this one or an earlier one
abbrev pub version_to : Version → List ℕ → Option Version
version_to most bytes = option_and_then (kept_to most) (header_words (words_of bytes))

-- the version of a header, where it is the second or the first
abbrev pub version_of_header : List ℕ → Option Version
version_of_header bytes = version_to Two bytes
