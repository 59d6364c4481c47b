-- Numbers as they are read: tonnes, metres, times.
use Rattle.std.specs.Prelude.{ℕ, ℤ, ◌/◌, ◌%◌, List, [], ◌∷◌, codes, decimal, if◌then◌else◌, nat_lt, unsigned_abs}
use Rattle.std.specs.Int.{is_negative}
use Rattle.std.specs.List.{concat}

-- tenths of a tonne as tonnes
unfoldable pub tonnes_label : ℕ → List ℕ
tonnes_label amount = concat (decimal (amount / 10) ∷ codes "." ∷ decimal (amount % 10) ∷ [])

-- centimetres as metres
unfoldable pub metres : ℕ → List ℕ
metres length = concat (decimal (length / 100) ∷ codes "." ∷ decimal (length / 10 % 10) ∷ decimal (length % 10) ∷ [])

abbrev pub sign : ℤ → List ℕ
sign height = if is_negative height then codes "-" else []

-- a height in centimetres as metres above or below 0
unfoldable pub height_text : ℤ → List ℕ
height_text height = concat (sign height ∷ metres (unsigned_abs height) ∷ [])

abbrev pub digit_pair : ℕ → List ℕ
digit_pair number = concat (decimal (number / 10) ∷ decimal (number % 10) ∷ [])

abbrev pub days : ℕ → List ℕ
days number = if nat_lt 0 number then concat (decimal number ∷ codes "d " ∷ []) else []

-- minutes as days, where there are some, and hours and minutes of a day
unfoldable pub clock : ℕ → List ℕ
clock minutes = concat (days (minutes / 1440) ∷ digit_pair (minutes / 60 % 24) ∷ codes ":" ∷ digit_pair (minutes % 60) ∷ [])
