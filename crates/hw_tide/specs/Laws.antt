-- What a tide table's bytes tell.
use Rattle.std.specs.Prelude.{◌≡◌, ℕ, List}
use Rattle.hw_tide.specs.Whole.{HasRecords}

-- the records of given bytes are one list
abbrev pub OneList : Type 0
OneList = (bytes : List ℕ) (records others : List (List (List ℕ))) → HasRecords bytes records → HasRecords bytes others → records ≡ others

-- any bytes have records
abbrev pub SomeList : Type 0
SomeList = (bytes : List ℕ) → (records : List (List (List ℕ))) × HasRecords bytes records
