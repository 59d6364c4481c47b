-- Numbers in a text.
use Rattle.std.specs.Prelude.{ℕ, ℤ, pos, neg_ℤ, ◌==◌, ◌&&◌, ◌||◌, Bool, List, length, slice_index, drop, Option, Some, None, option_map, option_and_then, nat_lt, nat_le, if◌then◌else◌}
use Rattle.std.specs.List.{list_all}
use Rattle.std.specs.Str.Parse.{digits_value}

-- the byte of a decimal digit
abbrev pub is_digit : ℕ → Bool
is_digit b = nat_le 48 b && nat_le b 57

-- decimal digits with no leading zero: 0 alone is `0`
abbrev pub is_number : List ℕ → Bool
is_number word = list_all is_digit word && (nat_lt 0 (length word) && (length word == 1 || nat_lt 48 (slice_index word 0)))

-- the number that a word spells, where it is at most the limit
abbrev pub number_up_to : ℕ → List ℕ → Option ℕ
number_up_to most word = if is_number word && nat_le (digits_value 10 word) most then Some (digits_value 10 word) else None

-- the number that a word spells, where it is in the range
abbrev pub number_from_to : ℕ → ℕ → List ℕ → Option ℕ
number_from_to least most word = option_and_then (λ n. if nat_le least n then Some n else None) (number_up_to most word)

-- a number, or `-` and a number other than 0, where it is no further from 0 than the limit
abbrev pub signed_up_to : ℕ → List ℕ → Option ℤ
signed_up_to most word =
    if slice_index word 0 == 45 then option_map (λ n. neg_ℤ (pos n)) (number_from_to 1 most (drop 1 word))
    else option_map (λ n. pos n) (number_from_to 0 most word)
