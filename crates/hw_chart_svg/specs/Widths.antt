-- How wide a name is at most: in DejaVu Sans Bold of size 12, the widest type in which names are seen.
use Rattle.std.specs.Prelude.{ℕ, ◌*◌, Bool, List, codes, if◌then◌else◌, nat_eq, sum_by}
use Rattle.std.specs.Int.{div_ceil}
use Rattle.std.specs.List.{list_any}

abbrev pub is_one_of : List ℕ → ℕ → Bool
is_one_of bytes b = list_any (λ a. nat_eq a b) bytes

-- the most that a byte is wide
unfoldable pub advance : ℕ → ℕ
advance b =
    if is_one_of (codes " ',-./:;IJ\\ijl|") b then 5
    else if is_one_of (codes "!\"()*?[]_`frtz") b then 7
    else if is_one_of (codes "%@MWmw") b then 14
    else if is_one_of (codes "#&+<=>ABDGHKNOQRUVX^~") b then 11
    else 9

abbrev pub width_of : List ℕ → ℕ
width_of name = sum_by advance name

-- the same of a text of the small type, which is as large as 6/7 of that one at most
abbrev pub small_width : List ℕ → ℕ
small_width text = div_ceil (6 * width_of text) 7
