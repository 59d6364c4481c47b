-- A name that is too wide for its place: a beginning of it, and an ellipsis.
use Rattle.std.specs.Prelude.{◌≡◌, ◌≤◌, ℕ, ◌-◌, List, [], ◌∷◌, ◌++◌, if◌then◌else◌, nat_lt, length, take}
use Rattle.hw_chart_svg.specs.Widths.{advance, width_of}
use Rattle.hw_chart_svg.specs.declared.name.TheConstants.{ELLIPSIS_WIDTH}

-- an ellipsis, in UTF-8
abbrev pub ellipsis : List ℕ
ellipsis = 226 ∷ 128 ∷ 166 ∷ []

-- the longest beginning of a name that is at most this wide
abbrev pub beginning_within : ℕ → List ℕ → List ℕ
beginning_within room [] = []
beginning_within room (b ∷ bs) = if nat_lt room (advance b) then [] else b ∷ beginning_within (room - advance b) bs

-- what of a name is shown in a place of this width: the longest beginning that leaves room for the ellipsis
abbrev pub shortened : List ℕ → ℕ → List ℕ
shortened name place = beginning_within (place - ELLIPSIS_WIDTH) name ++ ellipsis

-- it is a beginning of the name and at most as wide as the room, and no longer beginning is
pub record IsLongestWithin (room : ℕ) (name : List ℕ) : Type 0 where
  pub begins : take (length (beginning_within room name)) name ≡ beginning_within room name
  pub fits : width_of (beginning_within room name) ≤ room
  pub longest : (n : ℕ) → n ≤ length name → width_of (take n name) ≤ room → n ≤ length (beginning_within room name)

abbrev pub BeginningsAreLongest : Type 0
BeginningsAreLongest = (room : ℕ) (name : List ℕ) → IsLongestWithin room name
