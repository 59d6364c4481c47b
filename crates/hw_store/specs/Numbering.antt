-- The numbers of the buckets, and which of them a cut reaches.
use Rattle.std.specs.Prelude.{◌≡◌, ◌≢◌, ℕ, ◌+◌, ◌-◌, ◌*◌, min, ◌<◌, ◌≤◌, Bool, true, false, ◌&&◌, ◌==◌, nat_le}
use Rattle.hw_model.specs.declared.lit.Lit.{Lit}
use Rattle.hw_model.specs.declared.lit.Lit.TheVariants as lits
use Rattle.hw_model.specs.declared.lit.LitTruth.TheVariants.{False}
use Rattle.hw_model.specs.Rooms.{RoomModel}
use Rattle.hw_model.specs.Narrowing.{truth}

-- the number of a slot in its row; a slot past the last one counts as the last
abbrev pub in_row : ℕ → ℕ → ℕ → ℕ
in_row slots row slot = row * slots + min slot (slots - 1)

-- the number of two ships; these numbers follow the rows of the bounds
abbrev pub pair_bucket : ℕ → ℕ → ℕ → ℕ → ℕ
pair_bucket ships slots v w = 2 * ships * slots + (v * ships + w)

-- the number of the bound or pair that a literal names: a row of lower bounds for each ship, then the rows of upper bounds, then the pairs
abbrev pub bucket : ℕ → ℕ → Lit → ℕ
bucket ships slots (lits.AtOrAfter v k) = in_row slots v k
bucket ships slots (lits.Before v k) = in_row slots (ships + v) k
bucket ships slots (lits.First v w) = pair_bucket ships slots v w
bucket ships slots (lits.NotFirst v w) = pair_bucket ships slots v w

-- how many buckets there are
abbrev pub bucket_count : ℕ → ℕ → ℕ
bucket_count ships slots = 2 * ships * slots + ships * ships

-- a cut by the first literal makes the second False
abbrev pub hits : Lit → Lit → Bool
hits (lits.Before v j) (lits.AtOrAfter w k) = v == w && nat_le j k
hits (lits.AtOrAfter v j) (lits.Before w k) = v == w && nat_le k j
hits (lits.First v w) (lits.NotFirst a b) = v == a && w == b
hits (lits.NotFirst v w) (lits.First a b) = v == a && w == b
hits cutting lit = false

-- every literal that the cut newly makes False has its bucket in this run, whose end is not included
abbrev pub HitsWithin : ℕ → ℕ → RoomModel → Lit → ℕ × ℕ → Type 0
HitsWithin ships slots room cutting run = (lit : Lit) → hits cutting lit ≡ true → truth room lit ≢ False → (run.0 ≤ bucket ships slots lit) × (bucket ships slots lit < run.1)
