-- The greatest weights of jobs by the number of tugs.
use Rattle.std.specs.Prelude.{ℕ, ◌+◌, ◌-◌, max, nat_le, if◌then◌else◌, List, slice_index}

-- the greatest weight for k tugs with one more job, which needs this many, where the list has those without it
abbrev pub heaviest_with : ℕ → ℕ → List ℕ → ℕ → ℕ
heaviest_with weight tugs most k = if nat_le tugs k then max (slice_index most k) (weight + slice_index most (k - tugs)) else slice_index most k
