-- A precedence as a rule on the difference of two ships' slots with one hole.
use Rattle.std.specs.Prelude.{ℕ, Bool, true, false, nat_lt}
use Rattle.hw_rules.specs.declared.precedence.OneHole.{OneHole}
use Rattle.hw_rules.specs.declared.spacing.Freeing.TheVariants.{Lesser, Greater}
use Rattle.hw_rules.specs.Differences.{hole_above, hole_below}

-- by whether the first ship is the lesser one
abbrev pub one_hole_by : Bool → ℕ → ℕ → ℕ → OneHole
one_hole_by true v w gap = record { lesser = v; greater = w; hole = hole_above gap; freeing = Greater }
one_hole_by false v w gap = record { lesser = w; greater = v; hole = hole_below gap; freeing = Lesser }

-- the precedence from v to w with a gap: the second ship's staying frees it
abbrev pub one_hole : ℕ → ℕ → ℕ → OneHole
one_hole v w gap = one_hole_by (nat_lt v w) v w gap
