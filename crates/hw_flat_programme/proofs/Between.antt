-- The hole of two ships is one of the problem's, so it fits.
use Rattle.std.proofs.Common.{ℕ, Bool, true, false, cond, nat_eq, ◌&&◌, List, [], ◌∷◌, Option, Some, None, slice_get, All, IfSome, arith}
use Rattle.std.proofs.lemmas.Int.{ints}
use Rattle.std.proofs.lemmas.List.Elements.{All-head, All-tail}
use Rattle.hw_model.specs.declared.rule.Hole.{Hole}
use Rattle.hw_model.specs.declared.rule.Rule.{Rule}
use Rattle.hw_model.specs.declared.rule.Rule.TheVariants.{Pair, After, Tugs}
use Rattle.hw_model.specs.Limits.{HoleFits, RuleFits}
use Rattle.hw_flat_programme.specs.Rows.{mirrored_hole, turned_of, hole_in, or_else, hole_between}

first_fits : (holes : List Hole) → All HoleFits holes → IfSome (slice_get holes 0) HoleFits
first_fits [] fit = tt
first_fits (hole ∷ holes) fit = All-head HoleFits hole holes fit

turned_fits : (hole : Hole) → HoleFits hole → HoleFits (mirrored_hole hole)
turned_fits hole fits = record { from_least = omega (arith, ints, fits.to_most); ordered = omega (arith, ints, fits.ordered); to_most = omega (arith, ints, fits.from_least) }

turned_of_fits : (o : Option Hole) → IfSome o HoleFits → IfSome (turned_of o) HoleFits
turned_of_fits None fits = tt
turned_of_fits (Some hole) fits = turned_fits hole fits

hole_in_fits : (ships : ℕ) (rule : Rule) (v w : ℕ) → RuleFits ships rule → IfSome (hole_in rule v w) HoleFits
hole_in_fits ships (Pair a b holes) v w fits = by (nat_eq a v && nat_eq b w) (nat_eq a w && nat_eq b v)
  where
    by : (own other : Bool) → IfSome (cond own (slice_get holes 0) (cond other (turned_of (slice_get holes 0)) None)) HoleFits
    by true other = first_fits holes fits.each_hole
    by false true = turned_of_fits (slice_get holes 0) (first_fits holes fits.each_hole)
    by false false = tt
hole_in_fits ships (After a b gap) v w fits = tt
hole_in_fits ships (Tugs fleet later jobs) v w fits = tt

pub between_fits : (ships : ℕ) (rules : List Rule) (v w : ℕ) → All (RuleFits ships) rules → IfSome (hole_between rules v w) HoleFits
between_fits ships [] v w fit = tt
between_fits ships (rule ∷ rules) v w fit = by (hole_in rule v w) (hole_in_fits ships rule v w (All-head (RuleFits ships) rule rules fit)) (between_fits ships rules v w (All-tail (RuleFits ships) rule rules fit))
  where
    by : (o : Option Hole) → IfSome o HoleFits → IfSome (hole_between rules v w) HoleFits → IfSome (or_else o (hole_between rules v w)) HoleFits
    by None fits rest = rest
    by (Some hole) fits rest = fits
