-- In a permitted timetable two ships that sail keep clear of the hole by which groups grow.
use Rattle.std.proofs.Common.{◌≡◌, ℕ, suc, ◌<◌, pos, ◌&&◌, Bool, true, false, cond, nat_eq, List, [], ◌∷◌, Option, Some, None, slice_get, slice_index, IfSome, IsTrue, refl, ◌∙◌, subst, arith}
use Rattle.std.specs.Prelude.{ℤ, ◌-ℤ◌}
use Rattle.std.specs.List.{list_all}
use Rattle.std.proofs.lemmas.Bool.{and_parts, eqb-true}
use Rattle.std.proofs.lemmas.Int.{ints}
use Rattle.std.proofs.lemmas.Option.{same_Some}
use Rattle.hw_model.specs.declared.rule.Hole.{Hole}
use Rattle.hw_model.specs.declared.rule.Rule.{Rule}
use Rattle.hw_model.specs.declared.rule.Rule.TheVariants.{Pair, After, Tugs}
use Rattle.hw_model.specs.Problem.{Problem, horizon}
use Rattle.hw_model.specs.Rules.{misses, rule_holds}
use Rattle.hw_flat_programme.specs.Rows.{mirrored_hole, turned_of, hole_in, or_else, hole_between}
use Rattle.hw_flat_programme.proofs.Grouped.{Clear}
use Rattle.hw_flat_programme.proofs.Kept.{cleared}

-- the difference of two slots misses a hole that is seen from the other ship
turned_missed : (x y : ℕ) (hole : Hole) → misses (pos y -ℤ pos x) hole ≡ true → misses (pos x -ℤ pos y) (mirrored_hole hole) ≡ true
turned_missed x y hole e = grind (arith, ints)

first_missed : (d : ℤ) (holes : List Hole) (hole : Hole) → list_all (misses d) holes ≡ true → slice_get holes 0 ≡ Some hole → misses d hole ≡ true
first_missed d [] hole all e = absurd (cc)
first_missed d (first ∷ holes) hole all e = subst (λ (h : Hole). misses d h ≡ true) (same_Some first hole e) (and_parts _ _ all).0

turned_first : (x y : ℕ) (o : Option Hole) (hole : Hole) → ((h : Hole) → o ≡ Some h → misses (pos y -ℤ pos x) h ≡ true) → turned_of o ≡ Some hole → misses (pos x -ℤ pos y) hole ≡ true
turned_first x y None hole missed e = absurd (cc)
turned_first x y (Some h) hole missed e = subst (λ (k : Hole). misses (pos x -ℤ pos y) k ≡ true) (same_Some (mirrored_hole h) hole e) (turned_missed x y h (missed h refl))

clear_in : (f : Problem) (table : List ℕ) (rule : Rule) → rule_holds f table rule ≡ true → (v w : ℕ) (hole : Hole) → hole_in rule v w ≡ Some hole → slice_index table v < horizon f → slice_index table w < horizon f
    → misses (pos (slice_index table w) -ℤ pos (slice_index table v)) hole ≡ true
clear_in f table (Pair a b holes) holds v w hole e v_in w_in = at (nat_eq a v && nat_eq b w) refl (nat_eq a w && nat_eq b v) refl e
  where
    missed : slice_index table a < horizon f → slice_index table b < horizon f → list_all (misses (pos (slice_index table b) -ℤ pos (slice_index table a))) holes ≡ true
    missed a_in b_in = cleared f (slice_index table a) (slice_index table b) _ holds a_in b_in

    own : a ≡ v → b ≡ w → list_all (misses (pos (slice_index table w) -ℤ pos (slice_index table v))) holes ≡ true
    own g h = rw (← g, ← h) (missed (rw g v_in) (rw h w_in))

    other : a ≡ w → b ≡ v → list_all (misses (pos (slice_index table v) -ℤ pos (slice_index table w))) holes ≡ true
    other g h = rw (← g, ← h) (missed (rw g w_in) (rw h v_in))

    at : (s : Bool) → (nat_eq a v && nat_eq b w) ≡ s → (t : Bool) → (nat_eq a w && nat_eq b v) ≡ t → cond s (slice_get holes 0) (cond t (turned_of (slice_get holes 0)) None) ≡ Some hole → misses (pos (slice_index table w) -ℤ pos (slice_index table v)) hole ≡ true
    at true same t either e =
        let both = and_parts (nat_eq a v) (nat_eq b w) same in
        first_missed _ holes hole (own (eqb-true a v both.0) (eqb-true b w both.1)) e
    at false none true same e =
        let both = and_parts (nat_eq a w) (nat_eq b v) same in
        turned_first (slice_index table w) (slice_index table v) (slice_get holes 0) hole (λ h is. first_missed _ holes h (other (eqb-true a w both.0) (eqb-true b v both.1)) is) e
    at false none false none' e = absurd (cc)
clear_in f table (After a b gap) holds v w hole e v_in w_in = absurd (cc)
clear_in f table (Tugs fleet later jobs) holds v w hole e v_in w_in = absurd (cc)

clear_between : (f : Problem) (table : List ℕ) (rules : List Rule) → ((place : ℕ) → IfSome (slice_get rules place) (λ rule. IsTrue (rule_holds f table rule))) → (v w : ℕ) (hole : Hole) → hole_between rules v w ≡ Some hole → slice_index table v < horizon f → slice_index table w < horizon f
    → misses (pos (slice_index table w) -ℤ pos (slice_index table v)) hole ≡ true
clear_between f table [] keeps v w hole e v_in w_in = absurd (cc)
clear_between f table (rule ∷ rules) keeps v w hole e v_in w_in = by (hole_in rule v w) refl e (λ rest. clear_between f table rules (λ place. keeps (suc place)) v w hole rest v_in w_in)
  where
    by : (o : Option Hole) → hole_in rule v w ≡ o → or_else o (hole_between rules v w) ≡ Some hole → (hole_between rules v w ≡ Some hole → misses (pos (slice_index table w) -ℤ pos (slice_index table v)) hole ≡ true) → misses (pos (slice_index table w) -ℤ pos (slice_index table v)) hole ≡ true
    by None none e later = later e
    by (Some h) is e later = clear_in f table rule (keeps 0) v w hole (is ∙ e) v_in w_in

-- the timetable keeps the rules of the problem
pub keeps_clear : (f : Problem) (table : List ℕ) → ((place : ℕ) → IfSome (slice_get f.rules place) (λ rule. IsTrue (rule_holds f table rule))) → Clear f table
keeps_clear f table keeps v w hole e v_in w_in = clear_between f table f.rules keeps v w hole e v_in w_in
