-- The first broken restriction, and permitted timetables.
use Rattle.std.proofs.Common.{◌≡◌, ℕ, ◌+◌, ◌-◌, ◌<◌, ◌≤◌, true, not, List, Option, Some, None, length, slice_get, slice_index, is_some, IfSome, IsTrue, refl, sym, ◌∙◌, subst, arith, inl, inr, nat_lt}
use Rattle.std.proofs.lemmas.Bool.{not-true, not-false, not_from_false, not_from_true, lt-ltb, le-ltb, cond-true, cond-false, cases_lt}
use Rattle.std.proofs.lemmas.Option.{slice_get_past}
use Rattle.hw_model.specs.declared.rule.Rule.{Rule}
use Rattle.hw_model.specs.Problem.{Problem, IsTimetable, value_at}
use Rattle.hw_model.specs.Rules.{rule_holds}
use Rattle.hw_model.specs.Timetables.{Permits, FirstBroken, first_broken, restriction_holds, restriction_count, holds_at}
use Rattle.hw_model_laws.proofs.Searches.{first_found, found_first, none_found, found_none}

pub is_first_broken : (f : Problem) (table : List ℕ) (n : ℕ) → first_broken f table ≡ Some n → FirstBroken f table n
is_first_broken f table n e =
    let r = first_found (λ n. not (restriction_holds f table n)) 0 (restriction_count f) n e in
    record { numbered = omega (arith, r.upto); fails = not-true _ r.passes; earlier = λ m lt. not-false _ (r.earlier m (omega arith) lt) }

pub first_broken_is : (f : Problem) (table : List ℕ) (n : ℕ) → FirstBroken f table n → first_broken f table ≡ Some n
first_broken_is f table n h = found_first (λ n. not (restriction_holds f table n)) 0 (restriction_count f) n (record { from = omega arith; upto = omega (arith, h.numbered); passes = not_from_false _ h.fails; earlier = λ m le lt. not_from_true _ (h.earlier m lt) })

pub window_at : (f : Problem) (table : List ℕ) (n : ℕ) → n < f.ships → restriction_holds f table n ≡ is_some (value_at f n (slice_index table n))
window_at f table n lt = cond-true (nat_lt n f.ships) _ _ (lt-ltb _ _ lt)

rule_at : (f : Problem) (table : List ℕ) (n : ℕ) → f.ships ≤ n → restriction_holds f table n ≡ holds_at f table (slice_get f.rules (n - f.ships))
rule_at f table n le = cond-false (nat_lt n f.ships) _ _ (le-ltb _ _ le)

some_holds : (f : Problem) (table : List ℕ) (o : Option Rule) → holds_at f table o ≡ true → IfSome o (λ rule. IsTrue (rule_holds f table rule))
some_holds f table None e = tt
some_holds f table (Some rule) e = e

holds_some : (f : Problem) (table : List ℕ) (o : Option Rule) → IfSome o (λ rule. IsTrue (rule_holds f table rule)) → holds_at f table o ≡ true
holds_some f table None e = refl
holds_some f table (Some rule) e = e

nothing_at : (f : Problem) (table : List ℕ) (o : Option Rule) → o ≡ None → IfSome o (λ rule. IsTrue (rule_holds f table rule))
nothing_at f table None e = tt
nothing_at f table (Some rule) e = absurd cc

pub permits_from : (f : Problem) (table : List ℕ) → IsTimetable f table → first_broken f table ≡ None → Permits f table
permits_from f table listed e =
    let all : (m : ℕ) → m < f.ships + length f.rules → restriction_holds f table m ≡ true = λ m lt. not-false _ (none_found (λ n. not (restriction_holds f table n)) 0 (restriction_count f) e m (omega arith) (omega (arith, lt))) in
    record {
      listed = listed;
      sails = λ ship lt. sym (window_at f table ship lt) ∙ all ship (omega (arith, lt));
      keeps = λ place. elim (cases_lt place (length f.rules)) [
        | inl lt ↦
            let at : f.ships + place - f.ships ≡ place = omega arith in
            let h : holds_at f table (slice_get f.rules (f.ships + place - f.ships)) ≡ true = sym (rule_at f table (f.ships + place) (omega arith)) ∙ all (f.ships + place) (omega (arith, lt)) in
            some_holds f table (slice_get f.rules place) (subst (λ i. holds_at f table (slice_get f.rules i) ≡ true) at h)
        | inr past ↦ nothing_at f table (slice_get f.rules place) (slice_get_past f.rules place past)
      ];
    }

pub from_permits : (f : Problem) (table : List ℕ) → Permits f table → first_broken f table ≡ None
from_permits f table h = found_none (λ n. not (restriction_holds f table n)) 0 (restriction_count f) (λ m le lt. not_from_true _ (elim (cases_lt m f.ships) [
  | inl ship ↦ window_at f table m ship ∙ h.sails m ship
  | inr rule ↦ rule_at f table m rule ∙ holds_some f table _ (h.keeps (m - f.ships))
]))
