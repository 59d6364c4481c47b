-- Timetables that meet the wishes of a plan.
use Rattle.std.proofs.Common.{◌≡◌, ℕ, ◌<◌, List, length, Option, Some, None, IfSome, IsTrue, slice_get, get_or, refl, subst, arith}
use Rattle.hw_model.specs.Problem.{Problem}
use Rattle.hw_plan_texts.specs.Fleets.{lessened}
use Rattle.hw_repair.specs.Wishes.{PlanParts, Grants, PlanFits, PermitsPlan}
use Rattle.hw_repair.specs.declared.plan.Wish.{Wish}
use Rattle.hw_repair.proofs.Values.{grants_of, of_grants}
use Rattle.std.proofs.lemmas.Option.{get_or_from_slice_get}
use Rattle.hw_lemmas.proofs.Lists.{get_within}
use Rattle.hw_clash.specs.Laws.{WishesMean}
use Rattle.hw_clash.specs.Wished.{PermitsWished, is_granted, with_wishes}
use Rattle.hw_clash.proofs.Parts.{slot_at}

-- one wish
pub granted_wish : (wish : Wish) (table : List ℕ) (ship : ℕ) → ship < length table → IsTrue (is_granted (Some wish) (slice_get table ship)) → Grants wish (get_or table ship 0)
granted_wish wish table ship lt h = grants_of wish (get_or table ship 0) (subst (λ o. IsTrue (is_granted (Some wish) o)) (slot_at table ship lt) h)

pub wish_granted : (wish : Wish) (table : List ℕ) (ship : ℕ) → Grants wish (get_or table ship 0) → IsTrue (is_granted (Some wish) (slice_get table ship))
wish_granted wish table ship h = by (slice_get table ship) refl
  where
    by : (o : Option ℕ) → slice_get table ship ≡ o → IsTrue (is_granted (Some wish) o)
    by None e = refl
    by (Some slot) e = of_grants wish slot (subst (Grants wish) (get_or_from_slice_get table ship slot 0 e) h)

to_plan : (f : Problem) (plan : PlanParts) (table : List ℕ) → PlanFits f plan → PermitsWished (with_wishes (lessened plan.withdrawn f) plan.wishes) table → PermitsPlan f plan table
to_plan f plan table fits permits = record { permitted = permits.permitted; granted = λ ship. by ship (slice_get plan.wishes ship) refl }
  where
    by : (ship : ℕ) (o : Option Wish) → slice_get plan.wishes ship ≡ o → IfSome o (λ wish. Grants wish (get_or table ship 0))
    by ship None e = tt
    by ship (Some wish) e =
        let lt : ship < f.ships = omega (arith, get_within plan.wishes ship wish e, fits.each_ship) in
        granted_wish wish table ship (omega (arith, lt, permits.permitted.listed.each_ship)) (subst (λ o. IsTrue (is_granted o (slice_get table ship))) e (permits.granted ship))

of_plan : (f : Problem) (plan : PlanParts) (table : List ℕ) → PermitsPlan f plan table → PermitsWished (with_wishes (lessened plan.withdrawn f) plan.wishes) table
of_plan f plan table meets = record { permitted = meets.permitted; granted = λ ship. by ship (slice_get plan.wishes ship) (meets.granted ship) }
  where
    by : (ship : ℕ) (o : Option Wish) → IfSome o (λ wish. Grants wish (get_or table ship 0)) → IsTrue (is_granted o (slice_get table ship))
    by ship None h = refl
    by ship (Some wish) h = wish_granted wish table ship h

pub wishes_mean : WishesMean
wishes_mean = record {
  plan = λ f plan table fits. (to_plan f plan table fits, of_plan f plan table);
  none = λ f table. (λ permits. permits.permitted, λ permits. record { permitted = permits; granted = λ ship. refl });
}
