-- The problem of a repair permits what meets the plan, and its best timetables are the best repairs.
use Rattle.std.proofs.Common.{◌≡◌, inl, inr, ℕ, ◌+◌, ◌-◌, ◌*◌, ◌/◌, ◌%◌, ◌<◌, ◌≤◌, Bool, cond, List, Option, Some, None, option_map, slice_get, unwrap_or, IfSome, IsSome, IsTrue, length, get_or, refl, sym, ap, subst, ◌∙◌, arith}
use Rattle.std.proofs.Math.Nat.{mul-le-mul_left}
use Rattle.std.proofs.lemmas.Bool.{cases_lt}
use Rattle.std.proofs.lemmas.Nat.{div-mul-add, mod-mul-add}
use Rattle.std.proofs.lemmas.Option.{same_Some, get_or_from_slice_get}
use Rattle.std.proofs.lemmas.List.Elements.{All-get_or}
use Rattle.hw_lemmas.proofs.Truths.{if_some, if_some_from}
use Rattle.hw_lemmas.proofs.Lists.{get_within, has_get}
use Rattle.hw_plan_texts.specs.Fleets.{lessened}
use Rattle.hw_plan_texts.proofs.Alike.{rules_alike}
use Rattle.hw_plan_texts.proofs.Fleets.{lessened_fits, lessened_cargo}
use Rattle.hw_plan_texts.proofs.Grids.{grid_length, grid_all, grid_value}
use Rattle.hw_model_laws.proofs.Permitted.{has_cargo}
use Rattle.hw_model.specs.Problem.{Problem, IsTimetable, value_at, horizon}
use Rattle.hw_model.specs.Limits.{IsFlat}
use Rattle.hw_model.specs.Rules.{rule_holds}
use Rattle.hw_model.specs.Timetables.{Permits, cargo}
use Rattle.hw_repair.specs.declared.plan.Wish.{Wish}
use Rattle.hw_repair.specs.Wishes.{PlanParts, Grants, PlanFits, PermitsPlan, moved}
use Rattle.hw_repair.specs.Repaired.{repaired_worth, value_by, repaired, IsBestRepair}
use Rattle.hw_repair.specs.Laws.{RepairedValue, RepairedFits, RepairedPermits, RepairedCargo, RepairedMeets, BestRepair, NoneRepair}
use Rattle.hw_repair.proofs.Values.{value_is, granted_value, value_there, there_value, value_repairable, repaired_small, repaired_last, none_else}
use Rattle.hw_repair.proofs.Carried.{few_moved, carries}

pub repaired_value : RepairedValue
repaired_value = value_is

-- ---- limits

last_in : (f : Problem) → IsFlat f → IsTrue f.stay → horizon f < f.slots
last_in f flat stay =
    let e : horizon f ≡ f.slots - 1 = ap (λ (b : Bool). cond b (f.slots - 1) f.slots) stay in
    omega (arith, flat.some_slot, e)

pub repaired_fits : RepairedFits
repaired_fits f plan flat writable fits = record {
  some_ship = flat.some_ship;
  few_ships = flat.few_ships;
  some_slot = flat.some_slot;
  few_slots = flat.few_slots;
  each_value = grid_length (value_by f plan) f.ships f.slots;
  last_value = λ ship lt stay.
      let at_last : value_at (repaired f plan) ship (horizon f) ≡ value_by f plan ship (horizon f) = grid_value (repaired f plan) (value_by f plan) ship (horizon f) refl lt (last_in f flat stay) in
      subst (λ o. unwrap_or o 0 ≤ 1) (sym at_last)
      (none_else (λ n. n ≤ 1) (slice_get plan.wishes ship) _ (omega arith) (λ w. repaired_last f.ships w (horizon f) (value_at f ship (horizon f)) (writable ship lt stay)));
  small_values = grid_all (λ v. unwrap_or v 0 ≤ 1_000_000_000_000) (value_by f plan) f.ships f.slots (λ ship slot lt in'.
      none_else (λ n. n ≤ 1_000_000_000_000) (slice_get plan.wishes ship) _ (omega arith) (λ w. repaired_small f.ships w slot (value_at f ship slot) (value_repairable f plan ship slot flat.few_ships fits)));
  few_rules = (lessened_fits f plan.withdrawn flat).few_rules;
  each_rule = (lessened_fits f plan.withdrawn flat).each_rule;
  steps_sail = (lessened_fits f plan.withdrawn flat).steps_sail;
}

-- ---- what is permitted

slot_in : (f : Problem) (table : List ℕ) (ship : ℕ) → IsTimetable f table → ship < f.ships → get_or table ship 0 < f.slots
slot_in f table ship listed lt = All-get_or (λ slot. slot < f.slots) table ship 0 (omega (arith, lt, listed.each_ship)) listed.each_slot

wish_of : (f : Problem) (plan : PlanParts) (ship : ℕ) → PlanFits f plan → ship < f.ships → (w : Wish) × (slice_get plan.wishes ship ≡ Some w)
wish_of f plan ship fits lt = has_get plan.wishes ship (omega (arith, lt, fits.each_ship))

keeps_from : (f r : Problem) (table : List ℕ) (place : ℕ) → r.slots ≡ f.slots → r.stay ≡ f.stay → IfSome (slice_get f.rules place) (λ rule. IsTrue (rule_holds f table rule)) → IfSome (slice_get f.rules place) (λ rule. IsTrue (rule_holds r table rule))
keeps_from f r table place slots stay h =
    if_some_from _ (slice_get f.rules place) (λ rule e. subst (λ b. IsTrue b) (sym (rules_alike f r table rule slots stay)) (if_some (λ rule. IsTrue (rule_holds f table rule)) (slice_get f.rules place) rule e h))

to_plan : (f : Problem) (plan : PlanParts) (table : List ℕ) → PlanFits f plan → Permits (repaired f plan) table → PermitsPlan f plan table
to_plan f plan table fits permits =
    let listed : IsTimetable f table = record { each_ship = permits.listed.each_ship; each_slot = permits.listed.each_slot } in
    record {
      permitted = record {
        listed = record { each_ship = listed.each_ship; each_slot = listed.each_slot };
        sails = λ ship lt.
            let w = wish_of f plan ship fits lt in
            (value_there f plan ship (get_or table ship 0) w.0 fits.each_ship w.1 (slot_in f table ship listed lt) (permits.sails ship lt)).1;
        keeps = λ place. keeps_from (repaired f plan) (lessened plan.withdrawn f) table place refl refl (permits.keeps place);
      };
      granted = λ ship. if_some_from _ (slice_get plan.wishes ship) (λ wish e.
          let lt : ship < f.ships = omega (arith, get_within plan.wishes ship wish e, fits.each_ship) in
          (value_there f plan ship (get_or table ship 0) wish fits.each_ship e (slot_in f table ship listed lt) (permits.sails ship lt)).0);
    }

from_plan : (f : Problem) (plan : PlanParts) (table : List ℕ) → PlanFits f plan → PermitsPlan f plan table → Permits (repaired f plan) table
from_plan f plan table fits meets =
    let permits = meets.permitted in
    let listed : IsTimetable f table = record { each_ship = permits.listed.each_ship; each_slot = permits.listed.each_slot } in
    record {
      listed = record { each_ship = listed.each_ship; each_slot = listed.each_slot };
      sails = λ ship lt.
          let w = wish_of f plan ship fits lt in
          there_value f plan ship (get_or table ship 0) w.0 fits.each_ship w.1 (slot_in f table ship listed lt) (if_some (λ wish. Grants wish (get_or table ship 0)) (slice_get plan.wishes ship) w.0 w.1 (meets.granted ship)) (permits.sails ship lt);
      keeps = λ place. keeps_from (lessened plan.withdrawn f) (repaired f plan) table place refl refl (permits.keeps place);
    }

pub repaired_permits : RepairedPermits
repaired_permits f plan table fits = (to_plan f plan table fits, from_plan f plan table fits)

-- ---- cargo

pub repaired_cargo : RepairedCargo
repaired_cargo f plan table c fits meets e =
    let permits = meets.permitted in
    let listed : IsTimetable f table = record { each_ship = permits.listed.each_ship; each_slot = permits.listed.each_slot } in
    let same : length plan.wishes ≡ length table = fits.each_ship ∙ sym permits.listed.each_ship in
    let at = λ (i s slot : ℕ) (wish : Wish) (here : s ≡ 0 + i) (p : slice_get plan.wishes i ≡ Some wish) (q : slice_get table i ≡ Some slot).
    let there : s ≡ i = omega (arith, here) in
    let lt : i < f.ships = omega (arith, get_within table i slot q, permits.listed.each_ship) in
    let is_slot : get_or table i 0 ≡ slot = get_or_from_slice_get table i slot 0 q in
    let in' : slot < f.slots = subst (λ n. n < f.slots) is_slot (slot_in f table i listed lt) in
    let g : Grants wish slot = subst (Grants wish) is_slot (if_some (λ wish. Grants wish (get_or table i 0)) (slice_get plan.wishes i) wish p (meets.granted i)) in
    subst (λ n. value_at (repaired f plan) n slot ≡ option_map (repaired_worth f.ships wish slot) (value_at f n slot)) (sym there) (granted_value f plan i slot wish fits.each_ship p in' g) in
    let sum = carries f (repaired f plan) 0 plan.wishes table c same at e in
    let few : moved plan table ≤ f.ships = omega (arith, few_moved plan.wishes table same, permits.listed.each_ship) in
    let is : sum.sum ≡ (f.ships + 1) * c + f.ships - moved plan table = omega (arith, sum.counted, permits.listed.each_ship, few) in
    record { few = few; carries = sum.carried ∙ ap (λ n. Some n) is }

-- ---- the best

cargo_of : (o : Option ℕ) → IsSome o → (c : ℕ) × (o ≡ Some c)
cargo_of None h = absurd cc
cargo_of (Some c) h = (c, refl)

has : (f : Problem) (plan : PlanParts) (table : List ℕ) → PermitsPlan f plan table → (c : ℕ) × (cargo f table ≡ Some c)
has f plan table meets =
    let c = cargo_of (cargo (lessened plan.withdrawn f) table) (has_cargo (lessened plan.withdrawn f) table meets.permitted) in
    (c.0, sym (lessened_cargo plan.withdrawn f 0 table) ∙ c.1)

-- cargo counts first, and then the ships that aren't moved
more_cargo : (n c d m k : ℕ) → m ≤ n → k ≤ n → (n + 1) * d + n - k ≤ (n + 1) * c + n - m → d ≤ c
more_cargo n c d m k fm fk h = elim (cases_lt c d) [
  | inl lt ↦
      let le : (n + 1) * (c + 1) ≤ (n + 1) * d = mul-le-mul_left (n + 1) (omega (arith, lt)) in
      absurd (omega (arith, le, h, fm, fk))
  | inr le ↦ le
]

fewer_moved : (n c m k : ℕ) → m ≤ n → k ≤ n → (n + 1) * c + n - k ≤ (n + 1) * c + n - m → m ≤ k
fewer_moved n c m k fm fk h = omega (arith, h, fm, fk)

less_cargo : (n c d m k : ℕ) → m ≤ n → k ≤ n → d ≤ c → (d ≡ c → m ≤ k) → (n + 1) * d + n - k ≤ (n + 1) * c + n - m
less_cargo n c d m k fm fk le tie = elim (cases_lt d c) [
  | inl lt ↦
      let more : (n + 1) * (d + 1) ≤ (n + 1) * c = mul-le-mul_left (n + 1) (omega (arith, lt)) in
      omega (arith, more, fm, fk)
  | inr ge ↦
      let e : d ≡ c = omega (arith, le, ge) in
      let p : (n + 1) * d ≡ (n + 1) * c = ap (λ x. (n + 1) * x) e in
      omega (arith, p, tie e, fm, fk)
]

stands : (n c m d : ℕ) → m ≤ n → d ≡ (n + 1) * c + n - m → (d / (n + 1) ≡ c) × (d % (n + 1) ≡ n - m)
stands n c m d few e =
    let is : d ≡ c * (n + 1) + (n - m) = omega (arith, e, few) in
    let below : n - m < n + 1 = omega arith in
    (ap (λ x. x / (n + 1)) is ∙ div-mul-add c (n + 1) (n - m) below, ap (λ x. x % (n + 1)) is ∙ mod-mul-add c (n + 1) (n - m) below)

pub repaired_meets : RepairedMeets
repaired_meets f plan table d fits permits worth =
    let meets = to_plan f plan table fits permits in
    let c = has f plan table meets in
    let own = repaired_cargo f plan table c.0 fits meets c.1 in
    let is : d ≡ (f.ships + 1) * c.0 + f.ships - moved plan table = same_Some d _ (sym worth ∙ own.carries) in
    let parts = stands f.ships c.0 (moved plan table) d own.few is in
    record {
      meets = meets;
      worth = c.1 ∙ ap (λ (n : ℕ). Some n) (sym parts.0);
      moves = omega (arith, parts.1, own.few);
    }

pub best_repair : BestRepair
best_repair f plan table fits = record {
  is_repair = λ d best.
      let meets = to_plan f plan table fits best.permitted in
      let c = has f plan table meets in
      let own = repaired_cargo f plan table c.0 fits meets c.1 in
      let is : d ≡ (f.ships + 1) * c.0 + f.ships - moved plan table = same_Some d _ (sym best.worth ∙ own.carries) in
      let parts = stands f.ships c.0 (moved plan table) d own.few is in
      let repair : IsBestRepair f plan table c.0 = record {
        meets = meets;
        worth = c.1;
        greatest = λ other e m has'.
            let theirs = repaired_cargo f plan other e fits m has' in
            more_cargo f.ships c.0 e (moved plan table) (moved plan other) own.few theirs.few (omega (arith, best.greatest other _ (from_plan f plan other fits m) theirs.carries, is));
        fewest = λ other m has'.
            let theirs = repaired_cargo f plan other c.0 fits m has' in
            fewer_moved f.ships c.0 (moved plan table) (moved plan other) own.few theirs.few (omega (arith, best.greatest other _ (from_plan f plan other fits m) theirs.carries, is));
      } in
      (subst (IsBestRepair f plan table) (sym parts.0) repair, omega (arith, parts.1, own.few));
  is_best = λ c best.
      let own = repaired_cargo f plan table c fits best.meets best.worth in
      record {
        permitted = from_plan f plan table fits best.meets;
        worth = own.carries;
        greatest = λ other d permits worth.
            let m = to_plan f plan other fits permits in
            let e = has f plan other m in
            let theirs = repaired_cargo f plan other e.0 fits m e.1 in
            let is : d ≡ (f.ships + 1) * e.0 + f.ships - moved plan other = same_Some d _ (sym worth ∙ theirs.carries) in
            let le : (f.ships + 1) * e.0 + f.ships - moved plan other ≤ (f.ships + 1) * c + f.ships - moved plan table = less_cargo f.ships c e.0 (moved plan table) (moved plan other) own.few theirs.few (best.greatest other e.0 m e.1) (λ tie. best.fewest other m (subst (λ x. cargo f other ≡ Some x) tie e.1)) in
            omega (arith, is, le);
      };
}

pub none_repair : NoneRepair
none_repair f plan fits = (λ none table meets. none table (from_plan f plan table fits meets), λ none table permits. none table (to_plan f plan table fits permits))
