-- Which timetables meet the plan that a day leaves.
use Rattle.std.proofs.Common.{◌≡◌, ℕ, ◌<◌, ◌≤◌, Bool, true, false, List, Some, IfSome, slice_get, length, get_or, refl, sym, subst, ◌∙◌, arith}
use Rattle.hw_lemmas.proofs.Truths.{if_some, if_some_from}
use Rattle.hw_lemmas.proofs.Lists.{get_within}
use Rattle.hw_model.specs.Problem.{Problem, IsTimetable}
use Rattle.hw_model.specs.Timetables.{Permits}
use Rattle.hw_port_model.specs.Flattened.{flattened}
use Rattle.hw_port_model.specs.Numbers.{whole}
use Rattle.hw_port_laws.proofs.Permits.{same_permitted_law}
use Rattle.hw_audit.specs.Laws.{fewer_tugs}
use Rattle.hw_audit.specs.Watching.{Watched, watched, IsWatched, after_all}
use Rattle.hw_audit.proofs.Begun.{of_port, watched_first}
use Rattle.hw_audit.proofs.Ports.{lessened_port, port_kept}
use Rattle.hw_audit.proofs.Taken.{all_taken}
use Rattle.hw_repair.specs.declared.plan.Wish.{Wish}
use Rattle.hw_repair.specs.Wishes.{Grants}
use Rattle.hw_audit.specs.Carried.{reached, earliest, wish_now, carried_plan, KeepsDay}
use Rattle.hw_audit.specs.CarriedLaws.{KeepsTheDay}
use Rattle.hw_audit.proofs.Days.{wish_at, wishes_many, reached_each, each_reached, earliest_parts, earliest_from}

-- the ships of a state and of the timetable from which it began are as many
pub record SameShips (table : List ℕ) (s : Watched) : Type 0 where
  pub planned : length table ≡ length s.sailed
  pub now : length s.table ≡ length s.sailed

-- what the plan says of a ship
abbrev wish_of : List ℕ → Watched → ℕ → Wish
wish_of table s ship = wish_now (reached s.sailed s.table) (get_or s.sailed ship false) (get_or table ship 0) (get_or s.table ship 0)

granted_at : (table : List ℕ) (s : Watched) (other : List ℕ) (ship : ℕ) → SameShips table s → ship < length table → ((ship : ℕ) → IfSome (slice_get (carried_plan table s).wishes ship) (λ wish. Grants wish (get_or other ship 0))) → Grants (wish_of table s ship) (get_or other ship 0)
granted_at table s other ship same lt granted =
    let there = wish_at (reached s.sailed s.table) ship s.sailed table s.table same.planned same.now (omega (arith, lt, same.planned)) in
    if_some (λ wish. Grants wish (get_or other ship 0)) (slice_get (carried_plan table s).wishes ship) (wish_of table s ship) there (granted ship)

to_day : (table : List ℕ) (s : Watched) (other : List ℕ) → SameShips table s → ((ship : ℕ) → IfSome (slice_get (carried_plan table s).wishes ship) (λ wish. Grants wish (get_or other ship 0))) → KeepsDay table s other
to_day table s other same granted = record {
  kept = λ ship lt is. subst (λ (gone : Bool). Grants (wish_now (reached s.sailed s.table) gone (get_or table ship 0) (get_or s.table ship 0)) (get_or other ship 0)) is (granted_at table s other ship same lt granted);
  left = λ ship lt is.
      let h : earliest (reached s.sailed s.table) (get_or table ship 0) (get_or s.table ship 0) ≤ get_or other ship 0 = subst (λ (gone : Bool). Grants (wish_now (reached s.sailed s.table) gone (get_or table ship 0) (get_or s.table ship 0)) (get_or other ship 0)) is (granted_at table s other ship same lt granted) in
      let both = earliest_parts (reached s.sailed s.table) (get_or table ship 0) (get_or s.table ship 0) (get_or other ship 0) h in
      record {
        reached = λ ship' lt' is'. reached_each s.sailed s.table (get_or other ship 0) ship' same.now both.0 (omega (arith, lt', same.planned)) is';
        delayed = both.1;
      };
}

grants_by : (table : List ℕ) (s : Watched) (other : List ℕ) (ship : ℕ) (gone : Bool) → SameShips table s → ship < length table → get_or s.sailed ship false ≡ gone → KeepsDay table s other
    → Grants (wish_now (reached s.sailed s.table) gone (get_or table ship 0) (get_or s.table ship 0)) (get_or other ship 0)
grants_by table s other ship true same lt is day = day.kept ship lt is
grants_by table s other ship false same lt is day =
    let left = day.left ship lt is in
    earliest_from (reached s.sailed s.table) (get_or table ship 0) (get_or s.table ship 0) (get_or other ship 0)
    (each_reached s.sailed s.table (get_or other ship 0) same.now (λ ship' lt' is'. left.reached ship' (omega (arith, lt', same.planned)) is')) left.delayed

from_day : (table : List ℕ) (s : Watched) (other : List ℕ) → SameShips table s → KeepsDay table s other → (ship : ℕ) → IfSome (slice_get (carried_plan table s).wishes ship) (λ wish. Grants wish (get_or other ship 0))
from_day table s other same day ship = if_some_from (λ wish. Grants wish (get_or other ship 0)) (slice_get (carried_plan table s).wishes ship) (λ wish e.
    let size = wishes_many (reached s.sailed s.table) s.sailed table s.table same.planned same.now in
    let lt : ship < length table = omega (arith, get_within (carried_plan table s).wishes ship wish e, size, same.planned) in
    let there = wish_at (reached s.sailed s.table) ship s.sailed table s.table same.planned same.now (omega (arith, lt, same.planned)) in
    let both : Some (wish_of table s ship) ≡ Some wish = sym there ∙ e in
    if_some (λ w. Grants w (get_or other ship 0)) (Some (wish_of table s ship)) wish both (grants_by table s other ship (get_or s.sailed ship false) same lt refl day))

-- ---- after events

pub same_ships : (f : Problem) (fleet : ℕ) (table : List ℕ) (s : Watched) → IsTimetable f table → IsWatched f fleet s → SameShips table s
same_ships f fleet table s is kept = record {
  planned = is.each_ship ∙ sym kept.each_ship;
  now = kept.listed.each_ship ∙ sym kept.each_ship;
}

pub keeps_the_day : KeepsTheDay
keeps_the_day p h place table events other kept listed taken =
    let f = flattened p h in
    let s = after_all (watched table) events in
    let is : IsTimetable f table = of_port p h table listed in
    let kept_on : IsWatched f (whole p.fleet) s = all_taken f (whole p.fleet) place (watched table) events (watched_first f (whole p.fleet) table is) taken in
    let same = same_ships f (whole p.fleet) table s is kept_on in
    let port = same_permitted_law (fewer_tugs s.withdrawn p) h other (port_kept p s.withdrawn kept) in
    let less = lessened_port p h s.withdrawn in (
      λ meets. (port.1 (subst (λ g. Permits g other) less meets.permitted), to_day table s other same meets.granted),
      λ both. record { permitted = subst (λ g. Permits g other) (sym less) (port.0 both.0); granted = from_day table s other same both.1 },
    )
