-- How the steps of settling follow one another.
use Rattle.std.proofs.Common.{◌≡◌, ℕ, zero, suc, ◌<◌, ◌-◌, ◌≤◌, true, List, [], ◌∷◌, ◌++◌, Option, Some, None, Ok, length, slice_get, replicate, refl, sym, ap, ◌∙◌, subst, inl, inr, arith, append_assoc, length-append}
use Rattle.std.specs.Prelude.{IsSome}
use Rattle.std.proofs.lemmas.List.{append-nil, replicate-append-replicate}
use Rattle.std.proofs.lemmas.List.Elements.{All-nil, All-cons, All-append}
use Rattle.hw_model.specs.declared.lit.Lit.{Lit}
use Rattle.hw_model.specs.declared.lit.LitTruth.TheVariants.{Free}
use Rattle.hw_model.specs.declared.narrowing.Narrowed.TheVariants.{Cut as CutBy}
use Rattle.hw_search.specs.declared.settling.Asked.{Asked}
use Rattle.hw_search.specs.declared.settling.Asked.TheVariants.{Quiet, Cut, Conflict}
use Rattle.hw_model.specs.Lits.{lit_fits, IsClause}
use Rattle.hw_model.specs.Narrowing.{truth}
use Rattle.hw_model.specs.Problem.{Problem, shape_of}
use Rattle.hw_model.specs.Replay.{narrowing}
use Rattle.hw_trail_laws.specs.declared.event.Event.{Event}
use Rattle.hw_trail_laws.specs.declared.event.Why.{Why}
use Rattle.hw_trail_laws.specs.Trails.{trail_shape, reason_clause, most_events}
use Rattle.hw_trail_laws.specs.Walks.{InClause}
use Rattle.hw_trail_laws.proofs.Denials.{in_fits}
use Rattle.hw_search_laws.specs.Searches.{SearchModel, IsSearch, IsReason, HasLine, room_in}
use Rattle.hw_search_laws.specs.Settling.{Implies, with_events}
use Rattle.hw_search_laws.proofs.Holds.{problem_clause}
use Rattle.hw_search_laws.proofs.Keeps.{implied_search}
use Rattle.hw_search.proofs.Kept.{few_in}
use Rattle.hw_search.specs.Askings.{Goes, Gains, AskingFails, AskMeets}

-- ---- a literal of a clause fits

in_at : (clause : List Lit) (place : ℕ) (lit : Lit) → slice_get clause place ≡ Some lit → InClause lit clause
in_at [] place lit e = absurd cc
in_at (l ∷ more) zero lit e = let same : l ≡ lit = cc in inl same
in_at (l ∷ more) (suc place) lit e = inr (in_at more place lit e)

pub unit_fits : (s : SearchModel) (clause : List Lit) (place : ℕ) (lit : Lit) → IsSearch s → IsClause (shape_of s.problem) clause → slice_get clause place ≡ Some lit → lit_fits (trail_shape s.trail) lit ≡ true
unit_fits s clause place lit is fits at = in_fits (trail_shape s.trail) clause 0 None (problem_clause s is.same_ships is.same_slots clause fits) lit (in_at clause place lit at)

-- ---- events that come

with_none : (s : SearchModel) → s ≡ with_events s []
with_none s =
    let t = s.trail in
    let a : SearchModel → List Event → List (Option ℕ) → SearchModel = λ s es ws. record s { trail = record { ships = s.trail.ships; slots = s.trail.slots; events = es; level = s.trail.level }; written = ws } in
    sym (ap (λ es. a s es (s.written ++ [])) (append-nil s.trail.events) ∙ ap (λ ws. a s s.trail.events ws) (append-nil s.written))

with_both : (s : SearchModel) (one two : List Event) → with_events (with_events s one) two ≡ with_events s (one ++ two)
with_both s one two =
    let a : List Event → List (Option ℕ) → SearchModel = λ es ws. record s { trail = record { ships = s.trail.ships; slots = s.trail.slots; events = es; level = s.trail.level }; written = ws } in
    let ws : (s.written ++ replicate (length one) None) ++ replicate (length two) None ≡ s.written ++ replicate (length (one ++ two)) None =
    append_assoc s.written (replicate (length one) None) (replicate (length two) None) ∙ ap (λ xs. s.written ++ xs) (replicate-append-replicate (length one) (length two) None ∙ ap (λ n. replicate n None) (sym (length-append one two))) in
    ap (λ es. a es ((s.written ++ replicate (length one) None) ++ replicate (length two) None)) (append_assoc s.trail.events one two) ∙ ap (λ ws. a (s.trail.events ++ (one ++ two)) ws) ws

pub implies_none : (s : SearchModel) → Implies s s
implies_none s = record { more = []; implied = All-nil (λ (event : Event). IsSome event.why); only = with_none s }

pub implies_more : (s mid after : SearchModel) → Implies s mid → Implies mid after → Implies s after
implies_more s mid after a b = record {
  more = a.more ++ b.more;
  implied = All-append (λ (event : Event). IsSome event.why) a.more b.more a.implied b.implied;
  only = b.only ∙ ap (λ m. with_events m b.more) a.only ∙ with_both s a.more b.more;
}

pub same_problem : (s after : SearchModel) → Implies s after → after.problem ≡ s.problem
same_problem s after i = ap (λ (x : SearchModel). x.problem) i.only

pub no_fewer : (s after : SearchModel) → Implies s after → length s.trail.events ≤ length after.trail.events
no_fewer s after i = omega (arith, ap (λ (x : SearchModel). length x.trail.events) i.only, length-append s.trail.events i.more)

pub goes_more : (s mid after : SearchModel) → Implies s mid → Goes mid after → Goes s after
goes_more s mid after a b = record { implies = implies_more s mid after a b.implies; kept = b.kept }

pub gains_more : (s mid after : SearchModel) → Implies s mid → Gains mid after → Gains s after
gains_more s mid after a b = record { goes = goes_more s mid after a b.goes; more = omega (arith, no_fewer s mid a, b.more) }

pub fails_more : (s mid after : SearchModel) (why : Why) → Implies s mid → AskingFails mid after why → AskingFails s after why
fails_more s mid after why a b = record { goes = goes_more s mid after a b.goes; conflict = b.conflict }

-- one implied literal
pub gains_one : (s after : SearchModel) (lit : Lit) (why : Why) → IsSearch s → lit_fits (trail_shape s.trail) lit ≡ true → IsClause (trail_shape s.trail) (reason_clause why) → truth (room_in s) lit ≡ Free → narrowing (reason_clause why) (room_in s) ≡ CutBy lit → IsReason s why → HasLine None why → after ≡ with_events s (record { lit = lit; level = s.trail.level; why = Some why } ∷ []) → Gains s after
gains_one s after lit why is fits clause free only reason line e =
    let event : Event = record { lit = lit; level = s.trail.level; why = Some why } in
    record {
      goes = record {
        implies = record { more = event ∷ []; implied = All-cons (λ (event : Event). IsSome event.why) event [] refl (All-nil (λ (event : Event). IsSome event.why)); only = e };
        kept = subst IsSearch (sym e) (implied_search s lit why is fits clause free only reason line);
      };
      more = omega (arith, ap (λ (x : SearchModel). length x.trail.events) e, length-append s.trail.events (event ∷ []));
    }

-- ---- what is left to come

-- with one more there are fewer left
pub left_less : (s after : SearchModel) → Gains s after → most_events after.problem.ships after.problem.slots - length after.trail.events < most_events s.problem.ships s.problem.slots - length s.trail.events
left_less s after g =
    let few = few_in after g.goes.kept in
    let same : most_events after.problem.ships after.problem.slots ≡ most_events s.problem.ships s.problem.slots = ap (λ (f : Problem). most_events f.ships f.slots) (same_problem s after g.goes.implies) in
    omega (arith, few, same, g.more)

-- ---- what an answer tells

pub as_quiet : (quiet : Type 0) (s after : SearchModel) (asked : Asked) → asked ≡ Quiet → AskMeets quiet s after (Ok asked) → (after ≡ s) × IsSearch after × quiet
as_quiet quiet s after asked e m = subst (λ a. AskMeets quiet s after (Ok a)) e m

pub as_cut : (quiet : Type 0) (s after : SearchModel) (asked : Asked) → asked ≡ Cut → AskMeets quiet s after (Ok asked) → Gains s after
as_cut quiet s after asked e m = subst (λ a. AskMeets quiet s after (Ok a)) e m

pub as_conflict : (quiet : Type 0) (s after : SearchModel) (asked : Asked) (why : Why) → asked ≡ Conflict why → AskMeets quiet s after (Ok asked) → AskingFails s after why
as_conflict quiet s after asked why e m = subst (λ a. AskMeets quiet s after (Ok a)) e m
