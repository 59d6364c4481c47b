-- A port's timetable is one of its flat problem, and the other way round; a state before any event.
use Rattle.std.proofs.Common.{◌≡◌, ◌⊎◌, inl, inr, ℕ, ◌+◌, ◌<◌, Bool, true, false, cond, IsTrue, List, length, refl, ◌∙◌, arith}
use Rattle.std.proofs.lemmas.Bool.{cases_lt}
use Rattle.std.proofs.lemmas.List.{length-replicate}
use Rattle.std.proofs.lemmas.List.Elements.{All-weaker}
use Rattle.hw_model.specs.Problem.{Problem, IsTimetable}
use Rattle.hw_port.specs.Whole.{Parts}
use Rattle.hw_tide.specs.Levels.{TideParts}
use Rattle.hw_port_model.specs.Flattened.{flattened}
use Rattle.hw_port_model.specs.Numbers.{horizon_of, some_may_stay}
use Rattle.hw_port_model.specs.Timetables.{IsPortTimetable}
use Rattle.hw_audit.specs.Laws.{SameTimetables}
use Rattle.hw_audit.specs.Watching.{watched, IsWatched}

pub slot_in : (b : Bool) (horizon slot : ℕ) → (slot < horizon) ⊎ ((slot ≡ horizon) × IsTrue b) → slot < cond b (horizon + 1) horizon
slot_in true horizon slot h = elim h [
  | inl lt ↦ omega (arith, lt)
  | inr last ↦ omega (arith, last.0)
]
slot_in false horizon slot h = elim h [
  | inl lt ↦ lt
  | inr last ↦ absurd (let e = last.1 in cc)
]

pub of_port : (p : Parts) (h : TideParts) (table : List ℕ) → IsPortTimetable p table → IsTimetable (flattened p h) table
of_port p h table is = record {
  each_ship = is.each_ship;
  each_slot = All-weaker (λ slot. (slot < horizon_of p) ⊎ ((slot ≡ horizon_of p) × IsTrue (some_may_stay p))) (λ slot. slot < (flattened p h).slots) (slot_in (some_may_stay p) (horizon_of p)) table is.each_slot;
}

pub slot_of : (b : Bool) (horizon slot : ℕ) → slot < cond b (horizon + 1) horizon → (slot < horizon) ⊎ ((slot ≡ horizon) × IsTrue b)
slot_of true horizon slot lt = elim (cases_lt slot horizon) [
  | inl below ↦ inl below
  | inr past ↦
      let last : slot ≡ horizon = omega (arith, lt, past) in
      inr (last, refl)
]
slot_of false horizon slot lt = inl lt

-- callers cite it for the timetable that `Audit::new` takes
pub to_port : (p : Parts) (h : TideParts) (table : List ℕ) → IsTimetable (flattened p h) table → IsPortTimetable p table
to_port p h table is = record {
  each_ship = is.each_ship;
  each_slot = All-weaker (λ slot. slot < (flattened p h).slots) (λ slot. (slot < horizon_of p) ⊎ ((slot ≡ horizon_of p) × IsTrue (some_may_stay p))) (slot_of (some_may_stay p) (horizon_of p)) table is.each_slot;
}

pub same_timetables : SameTimetables
same_timetables p h table = (of_port p h table, to_port p h table)

-- before any event
pub watched_first : (f : Problem) (fleet : ℕ) (table : List ℕ) → IsTimetable f table → IsWatched f fleet (watched table)
watched_first f fleet table is = record { listed = is; each_ship = length-replicate (length table) false ∙ is.each_ship; few = omega arith }
