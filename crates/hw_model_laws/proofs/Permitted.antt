-- A permitted timetable has a cargo, and inside a refuted room one of at most the best.
use Rattle.std.proofs.Common.{◌≡◌, ℕ, ◌+◌, ◌<◌, ◌≤◌, List, Option, Some, None, length, get_or, sum_by, IsSome, IsSomeAnd, refl, subst, arith}
use Rattle.std.specs.List.{range_with_len}
use Rattle.hw_model.specs.declared.source.Source.{Source}
use Rattle.hw_model.specs.Problem.{Problem, value_at}
use Rattle.hw_model.specs.Limits.{IsFlat}
use Rattle.hw_model.specs.Timetables.{Permits, cargo}
use Rattle.hw_model.specs.Rooms.{RoomModel, RoomFits, Inside}
use Rattle.hw_model.specs.Refuting.{Refutes, IsSourceOf}
use Rattle.hw_model_laws.proofs.Cargoes.{worth, cargo_above}
use Rattle.hw_model_laws.proofs.Sound.{sound}

some_of : (o : Option ℕ) (m : ℕ) → IsSomeAnd o (λ c. m ≤ c) → IsSome o
some_of None m h = absurd h
some_of (Some c) m h = refl

pub has_cargo : (f : Problem) (table : List ℕ) → Permits f table → IsSome (cargo f table)
has_cargo f table permits =
    let each : (s k : ℕ) → s ≡ 0 + k → k < length table → IsSome (value_at f s (get_or table k 0)) × (0 ≤ worth f s (get_or table k 0)) = λ s k at lt.
    let same : k ≡ s = omega (arith, at) in
    let lt' : k < f.ships = omega (arith, lt, permits.listed.each_ship) in
    (subst (λ i. IsSome (value_at f i (get_or table k 0))) same (permits.sails k lt'), omega arith) in
    some_of (cargo f table) (sum_by (λ s. 0) (range_with_len 0 (length table))) (cargo_above f (λ s. 0) table 0 each)

pub at_most : (best o : Option ℕ) → IsSome o → ((c : ℕ) → o ≡ Some c → IsSomeAnd best (λ b. c ≤ b)) → IsSomeAnd best (λ b. IsSomeAnd o (λ c. c ≤ b))
at_most best None some h = absurd cc
at_most best (Some c) some h = h c refl

pub sound_cargo : (f : Problem) (source : Source) (best : Option ℕ) (room : RoomModel) (table : List ℕ) → IsFlat f → RoomFits f room → IsSourceOf f source → Refutes f source best room → Inside table room → Permits f table → IsSomeAnd best (λ b. IsSomeAnd (cargo f table) (λ c. c ≤ b))
sound_cargo f source best room table flat fits of refutes inside permits =
    at_most best (cargo f table) (has_cargo f table permits) (λ c e. sound f source best room table c flat.each_rule fits.same_ships fits.is_room.each_ship of refutes inside permits e)
