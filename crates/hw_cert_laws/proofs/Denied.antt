-- Denied rooms of normal clauses, and sources of lines.
use Rattle.std.proofs.Common.{◌≡◌, ℕ, ◌+◌, ◌-◌, ◌<◌, ◌≤◌, List, [], ◌∷◌, length, refl, ◌∙◌, arith, nat_lt}
use Rattle.std.proofs.lemmas.Bool.{ltb-true, ltb-false, cond_both}
use Rattle.hw_model.specs.declared.lit.Lit.{Lit}
use Rattle.hw_model.specs.declared.shape.Shape.{Shape}
use Rattle.hw_model.specs.declared.source.Source.TheVariants as sources
use Rattle.hw_model.specs.Problem.{Problem}
use Rattle.hw_model.specs.Timetables.{restriction_count}
use Rattle.hw_model.specs.Lits.{negation}
use Rattle.hw_model.specs.Rooms.{RoomModel, whole_room}
use Rattle.hw_model.specs.Narrowing.{cut, denied_from, denied}
use Rattle.hw_model.specs.Refuting.{IsSourceOf, source_of}
use Rattle.hw_model_laws.proofs.Ranges.{IsFull}
use Rattle.hw_model_laws.proofs.Cuts.{full_cut, same_ships}
use Rattle.hw_model_laws.proofs.Denials.{whole_full}

from_full : (room : RoomModel) (clause : List Lit) → IsFull room → IsFull (denied_from room clause)
from_full room [] full = full
from_full room (lit ∷ more) full = from_full (cut (negation lit) room) more (full_cut room (negation lit) full)

from_ships : (room : RoomModel) (clause : List Lit) → (denied_from room clause).ships ≡ room.ships
from_ships room [] = refl
from_ships room (lit ∷ more) = from_ships (cut (negation lit) room) more ∙ same_ships room (negation lit)

pub denied_full : (shape : Shape) (clause : List Lit) → IsFull (denied shape clause)
denied_full shape clause = from_full (whole_room shape) clause (whole_full shape)

pub denied_ships : (shape : Shape) (clause : List Lit) → (denied shape clause).ships ≡ shape.ships
denied_ships shape clause = from_ships (whole_room shape) clause

pub of_problem : (f : Problem) (n : ℕ) → n < restriction_count f → IsSourceOf f (source_of f n)
of_problem f n lt = cond_both (nat_lt n f.ships) (sources.Window n) (sources.Rule (n - f.ships)) (IsSourceOf f) (λ e. ltb-true _ _ e) (λ e.
    let past : f.ships ≤ n = ltb-false _ _ e in
    below n f.ships (length f.rules) past lt)
  where
    below : (n a b : ℕ) → a ≤ n → n < a + b → n - a < b
    below n a b le lt = omega (arith, le, lt)
