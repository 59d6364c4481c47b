-- A replay, clause by clause, among the live ones.
use Rattle.std.proofs.Common.{◌≡◌, ℕ, ◌==◌, Bool, true, false, cond, List, [], ◌∷◌, Option, Some, None, drop, find, option_map, is_none, All, IsSome, refl, subst}
use Rattle.std.proofs.lemmas.List.Elements.{All-nil, All-cons, All-head, All-tail}
use Rattle.hw_model.specs.declared.lit.Lit.{Lit}
use Rattle.hw_model.specs.Rooms.{RoomModel}
use Rattle.hw_model.specs.Replay.{replay_from, replay}
use Rattle.hw_model.specs.Lits.{IsLitOf}
use Rattle.hw_cert_lines.specs.Kept.{NumberedClause, clause_under}
use Rattle.hw_cert_lines.specs.Refusals.{first_dead, named}
use Rattle.hw_check.specs.States.{LitsFit}

pub record IsReplaying (held : List NumberedClause) (hints : List ℕ) (from room : RoomModel) (i : ℕ) : Type 0 where
  pub ships : room.ships ≡ from.ships
  pub slots : room.slots ≡ from.slots
  pub left : replay_from i room (named held (drop i hints)) ≡ replay from (named held hints)

-- the clause of a number speaks of the room's ships
pub lits_fit : (ships : ℕ) (held : List NumberedClause) (id : ℕ) (lits : List Lit) → LitsFit ships held → clause_under held id ≡ Some lits → All (IsLitOf ships) lits
lits_fit ships [] id lits all e = absurd cc
lits_fit ships (one ∷ held) id lits all e = by (one.id == id) (lits_fit ships held id lits (All-tail (λ (x : NumberedClause). All (IsLitOf ships) x.clause) one held all)) e
  where
    taken : (a : List Lit) → Some a ≡ Some lits → a ≡ lits
    taken a e = cc

    by : (b : Bool) → (clause_under held id ≡ Some lits → All (IsLitOf ships) lits) → option_map (λ (x : NumberedClause). x.clause) (cond b (Some one) (find (λ (x : NumberedClause). x.id == id) held)) ≡ Some lits → All (IsLitOf ships) lits
    by true later e = subst (All (IsLitOf ships)) (taken one.clause e) (All-head (λ (x : NumberedClause). All (IsLitOf ships) x.clause) one held all)
    by false later e = later e

-- a search for one that isn't live ended with none
pub none_dead : (held : List NumberedClause) (ids : List ℕ) → first_dead held ids ≡ None → All (λ id. IsSome (clause_under held id)) ids
none_dead held [] e = All-nil (λ id. IsSome (clause_under held id))
none_dead held (id ∷ ids) e =
    let parts = found (clause_under held id) id (first_dead held ids) e in
    All-cons (λ id. IsSome (clause_under held id)) id ids parts.0 (none_dead held ids parts.1)
  where
    found : (o : Option (List Lit)) (id : ℕ) (rest : Option ℕ) → cond (is_none o) (Some id) rest ≡ None → (IsSome o) × (rest ≡ None)
    found (Some x) id rest e = (refl, e)
    found None id rest e = absurd cc
