-- What the store's answer tells of the search's lemmas.
use Rattle.std.proofs.Common.{◌≡◌, ℕ, None, List, [], ◌∷◌, map, refl, sym, ap, ◌∙◌, subst}
use Rattle.std.specs.Prelude.{All, Contains}
use Rattle.std.proofs.lemmas.List.Elements.{All-nil, All-cons, All-head, All-tail, All-map, All-contains}
use Rattle.hw_model.specs.declared.lit.Lit.{Lit}
use Rattle.hw_model.specs.Lits.{IsClause}
use Rattle.hw_model.specs.Problem.{shape_of}
use Rattle.hw_model.specs.Replay.{QuietClause}
use Rattle.hw_model.specs.Rooms.{RoomModel}
use Rattle.hw_store.specs.declared.store.Held.TheVariants as helds
use Rattle.hw_store.specs.declared.store.Stored.{Stored}
use Rattle.hw_lits.specs.Active.{IsActive}
use Rattle.hw_store.specs.Stores.{FindsStored, IsNotHeld}
use Rattle.hw_trail_laws.specs.declared.event.Why.{Why}
use Rattle.hw_trail_laws.specs.declared.event.Why.TheVariants as whys
use Rattle.hw_trail_laws.specs.Trails.{reason_clause}
use Rattle.hw_search_laws.specs.Searches.{SearchModel, IsSearch, IsReason, HasLine}
use Rattle.hw_search.specs.Engines.{EngineModel}
use Rattle.hw_search.specs.Askings.{IsHeldWhy}

stored_all : (P : List Lit → Type 0) (stored : List Stored) → All P (map (λ (one : Stored). one.clause) stored) → All (λ (one : Stored). P one.clause) stored
stored_all P [] all = All-nil (λ (one : Stored). P one.clause)
stored_all P (x ∷ xs) all =
    let more = map (λ (one : Stored). one.clause) xs in
    All-cons (λ (one : Stored). P one.clause) x xs (All-head P x.clause more all) (stored_all P xs (All-tail P x.clause more all))

-- the clause of the reason is one of the search's
pub held_fits : (s : SearchModel) (held : List Stored) (id : ℕ) (why : Why) → IsSearch s → held ≡ s.stored → IsHeldWhy held id why → IsClause (shape_of s.problem) (reason_clause why)
held_fits s held id (whys.Lemma number clause) is same h =
    All-contains (λ (one : Stored). IsClause (shape_of s.problem) one.clause) s.stored (record { number = id; clause = clause }) (stored_all (IsClause (shape_of s.problem)) s.stored is.clauses) (subst (λ xs. Contains xs (record { number = id; clause = clause })) same h.1.0)
held_fits s held id (whys.Source source clause) is same h = absurd h
held_fits s held id (whys.Priced clause) is same h = absurd h

-- it is the one that the store found
pub held_active : (held : List Stored) (id : ℕ) (room : RoomModel) (why : Why) → FindsStored held room (helds.Clause id) → IsHeldWhy held id why → IsActive (reason_clause why) room
held_active held id room (whys.Lemma number clause) f h =
    let same : f.0 ≡ clause = All-contains (λ (one : Stored). one.number ≡ id → one.clause ≡ clause) held (record { number = id; clause = f.0 }) h.1.1 f.1 refl in
    subst (λ c. IsActive c room) same f.2
held_active held id room (whys.Source source clause) f h = absurd h
held_active held id room (whys.Priced clause) f h = absurd h

-- and may be a reason
pub held_reason : (s : SearchModel) (held : List Stored) (id : ℕ) (why : Why) → IsSearch s → IsHeldWhy held id why → IsReason (record s { stored = held }) why
held_reason s held id (whys.Lemma number clause) is h = subst (λ n. Contains held (record { number = n; clause = clause })) (sym h.0) h.1.0
held_reason s held id (whys.Source source clause) is h = absurd h
held_reason s held id (whys.Priced clause) is h = absurd h

-- it needs no line of its own
pub held_unpriced : (held : List Stored) (id : ℕ) (why : Why) → IsHeldWhy held id why → HasLine None why
held_unpriced held id (whys.Lemma number clause) h = tt
held_unpriced held id (whys.Source source clause) h = absurd h
held_unpriced held id (whys.Priced clause) h = absurd h

-- where the store found a clause of this number there is one
pub held_there : (held : List Stored) (id : ℕ) (room : RoomModel) → FindsStored held room (helds.Clause id) → IsNotHeld held id → ⊥
held_there held id room f none = All-contains (λ (one : Stored). one.number ≡ id → ⊥) held (record { number = id; clause = f.0 }) none f.1 refl

-- where it found none, each lemma is quiet
pub all_quiet : (stored held : List Stored) (room here : RoomModel) → stored ≡ held → room ≡ here → FindsStored held room helds.Quiet → All (λ clause. QuietClause clause here) (map (λ (one : Stored). one.clause) stored)
all_quiet stored held room here same r f =
    let quiet : All (λ clause. QuietClause clause room) (map (λ (one : Stored). one.clause) held) = All-map (λ clause. QuietClause clause room) (λ (one : Stored). one.clause) held f in
    subst (λ xs. All (λ clause. QuietClause clause here) (map (λ (one : Stored). one.clause) xs)) (sym same) (subst (λ x. All (λ clause. QuietClause clause x) (map (λ (one : Stored). one.clause) held)) r quiet)

-- the store answered, and holds what it held
pub same_stored : (e u : EngineModel) (stored : List Stored) → stored ≡ e.search.stored → e ≡ u → record e.search { stored = stored } ≡ u.search
same_stored e u stored same view = ap (λ xs. record e.search { stored = xs }) same ∙ ap (λ (x : EngineModel). x.search) view
