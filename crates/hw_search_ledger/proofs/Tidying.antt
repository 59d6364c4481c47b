-- What is left after a lemma.
use Rattle.std.proofs.Common.{◌≡◌, ◌⊎◌, ℕ, suc, ◌≤◌, Bool, true, false, cond, List, [], ◌∷◌, ◌++◌, Option, length, filter, refl, subst, arith, inl, inr}
use Rattle.std.specs.Prelude.{Result, Ok, Err, OnOk, OnErr, IfErr, nat_le}
use Rattle.std.specs.Result.{is_err}
use Rattle.hw_model.specs.Rooms.{IsRoomOf}
use Rattle.hw_trail_laws.specs.declared.event.Event.{Event}
use Rattle.hw_trail_laws.specs.Trails.{TrailModel, IsTrail, trail_shape, room_of, back_to}
use Rattle.hw_trail_laws.proofs.Trails.{room_known, room_end}
use Rattle.hw_cert.specs.declared.log.LogStop.{LogStop}
use Rattle.hw_cert.specs.declared.log.LogStop.TheVariants as stops
use Rattle.hw_cert.specs.Logs.{LogModel, IsWhole}
use Rattle.hw_store.specs.declared.store.Stored.{Stored}
use Rattle.hw_cert_laws.specs.Renewing.{deletion}
use Rattle.hw_search_ledger.specs.Handing.{TakesAll, StopsWithin}
use Rattle.hw_search_ledger.specs.GoingBack.{Tidies}
use Rattle.hw_search_ledger.specs.Dropped.{IsLeftOver}
use Rattle.hw_search_ledger.proofs.Handed.{no_memory}

pub at_err : {A E : Type 0} (r : Result A E) (P : Type 0) → is_err r ≡ true → OnErr r P → P
at_err (Ok x) P e h = absurd cc
at_err (Err x) P e h = h

pub at_ok : {A E : Type 0} (r : Result A E) (P : Type 0) → is_err r ≡ false → OnOk r P → P
at_ok (Ok x) P e h = h
at_ok (Err x) P e h = absurd cc

-- nothing was deleted, since memory ran out
pub tidies_none : (A : Type 0) (stored stored' : List Stored) (one : Stored) (written : List (Option ℕ)) (keep : ℕ) (conflict : Option ℕ) (log : LogModel) → (stored' ≡ stored ++ one ∷ []) ⊎ (stored' ≡ stored) → IsWhole log → Tidies {A = A} stored one written keep conflict (Err stops.NoMemory) stored' log log
tidies_none A stored stored' one written keep conflict log added whole = (added, ([], inl refl, no_memory [] log whole))

pub tidies_by : (stored stored' : List Stored) (one : Stored) (written : List (Option ℕ)) (keep : ℕ) (conflict : Option ℕ) (ids : List ℕ) (old new : LogModel) (result : Result Unit LogStop) → stored' ≡ stored ++ one ∷ [] → IsLeftOver stored' written keep conflict ids → OnOk result (TakesAll (deletion ids) old new) → IfErr result (λ stop. StopsWithin stop (deletion ids) 0 old new)
    → Tidies stored one written keep conflict result stored' old new
tidies_by stored stored' one written keep conflict ids old new (Ok done) e l t s = (e, (ids, subst (λ xs. IsLeftOver xs written keep conflict ids) e l, t))
tidies_by stored stored' one written keep conflict ids old new (Err stops.Failed) e l t s = (e, (deletion ids, inr (ids, subst (λ xs. IsLeftOver xs written keep conflict ids) e l, refl), s))
tidies_by stored stored' one written keep conflict ids old new (Err stops.NoMemory) e l t s = (inl e, (deletion ids, inr (ids, subst (λ xs. IsLeftOver xs written keep conflict ids) e l, refl), s))

pub trail_ships : (t : TrailModel) → IsTrail t → (room_of t).ships ≡ t.ships
trail_ships t is =
    let k = (room_known t is (length t.events) (omega arith)).of in
    let o : IsRoomOf (trail_shape t) (room_of t) = subst (IsRoomOf (trail_shape t)) (room_end t) k in
    o.same_ships

few_by : {A : Type 0} (b : Bool) (x : A) (xs ys : List A) → length ys ≤ length xs → length (cond b (x ∷ ys) ys) ≤ suc (length xs)
few_by true x xs ys h = omega (arith, h)
few_by false x xs ys h = omega (arith, h)

few_filter : {A : Type 0} (p : A → Bool) (xs : List A) → length (filter p xs) ≤ length xs
few_filter p [] = omega arith
few_filter p (x ∷ xs) = few_by (p x) x xs (filter p xs) (few_filter p xs)

pub fewer_back : (t : TrailModel) (level : ℕ) → length (back_to t level).events ≤ length t.events
fewer_back t level = few_filter (λ (event : Event). nat_le event.level level) t.events
