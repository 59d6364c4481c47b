-- What a step tells of the literals, and what it means for one of them.
use Rattle.std.proofs.Common.{◌≡◌, ◌≢◌, ℕ, zero, suc, ◌||◌, Bool, true, false, cond, List, [], ◌∷◌, refl, ap, arith, IfSome, slice_get}
use Rattle.std.proofs.lemmas.Bool.{or_left, or_right}
use Rattle.std.proofs.lemmas.List.Elements.{All-nil, All-cons}
use Rattle.hw_model.specs.declared.lit.Lit.{Lit}
use Rattle.hw_model.specs.declared.lit.LitTruth.{LitTruth}
use Rattle.hw_model.specs.declared.lit.LitTruth.TheVariants.{True, False, Free}
use Rattle.hw_model.specs.declared.narrowing.Narrowed.{Narrowed}
use Rattle.hw_model.specs.declared.narrowing.Narrowed.TheVariants.{Same, Cut, Conflict, Loose}
use Rattle.hw_model.specs.Rooms.{RoomModel}
use Rattle.hw_model.specs.Narrowing.{truth}
use Rattle.hw_model.specs.Replay.{is_true, is_free, some_true, free_lits, step_by, narrowing}
use Rattle.hw_model_laws.proofs.Counting.{at_place}
use Rattle.hw_lits.specs.Steps.{NarrowingTells}

-- one more literal before them that is False
after_false : (room : RoomModel) (lit : Lit) (more : List Lit) (step : Narrowed) → truth room lit ≡ False → NarrowingTells room more step → NarrowingTells room (lit ∷ more) step
after_false room lit more Same e h = or_right (is_true (truth room lit)) _ h
after_false room lit more (Cut l) e h = record { place = suc h.place; stands = h.stands; free = h.free; others = λ other n. others_of other n }
  where
    others_of : (other : ℕ) → other ≢ suc h.place → IfSome (slice_get (lit ∷ more) other) (λ l. truth room l ≡ False)
    others_of zero n = e
    others_of (suc other) n = h.others other (λ same. n (ap suc same))
after_false room lit more Conflict e h = All-cons (λ l. truth room l ≡ False) lit more e h
after_false room lit more (Loose a b) e h = record { place = suc h.place; later = suc h.later; ascends = omega (arith, h.ascends); stands = h.stands; stands_later = h.stands_later; free = h.free; free_later = h.free_later }

-- one more literal before them that is Free
after_free : (room : RoomModel) (lit : Lit) (more : List Lit) (some : Bool) (free : List Lit) → truth room lit ≡ Free → some_true room more ≡ some → NarrowingTells room more (step_by some free) → NarrowingTells room (lit ∷ more) (step_by some (lit ∷ free))
after_free room lit more true free e s h = or_right (is_true (truth room lit)) _ s
after_free room lit more false [] e s h = record { place = 0; stands = refl; free = e; others = others_of }
  where
    others_of : (other : ℕ) → other ≢ 0 → IfSome (slice_get (lit ∷ more) other) (λ l. truth room l ≡ False)
    others_of zero n = absurd (n refl)
    others_of (suc other) n = at_place (λ l. truth room l ≡ False) more other h
after_free room lit more false (x ∷ []) e s h = record { place = 0; later = suc h.place; ascends = omega arith; stands = refl; stands_later = h.stands; free = e; free_later = h.free }
after_free room lit more false (x ∷ y ∷ free) e s h = record { place = 0; later = suc h.place; ascends = omega arith; stands = refl; stands_later = h.stands; free = e; free_later = h.free }

-- the step of a list by the truth of its first literal
with_first : RoomModel → Lit → List Lit → LitTruth → Narrowed
with_first room lit more t = step_by (is_true t || some_true room more) (cond (is_free t) (lit ∷ free_lits room more) (free_lits room more))

one_more : (room : RoomModel) (lit : Lit) (more : List Lit) (t : LitTruth) → truth room lit ≡ t → NarrowingTells room more (narrowing more room) → NarrowingTells room (lit ∷ more) (with_first room lit more t)
unfolding with_first
one_more room lit more True e h = or_left (is_true (truth room lit)) _ (ap is_true e)
one_more room lit more False e h = after_false room lit more (narrowing more room) e h
one_more room lit more Free e h = after_free room lit more (some_true room more) (free_lits room more) e refl h

pub told : (room : RoomModel) (clause : List Lit) → NarrowingTells room clause (narrowing clause room)
unfolding with_first
told room [] = All-nil (λ l. truth room l ≡ False)
told room (lit ∷ more) = one_more room lit more (truth room lit) refl (told room more)
