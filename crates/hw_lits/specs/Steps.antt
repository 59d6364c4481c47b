-- What one step of a replay tells of the literals of a clause.
use Rattle.std.specs.Prelude.{◌≡◌, ◌≢◌, ℕ, ◌<◌, List, Some, All, IfSome, IsTrue, slice_get, Bool, true, false}
use Rattle.hw_model.specs.declared.lit.Lit.{Lit}
use Rattle.hw_model.specs.declared.lit.LitTruth.{LitTruth}
use Rattle.hw_model.specs.declared.lit.LitTruth.TheVariants.{True, False, Free}
use Rattle.hw_model.specs.declared.narrowing.Narrowed.{Narrowed}
use Rattle.hw_model.specs.declared.narrowing.Narrowed.TheVariants.{Same, Cut, Conflict, Loose}
use Rattle.hw_model.specs.Rooms.{RoomModel}
use Rattle.hw_model.specs.Narrowing.{truth}
use Rattle.hw_model.specs.Replay.{some_true, narrowing}

-- the literal stands in the clause and is Free, and the literals at all other places are False
pub record IsUnit (room : RoomModel) (clause : List Lit) (lit : Lit) : Type 0 where
  pub place : ℕ
  pub stands : slice_get clause place ≡ Some lit
  pub free : truth room lit ≡ Free
  pub others : (other : ℕ) → other ≢ place → IfSome (slice_get clause other) (λ l. truth room l ≡ False)

-- the room makes the literal False
abbrev pub is_false : LitTruth → Bool
is_false True = false
is_false False = true
is_false Free = false

-- all literals are False
abbrev pub AllFalse : RoomModel → List Lit → Type 0
AllFalse room clause = All (λ lit. truth room lit ≡ False) clause

-- two literals stand in the clause, in this order, and are Free
pub record HasTwoFree (room : RoomModel) (clause : List Lit) (first second : Lit) : Type 0 where
  pub place : ℕ
  pub later : ℕ
  pub ascends : place < later
  pub stands : slice_get clause place ≡ Some first
  pub stands_later : slice_get clause later ≡ Some second
  pub free : truth room first ≡ Free
  pub free_later : truth room second ≡ Free

-- what a step tells: Same that a literal is True, Cut which one is the only one not False, Conflict that all are False, Loose two that are Free
abbrev pub NarrowingTells : RoomModel → List Lit → Narrowed → Type 0
NarrowingTells room clause Same = IsTrue (some_true room clause)
NarrowingTells room clause (Cut lit) = IsUnit room clause lit
NarrowingTells room clause Conflict = AllFalse room clause
NarrowingTells room clause (Loose first second) = HasTwoFree room clause first second

-- the law: each step tells what the definition says
abbrev pub StepTells : Type 0
StepTells = (room : RoomModel) (clause : List Lit) → NarrowingTells room clause (narrowing clause room)

-- the step of literals none of which is True, with one more that is open
abbrev pub with_free : Narrowed → Lit → Narrowed
with_free Same lit = Same
with_free Conflict lit = Cut lit
with_free (Cut first) lit = Loose first lit
with_free (Loose first second) lit = Loose first second
