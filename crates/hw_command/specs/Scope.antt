-- What a command may touch: its inputs, in order, and Proof.
use Rattle.std.specs.Prelude.{◌≡◌, ◌⊎◌, ◌||◌, ℕ, List, [], ◌∷◌, Bool, true, false, Option, Some, None, IfSome, ⊤}
use Rattle.hw_desk.specs.State.{DeskState, put_tray, same_feed}
use Rattle.hw_desk.specs.declared.desk.Feed.{Feed}
use Rattle.hw_desk.specs.declared.desk.Tray.TheVariants as tray

-- a feed, and the name under which it is begun
pub record Named : Type 0 where
  pub feed : Feed
  pub name : List ℕ

abbrev pub named_feed : Feed → List ℕ → Named
named_feed feed name = record { feed = feed; name = name }

-- whether a feed is one of some inputs
abbrev pub feed_is_among : List Named → Feed → Bool
feed_is_among [] feed = false
feed_is_among (input ∷ more) feed = same_feed feed input.feed || feed_is_among more feed

-- the last of some inputs
abbrev pub last_of : List Named → Option Named
last_of [] = None
last_of (input ∷ []) = Some input
last_of (input ∷ next ∷ more) = last_of (next ∷ more)

-- an input was begun under its name
pub record IsBegun (now : DeskState) (input : Named) : Type 0 where
  pub begun : (now.feeds input.feed).begun ≡ true
  pub named : IfSome (now.feeds input.feed).name (λ n. n ≡ input.name)

abbrev pub AllBegun : DeskState → List Named → Type 0
AllBegun now [] = ⊤
AllBegun now (input ∷ more) = IsBegun now input × AllBegun now more

-- each of some inputs but the last gives its value; by its feed the command says what that is
abbrev pub GiveBefore : (Feed → Type 0) → List Named → Type 0
GiveBefore Gives [] = ⊤
GiveBefore Gives (last ∷ []) = ⊤
GiveBefore Gives (input ∷ next ∷ more) = Gives input.feed × GiveBefore Gives (next ∷ more)

-- these inputs were begun, each under its name, and no other feed was touched
pub record BeginsAll (inputs : List Named) (old new : DeskState) : Type 0 where
  pub held : new.held ≡ old.held
  pub begun : AllBegun new inputs
  pub others : (feed : Feed) → feed_is_among inputs feed ≡ false → new.feeds feed ≡ old.feeds feed

-- these inputs were begun, and neither a tray nor a write was touched
pub record Entered (inputs : List Named) (old new : DeskState) : Type 0 where
  pub begins : BeginsAll inputs old new
  pub trays : new.trays ≡ old.trays
  pub write_faults : new.write_faults ≡ old.write_faults

-- Proof was made under its name, and no other tray was touched
pub record MakesProof (name : List ℕ) (old new : DeskState) : Type 0 where
  pub trays : new.trays ≡ put_tray old.trays tray.Proof (new.trays tray.Proof)
  pub made : (new.trays tray.Proof).made ≡ true
  pub named : IfSome (new.trays tray.Proof).name (λ n. n ≡ name)

-- no tray was touched but Proof, where the command makes it
abbrev pub MakesAtMost : Option (List ℕ) → DeskState → DeskState → Type 0
MakesAtMost None old new = new.trays ≡ old.trays
MakesAtMost (Some name) old new = (new.trays ≡ old.trays) ⊎ MakesProof name old new
