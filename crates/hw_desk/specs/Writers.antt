-- What a writer over a tray was given, and what of it was sent.
use Rattle.std.specs.Prelude.{◌≡◌, ◌≤◌, ◌<◌, ◌+◌, ◌++◌, ℕ, List, [], Bool, true, false, Result, Ok, Err, length, take, is_err}
use Rattle.std.specs.Borrow.{GName}
use Rattle.hw_desk.specs.State.{DeskState, Rose}
use Rattle.hw_desk.specs.Calls.{Sends}
use Rattle.hw_desk.specs.declared.desk.Tray.{Tray}

-- the desk as it is, the borrow that gave it, the tray, the bytes that wait to be sent, and whether a write has failed
pub record WriterState : Type 0 where
  pub desk : DeskState
  pub borrow : GName
  pub tray : Tray
  pub waiting : List ℕ
  pub spent : Bool

-- the state of a writer with these parts
abbrev pub writer_state : DeskState → GName → Tray → List ℕ → Bool → WriterState
writer_state desk borrow tray waiting spent = record { desk = desk; borrow = borrow; tray = tray; waiting = waiting; spent = spent }

-- how many bytes may wait
abbrev pub room : ℕ
room = 8192

-- what a send answered, by whether it failed
abbrev pub answer_of : Bool → Result Unit Unit
answer_of true = Err tt
answer_of false = Ok tt

-- all of a text but the bytes that wait was sent since a start, and no write failed
pub record Waits (text : List ℕ) (start : DeskState) (now : WriterState) : Type 0 where
  pub sent : List ℕ
  pub whole : text ≡ sent ++ now.waiting
  pub sends : Sends now.tray sent start now.desk
  pub kept : now.desk.write_faults ≡ start.write_faults

-- a proper prefix of a text was sent since a start, and then a write failed
pub record Stopped (text : List ℕ) (start : DeskState) (now : WriterState) : Type 0 where
  pub count : ℕ
  pub proper : count < length text
  pub sends : Sends now.tray (take count text) start now.desk
  pub cause : Rose start.write_faults now.desk.write_faults

-- the writer was given this text since a start
pub record WasGiven (text : List ℕ) (start : DeskState) (now : WriterState) : Type 0 where
  pub going : now.spent ≡ false → Waits text start now
  pub stopped : now.spent ≡ true → Stopped text start now

-- one more text was given. What fits beside the bytes that wait is not sent yet, and nothing is sent after a failed write
pub record Puts (text : List ℕ) (old new : WriterState) : Type 0 where
  pub borrow : new.borrow ≡ old.borrow
  pub tray : new.tray ≡ old.tray
  pub given : (before : List ℕ) (start : DeskState) → WasGiven before start old → WasGiven (before ++ text) start new
  pub fits : old.spent ≡ false → length old.waiting + length text ≤ room → (new.spent ≡ false) × (new.waiting ≡ old.waiting ++ text) × (new.desk ≡ old.desk)
  pub ended : old.spent ≡ true → (new.spent ≡ true) × (new.desk ≡ old.desk)

-- a writer to which nothing was given yet
pub record Opens (on : Tray) (old : DeskState) (new : WriterState) : Type 0 where
  pub desk : new.desk ≡ old
  pub tray : new.tray ≡ on
  pub waiting : new.waiting ≡ []
  pub spent : new.spent ≡ false

-- the bytes that wait are sent: since any start, the text that was given, or a proper prefix of it
pub record Flushes {E : Type 0} (old new : WriterState) (result : Result Unit E) : Type 0 where
  pub borrow : new.borrow ≡ old.borrow
  pub tray : new.tray ≡ old.tray
  pub waiting : new.waiting ≡ []
  pub spent : new.spent ≡ is_err result
  pub given : (text : List ℕ) (start : DeskState) → WasGiven text start old → WasGiven text start new
  pub ended : old.spent ≡ true → (new.spent ≡ true) × (new.desk ≡ old.desk)
