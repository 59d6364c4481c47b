-- What the calls over a whole feed and a whole text do.
use Rattle.std.specs.Prelude.{◌≡◌, ◌≤◌, ◌<◌, ℕ, List, Result, IfSome, IfOk, IsErrOf, OnOk, OnErr, length, take, Vec}
use Rattle.std.specs.Io.KnownBytes.{IsAtEnd}
use Rattle.std.specs.declared.alloc.Global.{Global}
use Rattle.hw_desk.specs.State.{DeskState, Rose}
use Rattle.hw_desk.specs.Calls.{OnlyTray, Moves, Sends, WriteCause, WriteKept}
use Rattle.hw_desk.specs.declared.desk.Feed.{Feed}
use Rattle.hw_desk.specs.declared.desk.Tray.{Tray}
use Rattle.hw_desk.specs.declared.whole.ReadStop.{ReadStop}
use Rattle.hw_desk.specs.declared.whole.ReadStop.TheVariants.{Fault, TooLong}

-- all bytes left were read, or why not. Unless the answer is Fault, no read failed. A told feed with more bytes than the limit gives only TooLong, Fault with its cause, or out of memory; another told feed gives anything but TooLong
pub record ReadsWhole (feed : Feed) (limit : ℕ) (old new : DeskState) (result : Result (Vec ℕ Global) ReadStop) : Type 0 where
  pub moved : (bytes : List ℕ) × Moves feed bytes old new
  pub whole : IfOk result (λ v. Moves feed v.items old new × IsAtEnd (new.feeds feed).left)
  pub all : IfOk result (λ v. IfSome (old.feeds feed).left (λ left. left ≡ v.items))
  pub short : IfOk result (λ v. length v.items ≤ limit)
  pub long : IsErrOf result TooLong → IfSome (old.feeds feed).left (λ left. limit < length left)
  pub fault : IsErrOf result Fault → Rose old.read_faults new.read_faults
  pub kept : (IsErrOf result Fault → ⊥) → new.read_faults ≡ old.read_faults

-- a text was sent and no write failed, or a proper prefix of it was sent and then one failed
pub record SendsText {E : Type 0} (tray : Tray) (text : List ℕ) (old new : DeskState) (result : Result Unit E) : Type 0 where
  pub only : OnlyTray tray old new
  pub ok : OnOk result (Sends tray text old new)
  pub err : OnErr result ((n : ℕ) × (n < length text) × Sends tray (take n text) old new)
  pub cause : WriteCause old new result
  pub kept : WriteKept old new result
