-- What a call of a desk does.
use Rattle.std.specs.Prelude.{◌≡◌, ◌≤◌, ◌<◌, ℕ, List, [], true, Option, Result, Ok, Err, IfSome, IfOk, OnOk, OnErr, length, take, None, Some}
use Rattle.std.specs.Io.KnownBytes.{prepend_known, append_known, IsAtEnd}
use Rattle.hw_desk.specs.State.{DeskState, put_feed, put_tray, Rose}
use Rattle.hw_desk.specs.declared.desk.Feed.{Feed}
use Rattle.hw_desk.specs.declared.desk.Tray.{Tray}

-- only this feed and the count of reads may have changed
pub record OnlyFeed (feed : Feed) (old new : DeskState) : Type 0 where
  pub held : new.held ≡ old.held
  pub feeds : new.feeds ≡ put_feed old.feeds feed (new.feeds feed)
  pub trays : new.trays ≡ old.trays
  pub write_faults : new.write_faults ≡ old.write_faults
  pub later : old.read_faults ≤ new.read_faults

-- only this tray and the count of writes may have changed
pub record OnlyTray (tray : Tray) (old new : DeskState) : Type 0 where
  pub held : new.held ≡ old.held
  pub feeds : new.feeds ≡ old.feeds
  pub trays : new.trays ≡ put_tray old.trays tray (new.trays tray)
  pub read_faults : new.read_faults ≡ old.read_faults
  pub later : old.write_faults ≤ new.write_faults

-- what is told is this; what isn't told may be anything
abbrev pub Tells : Option (List ℕ) → Option (List ℕ) → Type 0
Tells None expected = Unit {0}
Tells (Some bytes) expected = expected ≡ Some bytes

-- these bytes were moved out of a feed, and nothing else happened but faults
pub record Moves (feed : Feed) (bytes : List ℕ) (old new : DeskState) : Type 0 where
  pub only : OnlyFeed feed old new
  pub begun : (new.feeds feed).begun ≡ (old.feeds feed).begun
  pub named : (new.feeds feed).name ≡ (old.feeds feed).name
  pub left : (old.feeds feed).left ≡ prepend_known bytes (new.feeds feed).left

-- these bytes were sent to a tray, and nothing else happened but faults
pub record Sends (tray : Tray) (bytes : List ℕ) (old new : DeskState) : Type 0 where
  pub only : OnlyTray tray old new
  pub made : (new.trays tray).made ≡ (old.trays tray).made
  pub named : (new.trays tray).name ≡ (old.trays tray).name
  pub sent : Tells (new.trays tray).sent (append_known (old.trays tray).sent bytes)

-- a begin or read that failed has its cause: the count rose
abbrev pub ReadCause : {T E : Type 0} → DeskState → DeskState → Result T E → Type 0
ReadCause old new result = OnErr result (Rose old.read_faults new.read_faults)

-- a make or write that failed has its cause: the count rose
abbrev pub WriteCause : {T E : Type 0} → DeskState → DeskState → Result T E → Type 0
WriteCause old new result = OnErr result (Rose old.write_faults new.write_faults)

-- a begin or read that answers Ok leaves its count of faults as it was
abbrev pub ReadKept : {T E : Type 0} → DeskState → DeskState → Result T E → Type 0
ReadKept old new result = OnOk result (new.read_faults ≡ old.read_faults)

-- the same of a make or write
abbrev pub WriteKept : {T E : Type 0} → DeskState → DeskState → Result T E → Type 0
WriteKept old new result = OnOk result (new.write_faults ≡ old.write_faults)

-- the first n bytes at Ok n, and none at Err
abbrev pub counted : {E : Type 0} → Result ℕ E → List ℕ → List ℕ
counted (Ok n) bytes = take n bytes
counted (Err e) bytes = []

-- what a begin does: the feed is begun under the name; Ok leaves what is held under it to be read, a failure what was left
-- before
pub record Begins {E : Type 0} (feed : Feed) (name : List ℕ) (old new : DeskState) (result : Result Unit E) : Type 0 where
  pub only : OnlyFeed feed old new
  pub begun : (new.feeds feed).begun ≡ true
  pub named : IfSome (new.feeds feed).name (λ n. n ≡ name)
  pub opened : OnOk result ((new.feeds feed).left ≡ old.held name)
  pub failed : OnErr result ((new.feeds feed).left ≡ (old.feeds feed).left)
  pub cause : ReadCause old new result
  pub kept : ReadKept old new result

-- what a read does: bytes are moved to the front of the buffer, none only at the end of the feed
pub record Reads {E : Type 0} (feed : Feed) (into : List ℕ) (old new : DeskState) (result : Result ℕ E) : Type 0 where
  pub moved : Moves feed (counted result into) old new
  pub bound : IfOk result (λ n. n ≤ length into)
  pub ended : IfOk result (λ n. n ≡ 0 → IsAtEnd (new.feeds feed).left)
  pub cause : ReadCause old new result
  pub kept : ReadKept old new result

-- what a make does: the tray is made under the name; Ok empties it, a failure leaves what was sent
pub record Makes {E : Type 0} (tray : Tray) (name : List ℕ) (old new : DeskState) (result : Result Unit E) : Type 0 where
  pub only : OnlyTray tray old new
  pub made : (new.trays tray).made ≡ true
  pub named : IfSome (new.trays tray).name (λ n. n ≡ name)
  pub opened : OnOk result (IfSome (new.trays tray).sent (λ bytes. bytes ≡ []))
  pub failed : OnErr result ((new.trays tray).sent ≡ (old.trays tray).sent)
  pub cause : WriteCause old new result
  pub kept : WriteKept old new result

-- what a write does: some first bytes are sent, at least one where it answers Ok
pub record Writes {E : Type 0} (tray : Tray) (bytes : List ℕ) (old new : DeskState) (result : Result ℕ E) : Type 0 where
  pub sent : Sends tray (counted result bytes) old new
  pub bound : IfOk result (λ n. (0 < n) × (n ≤ length bytes))
  pub cause : WriteCause old new result
  pub kept : WriteKept old new result
