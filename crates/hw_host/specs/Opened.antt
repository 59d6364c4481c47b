-- Which files were opened, and which file of the system each is.
use Rattle.std.specs.Prelude.{◌≡◌, ◌⊎◌, ⊤, Bool, true, false, Some, None}
use Rattle.hw_desk.specs.Places.{place}
use Rattle.hw_desk.specs.declared.desk.Feed.{Feed}
use Rattle.hw_desk.specs.declared.feeds.Feeds.{Feeds}
use Rattle.hw_host.specs.declared.files.FileId.{FileId}
use Rattle.hw_host.specs.declared.files.HostFile.{HostFile}
use Rattle.hw_host.specs.declared.files.HostFile.TheVariants.{Fresh, Failed, Open}
use Rattle.hw_host.specs.declared.output.Output.{Output}
use Rattle.hw_host.specs.declared.output.Output.TheVariants.{Kept, Lost}

-- the file was opened, or that failed
abbrev pub was_opened : HostFile → Bool
was_opened Fresh = false
was_opened Failed = true
was_opened (Open file id) = true

-- it is open
abbrev pub IsOpen : HostFile → Type 0
IsOpen Fresh = ⊥
IsOpen Failed = ⊥
IsOpen (Open file id) = ⊤

-- it is open, and is this file of the system
abbrev pub IsOpenAs : HostFile → FileId → Type 0
IsOpenAs Fresh id = ⊥
IsOpenAs Failed id = ⊥
IsOpenAs (Open file own) id = own ≡ id

-- the flat text, the instance or the tide table is read from this file of the system
abbrev pub IsProblem : Feeds HostFile → FileId → Type 0
IsProblem feeds id = IsOpenAs feeds.flat id ⊎ (IsOpenAs feeds.instance id ⊎ IsOpenAs feeds.tides id)

-- a plan or the events after it are read from it
abbrev pub IsPlanFeed : Feeds HostFile → FileId → Type 0
IsPlanFeed feeds id = IsOpenAs feeds.plan id ⊎ IsOpenAs feeds.events id

-- a certificate, a clash or a split is read from it
abbrev pub IsFoundFeed : Feeds HostFile → FileId → Type 0
IsFoundFeed feeds id = IsOpenAs feeds.certificate id ⊎ (IsOpenAs feeds.clash id ⊎ IsOpenAs feeds.split id)

-- another input than those of a problem is read from it
abbrev pub IsOther : Feeds HostFile → FileId → Type 0
IsOther feeds id = IsPlanFeed feeds id ⊎ IsFoundFeed feeds id

-- a feed is read from this file of the system
abbrev pub IsFeed : Feeds HostFile → FileId → Type 0
IsFeed feeds id = (feed : Feed) × IsOpenAs (place feeds feed) id

-- standard output goes to this file of the system, as far as that is known
abbrev pub GoesTo : Output → FileId → Type 0
GoesTo (Kept first second third None) id = ⊥
GoesTo (Kept first second third (Some own)) id = own ≡ id
GoesTo Lost id = ⊥

-- none of the feeds is read from this file, and standard output doesn't go to it
pub record IsApart (feeds : Feeds HostFile) (output : Output) (made : HostFile) : Type 0 where
  pub inputs : (id : FileId) → IsOpenAs made id → IsFeed feeds id → ⊥
  pub report : (id : FileId) → IsOpenAs made id → GoesTo output id → ⊥
