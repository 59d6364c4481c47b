-- A feed of a desk in memory, as a contract sees it.
use Rattle.std.specs.Prelude.{ℕ, List, [], Bool, Option, Some, cond}
use Rattle.hw_desk.specs.State.{FeedState}
use Rattle.hw_desk.specs.Files.{left_of}
use Rattle.hw_desk.specs.declared.slots.NamedBytes.{NamedBytes}
use Rattle.hw_desk.specs.declared.slots.FeedSlot.{FeedSlot}

-- whether it was begun, its name where that is told, and the bytes left
pub record FeedModel : Type 0 where
  pub begun : Bool
  pub name : Option (List ℕ)
  pub left : List ℕ

-- a feed of a desk in memory, as a contract sees it: begun or not, its name, and what is left of the file
abbrev pub feed_of : List NamedBytes → FeedSlot → FeedModel
feed_of files s = record { begun = s.begun; name = s.name; left = left_of files s }

-- a feed that wasn't begun has nothing left
abbrev pub told_feed : FeedModel → FeedState
told_feed f = record { begun = f.begun; name = f.name; left = Some (cond f.begun f.left []) }
