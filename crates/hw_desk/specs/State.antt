-- What a desk is to a contract.
use Rattle.std.specs.Prelude.{◌≡◌, ◌≤◌, ◌+◌, ◌-◌, ◌^◌, ◌==◌, ℕ, List, [], Bool, true, false, Option, IfSome, cond, min}
use Rattle.hw_desk.specs.declared.desk.Feed.{Feed}
use Rattle.hw_desk.specs.declared.desk.Feed.TheVariants.{Flat, Instance, Tides, Certificate, Plan, Events, Clash, Split}
use Rattle.hw_desk.specs.declared.desk.Tray.{Tray}
use Rattle.hw_desk.specs.declared.desk.Tray.TheVariants.{Report, Proof}

-- a feed: whether it was begun, the name given there, and the bytes left, the last two where they are told
pub record FeedState : Type 0 where
  pub begun : Bool
  pub name : Option (List ℕ)
  pub left : Option (List ℕ)

-- a tray: whether it was made, the name given there, and the bytes sent, the last two where they are told
pub record TrayState : Type 0 where
  pub made : Bool
  pub name : Option (List ℕ)
  pub sent : Option (List ℕ)

-- a desk: the bytes held under each name, where they are told; its feeds and trays; the counts of failed begins and reads,
-- and of failed makes and writes
pub record DeskState : Type 0 where
  -- the bytes held under each name, where they are told
  pub held : List ℕ → Option (List ℕ)
  pub feeds : Feed → FeedState
  pub trays : Tray → TrayState
  -- how many begins and reads, and how many makes and writes, have failed
  pub read_faults : ℕ
  pub write_faults : ℕ

-- the feeds in order
abbrev pub feed_place : Feed → ℕ
feed_place Flat = 0
feed_place Instance = 1
feed_place Tides = 2
feed_place Certificate = 3
feed_place Plan = 4
feed_place Events = 5
feed_place Clash = 6
feed_place Split = 7

abbrev pub same_feed : Feed → Feed → Bool
same_feed f g = feed_place f == feed_place g

abbrev pub same_tray : Tray → Tray → Bool
same_tray Report Report = true
same_tray Proof Proof = true
same_tray _ _ = false

-- the feeds with another state at one of them
abbrev pub put_feed : (Feed → FeedState) → Feed → FeedState → Feed → FeedState
put_feed feeds feed s = λ f. cond (same_feed f feed) s (feeds f)

-- the trays with another state at one of them
abbrev pub put_tray : (Tray → TrayState) → Tray → TrayState → Tray → TrayState
put_tray trays tray s = λ t. cond (same_tray t tray) s (trays t)

-- a count as a desk tells it: at most the last u64
abbrev pub bounded_count : ℕ → ℕ
bounded_count n = min n (2 ^ 64 - 1)

-- the count is above what it was, or stands at its end
abbrev pub Rose : ℕ → ℕ → Type 0
Rose before now = min (before + 1) (2 ^ 64 - 1) ≤ now

-- nothing is left of what wasn't begun, and nothing sent to a proof that wasn't made
pub record IsFresh (s : DeskState) : Type 0 where
  pub left : (f : Feed) → (s.feeds f).begun ≡ false → IfSome (s.feeds f).left (λ bytes. bytes ≡ [])
  pub sent : (s.trays Proof).made ≡ false → IfSome (s.trays Proof).sent (λ bytes. bytes ≡ [])

-- both counts of faults are at most the last u64
pub record IsBounded (s : DeskState) : Type 0 where
  pub reads : s.read_faults ≤ 2 ^ 64 - 1
  pub writes : s.write_faults ≤ 2 ^ 64 - 1

-- bytes may be sent to the tray: Report needs no make, Proof does
abbrev pub can_send : Tray → DeskState → Bool
can_send Report s = true
can_send Proof s = (s.trays Proof).made

abbrev pub CanSend : Tray → DeskState → Type 0
CanSend tray s = can_send tray s ≡ true

-- no feed was begun, and no tray made
pub record IsNewDesk (s : DeskState) : Type 0 where
  pub feeds : (f : Feed) → (s.feeds f).begun ≡ false
  pub trays : (t : Tray) → (s.trays t).made ≡ false
