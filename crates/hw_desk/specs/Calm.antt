-- A desk that never fails, as a contract sees it.
use Rattle.std.specs.Prelude.{◌≡◌, ℕ, List, [], false, Option, Some, None, IfSome, cond, unwrap_or, refl}
use Rattle.std.proofs.Common.{lit≤}
use Rattle.hw_desk.specs.State.{FeedState, TrayState, DeskState, IsFresh, IsBounded}
use Rattle.hw_desk.specs.Files.{held_in}
use Rattle.hw_desk.specs.Feeds.{FeedModel, told_feed}
use Rattle.hw_desk.specs.Memory.{fresh_feed}
use Rattle.hw_desk.specs.declared.desk.Feed.{Feed}
use Rattle.hw_desk.specs.Places.{place, everywhere}
use Rattle.hw_desk.specs.declared.feeds.Feeds.{Feeds}
use Rattle.hw_desk.specs.declared.desk.Tray.{Tray}
use Rattle.hw_desk.specs.declared.desk.Tray.TheVariants.{Report, Proof}
use Rattle.hw_desk.specs.declared.slots.NamedBytes.{NamedBytes}
use Rattle.hw_desk.specs.declared.calm.CalmTray.{CalmTray}

-- the files, the feeds and the trays
pub record CalmModel : Type 0 where
  pub files : List NamedBytes
  pub feeds : Feeds FeedModel
  pub report : CalmTray
  pub proof : CalmTray

abbrev pub calm_feeds : CalmModel → Feed → FeedState
calm_feeds d feed = told_feed (place d.feeds feed)

-- nothing was sent to a proof that wasn't made
abbrev pub calm_trays : CalmModel → Tray → TrayState
calm_trays d Report = record { made = d.report.made; name = d.report.name; sent = d.report.sent }
calm_trays d Proof = record { made = d.proof.made; name = d.proof.name; sent = cond d.proof.made d.proof.sent (Some []) }

-- the state of a desk that never fails: an unknown name holds no bytes, and the counts of faults are 0
abbrev pub calm_state : CalmModel → DeskState
calm_state d = record {
  held = λ name. Some (unwrap_or (held_in d.files name) []);
  feeds = calm_feeds d;
  trays = calm_trays d;
  read_faults = 0;
  write_faults = 0;
}

-- a tray of such a desk that was not made and to which nothing was sent
abbrev pub fresh_calm : CalmTray
fresh_calm = record { made = false; name = None; sent = Some [] }

-- a new desk of this kind, over files
abbrev pub new_calm : List NamedBytes → CalmModel
new_calm files = record {
  files = files;
  feeds = everywhere fresh_feed;
  report = fresh_calm;
  proof = fresh_calm;
}

-- the bytes sent to a tray, where they have room
abbrev pub calm_sent : CalmModel → Tray → Option (List ℕ)
calm_sent d Report = d.report.sent
calm_sent d Proof = d.proof.sent

unbegun : (d : CalmModel) (f : Feed) → (calm_feeds d f).begun ≡ false → IfSome (calm_feeds d f).left (λ bytes. bytes ≡ [])
unbegun d f h = rw h refl

-- a desk that never fails is fresh, as IsFresh says
pub calm_fresh : (d : CalmModel) → IsFresh (calm_state d)
calm_fresh d = record { left = unbegun d; sent = λ h. rw h refl }

-- neither count of faults of such a desk passes the last `u64`, as IsBounded says
pub calm_bounded : (d : CalmModel) → IsBounded (calm_state d)
calm_bounded d = record { reads = lit≤ tt; writes = lit≤ tt }
