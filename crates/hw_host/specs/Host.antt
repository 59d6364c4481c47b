-- What the host's desk tells: which feeds were begun and which trays made, and its counts.
use Rattle.std.specs.Prelude.{◌-◌, ◌^◌, Bool, None}
use Rattle.std.proofs.Math.Nat.{min-le_right}
use Rattle.hw_desk.specs.State.{FeedState, TrayState, DeskState, IsFresh, IsBounded, bounded_count}
use Rattle.hw_desk.specs.declared.desk.Feed.{Feed}
use Rattle.hw_desk.specs.Places.{place}
use Rattle.hw_desk.specs.declared.desk.Tray.{Tray}
use Rattle.hw_desk.specs.declared.desk.Tray.TheVariants.{Report, Proof}
use Rattle.hw_host.specs.declared.host.HostDesk.{HostDesk}
use Rattle.hw_host.specs.Opened.{was_opened}

abbrev pub untold_feed : Bool → FeedState
untold_feed begun = record { begun = begun; name = None; left = None }

abbrev pub untold_tray : Bool → TrayState
untold_tray made = record { made = made; name = None; sent = None }

abbrev pub host_feeds : HostDesk → Feed → FeedState
host_feeds d feed = untold_feed (was_opened (place d.feeds feed))

abbrev pub host_trays : HostDesk → Tray → TrayState
host_trays d Report = untold_tray d.report_made
host_trays d Proof = untold_tray (was_opened d.proof)

abbrev pub host_state : HostDesk → DeskState
host_state d = record { held = λ _. None; feeds = host_feeds d; trays = host_trays d; read_faults = bounded_count d.read_faults; write_faults = bounded_count d.write_faults }

pub host_fresh : (d : HostDesk) → IsFresh (host_state d)
host_fresh d = record { left = λ f h. tt; sent = λ h. tt }

pub host_bounded : (d : HostDesk) → IsBounded (host_state d)
host_bounded d = record { reads = min-le_right d.read_faults (2 ^ 64 - 1); writes = min-le_right d.write_faults (2 ^ 64 - 1) }
