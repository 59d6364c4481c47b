-- What an input gives: the value that its bytes are read as.
use Rattle.std.specs.Prelude.{◌≡◌, ◌≤◌, ◌<◌, ℕ, List, Option, Result, Ok, IfSome, length}
use Rattle.hw_model.specs.Limits.{IsFlat}
use Rattle.hw_model.specs.Problem.{Problem}
use Rattle.hw_desk.specs.declared.desk.Feed.{Feed}
use Rattle.hw_desk.specs.declared.desk.Feed.TheVariants.{Flat, Instance, Tides}
use Rattle.hw_flat.specs.Text.{flat_text}
use Rattle.hw_port.specs.Kept.{PortKept}
use Rattle.hw_port.specs.Whole.{Parts}
use Rattle.hw_read.specs.Instance.{PortReads as ReadsPort}
use Rattle.hw_read.specs.declared.fault.ReadFault.{ReadFault}
use Rattle.hw_tide.specs.Levels.{IsTide, TideParts}
use Rattle.hw_tide.specs.Whole.{TideReads as ReadsHeights, tide_by_header, waypoint_names}
use Rattle.hw_tide.specs.declared.fault.TideFault.{TideFault}

-- the most bytes of a feed other than the certificate
abbrev pub most_bytes : ℕ
most_bytes = 4_194_304

-- the bytes pass the limit
abbrev pub IsLong : List ℕ → Type 0
IsLong bytes = most_bytes < length bytes

-- the bytes keep the limit and are the text of this problem
abbrev pub IsProblemText : Problem → List ℕ → Type 0
IsProblemText f bytes = (length bytes ≤ most_bytes) × (flat_text bytes ≡ Ok f)

-- the bytes keep the limit, and as an instance they are read as this
abbrev pub IsInstance : Result Parts ReadFault → List ℕ → Type 0
IsInstance what bytes = (length bytes ≤ most_bytes) × ReadsPort bytes what

-- the bytes keep the limit, and as a tide table of the port they are read as this
abbrev pub ReadsTideTable : Parts → Result TideParts TideFault → List ℕ → Type 0
ReadsTideTable p what bytes = (length bytes ≤ most_bytes) × ReadsHeights bytes (tide_by_header (waypoint_names p)) what

-- a port that keeps the meaning rules, with a tide within the limits, of as many columns as the port has waypoints: that of the instance and of the table, each where it is told
pub record IsPortOf (instance table : Option (List ℕ)) (p : Parts) (h : TideParts) : Type 0 where
  pub kept : PortKept p
  pub limits : IsTide h
  pub columns : h.columns ≡ length p.waypoints
  pub instance_reads : IfSome instance (IsInstance (Ok p))
  pub table_reads : IfSome table (ReadsTideTable p (Ok h))

-- ---- some value

-- the flat text gives a problem within the limits, its own where it is told
pub record GivesProblem (text : Option (List ℕ)) : Type 0 where
  pub problem : Problem
  pub limits : IsFlat problem
  pub reads : IfSome text (IsProblemText problem)

-- the instance gives a port that keeps the meaning rules, its own where it is told
pub record GivesPort (instance : Option (List ℕ)) : Type 0 where
  pub port : Parts
  pub kept : PortKept port
  pub reads : IfSome instance (IsInstance (Ok port))

-- the instance gives a port, and the table the port's tide
pub record GivesTide (instance table : Option (List ℕ)) : Type 0 where
  pub port : Parts
  pub tide : TideParts
  pub reads : IsPortOf instance table port tide

-- ---- what an input gives before a further one is begun

-- of a command over a flat text: its problem. After any other input none is begun
abbrev pub FlatGives : List ℕ → (List ℕ → Option (List ℕ)) → Feed → Type 0
FlatGives name held Flat = GivesProblem (held name)
FlatGives name held feed = ⊥

-- of a command over a port: the instance its port, and the tide table the port's tide. After any other input none is begun
abbrev pub PortGives : List ℕ → List ℕ → (List ℕ → Option (List ℕ)) → Feed → Type 0
PortGives instance table held Instance = GivesPort (held instance)
PortGives instance table held Tides = GivesTide (held instance) (held table)
PortGives instance table held feed = ⊥
