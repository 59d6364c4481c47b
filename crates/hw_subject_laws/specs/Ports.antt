-- The laws of what a certificate proves of a port.
use Rattle.std.specs.Prelude.{◌≡◌, ℕ, ◌≤◌, List, Some, All, IfSome, IsSomeAnd}
use Rattle.hw_cert_lines.specs.declared.check.Verdict.TheVariants.{Optimal, Infeasible}
use Rattle.hw_cert_lines.specs.declared.line.Line.{Line}
use Rattle.hw_cert_lines.specs.Lines.{last_table}
use Rattle.hw_cert_lines.specs.Tolled.{bound_of}
use Rattle.hw_cert_lines.specs.Valid.{LineFits, Valid, verdict}
use Rattle.hw_port.specs.Kept.{PortKept}
use Rattle.hw_port.specs.Whole.{Parts}
use Rattle.hw_tide.specs.Levels.{TideParts}
use Rattle.hw_port_model.specs.Permitted.{PortPermits, port_cargo, IsPortBest, NonePortPermitted}
use Rattle.hw_port_model.specs.Flattened.{flattened}

-- Optimal says that the last table is a best timetable of the port with this cargo, and Infeasible that the port permits none
abbrev pub SoundPortVerdict : Type 0
SoundPortVerdict = (p : Parts) (h : TideParts) (all : List Line) → PortKept p → All (LineFits (flattened p h)) all → Valid (flattened p h) all → (((c : ℕ) → verdict (flattened p h) all ≡ Optimal c → IsSomeAnd (last_table all) (λ table. IsPortBest p h table c)) × (verdict (flattened p h) all ≡ Infeasible → NonePortPermitted p h))

-- no timetable that the port permits carries more than this, in tenths of a tonne
abbrev pub IsPortBound : Parts → TideParts → ℕ → Type 0
IsPortBound p h bound = (table : List ℕ) (c : ℕ) → PortPermits p h table → port_cargo p h table ≡ Some c → c ≤ bound

-- the bound of valid lines is one of the port
abbrev pub SoundPortBounds : Type 0
SoundPortBounds = (p : Parts) (h : TideParts) (all : List Line) → PortKept p → Valid (flattened p h) all → IfSome (bound_of all) (IsPortBound p h)
