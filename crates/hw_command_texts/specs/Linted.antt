-- How the refusal of an input is sent, after hints on it.
use Rattle.std.specs.Prelude.{◌≡◌, ◌⊎◌, ℕ, List, [], ◌∷◌, Vec, Result, Ok, Err}
use Rattle.std.specs.declared.alloc.Global.{Global}
use Rattle.hw_desk.specs.State.{DeskState}
use Rattle.hw_model.specs.declared.memory.NoMemory.{NoMemory}
use Rattle.hw_read.specs.declared.fault.ReadFault.{ReadFault}
use Rattle.hw_read.specs.declared.fault.ReadFault.TheVariants as read
use Rattle.hw_tide.specs.declared.fault.TideFault.{TideFault}
use Rattle.hw_tide.specs.declared.fault.TideFault.TheVariants as tide
use Rattle.hw_port_lint.specs.Instances.{IsBreak, IsFieldTold}
use Rattle.hw_port_lint.specs.Tables.{table_hints}
use Rattle.hw_report.specs.Reports.{Report, bad_json, bad_field, bad_tides, whole_text, no_memory}
use Rattle.hw_command.specs.Ends.{Ends}
use Rattle.hw_command.specs.declared.status.Status.{Status}

-- the refusal after the hints that were made, or only that memory ran out for them
abbrev pub hinted_reports : Result (Vec ℕ Global) NoMemory → Report → List Report
hinted_reports (Ok hints) r = whole_text hints.items ∷ r ∷ []
hinted_reports (Err stop) r = no_memory ∷ []

-- some hints and the refusal are sent, or that memory ran out
pub record SendsHinted (Hints : List ℕ → Type 0) (r : Report) (old new : DeskState) (s : Status) : Type 0 where
  pub hints : List ℕ
  pub are : Hints hints
  pub ends : Ends (whole_text hints ∷ r ∷ []) old new s

abbrev pub Refusal : (List ℕ → Type 0) → Report → DeskState → DeskState → Status → Type 0
Refusal Hints r old new s = SendsHinted Hints r old new s ⊎ Ends (no_memory ∷ []) old new s

-- of an instance of these bytes
abbrev pub RefusesInstance : List ℕ → ReadFault → DeskState → DeskState → Status → Type 0
RefusesInstance bytes read.NotJson old new s = Refusal (IsBreak bytes) bad_json old new s
RefusesInstance bytes (read.Field fault) old new s = Refusal (IsFieldTold bytes fault) (bad_field fault) old new s
RefusesInstance bytes read.NoMemory old new s = Ends (no_memory ∷ []) old new s

-- of a tide table of these bytes
abbrev pub RefusesTable : List ℕ → TideFault → DeskState → DeskState → Status → Type 0
RefusesTable bytes tide.NoMemory old new s = Ends (no_memory ∷ []) old new s
RefusesTable bytes fault old new s = Refusal (λ hints. hints ≡ table_hints bytes) (bad_tides fault) old new s
