-- `lint`: why a port's inputs are refused, with what they look like, or what is likely meant otherwise where both are read.
use Rattle.std.specs.Prelude.{◌≡◌, ℕ, List, [], ◌∷◌, Option, None, IfSome}
use Rattle.hw_desk.specs.declared.desk.Feed.TheVariants.{Instance, Tides}
use Rattle.hw_port.specs.Whole.{Parts}
use Rattle.hw_tide.specs.Levels.{TideParts}
use Rattle.hw_port_lint.specs.Instances.{IsBreak, IsFieldTold}
use Rattle.hw_port_lint.specs.Ports.{lint_text}
use Rattle.hw_port_lint.specs.Tables.{table_hints}
use Rattle.hw_report.specs.Reports.{Report, bad_json, bad_field, bad_tides, too_long, whole_text}
use Rattle.hw_command.specs.Carries.{Task}
use Rattle.hw_command.specs.PortInputs.{NoPort}
use Rattle.hw_command.specs.Scope.{named_feed}
use Rattle.hw_command.specs.Values.{IsPortOf, PortGives}

-- what stands before a refusal: of the input that is refused, where it is told
abbrev pub HintsOf : Option (List ℕ) → Option (List ℕ) → Report → List ℕ → Type 0
HintsOf instance table bad_json hints = IfSome instance (λ bytes. IsBreak bytes hints)
HintsOf instance table (bad_field fault) hints = IfSome instance (λ bytes. IsFieldTold bytes fault hints)
HintsOf instance table (bad_tides fault) hints = IfSome table (λ bytes. hints ≡ table_hints bytes)
HintsOf instance table r hints = ⊥

-- both inputs are read: the port with its tide, each that of its bytes where they are told, and the hints on them
pub record Linted (instance table : Option (List ℕ)) (text : List ℕ) : Type 0 where
  pub port : Parts
  pub tide : TideParts
  pub reads : IsPortOf instance table port tide
  pub is_text : IfSome table (λ bytes. text ≡ lint_text port tide.rows bytes)

-- a refusal is the one of every other command on a port, and stands last, after hints on the input. One report alone is the hints on a port with its tide, or an input that is too long
abbrev pub LintsTexts : Option (List ℕ) → Option (List ℕ) → List Report → Type 0
LintsTexts instance table (whole_text text ∷ []) = Linted instance table text
LintsTexts instance table (too_long feed ∷ []) = NoPort instance table (too_long feed)
LintsTexts instance table (whole_text hints ∷ r ∷ []) = NoPort instance table r × HintsOf instance table r hints
LintsTexts instance table reports = ⊥

abbrev pub lint_task : List ℕ → List ℕ → Task
lint_task instance table = record {
  inputs = named_feed Instance instance ∷ named_feed Tides table ∷ [];
  Gives = PortGives instance table;
  proof = None;
  Says = λ old new. LintsTexts (old.held instance) (old.held table);
}
