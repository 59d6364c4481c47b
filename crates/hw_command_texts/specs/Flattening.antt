-- What `flatten` lists of a port: its flat text.
use Rattle.std.specs.Prelude.{◌≡◌, ℕ, List, Option, Ok}
use Rattle.hw_flat.specs.Text.{flat_text}
use Rattle.hw_flat.specs.TextWritten.{problem_text}
use Rattle.hw_port.specs.Whole.{Parts}
use Rattle.hw_tide.specs.Levels.{TideParts}
use Rattle.hw_port_model.specs.Alike.{IsSameProblem}
use Rattle.hw_port_model.specs.Flattened.{flattened}
use Rattle.hw_report.specs.Reports.{Report, whole_text}
use Rattle.hw_command.specs.PortInputs.{NoPort}
use Rattle.hw_command.specs.Values.{IsPortOf}

-- the one text of the port's flat problem: it reads back as that problem, which says of each list of slots what the port says
pub record IsFlatTextOf (p : Parts) (h : TideParts) (text : List ℕ) : Type 0 where
  pub written : text ≡ problem_text (flattened p h)
  pub back : flat_text text ≡ Ok (flattened p h)
  pub same : IsSameProblem p h (flattened p h)

-- a port with its tide, that of the instance and of the table where they are told, and its flat text
pub record Flattens (instance table : Option (List ℕ)) (text : List ℕ) : Type 0 where
  pub port : Parts
  pub tide : TideParts
  pub reads : IsPortOf instance table port tide
  pub flat : IsFlatTextOf port tide text

-- what a report says of the instance and of the table, each where it is told
abbrev pub FlattensTexts : Option (List ℕ) → Option (List ℕ) → Report → Type 0
FlattensTexts instance table (whole_text text) = Flattens instance table text
FlattensTexts instance table r = NoPort instance table r
