-- What `explain port` lists of a port: its restrictions in its own words, a line for each.
use Rattle.std.specs.Prelude.{◌≡◌, ◌↔◌, ℕ, List, Option, Some, IsTrue, length, slice_get}
use Rattle.hw_model.specs.Timetables.{restriction_count, restriction_holds}
use Rattle.hw_port.specs.Whole.{Parts}
use Rattle.hw_tide.specs.Levels.{TideParts}
use Rattle.hw_port_model.specs.Flattened.{flattened}
use Rattle.hw_port_model.specs.Timetables.{IsPortTimetable}
use Rattle.hw_port_named.specs.declared.named.Named.{Named}
use Rattle.hw_port_named.specs.Lines.{explained}
use Rattle.hw_port_named.specs.Meaning.{IsNamed, NamedHolds}
use Rattle.hw_port_named.specs.Restrictions.{named_restrictions}
use Rattle.hw_report.specs.Reports.{Report, whole_text}
use Rattle.hw_command.specs.PortInputs.{NoPort}
use Rattle.hw_command.specs.Values.{IsPortOf}

-- the text that explains the port: a line for each restriction of its flat problem, which names the rule of its number there, and says of a timetable what that rule says
pub record IsPortExplanation (p : Parts) (h : TideParts) (text : List ℕ) : Type 0 where
  pub written : text ≡ explained p
  pub each : length (named_restrictions p) ≡ restriction_count (flattened p h)
  pub rule : (number : ℕ) (line : Named) → slice_get (named_restrictions p) number ≡ Some line → IsNamed (flattened p h) number line
  pub means : (table : List ℕ) (number : ℕ) (line : Named) → IsPortTimetable p table → slice_get (named_restrictions p) number ≡ Some line → (IsTrue (restriction_holds (flattened p h) table number) ↔ NamedHolds p h table line)

-- a port with its tide, that of the instance and of the table where they are told, and the text that explains it
pub record ExplainsPort (instance table : Option (List ℕ)) (text : List ℕ) : Type 0 where
  pub port : Parts
  pub tide : TideParts
  pub reads : IsPortOf instance table port tide
  pub explains : IsPortExplanation port tide text

-- what a report says of the instance and of the table, each where it is told
abbrev pub ExplainsTexts : Option (List ℕ) → Option (List ℕ) → Report → Type 0
ExplainsTexts instance table (whole_text text) = ExplainsPort instance table text
ExplainsTexts instance table r = NoPort instance table r
