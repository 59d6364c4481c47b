-- What the legend of a picture says.
use Rattle.std.specs.Prelude.{◌≤◌, ℕ, Bool, List, [], ◌∷◌, ◌++◌, codes, if◌then◌else◌}
use Rattle.hw_chart.specs.declared.legend.Sample.{Sample}
use Rattle.hw_chart.specs.declared.legend.Sample.TheVariants.{Patch, Figure}
use Rattle.hw_chart.specs.Legends.{LegendEntry, legend_begin, legend_text, legend_width, place_after_all}
use Rattle.hw_chart_port.specs.declared.marks.Mark.{Mark}
use Rattle.hw_chart_port.specs.declared.marks.Mark.TheVariants.{Tide, OfWindow, OfSailing, WholeFleet}
use Rattle.hw_chart_port.specs.declared.marks.WindowMark.{WindowMark}
use Rattle.hw_chart_port.specs.declared.marks.WindowMark.TheVariants.{MaySail, FullDraft, CouldMove, Outgoing, Incoming, Closed}
use Rattle.hw_chart_port.specs.declared.marks.SailingMark.{SailingMark}
use Rattle.hw_chart_port.specs.declared.marks.SailingMark.TheVariants.{Passes, PassesOut, HoldsTugs, TugsTurn, MustWait, WaitsOn, AtLimit, BelowFull}
use Rattle.hw_chart_port.specs.Charts.{ChartParts}
use Rattle.hw_chart_port.specs.Marks.{has_mark}

-- ---- the class of each mark

abbrev pub window_class : WindowMark → List ℕ
window_class MaySail = codes "dr"
window_class FullDraft = codes "fl"
window_class CouldMove = codes "pl"
window_class Outgoing = codes "ou"
window_class Incoming = codes "in"
window_class Closed = codes "ha"

-- passes have the colour of ships that go out, if one does
abbrev pub passing_class : ChartParts → List ℕ
passing_class chart = if has_mark chart (OfSailing PassesOut) then codes "ou mk" else codes "in mk"

abbrev pub class_of_sailing : ChartParts → SailingMark → List ℕ
class_of_sailing chart Passes = passing_class chart
class_of_sailing chart PassesOut = codes "ou mk"
class_of_sailing chart HoldsTugs = codes "tu"
class_of_sailing chart TugsTurn = codes "ba"
class_of_sailing chart MustWait = codes "be"
class_of_sailing chart WaitsOn = codes "wi"
class_of_sailing chart AtLimit = codes "m q"
class_of_sailing chart BelowFull = codes "m"

abbrev pub class_of_mark : ChartParts → Mark → List ℕ
class_of_mark chart Tide = codes "wa"
class_of_mark chart (OfWindow mark) = window_class mark
class_of_mark chart (OfSailing mark) = class_of_sailing chart mark
class_of_mark chart WholeFleet = codes "fu"

-- ---- what it says

abbrev pub window_says : WindowMark → List ℕ
window_says MaySail = codes "may sail: the higher, the deeper"
window_says FullDraft = codes "with full draft"
window_says CouldMove = codes "could move there alone"
window_says Outgoing = codes "sails out"
window_says Incoming = codes "comes in"
window_says Closed = codes "closed"

abbrev pub sailing_says : SailingMark → List ℕ
sailing_says Passes = codes "needed by a ship that passes"
sailing_says PassesOut = codes "needed by a ship that passes"
sailing_says HoldsTugs = codes "holds tugs"
sailing_says TugsTurn = codes "tugs turn round"
sailing_says MustWait = codes "must wait for another"
sailing_says WaitsOn = codes "waits on"
sailing_says AtLimit = codes "draft at its limit"
sailing_says BelowFull = codes "short: below full draft"

abbrev pub mark_says : Mark → List ℕ
mark_says Tide = codes "tide"
mark_says (OfWindow mark) = window_says mark
mark_says (OfSailing mark) = sailing_says mark
mark_says WholeFleet = codes "whole fleet held"

-- ---- the legend

-- what two marks of a sailing mark is its figures
abbrev pub sample_of_sailing : SailingMark → Sample
sample_of_sailing Passes = Patch
sample_of_sailing PassesOut = Patch
sample_of_sailing HoldsTugs = Patch
sample_of_sailing TugsTurn = Patch
sample_of_sailing MustWait = Patch
sample_of_sailing WaitsOn = Patch
sample_of_sailing AtLimit = Figure
sample_of_sailing BelowFull = Figure

abbrev pub sample_of_mark : Mark → Sample
sample_of_mark Tide = Patch
sample_of_mark (OfWindow mark) = Patch
sample_of_mark (OfSailing mark) = sample_of_sailing mark
sample_of_mark WholeFleet = Patch

abbrev pub figure_entry : List ℕ → List ℕ → Bool → LegendEntry
figure_entry class says stands = record { sample = Figure; class = class; says = says; stands = stands }

abbrev pub sailing_entry : ChartParts → SailingMark → Bool → LegendEntry
sailing_entry chart mark stands = record { sample = sample_of_sailing mark; class = class_of_sailing chart mark; says = sailing_says mark; stands = stands }

abbrev pub mark_entry : ChartParts → Mark → LegendEntry
mark_entry chart mark = record { sample = sample_of_mark mark; class = class_of_mark chart mark; says = mark_says mark; stands = has_mark chart mark }

abbrev pub mark_entries : ChartParts → List Mark → List LegendEntry
mark_entries chart [] = []
mark_entries chart (mark ∷ more) = mark_entry chart mark ∷ mark_entries chart more

-- the marks in the order of the legend
abbrev pub legend_marks : List Mark
legend_marks = Tide ∷ OfSailing Passes ∷ OfWindow MaySail ∷ OfWindow FullDraft ∷ OfWindow CouldMove ∷ OfWindow Outgoing ∷ OfWindow Incoming ∷ OfSailing HoldsTugs ∷ OfSailing TugsTurn ∷ OfSailing MustWait ∷ OfSailing WaitsOn ∷ WholeFleet ∷ OfSailing AtLimit ∷ OfSailing BelowFull ∷ OfWindow Closed ∷ []

-- those that are in the picture, and after them others that a picture has beside these
unfoldable pub port_legend : ChartParts → List LegendEntry → List ℕ
port_legend chart more = legend_text (mark_entries chart legend_marks ++ more)

-- with others after its own that take no more room than this, the legend has two lines at most, whatever it names
abbrev pub LegendsFit : Type 0
LegendsFit = (chart : ChartParts) (more : List LegendEntry) → legend_width more ≤ 495 → (place_after_all legend_begin (mark_entries chart legend_marks ++ more)).y ≤ 85
