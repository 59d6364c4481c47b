-- The legend of a port's picture has two lines at most.
use Rattle.std.proofs.Common.{◌≡◌, ◌≤◌, ◌+◌, ◌++◌, List, [], ◌∷◌, refl, arith}
use Rattle.hw_chart_svg.specs.Widths.{advance}
use Rattle.hw_chart.proofs.Lines.{two_lines}
use Rattle.hw_chart.specs.Legends.{LegendEntry, legend_begin, legend_width, place_after_all}
use Rattle.hw_chart_port.specs.declared.marks.Mark.{Mark}
use Rattle.hw_chart_port.specs.declared.marks.Mark.TheVariants.{Tide, OfWindow, OfSailing, WholeFleet}
use Rattle.hw_chart_port.specs.declared.marks.WindowMark.TheVariants.{MaySail, FullDraft, CouldMove, Outgoing, Incoming, Closed}
use Rattle.hw_chart_port.specs.declared.marks.SailingMark.TheVariants.{Passes, HoldsTugs, TugsTurn, MustWait, WaitsOn, AtLimit, BelowFull}
use Rattle.hw_chart_port.specs.Charts.{ChartParts}
use Rattle.hw_chart_port.specs.Legends.{legend_marks, mark_entries}

-- the marks of the first line, if all stand, and those of the second
abbrev upper : List Mark
upper = Tide ∷ OfSailing Passes ∷ OfWindow MaySail ∷ OfWindow FullDraft ∷ OfWindow CouldMove ∷ OfWindow Outgoing ∷ OfWindow Incoming ∷ OfSailing HoldsTugs ∷ OfSailing TugsTurn ∷ []

abbrev lower : List Mark
lower = OfSailing MustWait ∷ OfSailing WaitsOn ∷ WholeFleet ∷ OfSailing AtLimit ∷ OfSailing BelowFull ∷ OfWindow Closed ∷ []

upper_width : (chart : ChartParts) → legend_width (mark_entries chart upper) ≡ 1200
unfolding advance
upper_width chart = refl

lower_width : (chart : ChartParts) (more : List LegendEntry) → legend_width (mark_entries chart lower ++ more) ≡ 173 + (84 + (134 + (135 + (174 + (69 + legend_width more)))))
unfolding advance
lower_width chart more = refl

pub legends_fit : (chart : ChartParts) (more : List LegendEntry) → legend_width more ≤ 495 → (place_after_all legend_begin (mark_entries chart legend_marks ++ more)).y ≤ 85
legends_fit chart more fits =
    let one = upper_width chart in
    let two = lower_width chart more in
    two_lines (mark_entries chart upper) (mark_entries chart lower ++ more) (omega (arith, one)) (omega (arith, two, fits))
