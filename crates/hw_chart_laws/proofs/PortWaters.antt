-- The high and low waters of a port's picture, and what it says where ships have no slot, made of what a picture is written with.
use Rattle.std.proofs.Common.{true, false, Bool, ◌+◌, ◌-◌, ℕ, ℤ, List, [], ◌∷◌, codes, refl}
use Rattle.hw_cert_lines.specs.declared.check.Verdict.{Verdict}
use Rattle.hw_cert_lines.specs.declared.check.Verdict.TheVariants.{Optimal, Infeasible, Unfinished}
use Rattle.hw_chart_svg.specs.Numbers.{height_text}
use Rattle.hw_port.specs.Parts.{ShipParts}
use Rattle.hw_chart_waters.specs.declared.stand.Stand.{Stand}
use Rattle.hw_chart_waters.specs.declared.stand.WaterKind.TheVariants.{High, Low}
use Rattle.hw_chart_waters.specs.Columns.{ColumnParts, column_height}
use Rattle.hw_chart_waters.specs.Labels.{label_of, named_stands, stand_time, water_labels, water_words}
use Rattle.hw_chart_port.specs.declared.passing.Strip.{Strip}
use Rattle.hw_chart_port.specs.declared.reasons.Reason.TheVariants.{Shut, TableEnds, TooShallow}
use Rattle.hw_chart_port.specs.Charts.{ChartParts}
use Rattle.hw_chart_port.specs.Reasons.{clash_hint, each_may_sail, has_no_slot, hint_by, keeps_in, no_slot_where, reasons_words}
use Rattle.hw_chart_port.specs.Strips.{column_of, strip_waters, strip_y}
use Rattle.hw_chart_laws.proofs.Shared.{if_so, says}
use Rattle.hw_chart_laws.proofs.Spelled.{Spelled, also, fixed, nothing, of_clock, of_height}
use Rattle.hw_chart_laws.proofs.Writing.{Tags, Writing}

spelled_water : (time : ℕ) (height : ℤ) → Spelled (water_words time (height_text height))
unfolding water_words
spelled_water time height = also (of_clock time) (also (fixed (codes " ") refl) (also (of_height height) nothing))

spelled_reasons : (shut ends shallow : Bool) → Spelled (reasons_words shut ends shallow)
spelled_reasons true true true = fixed _ refl
spelled_reasons true true false = fixed _ refl
spelled_reasons true false true = fixed _ refl
spelled_reasons true false false = fixed _ refl
spelled_reasons false true true = fixed _ refl
spelled_reasons false true false = fixed _ refl
spelled_reasons false false true = fixed _ refl
spelled_reasons false false false = fixed _ refl

module _ {P : Tags → List ℕ → Tags → Type 0} (w : Writing P) where
  of_labels : {a : Tags} (c : ColumnParts) (y : ℕ) (all : List Stand) → P a (water_labels c y all) a
  of_labels c y [] = w.none
  of_labels c y (s ∷ more) = w.onward (says w (codes "m c") refl (label_of c s).middle y (spelled_water (stand_time c s) (column_height c s.first))) (of_labels c y more)

  pub of_waters : {a : Tags} (chart : ChartParts) (strip : Strip) → P a (strip_waters chart strip) a
  of_waters chart strip = w.onward (of_labels (column_of chart strip) (strip_y strip - 4) (named_stands (column_of chart strip) High)) (of_labels (column_of chart strip) (strip_y strip + 51) (named_stands (column_of chart strip) Low))

  of_clash_hint : {a : Tags} → P a clash_hint a
  unfolding clash_hint
  of_clash_hint = says w (codes "m r") refl 1268 56 (fixed (codes "each ship alone could sail; clash finds which restrictions together leave nothing") refl)

  pub of_hint : {a : Tags} (chart : ChartParts) (verdict : Verdict) → P a (hint_by chart verdict) a
  of_hint chart (Optimal cargo) = w.none
  of_hint chart Infeasible = if_so w (each_may_sail chart) of_clash_hint
  of_hint chart (Unfinished best) = w.none

  pub of_reasons : {a : Tags} (chart : ChartParts) (v : ℕ) (s : ShipParts) (y : ℕ) → P a (no_slot_where chart v s y) a
  of_reasons chart v s y = if_so w (has_no_slot chart v) (says w (codes "q") refl 900 (y + 17) (spelled_reasons (keeps_in chart v s Shut) (keeps_in chart v s TableEnds) (keeps_in chart v s TooShallow)))
