-- The grid of a port's picture, with dates or without, made of what a picture is written with.
use Rattle.std.proofs.Common.{◌+◌, ℕ, zero, suc, Option, Some, None, List, codes, refl}
use Rattle.hw_port_dates.specs.declared.moment.Moment.{Moment}
use Rattle.hw_port_model.specs.Numbers.{whole}
use Rattle.hw_chart_calendar.specs.Calendars.{day_begins, dated_axis, dated_grid, dated_lines, dated_marks, moment_class, moment_mark, moment_words}
use Rattle.hw_chart.specs.declared.grid.Axis.{Axis}
use Rattle.hw_chart.specs.declared.grid.Scale.TheVariants.{Minutes}
use Rattle.hw_chart_port.specs.Charts.{ChartParts}
use Rattle.hw_chart_port.specs.Pictures.{bottom, times_from}
use Rattle.hw_chart_laws.proofs.Plain.{Plain, both, letters, number, nothing}
use Rattle.hw_chart_laws.proofs.Shared.{either as either_plain, of_grid, says, three}
use Rattle.hw_chart_laws.proofs.Spelled.{Spelled, also, either, fixed, name, nothing as no_words, of_clock, of_number}
use Rattle.hw_chart_laws.proofs.Writing.{Tags, Writing}

plain_class : (m : Moment) → Plain (moment_class m)
plain_class m = either_plain (day_begins m) (letters (codes "b c") refl) (letters (codes "m c") refl)

spelled_moment : (m : Moment) → Spelled (moment_words m)
spelled_moment m = either (day_begins m) (also (name _) (also (fixed (codes " ") refl) (also (of_number _) (also (fixed (codes " ") refl) (also (name _) no_words))))) (of_clock _)

plain_lines : (start : List ℕ) (a : Axis) (i count : ℕ) → Plain (dated_lines start a i count)
plain_lines start a i zero = nothing
plain_lines start a i (suc more) = both (both (letters (codes "M") refl) (both (number _) (both (letters (codes " 120V") refl) (both (number _) nothing)))) (plain_lines start a (i + 1) more)

module _ {P : Tags → List ℕ → Tags → Type 0} (w : Writing P) where
  of_moment : {a : Tags} (x : Axis) (at : ℕ) (m : Moment) → P a (moment_mark x at m) a
  of_moment x at m = w.onward (w.lettered _ 116 (plain_class m) (spelled_moment m)) (w.lettered _ _ (plain_class m) (spelled_moment m))

  of_marks : {a : Tags} (start : List ℕ) (x : Axis) (i count : ℕ) → P a (dated_marks start x i count) a
  of_marks start x i zero = w.none
  of_marks start x i (suc more) = w.onward (of_moment x _ _) (of_marks start x (i + 1) more)

  of_dated : {a : Tags} (start : List ℕ) (minutes span bottom : ℕ) → P a (dated_grid start minutes span bottom) a
  of_dated start minutes span bottom =
      let x = dated_axis minutes span bottom in
      three w (says w (codes "m") refl 16 116 (name start)) (w.shaped (letters (codes "ln") refl) (plain_lines start x _ _)) (of_marks start x _ _)

  pub of_times : {a : Tags} (chart : ChartParts) (start : Option (List ℕ)) → P a (times_from chart start) a
  of_times chart None = of_grid w (Minutes (whole chart.port.slot_minutes)) chart.span (bottom chart)
  of_times chart (Some start) = of_dated start (whole chart.port.slot_minutes) chart.span (bottom chart)
