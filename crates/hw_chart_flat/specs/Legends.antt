-- What the legend of a flat problem's picture says.
use Rattle.std.specs.Prelude.{◌≤◌, ℕ, List, [], ◌∷◌, ◌++◌, Option, codes}
use Rattle.hw_model.specs.Problem.{Problem}
use Rattle.hw_chart.specs.declared.legend.LegendPlace.{LegendPlace}
use Rattle.hw_chart.specs.Legends.{LegendEntry, legend_begin, legend_from, legend_width, patch_entry, place_after_all}
use Rattle.hw_chart_flat.specs.declared.marks.FlatMark.{FlatMark}
use Rattle.hw_chart_flat.specs.declared.marks.FlatMark.TheVariants.{HasValue, HasMost, CouldMove, Sails, HoldsTugs, MustWait, WholeFleet}
use Rattle.hw_chart_flat.specs.Marks.{is_flat_marked}

abbrev pub flat_class : FlatMark → List ℕ
flat_class HasValue = codes "dr"
flat_class HasMost = codes "fl"
flat_class CouldMove = codes "pl"
flat_class Sails = codes "ou"
flat_class HoldsTugs = codes "tu"
flat_class MustWait = codes "be"
flat_class WholeFleet = codes "fu"

abbrev pub flat_says : FlatMark → List ℕ
flat_says HasValue = codes "may sail: the higher, the more cargo"
flat_says HasMost = codes "with its most cargo"
flat_says CouldMove = codes "could move there alone"
flat_says Sails = codes "sails"
flat_says HoldsTugs = codes "holds tugs"
flat_says MustWait = codes "must wait for another"
flat_says WholeFleet = codes "whole fleet held"

abbrev pub flat_entry : Problem → Option (List ℕ) → FlatMark → LegendEntry
flat_entry f table mark = patch_entry (flat_class mark) (flat_says mark) (is_flat_marked f table mark)

abbrev pub flat_entries : Problem → Option (List ℕ) → List FlatMark → List LegendEntry
flat_entries f table [] = []
flat_entries f table (mark ∷ more) = flat_entry f table mark ∷ flat_entries f table more

-- those of these marks that are in the picture, from here on, and after them others
abbrev pub flat_legend_from : LegendPlace → Problem → Option (List ℕ) → List FlatMark → List LegendEntry → List ℕ
flat_legend_from at f table marks more = legend_from at (flat_entries f table marks ++ more)

-- the marks in the order of the legend
abbrev pub all_flat_marks : List FlatMark
all_flat_marks = HasValue ∷ HasMost ∷ CouldMove ∷ Sails ∷ HoldsTugs ∷ MustWait ∷ WholeFleet ∷ []

-- those that are in the picture, and after them others that a picture has beside these
unfoldable pub flat_legend : Problem → Option (List ℕ) → List LegendEntry → List ℕ
flat_legend f table more = flat_legend_from legend_begin f table all_flat_marks more

-- with others after its own that fill no more than a line, the legend has two lines at most, whatever it names
abbrev pub FlatLegendsFit : Type 0
FlatLegendsFit = (f : Problem) (table : Option (List ℕ)) (more : List LegendEntry) → legend_width more ≤ 1264 → (place_after_all legend_begin (flat_entries f table all_flat_marks ++ more)).y ≤ 85
