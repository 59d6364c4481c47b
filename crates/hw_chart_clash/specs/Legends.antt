-- What the legend says of the marks of a clash, as far as there are such.
use Rattle.std.specs.Prelude.{◌≤◌, Bool, true, false, List, [], ◌∷◌, codes}
use Rattle.std.specs.List.{list_any}
use Rattle.hw_chart.specs.Legends.{LegendEntry, legend_width, patch_entry}
use Rattle.hw_chart_clash.specs.declared.legend.Kind.{Kind}
use Rattle.hw_chart_clash.specs.declared.legend.Kind.TheVariants.{Window, Pair, Fleet}
use Rattle.hw_chart_clash.specs.declared.mark.Mark.{Mark}
use Rattle.hw_chart_clash.specs.declared.mark.Shape.{Shape}
use Rattle.hw_chart_clash.specs.declared.mark.Shape.TheVariants.{Denied, Joined, Lacking}

abbrev pub is_of : Kind → Shape → Bool
is_of Window (Denied ship) = true
is_of Pair (Joined first second) = true
is_of Fleet Lacking = true
is_of kind shape = false

-- one of the marks is of this kind
abbrev pub some_mark : Kind → List Mark → Bool
some_mark kind marks = list_any (λ mark. is_of kind mark.shape) marks

abbrev pub clash_entries : List Mark → List LegendEntry
clash_entries marks = patch_entry (codes "cw") (codes "its window or the water denies it these slots") (some_mark Window marks) ∷ patch_entry (codes "cp") (codes "must keep apart") (some_mark Pair marks) ∷ patch_entry (codes "cl") (codes "more tugs than the fleet has") (some_mark Fleet marks) ∷ []

-- all three have room on one line
abbrev pub ClashEntriesFit : Type 0
ClashEntriesFit = (marks : List Mark) → legend_width (clash_entries marks) ≤ 1264
