-- The legend of a picture: it names the marks that stand there.
use Rattle.std.specs.Prelude.{◌≤◌, ℕ, ◌+◌, Bool, nat_lt, if◌then◌else◌, List, [], ◌∷◌, ◌++◌, codes, length}
use Rattle.hw_chart_svg.specs.Lettering.{line}
use Rattle.hw_chart_svg.specs.Shapes.{block}
use Rattle.hw_chart_svg.specs.Sheets.{window}
use Rattle.hw_chart_svg.specs.Widths.{small_width}
use Rattle.hw_chart.specs.declared.legend.Entry.{Entry}
use Rattle.hw_chart.specs.declared.legend.LegendPlace.{LegendPlace}
use Rattle.hw_chart.specs.declared.legend.Sample.{Sample}
use Rattle.hw_chart.specs.declared.legend.Sample.TheVariants.{Patch, Stripes, Figure}

-- a sample of a mark of a class, what such a mark says, and whether one is in the picture
pub record LegendEntry : Type 0 where
  pub sample : Sample
  pub class : List ℕ
  pub says : List ℕ
  pub stands : Bool

abbrev pub entry_parts : Entry → LegendEntry
entry_parts e = record { sample = e.sample; class = e.class.now; says = e.says.now; stands = e.stands }

abbrev pub legend_parts : List Entry → List LegendEntry
legend_parts [] = []
legend_parts (e ∷ es) = entry_parts e ∷ legend_parts es

-- few words
abbrev pub HasShortWords : Entry → Type 0
HasShortWords e = length e.says.now ≤ 60

abbrev pub patch_entry : List ℕ → List ℕ → Bool → LegendEntry
patch_entry class says stands = record { sample = Patch; class = class; says = says; stands = stands }

abbrev pub striped_entry : List ℕ → List ℕ → Bool → LegendEntry
striped_entry class says stands = record { sample = Stripes; class = class; says = says; stands = stands }

-- a patch, a patch of three stripes, or a sign in the type of a figure
abbrev pub sample_text : Sample → List ℕ → LegendPlace → List ℕ
sample_text Patch class at = block class (record { left = at.x; right = at.x + 10; top = at.y; bottom = at.y + 10 })
sample_text Stripes class at = window (record { x = at.x; y = at.y; width = 10; height = 10; across = 3; down = 1 }) (block class (record { left = 0; right = 3; top = 0; bottom = 1 }))
sample_text Figure class at = line class at.x (at.y + 9) (codes "#")

-- the sample and the words
abbrev pub entry_text : LegendEntry → LegendPlace → List ℕ
entry_text e at = sample_text e.sample e.class at ++ line (codes "m") (at.x + 14) (at.y + 9) e.says

-- how wide they are together
abbrev pub entry_width : LegendEntry → ℕ
entry_width e = small_width e.says + 14

-- where an entry of this width stands: here, or at the beginning of the next line where it would end too far right
abbrev pub place_of_entry : LegendPlace → ℕ → LegendPlace
place_of_entry at width = if nat_lt 1268 (at.x + width) then record { x = 16; y = at.y + 16 } else at

-- where the one after it might begin
abbrev pub place_beside : LegendPlace → ℕ → LegendPlace
place_beside at width = record { x = at.x + width + 12; y = at.y }

-- where the next entry might begin after one that begins here, if it stands
abbrev pub next_place : LegendPlace → LegendEntry → LegendPlace
next_place at e = if e.stands then place_beside (place_of_entry at (entry_width e)) (entry_width e) else at

abbrev pub entry_where : LegendPlace → LegendEntry → List ℕ
entry_where at e = if e.stands then entry_text e (place_of_entry at (entry_width e)) else []

-- those of the entries that stand, one after another from here on
abbrev pub legend_from : LegendPlace → List LegendEntry → List ℕ
legend_from at [] = []
legend_from at (e ∷ es) = entry_where at e ++ legend_from (next_place at e) es

abbrev pub legend_begin : LegendPlace
legend_begin = record { x = 16; y = 69 }

abbrev pub legend_text : List LegendEntry → List ℕ
legend_text entries = legend_from legend_begin entries

-- how wide entries are with the room after each, if all of them stand on one line
abbrev pub legend_width : List LegendEntry → ℕ
legend_width [] = 0
legend_width (e ∷ es) = entry_width e + 12 + legend_width es

-- where one more entry might begin after all of these
abbrev pub place_after_all : LegendPlace → List LegendEntry → LegendPlace
place_after_all at [] = at
place_after_all at (e ∷ es) = place_after_all (next_place at e) es

-- entries that fill no more than a line, and others that do so after them, stand on two lines, whichever of them stand
abbrev pub TwoLinesHold : Type 0
TwoLinesHold = (first second : List LegendEntry) → legend_width first ≤ 1264 → legend_width second ≤ 1264 → (place_after_all legend_begin (first ++ second)).y ≤ 85
