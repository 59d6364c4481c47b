-- The legend of a picture, made of what a picture is written with.
use Rattle.std.proofs.Common.{◌+◌, List, [], ◌∷◌, codes, refl, ℕ}
use Rattle.std.specs.Prelude.{⊤}
use Rattle.hw_chart.specs.declared.legend.LegendPlace.{LegendPlace}
use Rattle.hw_chart.specs.declared.legend.Sample.{Sample}
use Rattle.hw_chart.specs.declared.legend.Sample.TheVariants.{Patch, Stripes, Figure}
use Rattle.hw_chart.specs.Legends.{LegendEntry, place_of_entry, entry_text, entry_width, legend_from, next_place, sample_text}
use Rattle.hw_chart_laws.proofs.Plain.{Plain, area}
use Rattle.hw_chart_laws.proofs.Shared.{if_so, says, three}
use Rattle.hw_chart_laws.proofs.Spelled.{Spelled, fixed}
use Rattle.hw_chart_laws.proofs.Writing.{Tags, Writing}

-- an entry whose class has no marks and whose words are spelled out
pub record IsSound (e : LegendEntry) : Type 0 where
  pub class : Plain e.class
  pub says : Spelled e.says

abbrev pub AreSound : List LegendEntry → Type 0
AreSound [] = ⊤
AreSound (e ∷ es) = IsSound e × AreSound es

module _ {P : Tags → List ℕ → Tags → Type 0} (w : Writing P) where
  of_sample : {a : Tags} (sample : Sample) {class : List ℕ} (at : LegendPlace) → Plain class → P a (sample_text sample class at) a
  of_sample Patch at c = w.shaped c (area _)
  of_sample Stripes at c = three w (w.opened _) (w.shaped c (area _)) w.closed
  of_sample Figure at c = w.lettered at.x (at.y + 9) c (fixed (codes "#") refl)

  of_entry : {a : Tags} (e : LegendEntry) (at : LegendPlace) → IsSound e → P a (entry_text e at) a
  of_entry e at sound = w.onward (of_sample e.sample at sound.class) (says w (codes "m") refl (at.x + 14) (at.y + 9) sound.says)

  pub of_legend_from : {a : Tags} (at : LegendPlace) (es : List LegendEntry) → AreSound es → P a (legend_from at es) a
  of_legend_from at [] sound = w.none
  of_legend_from at (e ∷ es) sound = w.onward (if_so w e.stands (of_entry e (place_of_entry at (entry_width e)) sound.0)) (of_legend_from (next_place at e) es sound.1)
