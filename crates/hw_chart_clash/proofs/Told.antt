-- What the marks of a clash say.
use Rattle.std.proofs.Common.{◌≡◌, ◌∙◌, ◌<◌, ℕ, Bool, true, false, List, map, Option, Some, None, option_map, refl, ap, arith}
use Rattle.std.specs.Prelude.{◌↔◌, if◌then◌else◌, is_some, max, nat_lt, sum_by, zip}
use Rattle.std.specs.Option.{option_map_or}
use Rattle.std.proofs.lemmas.Bool.{lt-ltb, ltb-true}
use Rattle.std.proofs.lemmas.Option.{slice_get-map}
use Rattle.hw_lemmas.proofs.Truths.{absurd_false}
use Rattle.hw_chart_svg.specs.Widths.{advance}
use Rattle.hw_chart.specs.Legends.{legend_width}
use Rattle.hw_port_model.specs.Drafts.{value}
use Rattle.hw_port_model.specs.Numbers.{whole}
use Rattle.hw_port_model.specs.Permitted.{tugs_held}
use Rattle.hw_chart_clash.specs.Laws.{DeniedSlots, EachKeptIsMarked, LackingSlots}
use Rattle.hw_chart_clash.specs.Legends.{ClashEntriesFit, clash_entries}
use Rattle.hw_chart_clash.specs.Marks.{kept_mark_at, mark_named, no_mark}
use Rattle.hw_chart_clash.specs.declared.mark.Mark.{Mark}

pub each_kept_is_marked_law : EachKeptIsMarked
each_kept_is_marked_law p kept place number named at is = slice_get-map (kept_mark_at p) kept place ∙ ap (option_map (kept_mark_at p)) at ∙ ap (λ o. Some (option_map_or (mark_named p number) o no_mark)) is

-- ---- windows

denied_by : (o : Option ℕ) → (◌≡◌ {A = ℕ} (if is_some o then 1 else 0) 0 ↔ o ≡ None)
denied_by None = (λ e. refl, λ e. refl)
denied_by (Some n) = (λ e. absurd cc, λ e. absurd cc)

pub denied_slots_law : DeniedSlots
denied_slots_law p h ship slot = denied_by (value p h ship slot)

-- ---- the fleet

never : (fleet : ℕ) → max fleet 1 ≡ 0 → ⊥
never fleet e = first_of (omega (arith, e), grind (arith, e))

lacking_by : (fleet held : ℕ) (b : Bool) → nat_lt fleet held ≡ b → ((if b then 0 else max fleet 1) ≡ 0 ↔ fleet < held)
lacking_by fleet held true e = (λ zero. ltb-true fleet held e, λ above. refl)
lacking_by fleet held false e = (λ zero. absurd (never fleet zero), λ above. absurd (absurd_false (nat_lt fleet held) e (lt-ltb fleet held above)))

pub lacking_slots_law : LackingSlots
lacking_slots_law p table slot = lacking_by (whole p.fleet) (sum_by (tugs_held p slot) (zip p.ships table)) (nat_lt (whole p.fleet) (sum_by (tugs_held p slot) (zip p.ships table))) refl

-- ---- the legend

width_is : (marks : List Mark) → legend_width (clash_entries marks) ≡ 678
unfolding advance
width_is marks = refl

pub clash_entries_fit_law : ClashEntriesFit
clash_entries_fit_law marks = let is = width_is marks in omega (arith, is)
