-- The bars of a ship's window are the slots in which the port lets it sail.
use Rattle.std.proofs.Common.{◌≡◌, ◌↔◌, ◌<◌, ◌≤◌, ◌≤ℤ◌, ◌-ℤ◌, ℕ, ℤ, Bool, true, false, Option, Some, None, IfSome, IsSome, option_map, slice_get, unsigned_abs, refl, arith, if◌then◌else◌}
use Rattle.std.specs.Ordering.{int_eq}
use Rattle.std.proofs.lemmas.Bool.Decides.{Decides-int_eq}
use Rattle.std.proofs.lemmas.Int.{ints}
use Rattle.hw_port.specs.Kept.{PortKept}
use Rattle.hw_port.specs.Parts.{ShipParts}
use Rattle.hw_port_laws.proofs.Ships.{ship_kept}
use Rattle.hw_port_model.specs.Drafts.{carried, loaded, sailing, usable_draft, value}
use Rattle.hw_chart_port.proofs.Bounds.{sails_between}
use Rattle.hw_chart_port.specs.Charts.{ChartParts}
use Rattle.hw_chart_port.specs.Drafts.{full_draft_level, short_level}
use Rattle.hw_chart_laws.specs.Laws.{bar_level, foot_of, level_of_full_draft}
use Rattle.hw_port_windows.specs.Statuses.{full_draft}

pub short_less : (light full d : ℤ) → light ≤ℤ d → d ≤ℤ full → unsigned_abs (full -ℤ d) ≤ unsigned_abs (full -ℤ light)
short_less light full d low high = grind (arith, ints)

bar_where : (s : ShipParts) (o : Option ℤ) → IfSome (option_map (loaded s) o) (λ d. (s.light ≤ℤ d) × (d ≤ℤ full_draft s)) → (short_level (full_draft s) (foot_of s) (option_map (loaded s) o) < foot_of s) ↔ IsSome (option_map (carried s) o)
bar_where s None between = (λ lt. absurd (omega (arith, lt)), λ e. absurd cc)
bar_where s (Some a) between =
    let less : unsigned_abs (full_draft s -ℤ loaded s a) ≤ unsigned_abs (full_draft s -ℤ s.light) = short_less s.light (full_draft s) (loaded s a) between.0 between.1 in
    (λ lt. refl, λ e. omega (arith, less))

pub bars_are_slots : (chart : ChartParts) (v slot : ℕ) (s : ShipParts) → PortKept chart.port → slice_get chart.port.ships v ≡ Some s → (bar_level chart v s slot < foot_of s) ↔ IsSome (value chart.port chart.tide v slot)
bars_are_slots chart v slot s kept at =
    rw at (bar_where s (usable_draft chart.port chart.tide s slot) (sails_between chart.port chart.tide s slot (ship_kept chart.port v s kept at).load))

pub full_where : (b : Bool) (tall : ℕ) (P : Type 0) → 0 < tall → (b ≡ true) ↔ P → (◌≡◌ {A = ℕ} (if b then 0 else tall) 0) ↔ P
full_where true tall P some means = (λ e. means.0 refl, λ p. refl)
full_where false tall P some means = (λ e. absurd (omega (arith, e, some)), λ p. absurd (let e = means.1 p in cc))

full_of_draft : (full : ℤ) (tall : ℕ) (o : Option ℤ) → 0 < tall → (full_draft_level full tall o ≡ 0) ↔ (o ≡ Some full)
full_of_draft full tall None some = (λ e. absurd (omega (arith, e, some)), λ e. absurd cc)
full_of_draft full tall (Some d) some =
    let same : (int_eq d full ≡ true) ↔ (d ≡ full) = Decides-int_eq d full in
    full_where (int_eq d full) tall (Some d ≡ Some full) some (λ e. let f = same.0 e in cc, λ e. same.1 cc)

pub full_bars : (chart : ChartParts) (v slot : ℕ) (s : ShipParts) → (level_of_full_draft chart v s slot ≡ 0) ↔ (sailing chart.port chart.tide v slot ≡ Some (full_draft s))
full_bars chart v slot s = full_of_draft (full_draft s) (foot_of s) (sailing chart.port chart.tide v slot) (omega arith)
