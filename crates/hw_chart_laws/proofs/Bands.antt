-- The parts of a picture share no line.
use Rattle.std.proofs.Common.{◌≡◌, ◌≢◌, ◌⊎◌, ◌<◌, ◌≤◌, ◌+◌, ◌*◌, ℕ, Option, Some, None, List, length, refl, ap, arith, inl, inr}
use Rattle.std.proofs.lemmas.Bool.{cases_lt}
use Rattle.hw_model.specs.Problem.{Problem}
use Rattle.hw_chart_flat.specs.Pictures.{flat_picture_bottom}
use Rattle.hw_chart_port.specs.Charts.{ChartParts}
use Rattle.hw_chart_port.specs.Heads.{places}
use Rattle.hw_chart_laws.specs.Bands.{FlatPartsLieApart, IsFlatPart, IsPortPart, LieApart, Part, PortPartsLieApart, flat_band, lane, panel, port_band, row, ship_y, tide}
use Rattle.hw_chart_laws.proofs.Ranks.{HasSlots, rank_below, ranks_differ}
use Rattle.hw_chart.specs.Layout.{rank_in}

-- ---- the picture of a port

port_inside : (chart : ChartParts) → HasSlots chart.table (length chart.port.ships) → (a : Part) → IsPortPart chart.port a → (120 ≤ (port_band chart a).top) × ((port_band chart a).bottom ≤ (places chart.port).bottom)
port_inside chart has (tide i) p = (omega arith, omega (arith, p))
port_inside chart has (row v) p = let rank = rank_below chart.table (length chart.port.ships) v has p in (omega arith, omega (arith, rank))
port_inside chart has (lane j) p = (omega arith, omega (arith, p))
port_inside chart has (panel k) p = (omega arith, omega arith)

-- two numbers that differ
abbrev Ordered : ℕ → ℕ → Type 0
Ordered i j = (i < j) ⊎ (j < i)

ordered : (i j : ℕ) → i ≢ j → Ordered i j
ordered i j differ = elim (cases_lt i j) [
  | inl before ↦ inl before
  | inr not ↦ inr (omega (arith, not, differ))
]

port_apart : (chart : ChartParts) → HasSlots chart.table (length chart.port.ships) → (a b : Part) → IsPortPart chart.port a → IsPortPart chart.port b → a ≢ b → LieApart (port_band chart a) (port_band chart b)
port_apart chart has (tide i) (tide j) p q differ = elim (ordered i j (λ e. differ (ap tide e))) [
  | inl before ↦ inl (omega (arith, before))
  | inr after ↦ inr (omega (arith, after))
]
port_apart chart has (tide i) (row v) p q differ = inl (omega (arith, p))
port_apart chart has (tide i) (lane j) p q differ = inl (omega (arith, p))
port_apart chart has (tide i) (panel k) p q differ = inl (omega (arith, p))
port_apart chart has (row v) (tide i) p q differ = inr (omega (arith, q))
port_apart chart has (row v) (row w) p q differ = elim (ranks_differ chart.table (length chart.port.ships) v w has p q (λ e. differ (ap row e))) [
  | inl above ↦ inl (omega (arith, above))
  | inr under ↦ inr (omega (arith, under))
]
port_apart chart has (row v) (lane j) p q differ = let rank = rank_below chart.table (length chart.port.ships) v has p in inl (omega (arith, rank))
port_apart chart has (row v) (panel k) p q differ = let rank = rank_below chart.table (length chart.port.ships) v has p in inl (omega (arith, rank))
port_apart chart has (lane j) (tide i) p q differ = inr (omega (arith, q))
port_apart chart has (lane j) (row v) p q differ = let rank = rank_below chart.table (length chart.port.ships) v has q in inr (omega (arith, rank))
port_apart chart has (lane i) (lane j) p q differ = elim (ordered i j (λ e. differ (ap lane e))) [
  | inl before ↦ inl (omega (arith, before))
  | inr after ↦ inr (omega (arith, after))
]
port_apart chart has (lane j) (panel k) p q differ = inl (omega (arith, p))
port_apart chart has (panel k) (tide i) p q differ = inr (omega (arith, q))
port_apart chart has (panel k) (row v) p q differ = let rank = rank_below chart.table (length chart.port.ships) v has q in inr (omega (arith, rank))
port_apart chart has (panel k) (lane j) p q differ = inr (omega (arith, q))
port_apart chart has (panel i) (panel j) p q differ = let same : i ≡ j = omega (arith, p, q) in absurd (differ (ap panel same))

pub port_arranged : PortPartsLieApart
port_arranged chart has = record { inside = port_inside chart has; apart = port_apart chart has }

-- ---- the picture of a flat problem

ship_y_is : (f : Problem) (table : Option (List ℕ)) (ship : ℕ) → ship_y f table ship ≡ 146 + 42 * rank_in table ship
ship_y_is f None ship = refl
ship_y_is f (Some slots) ship = refl

flat_inside : (f : Problem) (table : Option (List ℕ)) → HasSlots table f.ships → (a : Part) → IsFlatPart f a → (120 ≤ (flat_band f table a).top) × ((flat_band f table a).bottom ≤ flat_picture_bottom f)
flat_inside f table has (tide i) p = absurd p
flat_inside f table has (row v) p =
    let y = ship_y_is f table v in
    let rank = rank_below table f.ships v has p in
    (omega (arith, y), omega (arith, y, rank))
flat_inside f table has (lane j) p = absurd p
flat_inside f table has (panel k) p = (omega arith, omega (arith, p))

flat_apart : (f : Problem) (table : Option (List ℕ)) → HasSlots table f.ships → (a b : Part) → IsFlatPart f a → IsFlatPart f b → a ≢ b → LieApart (flat_band f table a) (flat_band f table b)
flat_apart f table has (tide i) b p q differ = absurd p
flat_apart f table has (lane j) b p q differ = absurd p
flat_apart f table has (row v) (tide i) p q differ = absurd q
flat_apart f table has (row v) (lane j) p q differ = absurd q
flat_apart f table has (panel k) (tide i) p q differ = absurd q
flat_apart f table has (panel k) (lane j) p q differ = absurd q
flat_apart f table has (row v) (row w) p q differ =
    let y = ship_y_is f table v in
    let z = ship_y_is f table w in
    elim (ranks_differ table f.ships v w has p q (λ e. differ (ap row e))) [
      | inl above ↦ inl (omega (arith, above, y, z))
      | inr under ↦ inr (omega (arith, under, y, z))
    ]
flat_apart f table has (row v) (panel k) p q differ =
    let y = ship_y_is f table v in
    let rank = rank_below table f.ships v has p in
    inl (omega (arith, y, rank))
flat_apart f table has (panel k) (row v) p q differ =
    let y = ship_y_is f table v in
    let rank = rank_below table f.ships v has q in
    inr (omega (arith, y, rank))
flat_apart f table has (panel i) (panel j) p q differ = elim (ordered i j (λ e. differ (ap panel e))) [
  | inl before ↦ inl (omega (arith, before))
  | inr after ↦ inr (omega (arith, after))
]

pub flat_arranged : FlatPartsLieApart
flat_arranged f table has = record { inside = flat_inside f table has; apart = flat_apart f table has }
