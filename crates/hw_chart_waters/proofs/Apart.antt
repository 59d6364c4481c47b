-- The labels of a line are those of waters, lie apart, and lie on the plot.
use Rattle.std.proofs.Common.{◌≡◌, ◌≤◌, ◌<◌, ◌+◌, ◌-◌, ◌*◌, ℕ, zero, suc, Bool, true, false, cond, List, [], ◌∷◌, Some, slice_get, refl, subst, arith, inl, inr, max, min}
use Rattle.std.proofs.lemmas.Bool.{leb-true}
use Rattle.std.proofs.lemmas.List.Elements.{Contains-append_cases, Contains-append_left, Contains-append_right}
use Rattle.std.specs.List.{Contains}
use Rattle.hw_chart.specs.Layout.{plot_place}
use Rattle.hw_chart_waters.specs.declared.stand.Stand.{Stand}
use Rattle.hw_chart_waters.specs.Columns.{ColumnParts, column_height}
use Rattle.hw_chart_waters.specs.Labels.{after_label, fits_from, label_of, stand_half, with_room}
use Rattle.hw_chart_waters.specs.Laws.{LabelsAreWaters, LabelsLieApart, LabelsLieOnPlot}
use Rattle.hw_chart_waters.specs.Stands.{stands}
use Rattle.hw_chart_waters.proofs.Found.{are_waters}

-- ---- those that have room are among those that there are

among_by : (b : Bool) (a : Stand) (more some others : List Stand) (s : Stand) → (Contains some s → Contains more s) → (Contains others s → Contains more s) → Contains (cond b (a ∷ some) others) s → Contains (a ∷ more) s
among_by false a more some others s f g h = Contains-append_right (a ∷ []) more s (g h)
among_by true a more some others s f g h = elim (Contains-append_cases (a ∷ []) some s h) [
  | inl here ↦ Contains-append_left (a ∷ []) more s here
  | inr later ↦ Contains-append_right (a ∷ []) more s (f later)
]

among : (c : ColumnParts) (free : ℕ) (all : List Stand) (s : Stand) → Contains (with_room c free all) s → Contains all s
among c free [] s h = h
among c free (a ∷ more) s h = among_by (fits_from free (label_of c a)) a more (with_room c (after_label (label_of c a)) more) (with_room c free more) s (among c (after_label (label_of c a)) more s) (among c free more s) h

pub named_are_waters : LabelsAreWaters
named_are_waters c kind s h = (are_waters kind (column_height c) c.rows s).0 (among c 172 (stands kind (column_height c) c.rows) s h)

-- ---- each begins where the line is free

fits : (free : ℕ) (c : ColumnParts) (s : Stand) → fits_from free (label_of c s) ≡ true → free + (label_of c s).half ≤ (label_of c s).middle
fits free c s e = leb-true (free + (label_of c s).half) (label_of c s).middle e

-- a label begins at a place of the line or later
abbrev BeginsFrom : ColumnParts → ℕ → Stand → Type 0
BeginsFrom c free s = free + (label_of c s).half ≤ (label_of c s).middle

free_by : (c : ColumnParts) (free : ℕ) (a b : Stand) (some others : List Stand) (v : Bool) → fits_from free (label_of c a) ≡ v → ((i : ℕ) → slice_get some i ≡ Some b → BeginsFrom c (after_label (label_of c a)) b) → ((i : ℕ) → slice_get others i ≡ Some b → BeginsFrom c free b) → (j : ℕ) → slice_get (cond v (a ∷ some) others) j ≡ Some b → BeginsFrom c free b
free_by c free a b some others false is f g j e = g j e
free_by c free a b some others true is f g zero e =
    let same : a ≡ b = cc in
    subst (BeginsFrom c free) same (fits free c a is)
free_by c free a b some others true is f g (suc j) e =
    let first = fits free c a is in
    let rest = f j e in
    omega (arith, first, rest)

begins_free : (c : ColumnParts) (free : ℕ) (all : List Stand) (j : ℕ) (b : Stand) → slice_get (with_room c free all) j ≡ Some b → free + (label_of c b).half ≤ (label_of c b).middle
begins_free c free [] j b e = absurd cc
begins_free c free (a ∷ more) j b e = free_by c free a b (with_room c (after_label (label_of c a)) more) (with_room c free more) (fits_from free (label_of c a)) refl (λ i f. begins_free c (after_label (label_of c a)) more i b f) (λ i f. begins_free c free more i b f) j e

apart_by : (c : ColumnParts) (s a b : Stand) (some others : List Stand) (v : Bool) → ((k : ℕ) → slice_get some k ≡ Some b → BeginsFrom c (after_label (label_of c s)) b) → ((k l : ℕ) → k < l → slice_get some k ≡ Some a → slice_get some l ≡ Some b → BeginsFrom c (after_label (label_of c a)) b) → ((k l : ℕ) → k < l → slice_get others k ≡ Some a → slice_get others l ≡ Some b → BeginsFrom c (after_label (label_of c a)) b) → (i j : ℕ) → i < j → slice_get (cond v (s ∷ some) others) i ≡ Some a → slice_get (cond v (s ∷ some) others) j ≡ Some b → BeginsFrom c (after_label (label_of c a)) b
apart_by c s a b some others false f g h i j lt e k = h i j lt e k
apart_by c s a b some others true f g h i zero lt e k = absurd (omega (arith, lt))
apart_by c s a b some others true f g h zero (suc j) lt e k =
    let same : s ≡ a = cc in
    subst (λ (t : Stand). BeginsFrom c (after_label (label_of c t)) b) same (f j k)
apart_by c s a b some others true f g h (suc i) (suc j) lt e k = g i j (omega (arith, lt)) e k

apart : (c : ColumnParts) (free : ℕ) (all : List Stand) (i j : ℕ) (a b : Stand) → i < j → slice_get (with_room c free all) i ≡ Some a → slice_get (with_room c free all) j ≡ Some b → (label_of c a).middle + (label_of c a).half + 6 + (label_of c b).half ≤ (label_of c b).middle
apart c free [] i j a b lt e f = absurd cc
apart c free (s ∷ more) i j a b lt e f = apart_by c s a b (with_room c (after_label (label_of c s)) more) (with_room c free more) (fits_from free (label_of c s)) (λ k h. begins_free c (after_label (label_of c s)) more k b h) (λ k l lt h m. apart c (after_label (label_of c s)) more k l a b lt h m) (λ k l lt h m. apart c free more k l a b lt h m) i j lt e f

pub lie_apart : LabelsLieApart
lie_apart c kind i j a b lt e f = apart c 172 (stands kind (column_height c) c.rows) i j a b lt e f

-- ---- on the plot

from_the_left : (half x : ℕ) → 172 + half ≤ max (172 + half) (min (892 - half) x)
from_the_left half x = grind arith

from_the_right : (half x : ℕ) → half ≤ 360 → max (172 + half) (min (892 - half) x) + half ≤ 892
from_the_right half x narrow = grind (arith, narrow)

pub lie_on_plot : LabelsLieOnPlot
lie_on_plot c s narrow =
    let x = plot_place (s.first + s.end) (2 * c.span) in
    record { begins = from_the_left (stand_half c s) x; ends = from_the_right (stand_half c s) x narrow }
