-- From a block in the window of a section to the stretch that it is of, and back.
use Rattle.std.proofs.Common.{◌≡◌, ◌↔◌, ◌<◌, ◌+◌, ◌∙◌, ℕ, zero, suc, Bool, true, false, nat_eq, Some, slice_get, List, [], ◌∷◌, get_or, length, refl, ap, sym, subst, arith, add-zero, inl, inr, if◌then◌else◌}
use Rattle.std.specs.List.{Contains}
use Rattle.std.proofs.lemmas.Bool.Decides.{Decides-eqb}
use Rattle.std.proofs.lemmas.List.Elements.{Contains-append_cases, Contains-append_left, Contains-append_right}
use Rattle.hw_port.specs.declared.parts.Stretch.{Stretch}
use Rattle.hw_port.specs.Parts.{ShipParts}
use Rattle.hw_port_model.specs.Numbers.{whole}
use Rattle.hw_chart.specs.declared.course.Course.{Course}
use Rattle.hw_chart.specs.declared.course.Course.TheVariants.{Unplanned, Stays, Sails}
use Rattle.hw_chart_port.specs.Charts.{ChartParts, course}
use Rattle.hw_chart_port.specs.Lanes.{stay_of}
use Rattle.hw_chart_laws.specs.Lanes.{Block, blocks_from, course_blocks, stretch_block, stretch_blocks}

-- ---- from a block to the stretch that it is of

tests : (a b : ℕ) → (nat_eq a b ≡ true) ↔ (a ≡ b)
tests a b = Decides-eqb a b

none_in : {X : Type 0} (x : X) → Contains [] x → ⊥
none_in x c = absurd (omega (arith, c.1))

pub record OfStretch (chart : ChartParts) (place : ℕ) (s : ShipParts) (slot : ℕ) (stretches : List Stretch) (block : Block) : Type 0 where
  pub stretch : Stretch
  pub uses : Contains stretches stretch
  pub here : whole stretch.section ≡ place
  pub same : block ≡ record { ship = s; stay = stay_of chart s slot stretch }

one_in : (b : Bool) (one block : Block) → Contains (if b then one ∷ [] else []) block → (b ≡ true) × (block ≡ one)
one_in false one block c = absurd (none_in block c)
one_in true one block c = (refl, sym (first c.0 c.1 c.2))
  where
    first : (k : ℕ) → k < 1 → get_or (one ∷ []) k block ≡ block → one ≡ block
    first zero lt e = e
    first (suc k) lt e = absurd (omega (arith, lt))

later : {X : Type 0} (x y : X) (xs : List X) → Contains xs y → Contains (x ∷ xs) y
later x y xs c = Contains-append_right (x ∷ []) xs y c

first_of_all : {X : Type 0} (x : X) (xs : List X) → Contains (x ∷ xs) x
first_of_all x xs = (0, omega arith, refl)

from_stretches : (chart : ChartParts) (place : ℕ) (s : ShipParts) (slot : ℕ) (stretches : List Stretch) (block : Block) → Contains (stretch_blocks chart place s slot stretches) block → OfStretch chart place s slot stretches block
from_stretches chart place s slot [] block c = absurd (none_in block c)
from_stretches chart place s slot (stretch ∷ more) block c =
    elim (Contains-append_cases (stretch_block chart place s slot stretch) (stretch_blocks chart place s slot more) block c) [
      | inl first ↦
          let is = one_in (nat_eq (whole stretch.section) place) (record { ship = s; stay = stay_of chart s slot stretch }) block first in
          record { stretch = stretch; uses = first_of_all stretch more; here = (tests (whole stretch.section) place).0 is.0; same = is.1 }
      | inr rest ↦
          let is = from_stretches chart place s slot more block rest in
          record { stretch = is.stretch; uses = later stretch is.stretch more is.uses; here = is.here; same = is.same }
    ]

-- the ships from a number on are these
abbrev AreFrom : List ShipParts → ℕ → List ShipParts → Type 0
AreFrom all v ships = (k : ℕ) → slice_get ships k ≡ slice_get all (v + k)

head_is : (all : List ShipParts) (v : ℕ) (s : ShipParts) (more : List ShipParts) → AreFrom all v (s ∷ more) → slice_get all v ≡ Some s
head_is all v s more are = ap (slice_get all) (sym (add-zero v)) ∙ sym (are 0)

tail_are : (all : List ShipParts) (v : ℕ) (s : ShipParts) (more : List ShipParts) → AreFrom all v (s ∷ more) → AreFrom all (v + 1) more
tail_are all v s more are = λ k. are (suc k) ∙ ap (slice_get all) (on v k)
  where
    on : (v k : ℕ) → v + suc k ≡ v + 1 + k
    on v k = omega arith

pub record OfShip (chart : ChartParts) (place : ℕ) (block : Block) : Type 0 where
  pub number : ℕ
  pub ship : ShipParts
  pub slot : ℕ
  pub at : slice_get chart.port.ships number ≡ Some ship
  pub sails : course chart number ≡ Sails slot
  pub of_stretch : OfStretch chart place ship slot ship.channel block

from_course : (chart : ChartParts) (place v : ℕ) (s : ShipParts) (block : Block) → slice_get chart.port.ships v ≡ Some s → (c : Course) → course chart v ≡ c → Contains (course_blocks chart place s c) block → OfShip chart place block
from_course chart place v s block at Unplanned e c = absurd (none_in block c)
from_course chart place v s block at Stays e c = absurd (none_in block c)
from_course chart place v s block at (Sails slot) e c = record { number = v; ship = s; slot = slot; at = at; sails = e; of_stretch = from_stretches chart place s slot s.channel block c }

pub from_ships : (chart : ChartParts) (place v : ℕ) (ships : List ShipParts) (block : Block) → AreFrom chart.port.ships v ships → Contains (blocks_from chart place v ships) block → OfShip chart place block
from_ships chart place v [] block are c = absurd (none_in block c)
from_ships chart place v (s ∷ more) block are c =
    elim (Contains-append_cases (course_blocks chart place s (course chart v)) (blocks_from chart place (v + 1) more) block c) [
      | inl first ↦ from_course chart place v s block (head_is chart.port.ships v s more are) (course chart v) refl first
      | inr rest ↦ from_ships chart place (v + 1) more block (tail_are chart.port.ships v s more are) rest
    ]

-- ---- from a stretch to its block

here_by : (b : Bool) (one : Block) → b ≡ true → Contains (if b then one ∷ [] else []) one
here_by true one e = first_of_all one []
here_by false one e = absurd cc

pub into_stretches : (chart : ChartParts) (place : ℕ) (s : ShipParts) (slot : ℕ) (stretches : List Stretch) (stretch : Stretch) (k : ℕ) → k < length stretches → get_or stretches k stretch ≡ stretch → whole stretch.section ≡ place → Contains (stretch_blocks chart place s slot stretches) (record { ship = s; stay = stay_of chart s slot stretch })
into_stretches chart place s slot [] stretch k lt e here = absurd (omega (arith, lt))
into_stretches chart place s slot (first ∷ more) stretch zero lt e here =
    let block : Block = record { ship = s; stay = stay_of chart s slot stretch } in
    let there = here_by (nat_eq (whole stretch.section) place) block ((tests (whole stretch.section) place).1 here) in
    Contains-append_left (stretch_block chart place s slot first) (stretch_blocks chart place s slot more) block (subst (λ (a : Stretch). Contains (stretch_block chart place s slot a) block) (sym e) there)
into_stretches chart place s slot (first ∷ more) stretch (suc k) lt e here =
    let block : Block = record { ship = s; stay = stay_of chart s slot stretch } in
    Contains-append_right (stretch_block chart place s slot first) (stretch_blocks chart place s slot more) block (into_stretches chart place s slot more stretch k (omega (arith, lt)) e here)

pub into_ships : (chart : ChartParts) (place v : ℕ) (ships : List ShipParts) (k : ℕ) (s : ShipParts) (slot : ℕ) (block : Block) → slice_get ships k ≡ Some s → course chart (v + k) ≡ Sails slot → Contains (stretch_blocks chart place s slot s.channel) block → Contains (blocks_from chart place v ships) block
into_ships chart place v [] k s slot block at e c = absurd cc
into_ships chart place v (first ∷ more) zero s slot block at e c =
    let same : first ≡ s = cc in
    let sails : course chart v ≡ Sails slot = ap (course chart) (sym (add-zero v)) ∙ e in
    let here : Contains (course_blocks chart place s (course chart v)) block = subst (λ (d : Course). Contains (course_blocks chart place s d) block) (sym sails) c in
    Contains-append_left (course_blocks chart place first (course chart v)) (blocks_from chart place (v + 1) more) block (subst (λ (a : ShipParts). Contains (course_blocks chart place a (course chart v)) block) (sym same) here)
into_ships chart place v (first ∷ more) (suc k) s slot block at e c =
    Contains-append_right (course_blocks chart place first (course chart v)) (blocks_from chart place (v + 1) more) block (into_ships chart place (v + 1) more k s slot block at (ap (course chart) (on v k) ∙ e) c)
  where
    on : (v k : ℕ) → v + 1 + k ≡ v + suc k
    on v k = omega arith
