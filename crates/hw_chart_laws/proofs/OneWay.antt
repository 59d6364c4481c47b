-- Blocks reach over the slots in which ships occupy the section, and where the port permits the timetable none is in both halves.
use Rattle.std.proofs.Common.{◌≡◌, ◌<◌, ◌∙◌, ◌≤ℤ◌, ℕ, ℤ, pos, Bool, true, false, not, Option, Some, None, slice_get, List, refl, ap, sym, arith, zero-add, inl, inr, if◌then◌else◌, IsFalse}
use Rattle.std.proofs.lemmas.Bool.{cases_lt, lt-ltb, le-ltb}
use Rattle.std.proofs.lemmas.Int.{ints}
use Rattle.hw_port.specs.Kept.{PortKept}
use Rattle.hw_port.specs.Whole.{Parts}
use Rattle.hw_tide.specs.Levels.{TideParts}
use Rattle.hw_port_laws.proofs.Ships.{ship_kept, stretch_kept}
use Rattle.hw_port_model.specs.Numbers.{horizon_of, is_outgoing, whole}
use Rattle.hw_chart.specs.declared.course.Course.TheVariants.{Stays, Sails}
use Rattle.hw_chart.specs.Courses.{course_of}
use Rattle.hw_chart_port.specs.Charts.{course}
use Rattle.hw_chart_port.specs.Lanes.{stay_of}
use Rattle.hw_chart_port.specs.Pictures.{chart_of}
use Rattle.hw_chart_laws.specs.Lanes.{Block, BlocksAreOccupations, Covers, IsOccupied, OneWayIsSeen, lane_of}
use Rattle.hw_chart_laws.proofs.Stretches.{from_ships, into_ships, into_stretches}

-- ---- courses, sections and halves

record Given (o : Option ℕ) (slots slot : ℕ) : Type 0 where
  given : o ≡ Some slot
  below : slot < slots

sails_back : (o : Option ℕ) (slots slot : ℕ) → course_of o slots ≡ Sails slot → Given o slots slot
sails_back None slots slot e = absurd cc
sails_back (Some x) slots slot e = elim (cases_lt x slots) [
  | inl lt ↦
      let same : Sails x ≡ Sails slot = rw (lt-ltb x slots lt) at e in
      let number : x ≡ slot = cc in
      record { given = ap Some number; below = omega (arith, number, lt) }
  | inr not ↦ let no : Stays ≡ Sails slot = rw (le-ltb x slots not) at e in absurd cc
]

sails_by : (o : Option ℕ) (slots slot : ℕ) → o ≡ Some slot → slot < slots → course_of o slots ≡ Sails slot
sails_by o slots slot e lt = rw (e, lt-ltb slot slots lt) refl

section_is : (z : ℤ) (n : ℕ) → pos 0 ≤ℤ z → whole z ≡ n → z ≡ pos n
section_is z n low e = grind (arith, ints)

half_is : (b : Bool) → (if b then 0 else 1) ≡ lane_of b
half_is true = refl
half_is false = refl

half_back : (b out : Bool) → (if b then 0 else 1) ≡ lane_of out → b ≡ out
half_back true true e = refl
half_back false false e = refl
half_back true false e = absurd (omega (arith, e))
half_back false true e = absurd (omega (arith, e))

-- ---- the laws

to_occupied : (p : Parts) (h : TideParts) (table : List ℕ) (place : ℕ) (out : Bool) (slot : ℕ) → PortKept p → Covers (chart_of p h (Some table)) place out slot → IsOccupied p table place out slot
to_occupied p h table place out slot kept covers =
    let chart = chart_of p h (Some table) in
    let of_ship = from_ships chart place 0 p.ships covers.block (λ k. ap (slice_get p.ships) (sym (zero-add k))) covers.listed in
    let s = of_ship.ship in
    let of_stretch = of_ship.of_stretch in
    let given = sails_back (slice_get table of_ship.number) (horizon_of p) of_ship.slot of_ship.sails in
    let half = ap (λ (b : Block). b.stay.lane) of_stretch.same in
    let begun = ap (λ (b : Block). b.stay.from) of_stretch.same in
    let over = ap (λ (b : Block). b.stay.until) of_stretch.same in
    let stretch = stretch_kept p s of_stretch.stretch (ship_kept p of_ship.number s kept of_ship.at) of_stretch.uses in
    record {
      number = of_ship.number;
      ship = s;
      at = of_ship.slot;
      sails = record { ship = of_ship.at; given = given.given; sails = given.below };
      direction = half_back (is_outgoing s) out (sym half ∙ covers.half);
      there = record {
        stretch = of_stretch.stretch;
        uses = of_stretch.uses;
        there = section_is of_stretch.stretch.section place stretch.section.low of_stretch.here;
        entered = omega (arith, begun, covers.begun);
        not_left = omega (arith, over, covers.not_over);
      };
    }

to_covered : (p : Parts) (h : TideParts) (table : List ℕ) (place : ℕ) (out : Bool) (slot : ℕ) → IsOccupied p table place out slot → Covers (chart_of p h (Some table)) place out slot
to_covered p h table place out slot occupied =
    let chart = chart_of p h (Some table) in
    let s = occupied.ship in
    let v = occupied.number in
    let at = occupied.at in
    let there = occupied.there in
    let stretch = there.stretch in
    let sails : course chart v ≡ Sails at = sails_by (slice_get table v) (horizon_of p) at occupied.sails.given occupied.sails.sails in
    let here : whole stretch.section ≡ place = ap whole there.there in
    let block : Block = record { ship = s; stay = stay_of chart s at stretch } in
    record {
      block = block;
      listed = into_ships chart place 0 p.ships v s at block occupied.sails.ship (ap (course chart) (zero-add v) ∙ sails) (into_stretches chart place s at s.channel stretch there.uses.0 there.uses.1 there.uses.2 here);
      half = half_is (is_outgoing s) ∙ ap lane_of occupied.direction;
      begun = there.entered;
      not_over = there.not_left;
    }

pub blocks_are_occupations : BlocksAreOccupations
blocks_are_occupations p h table place out slot kept = (to_occupied p h table place out slot kept, to_covered p h table place out slot)

opposite : (a b : Bool) → a ≡ true → b ≡ false → IsFalse (if a then b else not b)
opposite true b e f = f
opposite false b e f = absurd cc

pub one_way_is_seen : OneWayIsSeen
one_way_is_seen p h table place slot kept permits above below =
    let out = to_occupied p h table place true slot kept above in
    let in' = to_occupied p h table place false slot kept below in
    permits.sections out.number in'.number out.ship in'.ship out.at in'.at out.sails in'.sails (opposite (is_outgoing out.ship) (is_outgoing in'.ship) out.direction in'.direction) (pos place) slot out.there in'.there
