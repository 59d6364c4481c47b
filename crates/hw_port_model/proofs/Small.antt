-- One ship, computed: Cape Grace at two slots; from the second it would pass the bar after the end of the tide.
use Rattle.std.proofs.Common.{◌≡◌, pos, [], ◌∷◌, Bool, true, false, Some, None, codes, refl}
use Rattle.hw_model.specs.declared.rule.Rule.TheVariants.{Tugs}
use Rattle.hw_port.specs.Parts.{ShipParts}
use Rattle.hw_port.specs.Whole.{Parts}
use Rattle.hw_tide.specs.Levels.{TideParts}
use Rattle.hw_port_model.specs.Drafts.{allowed, sailing, value}
use Rattle.hw_port_model.specs.Permitted.{port_cargo}
use Rattle.hw_port_model.specs.Flattened.{flattened}

abbrev pub cape_grace : Bool → ShipParts
cape_grace may_stay = record {
  name = codes "Cape Grace";
  direction = codes "outgoing";
  class = pos 0;
  earliest = pos 0;
  latest = pos 1;
  tpc = pos 1_200;
  light = pos 1_400;
  deep = pos 1_620;
  route = record { waypoint = pos 0; offset = pos 0; clearance = pos 120 } ∷ record { waypoint = pos 1; offset = pos 2; clearance = pos 120 } ∷ [];
  channel = [];
  tugs = pos 2;
  job = pos 2;
  may_stay = may_stay;
  closed = [];
}

abbrev pub small : Bool → Parts
small may_stay = record {
  version = pos 2;
  start = None;
  slots = pos 2;
  slot_minutes = pos 15;
  heights = codes "start";
  closed = [];
  waypoints = record { name = codes "Berth"; depth = pos 1_500; closed = [] } ∷ record { name = codes "Bar"; depth = pos 1_480; closed = [] } ∷ [];
  sections = [];
  separation = (pos 1 ∷ []) ∷ [];
  turnaround = record { outgoing = pos 1; incoming = pos 1 };
  fleet = pos 4;
  ships = cape_grace may_stay ∷ [];
  berths = [];
  after = [];
}

abbrev pub tides : TideParts
tides = record { rows = 3; columns = 2; heights = pos 210 ∷ pos 0 ∷ pos 200 ∷ pos 250 ∷ pos 190 ∷ pos 260 ∷ [] }

pub draft_in_slot_0 : allowed (small false) tides 0 0 ≡ Some (pos 1_590)
draft_in_slot_0 = refl

pub sailing_in_slot_0 : sailing (small false) tides 0 0 ≡ Some (pos 1_590)
sailing_in_slot_0 = refl

pub value_in_slot_0 : value (small false) tides 0 0 ≡ Some 228_000
value_in_slot_0 = refl

pub no_value_in_slot_1 : value (small false) tides 0 1 ≡ None
no_value_in_slot_1 = refl

pub flat_problem : flattened (small false) tides ≡ record { ships = 1; slots = 2; stay = false; values = Some 228_000 ∷ None ∷ []; rules = Tugs 4 [] (record { ship = 0; tugs = 2; hold = 3 } ∷ []) ∷ [] }
flat_problem = refl

pub flat_problem_with_staying : flattened (small true) tides ≡ record { ships = 1; slots = 3; stay = true; values = Some 228_000 ∷ None ∷ Some 0 ∷ []; rules = Tugs 4 [] (record { ship = 0; tugs = 2; hold = 3 } ∷ []) ∷ [] }
flat_problem_with_staying = refl

pub cargo_sailing : port_cargo (small true) tides (0 ∷ []) ≡ Some 228_000
cargo_sailing = refl

pub cargo_staying : port_cargo (small true) tides (2 ∷ []) ≡ Some 0
cargo_staying = refl
