-- A ship that sails after another one waits as long as it must.
use Rattle.std.proofs.Common.{◌≤◌, ◌+◌, ◌-◌, ◌*◌, ℕ, arith, inl, inr}
use Rattle.std.proofs.lemmas.List.Elements.{All-contains}
use Rattle.std.proofs.lemmas.Option.{unwrap_or-slice_get}
use Rattle.hw_port_model.specs.Numbers.{whole}
use Rattle.hw_port_model.specs.Permitted.{SailsAfter}
use Rattle.hw_port_model.specs.Timetables.{slot_of}
use Rattle.hw_chart_laws.specs.Thirds.{WaitsAreKept}

minutes : (from gap until minute : ℕ) → from + gap ≤ until → gap * minute ≤ (until - from) * minute
minutes from gap until minute le = grind arith

pub waits_are_kept : WaitsAreKept
waits_are_kept p h table a permits listed sails =
    let first = unwrap_or-slice_get table (whole a.first) 0 in
    let second = unwrap_or-slice_get table (whole a.second) 0 in
    elim (All-contains (SailsAfter p table) p.after a permits.after listed) [
      | inl stays ↦ absurd (omega (arith, stays, sails))
      | inr both ↦ record {
        within = rw (first, second) both.2;
        long = rw (first, second) (minutes (slot_of table a.first) (whole a.gap) (slot_of table a.second) (whole p.slot_minutes) both.2);
      }
    ]
