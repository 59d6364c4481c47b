use Rattle.std.proofs.Common.{◌≡◌, take}
use Rattle.hw_audit.specs.Audits.{in_state}
use Rattle.hw_audit.specs.Watching.{after_all, first_refused}
use Rattle.hw_command_audit.proofs.Fronts.{from_here}
use Rattle.hw_command_audit.proofs.trying.first_refused.Given as goal

abbrev pub invariant-loop-place : goal.invariant-loop-place
invariant-loop-place l =
    let a = l.fn.audit in
    record {
      stands : l.audit ≡ in_state a (after_all a.state (take l.place l.events));
      left : from_here a.problem a.fleet a.state l.events l.place ≡ first_refused a.problem a.fleet 2 a.state l.events;
    }
