use Rattle.std.proofs.Common.{◌≡◌, ◌<◌, ◌+◌, true, false, rules, arith}
use Rattle.hw_port_windows.specs.Statuses.{statuses_alike}
use Rattle.hw_port_windows.specs.Windows.{statuses}
use Rattle.hw_port_windows.proofs.Runs.{ended_at, one_more, runs_to, stops}
use Rattle.hw_port_windows.proofs.run.first_run.Goals as goal

pub returns-then-not-goes_on-clause-runs : goal.returns-then-not-goes_on-clause-runs
returns-then-not-goes_on-clause-runs c =
    let other : statuses_alike (statuses c.args.asked.now c.loop-slot.slot) (statuses c.args.asked.now (c.loop-slot.slot + 1)) ≡ false = search rules in
    let inside : c.loop-slot.slot + 1 < c.args.span.last + 1 = omega arith in
    c.loop-slot.invariant c.loop-slot.slot (runs_to (statuses c.args.asked.now) (c.loop-slot.slot + 1) (c.args.span.last + 1)) (stops (statuses c.args.asked.now) c.loop-slot.slot (c.args.span.last + 1) inside other)

pub loop-slot-preserved : goal.loop-slot-preserved
loop-slot-preserved c =
    let same : statuses_alike (statuses c.args.asked.now c.loop-slot.slot) (statuses c.args.asked.now (c.loop-slot.slot + 1)) ≡ true = search rules in
    let inside : c.loop-slot.slot < c.args.span.last + 1 = omega arith in
    one_more (statuses c.args.asked.now) (c.args.span.last + 1) c.args.span.first c.loop-slot.slot inside same c.loop-slot.invariant

pub returns-clause-runs : goal.returns-clause-runs
returns-clause-runs c =
    let at : c.loop-slot.slot ≡ c.args.span.last = omega arith in
    ended_at (statuses c.args.asked.now) c.args.span.last c.args.span.first c.loop-slot.slot at c.loop-slot.invariant
