use Rattle.hw_tide.proofs.ComingRecords.{one_taken, none_taken}
use Rattle.hw_tide.proofs.records.next_record.Goals as goal

pub returns-in-None-clause-takes : goal.returns-in-None-clause-takes
returns-in-None-clause-takes c =
    let at = c.requires in
    let steps = (c.in-None.ensures.steps at.2.some at.2.plain).0 at.2.ready in
    none_taken c.args.records.now c.next.new.self at.0 at.1 at.2 steps

pub returns-in-Some-Ok-clause-takes : goal.returns-in-Some-Ok-clause-takes
returns-in-Some-Ok-clause-takes c =
    let at = c.requires in
    let steps = rw c.in-Some-Ok.field-0-is at (c.in-Some-Ok.ensures.steps at.2.some at.2.plain) in
    one_taken c.args.records.now c.next.new.self c.in-Some-Ok.record at.0 at.1 at.2 (steps.0 at.2.ready) steps.3
