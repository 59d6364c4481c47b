use Rattle.std.proofs.Common.{refl}
use Rattle.hw_rules.proofs.Permitted.{none_broken, some_broken, not_permitted}
use Rattle.hw_rules.proofs.timetables.broken.Goals as goal

pub returns-in-None-clause-permitted : goal.returns-in-None-clause-permitted
returns-in-None-clause-permitted c =
    let e = rw c.as_slice-slots.ensures.value at c.in-None.ensures.value in
    (λ none. none_broken c.args.flat.now c.args.table.now c.requires.listed e, λ permits. refl)

pub returns-in-Some-clause-permitted : goal.returns-in-Some-clause-permitted
returns-in-Some-clause-permitted c =
    let e = rw c.as_slice-slots.ensures.value at c.in-Some.ensures.value in
    (λ none. absurd cc, λ permits. absurd (not_permitted c.args.flat.now c.args.table.now c.in-Some.restriction e permits))

pub returns-in-Some-clause-first : goal.returns-in-Some-clause-first
returns-in-Some-clause-first c =
    let e = rw c.as_slice-slots.ensures.value at c.in-Some.ensures.value in
    some_broken c.args.flat.now c.args.table.now c.in-Some.restriction e
