use Rattle.std.proofs.Common.{sym, rules}
use Rattle.hw_check.specs.Places.{NoneHas, StandsAt}
use Rattle.hw_check.proofs.Places.{none_under, live_under, dead_under, IsRead}
use Rattle.hw_check.proofs.clause_list.ClauseList.lits.Goals as goal

pub returns-in_default : goal.returns-in_default
returns-in_default c =
    let none : NoneHas c.self.inside.stored.places.items c.args.id = rw c.deref.ensures.value at c.in_default.ensures.found in
    rw (← c.self.view_is) (record { value = sym (none_under c.self.inside.stored.lits.items c.self.inside.stored.places.items c.args.id none) })

pub returns-then-place : goal.returns-then-place
returns-then-place c =
    let stands : StandsAt c.self.inside.stored.places.items c.args.id c.in-Some.index = rw c.deref.ensures.value at c.in-Some.ensures.found in
    let read : IsRead c.self.inside.stored.places.items c.in-Some.index c.index-place.result.now = search rules in
    rw (← c.self.view_is, c.lits_at.ensures.value, c.deref-then-place.ensures.value) (record { value = sym (live_under c.self.inside.stored.lits.items c.self.inside.stored.places.items c.args.id c.in-Some.index c.index-place.result.now c.self.invariant.ascend stands read c.if-place.true) })

pub returns-else-place : goal.returns-else-place
returns-else-place c =
    let stands : StandsAt c.self.inside.stored.places.items c.args.id c.in-Some.index = rw c.deref.ensures.value at c.in-Some.ensures.found in
    let read : IsRead c.self.inside.stored.places.items c.in-Some.index c.index-place.result.now = search rules in
    rw (← c.self.view_is) (record { value = sym (dead_under c.self.inside.stored.lits.items c.self.inside.stored.places.items c.args.id c.in-Some.index c.index-place.result.now c.self.invariant.ascend stands read c.if-place.false) })
