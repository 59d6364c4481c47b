use Rattle.std.proofs.Common.{refl, rules}
use Rattle.hw_check.specs.Places.{NoneHas, StandsAt}
use Rattle.hw_check.proofs.Places.{IsRead, none_gone, dead_now}
use Rattle.hw_check.proofs.Storing.{seen, unchanged, removed_store, one_held, stored_dead}
use Rattle.hw_check.proofs.clause_list.ClauseList.remove.Goals as goal

-- no place has the number
pub returns-in_default : goal.returns-in_default
returns-in_default c =
    let none : NoneHas c.self.inside.stored.places.items c.args.id = rw c.deref.ensures.value at c.in_default.ensures.found in
    rw (← c.self.view_is) (record { dead = unchanged (seen c.self.inside.stored.lits.items c.self.inside.stored.places.items c.self.inside.count) _ (none_gone c.self.inside.stored.lits.items c.self.inside.stored.places.items c.args.id none) })

pub overflow_sub-self : goal.overflow_sub-self
overflow_sub-self c =
    let stands : StandsAt c.self.inside.stored.places.items c.args.id c.in-Some.index = rw c.deref.ensures.value at c.in-Some.ensures.found in
    (one_held _ _ _ _ _ _ c.index-place.result.now stands.in_list c.index-place.ensures c.if-place.true c.self.invariant).0

pub overflow_sub-self-then-place : goal.overflow_sub-self-then-place
overflow_sub-self-then-place c =
    let stands : StandsAt c.self.inside.stored.places.items c.args.id c.in-Some.index = rw c.deref.ensures.value at c.in-Some.ensures.found in
    (one_held _ _ _ _ _ _ c.index-place.result.now stands.in_list c.index-place.ensures c.if-place.true c.self.invariant).1

pub invariant_of-self : goal.invariant_of-self
invariant_of-self c =
    let stands : StandsAt c.self.inside.stored.places.items c.args.id c.in-Some.index = rw c.deref.ensures.value at c.in-Some.ensures.found in
    let read : IsRead c.self.inside.stored.places.items c.in-Some.index c.index_mut.result.now = search rules in
    stored_dead _ _ _ _ _ _ c.index-place.result.now c.index_mut.result.now stands.in_list c.index-place.ensures read c.if-place.true c.self.invariant

pub returns-then-place : goal.returns-then-place
returns-then-place c =
    let stands : StandsAt c.self.inside.stored.places.items c.args.id c.in-Some.index = rw c.deref.ensures.value at c.in-Some.ensures.found in
    rw (← c.self.view_is) (record { dead = removed_store c.self.inside.stored.lits.items c.self.inside.stored.places.items c.self.inside.count c.args.id c.in-Some.index _ c.self.invariant.ascend stands refl })

-- the clause is dead already
pub returns-else-place : goal.returns-else-place
returns-else-place c =
    let stands : StandsAt c.self.inside.stored.places.items c.args.id c.in-Some.index = rw c.deref.ensures.value at c.in-Some.ensures.found in
    rw (← c.self.view_is) (record { dead = unchanged (seen c.self.inside.stored.lits.items c.self.inside.stored.places.items c.self.inside.count) _ (dead_now c.self.inside.stored.lits.items c.self.inside.stored.places.items c.args.id c.in-Some.index c.index-place.result.now c.self.invariant.ascend stands c.index-place.ensures c.if-place.false) })
