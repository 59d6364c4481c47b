use Rattle.std.proofs.Common.{◌+◌, ◌<◌, ◌^◌, arith, refl, rules}
use Rattle.hw_check.proofs.Storing.{held_few, stored_push, pushed_store}
use Rattle.hw_check.proofs.clause_list.ClauseList.push.Goals as goal

pub overflow_add-self-2 : goal.overflow_add-self-2
overflow_add-self-2 c =
    let few = held_few _ _ _ _ _ c.self.invariant in
    let room : c.self.inside.count + 1 < 2 ^ 32 = search rules in
    omega (arith, few, room)

pub invariant_of-self-2 : goal.invariant_of-self-2
invariant_of-self-2 c = rw (c.in_ok-add.ensures.lits, c.in_ok-add.ensures.places) (stored_push _ _ _ c.self.inside.count _ _ (c.self.inside.count + 1) refl c.self.invariant)

pub returns-clause-added : goal.returns-clause-added
returns-clause-added c = rw (c.in_ok-add.ensures.lits, c.in_ok-add.ensures.places, ← c.self.view_is) (pushed_store _ _ _ _ c.self.invariant.fit)
