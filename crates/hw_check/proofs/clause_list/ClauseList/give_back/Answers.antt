use Rattle.std.proofs.Common.{◌≡◌, length, arith, rules}
use Rattle.hw_check.proofs.Storing.{needed_few, stored_gathered}
use Rattle.hw_check.proofs.clause_list.ClauseList.give_back.Goals as goal

pub overflow_sub-kept : goal.overflow_sub-kept
overflow_sub-kept c =
    let lits : c.len.result ≡ length c.self.inside.stored.lits.items = search rules in
    let places : c.len-2.result ≡ length c.self.inside.stored.places.items = search rules in
    omega (arith, lits, places, needed_few _ _ _ _ _ c.self.invariant)

pub invariant_of-self : goal.invariant_of-self
invariant_of-self c = stored_gathered _ _ _ _ _ _ _ (rw (c.deref.ensures.value, c.deref-then-kept-needed.ensures.value) at c.in_ok-self-inside.ensures.gathered) c.self.invariant
