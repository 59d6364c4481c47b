use Rattle.hw_rules.proofs.Walks.{rank_zeros, all_ok, optimal, best_found, none_left, spent}
use Rattle.hw_rules.proofs.walking.walk.Goals as goal

pub walk_from-requires-clause-first : goal.walk_from-requires-clause-first
walk_from-requires-clause-first c = rw (c.deref_mut.ensures.value, c.in_ok-current.ensures) (rank_zeros c.args.flat.now.slots c.shape-ships.result.ships)

pub returns-clause-optimal : goal.returns-clause-optimal
returns-clause-optimal c = all_ok _ _ c.walk_from.result (optimal c.args.flat.now c.args.budget) c.walk_from.ensures

pub returns-clause-best : goal.returns-clause-best
returns-clause-best c = all_ok _ _ c.walk_from.result (best_found c.args.flat.now c.args.budget) c.walk_from.ensures

pub returns-clause-none_left : goal.returns-clause-none_left
returns-clause-none_left c = all_ok _ _ c.walk_from.result (none_left c.args.flat.now c.args.budget) c.walk_from.ensures

pub returns-clause-spent : goal.returns-clause-spent
returns-clause-spent c = all_ok _ _ c.walk_from.result (spent c.args.flat.now c.args.budget) c.walk_from.ensures
