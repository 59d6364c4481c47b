use Rattle.hw_command_search.proofs.Demonstrated.{never_failed, demonstrates_of}
use Rattle.hw_command_search.proofs.demonstration.show.Goals as goal

pub head_of-requires : goal.head_of-requires
head_of-requires c = record { logged = never_failed c.solve_kept-solved.ensures }

pub returns : goal.returns
returns c = demonstrates_of c.solve_kept-solved.result.0 c.in-Some.head c.best_in.result c.in_ok-verdict.verdict c.count_lemmas.result c.in_ok-flat.ensures.problem c.solve_kept-solved.ensures c.in-Some.ensures (rw c.deref.ensures.value at c.in_ok-verdict.ensures) c.best_in.ensures (rw c.deref-2.ensures.value at c.count_lemmas.ensures)
