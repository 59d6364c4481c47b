use Rattle.std.proofs.Common.{◌∙◌, ap, is_some, sym, vec_len}
use Rattle.hw_cert_join.proofs.Opened.{all_done, fork_done, free_part, part_done, part_left}
use Rattle.hw_cert_join.proofs.parts.closing_of.Goals.{in-Fork, in-Part+in_Some-branch-in-Part+in_ok-number-in-Part+in-Some+in_ok-push-in-Some}
use Rattle.hw_cert_join.proofs.parts.closing_of.Goals as goal

pub closing_branch-requires-clause-free : goal.closing_branch-requires-clause-free
closing_branch-requires-clause-free c = free_part _ c.in_Some-branch-in-Part.branch.now (c.deref-nodes.ensures.value ∙ c.split.view_is) c.requires.split c.loop-node-test.true c.in-Part.is c.in_Some-branch-in-Part.ensures c.loop-node.invariant

pub returns-in-None : goal.returns-in-None
returns-in-None c = part_left _ c.in_Some-branch-in-Part.branch.now c.len.result (c.deref-nodes.ensures.value ∙ c.split.view_is) c.loop-node-test.true c.in-Part.is c.in_Some-branch-in-Part.ensures c.loop-node.invariant c.len.ensures (sym c.in_ok-number-in-Part.ensures ∙ ap is_some c.in-None.is)

pub loop-node-preserved : goal.loop-node-preserved
loop-node-preserved c = elim c.match-node.branch [
  | in-Fork w ↦ rw w.numbers-is (fork_done _ _ _ c.loop-node-test.true w.in-Fork.is c.loop-node.invariant c.in_ok-pass.ensures)
  | in-Part+in_Some-branch-in-Part+in_ok-number-in-Part+in-Some+in_ok-push-in-Some w ↦ part_done _ w.in_Some-branch-in-Part.branch.now c.loop-node-test.true w.in-Part.is w.in_Some-branch-in-Part.ensures c.loop-node.invariant (ap vec_len w.numbers-is ∙ w.in_ok-push-in-Some.ensures.len) (sym w.in_ok-number-in-Part.ensures ∙ ap is_some w.in-Some.is) c.in_ok-pass.ensures
]

pub returns : goal.returns
returns c = all_done (c.deref-nodes.ensures.value ∙ c.split.view_is) c.loop-node-test.false c.loop-node.invariant
