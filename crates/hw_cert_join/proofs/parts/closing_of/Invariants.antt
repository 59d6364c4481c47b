use Rattle.std.proofs.Common.{drop, vec_len}
use Rattle.hw_cert_join.proofs.Opened.{PartsAlong}
use Rattle.hw_cert_join.proofs.parts.closing_of.Given as goal

abbrev pub invariant-loop-node : goal.invariant-loop-node
invariant-loop-node l = PartsAlong l.flat l.lines l.nodes (vec_len l.numbers) l.walk (drop l.node-index l.nodes)
