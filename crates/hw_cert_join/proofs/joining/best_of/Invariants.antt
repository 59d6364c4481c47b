use Rattle.std.proofs.Common.{take}
use Rattle.std.specs.Prelude.{IfSome, option_and_then}
use Rattle.hw_model.specs.Problem.{IsTimetable}
use Rattle.hw_model.specs.Timetables.{cargo}
use Rattle.hw_cert_join.proofs.Bests.{BestAlong}
use Rattle.hw_cert_join.proofs.joining.best_of.Given as goal

abbrev pub invariant-loop-line : goal.invariant-loop-line
invariant-loop-line l = record {
  listed : IfSome l.best (λ table. IsTimetable l.flat table.now);
  along : BestAlong l.flat (option_and_then (λ t. cargo l.flat t.now) l.fn.before) (option_and_then (λ t. cargo l.flat t.now) l.best) (take l.line-index l.lines);
}
