use Rattle.std.proofs.Common.{take}
use Rattle.std.specs.Prelude.{IfSome, option_and_then}
use Rattle.hw_model.specs.Problem.{IsTimetable}
use Rattle.hw_model.specs.Timetables.{cargo}
use Rattle.hw_cert_join.specs.Joining.{EachCarriesNoMore}
use Rattle.hw_cert_join.proofs.joining.best_of_all.Given as goal

abbrev pub invariant-loop-cert : goal.invariant-loop-cert
invariant-loop-cert l = record {
  listed : IfSome l.best (λ table. IsTimetable l.flat table.now);
  best : EachCarriesNoMore l.flat (option_and_then (λ t. cargo l.flat t.now) l.best) (take l.cert-index l.certs);
}
