use Rattle.std.proofs.Common.{IfSome, IsSome, sym, subst}
use Rattle.hw_model.specs.Timetables.{Permits}
use Rattle.hw_model_laws.proofs.Permitted.{has_cargo}
use Rattle.hw_search.proofs.solving.proved.Goals as goal

pub unwrap-cargo-requires : goal.unwrap-cargo-requires
unwrap-cargo-requires c = subst IsSome (sym c.cargo.ensures.value) (has_cargo c.args.flat.now c.in-Some.table (subst (λ o. IfSome o (Permits c.args.flat.now)) c.in-Some.is c.requires.permitted))
