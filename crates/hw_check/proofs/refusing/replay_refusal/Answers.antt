use Rattle.std.proofs.Common.{◌≡◌, Option, Some, None, IsSome, List, sym}
use Rattle.hw_model.specs.declared.lit.Lit.{Lit}
use Rattle.hw_check.proofs.Replayed.{lits_fit, none_dead}
use Rattle.hw_check.proofs.refusing.replay_refusal.Goals as goal

none_some : (o : Option (List Lit)) → None ≡ o → IsSome o → ⊥
none_some None e h = cc
none_some (Some x) e h = cc

-- each hint is live
pub returns-in_default-clause-value : goal.returns-in_default-clause-value
returns-in_default-clause-value c = absurd (none_some _ c.in_default.ensures.value (none_dead c.args.clauses.now.live c.args.hints.now c.requires.live c.loop-id.id-index 0 c.loop-id-test.true))

pub narrow_lits-requires : goal.narrow_lits-requires
narrow_lits-requires c = rw c.loop-id.invariant.ships (record { fits = lits_fit c.args.room.now.ships c.args.clauses.now.live _ _ c.requires.lits (sym c.in-Some.ensures.value) })
