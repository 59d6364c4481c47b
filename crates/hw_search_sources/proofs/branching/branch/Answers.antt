use Rattle.std.proofs.Common.{Option, Some, None, IsSome, IsSomeAnd, refl, sym, subst}
use Rattle.hw_model.specs.declared.lit.Lit.{Lit}
use Rattle.hw_search_laws.proofs.Choices.{branch_open, IsOpen}
use Rattle.hw_search_sources.proofs.branching.branch.Goals as goal

some_and : (o : Option Lit) (P : Lit → Type 0) → IsSomeAnd o P → IsSome o
some_and None P h = absurd h
some_and (Some lit) P h = refl

pub unwrap-requires : goal.unwrap-requires
unwrap-requires c = subst IsSome (sym c.literal.ensures.value) (some_and _ (IsOpen c.args.flat.now c.args.room.now) (branch_open c.args.branching c.args.flat.now c.args.room.now c.requires.room c.requires.open))
