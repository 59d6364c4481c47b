use Rattle.std.proofs.Common.{ℕ, List, ◌∙◌, sym, subst}
use Rattle.hw_prop.specs.Speaks.{SpokenOf}
use Rattle.hw_prop.specs.Scope.{ships_of}
use Rattle.hw_prop.proofs.Scopes.{spoken_of}
use Rattle.hw_prop.proofs.shaver.shaved_in.Goals as goal

pub source_finds-requires-clause-spoken : goal.source_finds-requires-clause-spoken
source_finds-requires-clause-spoken c =
    let f = c.args.test.now.flat.now in
    let source = c.args.test.now.source in
    let P : List ℕ → Type 0 = λ ships. SpokenOf f source ships c.deref-2.result.now in
    let Q : List (ℕ × ℕ) → Type 0 = λ pairs. SpokenOf f source (ships_of f source) pairs in
    subst P (sym (c.deref.ensures.value ∙ c.requires.trial.ships)) (subst Q (sym (c.deref-2.ensures.value ∙ c.requires.trial.pairs)) (spoken_of f source c.shape-shape.ensures.limits c.requires.source_in))
