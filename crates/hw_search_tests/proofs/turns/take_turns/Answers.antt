use Rattle.std.proofs.Common.{◌≡◌, ◌⊎◌, ◌<◌, false, sym, ap, subst, inl, inr, arith}
use Rattle.hw_search_laws.specs.declared.outcome.Turn.{Turn}
use Rattle.hw_search_laws.specs.declared.outcome.Turn.TheVariants as turns
use Rattle.hw_search_laws.specs.Turns.{is_last}
use Rattle.hw_search.specs.Going.{Going}
use Rattle.hw_search.proofs.Solutions.{begins, goes_on, to_fit}
use Rattle.hw_search_tests.proofs.turns.take_turns.Goals as goal
use Rattle.hw_search_tests.proofs.turns.take_turns.Goals.{in-Decided, in-Lemma+in_ok-push-in-Lemma}

goes : (t : Turn) → (t ≡ turns.Decided) ⊎ (t ≡ turns.Better) → is_last t ≡ false
goes t (inl e) = ap is_last e
goes t (inr e) = ap is_last e

pub loop-count-init : goal.loop-count-init
loop-count-init g c = subst (λ s. Going c.args.flat.now c.args.budget s (g.L.Log.state c.args.log.now) (g.L.Log.state c.args.log.now)) (sym c.requires.new) (begins c.args.flat.now c.args.budget (g.L.Log.state c.args.log.now) c.shape-shape.ensures.limits c.requires.empty)

pub loop-count-preserved : goal.loop-count-preserved
loop-count-preserved g c =
    let few : c.loop-count.search.lemmas < c.args.budget = omega (arith, c.if-lemmas-budget.false, c.lemmas.ensures.value) in
    let on = λ (last : is_last c.turn.result ≡ false). goes_on c.args.flat.now c.args.budget c.loop-count.search c.turn.new.self c.turn.result (g.L.Log.state c.args.log.now) (g.L.Log.state c.loop-count.log) (g.L.Log.state c.turn.new.log) c.loop-count.invariant few last c.turn.ensures.turns in
    elim c.match-turn.branch [
      | in-Decided w ↦ on (goes c.turn.result w.in-Decided.is)
      | in-Lemma+in_ok-push-in-Lemma w ↦ on (ap is_last w.in-Lemma.is)
    ]

pub turn-requires-clause-fits : goal.turn-requires-clause-fits
turn-requires-clause-fits g c = to_fit c.args.flat.now c.args.budget c.loop-count.search (g.L.Log.state c.args.log.now) (g.L.Log.state c.loop-count.log) c.loop-count.invariant
