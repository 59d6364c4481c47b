use Rattle.std.proofs.Common.{ℕ, sym, subst, ◌∙◌}
use Rattle.std.proofs.lemmas.Result.{IfOk-weaker}
use Rattle.hw_prop.specs.Speaks.{IsExplanation}
use Rattle.hw_prop.specs.Plain.{plain, Climb, ClimbPairs}
use Rattle.hw_prop.proofs.Laws.{explanation}
use Rattle.hw_prop.proofs.loosening.explain.Goals as goal

pub returns : goal.returns
returns g c =
    let refutes = g.R.Refuter.refutes c.args.refuter.now in
    let n : ℕ → Type 0 = λ n. Climb 0 n c.args.spoken.now.ships.now in
    let m : ℕ → Type 0 = λ n. ClimbPairs 0 0 n c.args.spoken.now.pairs.now in
    let told : IsExplanation refutes c.args.spoken.now.shape c.args.spoken.now.ships.now c.args.spoken.now.pairs.now c.args.room.now (plain c.loosen.new.denied c.args.spoken.now.ships.now c.args.spoken.now.pairs.now) =
    explanation refutes c.args.spoken.now.shape c.args.edge c.args.room.now c.loosen.new.denied c.args.spoken.now.ships.now 0 0 c.args.spoken.now.pairs.now
    (c.loosen.ensures.ships ∙ c.requires.same_ships) (c.loosen.ensures.slots ∙ c.requires.same_slots) c.ships-ships.ensures.room c.loosen.ensures.explains
    (subst n (sym c.loosen.ensures.ships) c.requires.ships) (subst m (sym c.loosen.ensures.ships) c.requires.pairs) c.requires.local c.loosen.ensures.refuted c.requires.loud in
    record { worth = IfOk-weaker c.plain.result _ _ (λ x e. subst (IsExplanation refutes c.args.spoken.now.shape c.args.spoken.now.ships.now c.args.spoken.now.pairs.now c.args.room.now) (sym e) told) c.plain.ensures.value; ships = c.loosen.ensures.ships; slots = c.loosen.ensures.slots }
