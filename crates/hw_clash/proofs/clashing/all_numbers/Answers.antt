use Rattle.std.proofs.Common.{◌++◌, [], ◌∷◌, List, ℕ, sym, ap, ◌∙◌}
use Rattle.hw_plan_texts.proofs.Grids.{numbers_more}
use Rattle.hw_clash.proofs.clashing.all_numbers.Goals as goal

pub loop-n-preserved : goal.loop-n-preserved
loop-n-preserved c = c.in_ok-push.ensures.items ∙ (ap (λ (ns : List ℕ). ns ++ c.loop-n.n ∷ []) c.loop-n.invariant ∙ sym (numbers_more c.loop-n.n))
