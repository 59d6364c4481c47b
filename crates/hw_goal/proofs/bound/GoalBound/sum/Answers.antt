use Rattle.hw_goal.proofs.Sums.{kept_sum}
use Rattle.hw_goal.proofs.bound.GoalBound.sum.Goals as goal

pub returns : goal.returns
returns c = record { value = λ f room ready. kept_sum f c.args.self.now.figures room ready.0.0 ready.2 }
