use Rattle.hw_cert_laws.proofs.Proved.{optimal, infeasible}
use Rattle.hw_cert_laws.proofs.laws.sound_verdict.Goals as goal

pub returns : goal.returns
returns c = λ f all flat fits valid. (λ d e. optimal f all d flat fits valid e, infeasible f all flat fits valid)
