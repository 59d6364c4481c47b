use Rattle.hw_model_laws.proofs.Within.{refutes_inner}
use Rattle.hw_model_laws.proofs.laws.refutes_within.Goals as goal

pub returns : goal.returns
returns c = λ f source best inner outer flat fits fits' of within h. refutes_inner f source best inner outer flat.each_rule fits fits' of within h
