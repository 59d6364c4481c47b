use Rattle.hw_cert_laws.proofs.Proved.{says_all}
use Rattle.hw_cert_laws.proofs.laws.sound_lines.Goals as goal

pub returns : goal.returns
returns c = λ f all flat fits valid. (says_all f all flat fits valid).all_true
