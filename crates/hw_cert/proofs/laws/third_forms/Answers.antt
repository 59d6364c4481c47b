use Rattle.hw_cert.proofs.Formed.{third_forms}
use Rattle.hw_cert.proofs.laws.third_forms.Goals as goal

pub returns : goal.returns
returns c = third_forms
