use Rattle.hw_cert.proofs.Formed.{read_forms}
use Rattle.hw_cert.proofs.laws.read_forms.Goals as goal

pub returns : goal.returns
returns c = read_forms
