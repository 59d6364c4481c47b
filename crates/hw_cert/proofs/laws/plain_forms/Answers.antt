use Rattle.hw_cert.proofs.Formed.{plain_forms}
use Rattle.hw_cert.proofs.laws.plain_forms.Goals as goal

pub returns : goal.returns
returns c = plain_forms
