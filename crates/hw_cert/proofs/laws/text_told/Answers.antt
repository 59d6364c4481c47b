use Rattle.hw_cert.proofs.ToldText.{text_told}
use Rattle.hw_cert.proofs.laws.text_told.Goals as goal

pub returns : goal.returns
returns c = text_told
