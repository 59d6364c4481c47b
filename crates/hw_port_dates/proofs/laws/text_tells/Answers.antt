use Rattle.hw_port_dates.proofs.Texts.{text_law}
use Rattle.hw_port_dates.proofs.laws.text_tells.Goals as goal

pub returns : goal.returns
returns c = text_law
