use Rattle.hw_search_laws.proofs.Holds.{reason_rises}
use Rattle.hw_search_laws.proofs.laws.reason_rises.Goals as goal

pub returns : goal.returns
returns c = λ s table c why worth above h. reason_rises s table c worth above why h
