use Rattle.hw_app.proofs.OwnStatus.{own_status}
use Rattle.hw_app.proofs.search_laws.own_status.Goals as goal

pub returns : goal.returns
returns c = own_status
