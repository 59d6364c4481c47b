use Rattle.hw_chart_laws.proofs.OneWay.{one_way_is_seen}
use Rattle.hw_chart_laws.proofs.laws.one_way_is_seen.Goals as goal

pub returns : goal.returns
returns c = one_way_is_seen
