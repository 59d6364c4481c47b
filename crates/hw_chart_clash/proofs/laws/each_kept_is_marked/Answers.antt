use Rattle.hw_chart_clash.proofs.Told.{each_kept_is_marked_law}
use Rattle.hw_chart_clash.proofs.laws.each_kept_is_marked.Goals as goal

pub returns : goal.returns
returns c = each_kept_is_marked_law
