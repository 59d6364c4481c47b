use Rattle.std.proofs.Common.{◌≡◌, length, rules}
use Rattle.hw_chart_repair.proofs.Titles.{title_on}
use Rattle.hw_chart_repair.proofs.heading.repair_title.Goals as goal

pub returns : goal.returns
returns c =
    let six : length c.title.result ≡ 6 = search rules in
    let two : length c.moved_pieces.result ≡ 2 = search rules in
    title_on _ c.title.result c.moved_pieces.result _ _ six two c.title.ensures c.moved_pieces.ensures
