use Rattle.std.proofs.Common.{◌∙◌, rules}
use Rattle.hw_desk.proofs.Written.{text_sent}
use Rattle.hw_command_chart.proofs.drawing_clashes.send_text.Goals as goal

pub returns : goal.returns
returns g c =
    let sent = text_sent c.new-out.ensures.opens c.put_clash.ensures c.flush.ensures.flushes in
    let name = c.flush.ensures.flushes.borrow ∙ c.put_clash.ensures.borrow in
    search rules
