use Rattle.std.proofs.Common.{rules}
use Rattle.hw_desk.proofs.Written.{puts_on, text_sent}
use Rattle.hw_cert.proofs.sending.send_line.Goals as goal

pub returns-clause-sends : goal.returns-clause-sends
returns-clause-sends g c =
    let whole = text_sent c.new-out.ensures.opens (puts_on c.put_line.ensures.puts c.put.ensures.puts) c.flush.ensures.flushes in
    search rules
