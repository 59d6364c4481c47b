use Rattle.hw_command.proofs.Taken.{reads_of}
use Rattle.hw_command.proofs.cert.read_cert.Goals as goal

pub returns-in-Ok : goal.returns-in-Ok
returns-in-Ok g c =
    let state = g.D.Desk.state in
    reads_of g.K.LineTaker.keeps (state c.args.desk.now) (state c.open_cert.new.desk) (state c.read_lines.new.desk) c.read_lines.result c.in-Ok.ensures c.read_lines.ensures.moved.1 c.read_lines.ensures.reads
