use Rattle.std.proofs.Common.{ap}
use Rattle.hw_cert.proofs.Answered.{header_then_line, before_header}
use Rattle.hw_cert.specs.Reader.{ReaderModel}
use Rattle.hw_cert.proofs.reader.LineReader.next.Goals as goal

pub returns : goal.returns
returns g c =
    let none = before_header c.args.self c.self.inside.version c.is_some.result (ap (λ (m : ReaderModel). m.at.version) c.self.view_is) c.is_some.ensures c.if-is_some.false in
    header_then_line c.args.self c.in_ok-reader.reader c.next_line-2.result none (rw c.in_ok-reader.was at c.take_header.ensures) c.next_line-2.ensures
