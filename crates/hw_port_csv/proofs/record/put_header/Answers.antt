use Rattle.hw_desk.proofs.Written.{puts_on, puts_same}
use Rattle.hw_port_csv.proofs.Texts.{header_is}
use Rattle.hw_port_csv.proofs.record.put_header.Goals as goal

pub returns : goal.returns
returns g c = puts_same _ (header_is c.args.port.now) (puts_on c.put_columns.ensures (puts_on c.put_all_names.ensures c.put_line_end.ensures))
