use Rattle.std.proofs.Common.{decimal}
use Rattle.hw_desk.proofs.Written.{puts_on, puts_same}
use Rattle.hw_port_csv.specs.Entries.{table_entry}
use Rattle.hw_port_csv.specs.Tables.{course_fields}
use Rattle.hw_port_csv.proofs.Texts.{record_is}
use Rattle.hw_port_csv.proofs.record.put_record.Goals as goal

pub returns : goal.returns
returns g c = puts_same _ (record_is (decimal c.args.number) c.args.ship.now.name c.args.ship.now.direction (course_fields c.args.port.now c.args.tide.now (table_entry c.args.number c.args.ship.now c.args.slot))) (puts_on c.put_ship.ensures (puts_on c.put_course.ensures c.put_line_end.ensures))
