use Rattle.hw_desk.proofs.Written.{puts_same}
use Rattle.hw_port_csv.proofs.Plain.{number_as_it_is}
use Rattle.hw_port_csv.proofs.field.put_number.Goals as goal

pub returns : goal.returns
returns g c = puts_same _ (number_as_it_is c.args.number) c.put_number.ensures.puts
