use Rattle.std.proofs.Common.{◌∙◌, ap}
use Rattle.csv.specs.Writing.{default_writer, field_text}
use Rattle.hw_desk.proofs.Written.{puts_same}
use Rattle.hw_port_csv.specs.Fields.{tonnes}
use Rattle.hw_port_csv.proofs.Plain.{tonnes_as_they_are}
use Rattle.hw_port_csv.proofs.field.put_tonnes.Goals as goal

pub returns-in-Some : goal.returns-in-Some
returns-in-Some g c = puts_same _ (ap (λ o. field_text default_writer (tonnes o)) c.in-Some.is ∙ tonnes_as_they_are c.in-Some.tenths) c.put_tenths.ensures
