use Rattle.std.proofs.Common.{◌∙◌, ap, rules, w64}
use Rattle.std.proofs.lemmas.Int.{to_z-of_z}
use mir.Val.{SFits}
use Rattle.csv.specs.Writing.{default_writer, field_text}
use Rattle.hw_desk.proofs.Written.{puts_same}
use Rattle.hw_port_csv.specs.Fields.{centimetres}
use Rattle.hw_port_csv.proofs.Plain.{signed_as_it_is}
use Rattle.hw_port_csv.proofs.field.put_centimetres.Goals as goal

pub returns-in-Some : goal.returns-in-Some
returns-in-Some g c =
    let fits : SFits w64 c.in-Some.number = search rules in
    let put = simp to_z-of_z at c.put_signed.ensures in
    puts_same _ (ap (λ o. field_text default_writer (centimetres o)) c.in-Some.is ∙ signed_as_it_is c.in-Some.number) put
