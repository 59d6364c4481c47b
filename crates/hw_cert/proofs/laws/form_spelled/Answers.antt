use Rattle.hw_cert.proofs.FormText.{form_read, form_written}
use Rattle.hw_cert.proofs.laws.form_spelled.Goals as goal

pub returns : goal.returns
returns c = λ version bytes line. record { read = form_read version bytes line; written = form_written version bytes line }
