use Rattle.std.proofs.Common.{◌∙◌, ap}
use Rattle.hw_cert.specs.Fits.{line_read}
use Rattle.hw_cert.proofs.FormBack.{read_text}
use Rattle.hw_cert.proofs.Written.{text_read}
use Rattle.hw_cert.proofs.laws.line_spelled.Goals as goal

pub returns : goal.returns
returns c = λ shape version bytes line some. record {
  read = read_text shape version bytes line;
  written = λ e is. ap (line_read shape version) e ∙ text_read shape version line some is;
}
