use Rattle.hw_cert.proofs.Headers.{header_back, header_again}
use Rattle.hw_cert.proofs.laws.header_spelled.Goals as goal

pub returns : goal.returns
returns c = λ most bytes version. record { read = header_back most bytes version; written = header_again most bytes version }
