use Rattle.hw_cert.proofs.WholeCerts.{cert_back, cert_again}
use Rattle.hw_cert.proofs.laws.cert_spelled.Goals as goal

pub returns : goal.returns
returns c = λ most shape bytes version all some. record { read = cert_back most shape bytes version all; written = cert_again most shape bytes version all some }
