use Rattle.std.proofs.Common.{sym}
use Rattle.hw_command_split.proofs.CertBytes.{each_checked}
use Rattle.hw_command_split.proofs.certificates.read_certs.Goals as goal

pub returns : goal.returns
returns g c = each_checked c.begin.result c.check_each.result (sym c.if-is_err.ensures.value) c.begin.ensures.begins c.in-Ok.ensures (rw c.deref.ensures.value at c.check_each.ensures)
