use Rattle.hw_cert_lines.proofs.Added.{toll_added}
use Rattle.hw_cert_lines.proofs.laws.toll_pushed.Goals as goal

pub returns : goal.returns
returns c = toll_added
