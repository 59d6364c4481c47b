use Rattle.std.proofs.Common.{inl, inr}
use Rattle.hw_command_split.proofs.joining.join_to.Goals as goal

pub returns-in-Err : goal.returns-in-Err
returns-in-Err g c = inl (record { reads = c.in-Err.ensures })

pub join-requires : goal.join-requires
join-requires g c = record { fit = rw c.deref.ensures.value c.in-Ok.ensures.answer.1; split = c.requires.split }

pub returns-in-Err-join : goal.returns-in-Err-join
returns-in-Err-join g c = inr (record { taken = c.in-Ok.certs; reads = c.in-Ok.ensures; stop = c.in-Err-join.stop; cause = c.in-Err-join.ensures; told = c.stop_outcome.ensures })

pub returns-in-Ok-send_lines : goal.returns-in-Ok-send_lines
returns-in-Ok-send_lines g c =
    record { mid = g.D.Desk.state c.read_certs.new.desk; taken = c.in-Ok.certs; reads = c.in-Ok.ensures; joins = rw c.deref.ensures.value at c.in-Ok-join.ensures; sends = rw c.deref-2.ensures.value at c.in-Ok-send_lines.ensures }

pub returns : goal.returns
returns g c =
    (c.in-Ok-join.joined, record { mid = g.D.Desk.state c.read_certs.new.desk; taken = c.in-Ok.certs; reads = c.in-Ok.ensures; joins = rw c.deref.ensures.value at c.in-Ok-join.ensures; sends = rw c.deref-2.ensures.value at c.in-Err-send_lines.ensures })
