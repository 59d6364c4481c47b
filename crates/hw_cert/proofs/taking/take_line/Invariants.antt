use Rattle.std.proofs.Common.{◌≡◌, ◌+◌, ◌-◌, ◌^◌, length}
use Rattle.hw_cert.proofs.Takes.{SoFar}
use Rattle.hw_cert.proofs.taking.take_line.Given as goal

abbrev pub invariant-reading : goal.invariant-reading
invariant-reading g l =
    let state = g.D.Desk.state in
    record {
      so_far : SoFar l.feed l.taken l.fn.pending l.line.items l.pending (state l.fn.desk) (state l.desk);
      kept : (state l.desk).read_faults ≡ (state l.fn.desk).read_faults;
    }

abbrev pub decreases-reading : goal.decreases-reading
decreases-reading g l = 2 ^ 40 + 2 - (l.taken + length l.line.items + length l.pending)
