use Rattle.std.proofs.Common.{◌≡◌, ◌≤◌, ◌-◌, length, take}
use Rattle.hw_desk.specs.Calls.{Sends}
use Rattle.hw_desk.specs.State.{CanSend}
use Rattle.hw_desk.proofs.whole.write_all.Given as goal

abbrev pub invariant-loop-at : goal.invariant-loop-at
invariant-loop-at g l =
    let state = g.D.Desk.state in
    record {
      sent : Sends l.tray (take l.at l.bytes) (state l.fn.desk) (state l.desk);
      kept : (state l.desk).write_faults ≡ (state l.fn.desk).write_faults;
      inside : l.at ≤ length l.bytes;
      can : CanSend l.tray (state l.desk);
    }

abbrev pub decreases-loop-at : goal.decreases-loop-at
decreases-loop-at g l = length l.bytes - l.at
