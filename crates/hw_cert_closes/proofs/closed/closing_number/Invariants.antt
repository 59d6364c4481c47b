use Rattle.std.proofs.Common.{◌≡◌, ◌-◌, ◌^◌, ◌<◌, is_some, min, take}
use Rattle.hw_cert_lines.specs.Lines.{clause_count}
use Rattle.hw_cert_closes.specs.Closing.{closes_room}
use Rattle.hw_cert_closes.specs.Numbers.{LastClosing}
use Rattle.hw_cert_closes.proofs.closed.closing_number.Given as goal

abbrev pub invariant-loop-line : goal.invariant-loop-line
invariant-loop-line l =
    record {
      closes : is_some l.found ≡ closes_room l.room (take l.line-index l.lines);
      counted : l.number ≡ min (clause_count (take l.line-index l.lines)) (2 ^ 32 - 1);
      last : clause_count l.lines < 2 ^ 32 → LastClosing l.room (take l.line-index l.lines) l.deleted l.found;
    }
