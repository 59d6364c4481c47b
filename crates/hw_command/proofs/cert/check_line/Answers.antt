use Rattle.std.proofs.Common.{◌≡◌, None, subst}
use Rattle.hw_cert_lines.specs.Kept.{Kept}
use Rattle.hw_cert_lines.specs.Refusals.{kept_refusal}
use Rattle.hw_command.proofs.Checked.{valid_comes, line_refused, none_had}
use Rattle.hw_command.proofs.Kept.{line_count, line_read_on}
use Rattle.hw_command.proofs.cert.check_line.Goals as goal

pub returns-in-Ok-clause-steps : goal.returns-in-Ok-clause-steps
returns-in-Ok-clause-steps g c = λ before follows.
    let f = c.args.checker.problem in
    let t = rw c.in-Ok-Line.field-0-is at c.in-Ok-Line.ensures in
    let a = c.in-Ok.ensures.followed before follows in
    let none = subst (λ (k : Kept). kept_refusal f k c.in-Ok-Line.line ≡ None) follows.kept c.in-Ok.ensures.taken in (
      t.kept (λ e. absurd (cc)),
      record {
        follows = a.2;
        problem = a.0;
        rest = valid_comes (g.D.Desk.state c.args.desk.now) (g.D.Desk.state c.next.new.desk) c.args.reader c.in-Ok-Line.reader c.in-Ok-Line.line f before c.requires.ready.shape t.line none t.next;
      },
    )

pub returns-in-Ok-clause-within : goal.returns-in-Ok-clause-within
returns-in-Ok-clause-within g c =
    let t = rw c.in-Ok-Line.field-0-is at c.in-Ok-Line.ensures in
    (t.line.most, t.line.formed)

pub returns-in-Ok-clause-reads : goal.returns-in-Ok-clause-reads
returns-in-Ok-clause-reads g c = λ before.
    let t = rw c.in-Ok-Line.field-0-is at c.in-Ok-Line.ensures in
    line_read_on (g.D.Desk.state c.args.desk.now) (g.D.Desk.state c.next.new.desk) c.args.reader c.in-Ok-Line.reader c.in-Ok-Line.line c.args.checker.problem before c.requires.ready.shape t.next

pub returns-in-Ok-Line-clause-steps : goal.returns-in-Ok-Line-clause-steps
returns-in-Ok-Line-clause-steps g c = λ before follows.
    let x = g.D.Desk.state c.args.desk.now in
    let y = g.D.Desk.state c.next.new.desk in
    let t = rw c.in-Ok-Line.field-0-is at c.in-Ok-Line.ensures in
    let stop = c.in-Err-borrowed_line.stop in
    let count = line_count c.number-number.result t.line c.number-number.ensures.value in
    rw c.refused.ensures (rw c.refused_line.ensures (line_refused x y c.args.reader c.in-Ok-Line.reader c.in-Ok-Line.line c.args.checker.problem before _ stop c.requires.ready.shape t.line count (c.in-Err-borrowed_line.ensures.followed before follows) t.next (t.kept (λ e. absurd (cc)))))

pub returns-clause-steps : goal.returns-clause-steps
returns-clause-steps g c = λ before follows. rw c.refused-in-Err.ensures (rw c.no_line.ensures (none_had (g.D.Desk.state c.args.desk.now) (g.D.Desk.state c.next.new.desk) c.args.reader c.args.checker.problem before c.in-Err.stop c.requires.ready.shape c.in-Err.ensures))
