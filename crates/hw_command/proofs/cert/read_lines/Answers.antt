use Rattle.std.proofs.Common.{◌++◌, ◌∷◌, ◌∙◌, [], refl, sym}
use Rattle.hw_desk.proofs.Chain.{moves_on}
use Rattle.hw_command.proofs.Taken.{unless_err, taken_on, read_onward}
use Rattle.hw_command.proofs.cert.read_lines.Goals as goal

pub lines-preserved : goal.lines-preserved
lines-preserved g c =
    let past = c.lines.invariant in
    let y = g.D.Desk.state c.lines.desk in
    let z = g.D.Desk.state c.check_line.new.desk in
    let before = past.taken.0 in
    let step = c.in-Further.ensures.steps before past.taken.1.reached.follows in
    record {
      moved = (past.moved.0 ++ c.check_line.ensures.moved.0, moves_on past.moved.1 c.check_line.ensures.moved.1 (past.moved.0 ++ c.check_line.ensures.moved.0) refl);
      same = step.0 ∙ past.same;
      ready = c.in-Further.ensures.further.0;
      taken = (before ++ c.in-Further.line ∷ [], taken_on c.in-Further.line y z past.taken.1 step.1 (c.in-Further.ensures.reads before) c.in-Further.ensures.within.0 c.in-Further.ensures.within.1, unless_err c.take.result (sym c.is_err.ensures.value ∙ c.if-is_err.false) c.take.ensures before past.taken.2);
    }

pub returns-in-Ended-Ok-default-clause-moved : goal.returns-in-Ended-Ok-default-clause-moved
returns-in-Ended-Ok-default-clause-moved g c =
    let past = c.lines.invariant.moved in
    let more = c.check_line.ensures.moved in
    (past.0 ++ more.0, moves_on past.1 more.1 (past.0 ++ more.0) refl)

pub returns-in-Ended-Ok-default-clause-reads : goal.returns-in-Ended-Ok-default-clause-reads
returns-in-Ended-Ok-default-clause-reads g c =
    let past = c.lines.invariant in
    let y = g.D.Desk.state c.lines.desk in
    let z = g.D.Desk.state c.check_line.new.desk in
    let before = past.taken.0 in
    let follows = past.taken.1.reached.follows in
    read_onward (g.D.Desk.state c.args.desk.now) y z (record { outcome = c.in-Ended-Ok-default.outcome; bound = c.bound-bound.result; kept = c.lines.kept; checker = c.in-Ended-Ok-default.taken }) past.taken.1 past.taken.2 (c.bound-bound.ensures.followed before follows) past.same
    (rw c.in-Ended-Ok-default.found-is at c.in-Ended-Ok-default.ensures.steps before follows)
    (rw c.in-Ended-Ok-default.found-is at c.in-Ended-Ok-default.ensures.reads before)
    (rw c.in-Ended-Ok-default.found-is at c.in-Ended-Ok-default.ensures.left)

pub returns-in-Ended-Err-default-clause-moved : goal.returns-in-Ended-Err-default-clause-moved
returns-in-Ended-Err-default-clause-moved g c =
    let past = c.lines.invariant.moved in
    let more = c.check_line.ensures.moved in
    (past.0 ++ more.0, moves_on past.1 more.1 (past.0 ++ more.0) refl)

pub returns-then-is_err-clause-moved : goal.returns-then-is_err-clause-moved
returns-then-is_err-clause-moved g c =
    let past = c.lines.invariant.moved in
    let more = c.check_line.ensures.moved in
    (past.0 ++ more.0, moves_on past.1 more.1 (past.0 ++ more.0) refl)
