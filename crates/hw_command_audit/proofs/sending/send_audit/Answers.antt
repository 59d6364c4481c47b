use Rattle.std.proofs.Common.{◌≡◌, ◌+◌, ◌<◌, ◌≤◌, true, false, length, rules, arith}
use Rattle.std.specs.Prelude.{is_err}
use Rattle.hw_audit.specs.declared.event.PortEvent.TheVariants.{Sailed}
use Rattle.hw_command_audit.proofs.Fronts.{next_here, stands_next, next_line}
use Rattle.hw_command_audit.proofs.Lines.{first_sent, first_cut, line_sent, line_cut, end_sent, end_cut}
use Rattle.hw_command_audit.proofs.sending.send_audit.Goals as goal

pub loop-place-init : goal.loop-place-init
loop-place-init g c =
    let good : is_err c.send_broken.result ≡ false = search rules in
    let both = first_sent c.args.audit.problem c.args.audit.state c.args.events.now c.send_broken.result good c.send_broken.ensures in
    record { stands = search rules; sent = both.0; kept = both.1 }

pub returns-then-is_err : goal.returns-then-is_err
returns-then-is_err g c =
    let bad : is_err c.send_broken.result ≡ true = search rules in
    first_cut c.args.audit.problem c.args.audit.state c.args.events.now c.send_broken.result bad c.send_broken.ensures

pub send_next-requires : goal.send_next-requires
send_next-requires g c =
    let lt : c.loop-place.place < length c.args.events.now = omega arith in
    record { taken = next_here c.args.audit c.loop-place.audit c.args.events.now c.loop-place.place (Sailed 0 0) c.loop-place.invariant.stands lt c.requires.taken }

pub returns-then-is_err-2 : goal.returns-then-is_err-2
returns-then-is_err-2 g c =
    let a = c.args.audit in
    let lt : c.loop-place.place < length c.args.events.now = omega arith in
    let le : c.loop-place.place + 1 ≤ length c.args.events.now = omega arith in
    let bad : is_err c.send_next.result ≡ true = search rules in
    line_cut a.problem a.state c.args.events.now (c.loop-place.place + 1) c.send_next.result bad le c.loop-place.invariant.sent c.loop-place.invariant.kept
    (next_line a c.loop-place.audit c.args.events.now c.loop-place.place (Sailed 0 0) c.loop-place.invariant.stands lt c.send_next.ensures.sends)

pub loop-place-preserved : goal.loop-place-preserved
loop-place-preserved g c =
    let a = c.args.audit in
    let lt : c.loop-place.place < length c.args.events.now = omega arith in
    let good : is_err c.send_next.result ≡ false = search rules in
    let sends = next_line a c.loop-place.audit c.args.events.now c.loop-place.place (Sailed 0 0) c.loop-place.invariant.stands lt c.send_next.ensures.sends in
    let both = line_sent a.problem a.state c.args.events.now (c.loop-place.place + 1) c.send_next.result good c.loop-place.invariant.sent c.loop-place.invariant.kept sends in
    record {
      stands = stands_next a c.loop-place.audit c.send_next.new.audit c.args.events.now c.loop-place.place (Sailed 0 0) c.loop-place.invariant.stands lt c.send_next.ensures.stands;
      sent = both.0;
      kept = both.1;
    }

pub returns-in-Ok : goal.returns-in-Ok
returns-in-Ok g c =
    let all : c.loop-place.place ≡ length c.args.events.now = omega arith in
    end_sent c.args.audit.problem c.args.audit.state c.args.events.now c.loop-place.place all c.status_of.ensures c.loop-place.invariant.sent c.loop-place.invariant.kept c.in-Ok.ensures

pub returns : goal.returns
returns g c =
    let all : c.loop-place.place ≡ length c.args.events.now = omega arith in
    end_cut c.args.audit.problem c.args.audit.state c.args.events.now c.loop-place.place all c.loop-place.invariant.sent c.loop-place.invariant.kept c.in-Err.ensures
