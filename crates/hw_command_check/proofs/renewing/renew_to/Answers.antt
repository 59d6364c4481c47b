use Rattle.std.proofs.Common.{inr, refl}
use Rattle.hw_cert_laws.proofs.Numbered.{numbered}
use Rattle.hw_command_check.proofs.Rewritten.{course_valid, sends_renewed}
use Rattle.hw_command_check.proofs.renewing.renew_to.Goals as goal

pub renewed-requires : goal.renewed-requires
renewed-requires g c = record { numbered = numbered c.args.flat.now c.in-Ok.course.lines.items (course_valid c.in-Ok.ensures) }

pub returns-in-Err-renewed : goal.returns-in-Err-renewed
returns-in-Err-renewed g c = inr (record { starts = c.in-Ok.ensures.starts; told = refl })

pub returns-in-Ok-send_renewed : goal.returns-in-Ok-send_renewed
returns-in-Ok-send_renewed g c = sends_renewed c.in-Ok.course _ c.in-Ok-renewed.lines.items c.in-Ok.ensures (c.verdict-verdict.ensures.followed c.in-Ok.course.lines.items c.in-Ok.ensures.stands.follows) (c.bound-bound.ensures.followed c.in-Ok.course.lines.items c.in-Ok.ensures.stands.follows) c.in-Ok-renewed.ensures.value (rw c.deref.ensures.value at c.in-Ok-send_renewed.ensures)

pub returns : goal.returns
returns g c = (record { verdict = c.verdict-verdict.result; bound = c.bound-bound.result }, sends_renewed c.in-Ok.course _ c.in-Ok-renewed.lines.items c.in-Ok.ensures (c.verdict-verdict.ensures.followed c.in-Ok.course.lines.items c.in-Ok.ensures.stands.follows) (c.bound-bound.ensures.followed c.in-Ok.course.lines.items c.in-Ok.ensures.stands.follows) c.in-Ok-renewed.ensures.value (rw c.deref.ensures.value at c.in-Err-send_renewed.ensures))
