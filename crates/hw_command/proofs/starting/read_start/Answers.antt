use Rattle.std.proofs.Common.{refl}
use Rattle.hw_command.proofs.Started.{course_starts}
use Rattle.hw_command.proofs.starting.read_start.Goals as goal

pub returns-in-Some : goal.returns-in-Some
returns-in-Some g c = course_starts c.in-Ok.read c.in-Some.checker _ c.in-Ok.ensures c.in-Some.is refl refl refl
