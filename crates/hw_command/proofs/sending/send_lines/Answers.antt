use Rattle.std.proofs.Common.{◌<◌, List, length, arith}
use Rattle.hw_cert_lines.specs.declared.line.Line.{Line}
use Rattle.hw_cert.specs.declared.version.Version.{Version}
use Rattle.hw_cert.specs.declared.version.Version.TheVariants.{One, Two, Three}
use Rattle.hw_cert.specs.Texts.{cert_text}
use Rattle.hw_command.proofs.Sendings.{not_made, sends_to}
use Rattle.hw_command.proofs.sending.send_lines.Goals as goal

some_text : (version : Version) (lines : List Line) → 0 < length (cert_text version lines)
some_text One lines = omega arith
some_text Two lines = omega arith
some_text Three lines = omega arith

pub returns-in-Err : goal.returns-in-Err
returns-in-Err g c = not_made _ (some_text c.args.version c.args.lines.now) ((g.met.D.Desk.fresh c.args.desk.now).sent c.requires) c.in-Err.ensures.makes

pub returns-in-Ok : goal.returns-in-Ok
returns-in-Ok g c = sends_to _ c.send_cert.result c.in-Ok.ensures.makes c.send_cert.ensures.sends
