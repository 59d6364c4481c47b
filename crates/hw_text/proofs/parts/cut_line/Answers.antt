use Rattle.std.proofs.Common.{◌==◌}
use Rattle.hw_text.proofs.Splits.{first_part_is}
use Rattle.hw_text.proofs.parts.cut_line.Goals as goal

pub returns-in-Some-clause-line : goal.returns-in-Some-clause-line
returns-in-Some-clause-line c = first_part_is (λ b. b == 10) c.args.bytes.now c.in-Some.line.now c.in-Some.rest.now c.in-Some.ensures.parts
