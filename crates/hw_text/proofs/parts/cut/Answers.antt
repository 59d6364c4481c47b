use Rattle.std.proofs.Common.{sym, ◌==◌}
use Rattle.hw_text.proofs.Splits.{no_cut, first_cut}
use Rattle.hw_text.proofs.parts.cut.Goals as goal

pub returns-in-None-clause-parts : goal.returns-in-None-clause-parts
returns-in-None-clause-parts c = no_cut (λ b. b == c.args.at) c.args.bytes.now (sym c.in-None.ensures)

pub returns-in-Some-clause-parts : goal.returns-in-Some-clause-parts
returns-in-Some-clause-parts c = first_cut (λ b. b == c.args.at) c.in-Some.place c.args.bytes.now c.split_at.result.1.now (sym c.in-Some.ensures) c.split_at.ensures.back
