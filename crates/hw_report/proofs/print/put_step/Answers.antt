use Rattle.hw_report.proofs.print.put_step.Goals as goal

pub returns : goal.returns
returns g c = rw (c.from-budget.ensures, c.from-step.ensures) at c.put_pieces.ensures
