use Rattle.std.proofs.Common.{◌∙◌, subst, sym}
use Rattle.hw_cert_closes.specs.Numbers.{IsLastClosing}
use Rattle.hw_cert_closes.proofs.Numbers.{closing_next, quiet_next}
use Rattle.hw_cert_closes.proofs.closed.found_next.Goals as goal

pub returns-then-is_clause_false-clause-number : goal.returns-then-is_clause_false-clause-number
returns-then-is_clause_false-clause-number c before is h = subst (IsLastClosing c.args.room.now _ c.args.deleted.now) (sym c.preferred.ensures) (closing_next c.args.room.now before c.args.line.now c.args.number c.args.deleted.now c.args.found (sym c.is_clause_false.ensures ∙ c.if-is_clause_false.true) is h)

pub returns-else-is_clause_false-clause-number : goal.returns-else-is_clause_false-clause-number
returns-else-is_clause_false-clause-number c before is h = quiet_next c.args.room.now before c.args.line.now c.args.deleted.now c.args.found (sym c.is_clause_false.ensures ∙ c.if-is_clause_false.false) h
