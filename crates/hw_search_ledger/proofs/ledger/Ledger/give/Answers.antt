use Rattle.std.proofs.Common.{◌+◌, arith}
use Rattle.hw_search_ledger.proofs.Giving.{given_more}
use Rattle.hw_search_ledger.proofs.ledger.Ledger.give.Goals as goal

pub invariant_of-self : goal.invariant_of-self
invariant_of-self c = given_more c.self.inside.written.items c.self.inside.clause_lines (c.self.inside.clause_lines + 1) (omega arith) c.self.invariant
