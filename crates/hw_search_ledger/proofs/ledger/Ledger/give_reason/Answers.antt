use Rattle.std.proofs.Common.{◌+◌, arith}
use Rattle.hw_search_ledger.proofs.Giving.{given_more, given_set}
use Rattle.hw_search_ledger.proofs.ledger.Ledger.give_reason.Goals as goal

pub invariant_of-self : goal.invariant_of-self
invariant_of-self c =
    let lines = c.self.inside.clause_lines in
    given_set c.self.inside.written.items c.args.place (lines + 1) (lines + 1) (omega arith) (given_more c.self.inside.written.items lines (lines + 1) (omega arith) c.self.invariant)
