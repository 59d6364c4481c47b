use Rattle.std.proofs.Common.{ℕ, ◌≤◌, Option, All, IfSome, sym, subst}
use Rattle.hw_search_ledger.proofs.Giving.{given_take}
use Rattle.hw_search_ledger.proofs.ledger.Ledger.keep_events.Goals as goal

pub invariant_of-self : goal.invariant_of-self
invariant_of-self c =
    let P : Option ℕ → Type 0 = λ number. IfSome number (λ n. n ≤ c.self.inside.clause_lines) in
    subst (All P) (sym c.truncate.ensures.items) (given_take c.self.inside.written.items c.args.count c.self.inside.clause_lines c.self.invariant)
