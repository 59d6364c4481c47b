use Rattle.std.proofs.Common.{ℕ, ◌+◌, ◌≤◌, Option, Some, All, IfSome, sym, subst, arith}
use Rattle.std.proofs.lemmas.List.Elements.{All-push}
use Rattle.hw_search_ledger.proofs.Giving.{given_more}
use Rattle.hw_search_ledger.proofs.ledger.Ledger.add_written.Goals as goal

pub invariant_of-self : goal.invariant_of-self
invariant_of-self c =
    let lines = c.self.inside.clause_lines in
    let P : Option ℕ → Type 0 = λ number. IfSome number (λ n. n ≤ lines + 1) in
    subst (All P) (sym c.push_reserved.ensures.items) (All-push P c.self.inside.written.items (Some (lines + 1)) (given_more c.self.inside.written.items lines (lines + 1) (omega arith) c.self.invariant) (omega arith))
