use Rattle.std.proofs.Common.{ℕ, ◌≤◌, Option, None, All, IfSome, sym, subst}
use Rattle.std.proofs.lemmas.List.Elements.{All-push}
use Rattle.hw_search_ledger.proofs.ledger.Ledger.add_event.Goals as goal

pub invariant_of-self : goal.invariant_of-self
invariant_of-self c =
    let P : Option ℕ → Type 0 = λ number. IfSome number (λ n. n ≤ c.self.inside.clause_lines) in
    subst (All P) (sym c.push_reserved.ensures.items) (All-push P c.self.inside.written.items None c.self.invariant tt)
