use Rattle.std.proofs.Common.{◌≡◌, ℕ, Bool, true, false, List, map, sym, ◌∙◌}
use Rattle.std.specs.Prelude.{◌==◌, MatchBool, Contains, ⊤}
use Rattle.std.specs.List.{list_any}
use Rattle.std.proofs.lemmas.List.Folds.{list_any-append}
use Rattle.hw_lemmas.proofs.Truths.{or_none}
use Rattle.hw_store.specs.declared.store.Stored.{Stored}
use Rattle.hw_search_ledger.proofs.Dropping.{any_not}
use Rattle.hw_search_ledger.proofs.dropped.is_kept.Goals as goal

not_met : (met : Bool) (xs : List ℕ) (n : ℕ) → MatchBool met ⊤ (Contains xs n → ⊥) → met ≡ false → list_any (λ (one : ℕ). one == n) xs ≡ false
not_met true xs n h e = absurd cc
not_met false xs n h e = any_not xs n h

pub returns-else-met : goal.returns-else-met
returns-else-met g c =
    let p : ℕ → Bool = λ one. one == c.args.number in
    let stored : List ℕ = map (λ (one : Stored). one.number) (g.S.Store.clauses c.args.store.now) in
    record { value = c.if-met.false ∙ sym (list_any-append p stored c.args.earlier.now ∙ or_none (list_any p stored) (list_any p c.args.earlier.now) (sym c.if-is_stored.ensures.value) (not_met c.args.met c.args.earlier.now c.args.number c.requires.apart c.if-met.false)) }
