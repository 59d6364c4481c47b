use Rattle.std.proofs.Common.{◌≡◌, ◌+◌, ◌-◌, ℕ, Option, Some, None, find, unwrap_or, subst, sym, ap, ◌∙◌, arith}
use Rattle.std.specs.Prelude.{◌==◌}
use Rattle.std.specs.List.{range_with_len}
use Rattle.std.proofs.lemmas.Bool.{eq-eqb}
use Rattle.hw_model.specs.Problem.{value_at}
use Rattle.hw_model.specs.Rooms.{low_of, high_of}
use Rattle.hw_model_laws.proofs.Searches.{found_none as find_none}
use Rattle.hw_search_sources.proofs.Choosing.{find_at}
use Rattle.hw_search_sources.proofs.branching.greatest_slot.Goals as goal

pub returns-then-unwrap_or-most-clause-value : goal.returns-then-unwrap_or-most-clause-value
returns-then-unwrap_or-most-clause-value c =
    let low = low_of c.args.room.now c.args.ship in
    let n = high_of c.args.room.now c.args.ship + 1 - low_of c.args.room.now c.args.ship in
    let v : ℕ → ℕ = λ slot. unwrap_or (value_at c.args.flat.now c.args.ship slot) 0 in
    let at : unwrap_or (value_at c.args.flat.now c.args.ship c.loop-slot.slot) 0 ≡ c.args.most = ap (λ (o : Option ℕ). unwrap_or o 0) (sym c.value.ensures.value) ∙ sym c.unwrap_or.ensures ∙ c.if-unwrap_or-most.true in
    sym (subst (λ (m : ℕ). find (λ slot. v slot == m) (range_with_len low n) ≡ Some c.loop-slot.slot) c.requires.most
    (find_at (λ slot. v slot == c.args.most) low n c.loop-slot.slot (omega arith) (omega arith) c.loop-slot.invariant (eq-eqb (v c.loop-slot.slot) c.args.most at)))

pub returns-clause-value : goal.returns-clause-value
returns-clause-value c =
    let low = low_of c.args.room.now c.args.ship in
    let n = high_of c.args.room.now c.args.ship + 1 - low_of c.args.room.now c.args.ship in
    let v : ℕ → ℕ = λ slot. unwrap_or (value_at c.args.flat.now c.args.ship slot) 0 in
    sym (subst (λ (m : ℕ). find (λ slot. v slot == m) (range_with_len low n) ≡ None) c.requires.most
    (find_none (λ slot. v slot == c.args.most) low n (λ k le lt. c.loop-slot.invariant k le (omega (arith, lt)))))
