use Rattle.std.proofs.Common.{◌≡◌, ℕ, subst, eqb, ◌∙◌, sym, ap, ◌++◌, filter_map, Option}
use Rattle.std.specs.Prelude.{Contains}
use Rattle.std.specs.List.Sorted.{IsStrictlyIncreasing}
use Rattle.std.proofs.lemmas.List.{take_rest}
use Rattle.std.proofs.lemmas.List.Filters.{dedup_is}
use Rattle.std.proofs.lemmas.List.Kept.{Contains-dedup_nat, Contains-from_dedup}
use Rattle.std.proofs.lemmas.List.Sorted.{Contains-permutation, IsPermutation-sym}
use Rattle.std.proofs.lemmas.Map.Keys.{IsStrictlyIncreasing-dedup}
use Rattle.hw_search_ledger.specs.Dropped.{dropped, number_list}
use Rattle.hw_search_ledger.proofs.dropped.ascending.Goals as goal

pub returns-clause-ascends : goal.returns-clause-ascends
returns-clause-ascends c =
    let e = dedup_is eqb c.sort_unstable.new.self.items c.dedup.new.self.items c.dedup.ensures.filtered in
    subst IsStrictlyIncreasing (sym e) (IsStrictlyIncreasing-dedup c.sort_unstable.new.self.items c.sort_unstable.ensures.sorted)

pub returns-clause-holds : goal.returns-clause-holds
returns-clause-holds c = λ number h.
    let e = dedup_is eqb c.sort_unstable.new.self.items c.dedup.new.self.items c.dedup.ensures.filtered in
    let all : c.push_number.new.numbers.items ≡ dropped c.args.written.now c.args.keep c.args.conflict = c.in_ok-push_number.ensures.push ∙ ap (λ xs. xs ++ number_list c.args.conflict) (c.in_ok-numbers.ensures.value ∙ ap (filter_map (λ (number : Option ℕ). number)) (take_rest c.args.written.now c.args.keep)) in
    let s = Contains-from_dedup eqb c.sort_unstable.new.self.items number (subst (λ xs. Contains xs number) e h) in
    subst (λ xs. Contains xs number) all (Contains-permutation c.sort_unstable.new.self.items c.push_number.new.numbers.items number (IsPermutation-sym c.push_number.new.numbers.items c.sort_unstable.new.self.items c.sort_unstable.ensures.permutation) s)

pub returns-clause-all : goal.returns-clause-all
returns-clause-all c = λ number h.
    let e = dedup_is eqb c.sort_unstable.new.self.items c.dedup.new.self.items c.dedup.ensures.filtered in
    let all : c.push_number.new.numbers.items ≡ dropped c.args.written.now c.args.keep c.args.conflict = c.in_ok-push_number.ensures.push ∙ ap (λ xs. xs ++ number_list c.args.conflict) (c.in_ok-numbers.ensures.value ∙ ap (filter_map (λ (number : Option ℕ). number)) (take_rest c.args.written.now c.args.keep)) in
    let s = Contains-permutation c.push_number.new.numbers.items c.sort_unstable.new.self.items number c.sort_unstable.ensures.permutation (subst (λ xs. Contains xs number) (sym all) h) in
    subst (λ xs. Contains xs number) (sym e) (Contains-dedup_nat c.sort_unstable.new.self.items number s)
