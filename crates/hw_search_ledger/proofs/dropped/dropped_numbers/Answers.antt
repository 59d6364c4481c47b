use Rattle.std.proofs.Common.{ℕ, Option, filter_map, take, ◌∙◌}
use Rattle.std.proofs.lemmas.Result.{IfOk-weaker}
use Rattle.hw_search_ledger.specs.Dropped.{dropped, IsLeftOver}
use Rattle.hw_search_ledger.proofs.Dropping.{DropsNumbers, drops_result}
use Rattle.hw_search_ledger.proofs.dropped.dropped_numbers.Goals as goal

pub returns : goal.returns
returns g c =
    let stored = g.S.Store.clauses c.args.store.now in
    let earlier = filter_map (λ (n : Option ℕ). n) (take c.args.keep c.args.written.now) in
    let all = dropped c.args.written.now c.args.keep c.args.conflict in
    record {
      left = IfOk-weaker c.unkept_of.result (λ ids. DropsNumbers stored earlier all ids.items) (λ ids. IsLeftOver stored c.args.written.now c.args.keep c.args.conflict ids.items) (λ ids d. record { ascends = d.ascends; holds = d.holds; apart = d.unkept; all = d.each })
          (drops_result c.unkept_of.result stored earlier c.deref-2.result.now all c.in_ok-numbers.numbers.items c.deref.result.now c.deref.ensures.value (c.deref-2.ensures.value ∙ c.in_ok-earlier.ensures.value) c.in_ok-numbers.ensures.ascends c.in_ok-numbers.ensures.holds c.in_ok-numbers.ensures.all c.unkept_of.ensures.value);
    }
