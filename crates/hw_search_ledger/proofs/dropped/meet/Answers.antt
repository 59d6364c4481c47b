use Rattle.std.proofs.Common.{◌≡◌, ℕ, length, get_or, take, subst, sym, arith}
use Rattle.std.specs.Prelude.{Contains}
use Rattle.std.proofs.Math.Seq.{take-length}
use Rattle.hw_search_ledger.proofs.Dropping.{apart_more, not_found}
use Rattle.hw_search_ledger.proofs.dropped.meet.Goals as goal

pub loop-number-preserved : goal.loop-number-preserved
loop-number-preserved c = apart_more c.args.numbers.now c.args.earlier.now c.loop-number.number-index 0 c.loop-number-test.true
    (not_found c.args.numbers.now (get_or c.args.earlier.now c.loop-number.number-index 0) c.binary_search.result c.binary_search.ensures.position c.requires.ascends (sym c.if-is_ok.ensures.value))
    c.loop-number.invariant

pub returns : goal.returns
returns c =
    let e : c.loop-number.number-index ≡ length c.args.earlier.now = omega arith in
    record { apart = λ n there here. c.loop-number.invariant n there (subst (λ (i : ℕ). Contains (take i c.args.earlier.now) n) (sym e) (subst (λ xs. Contains xs n) (sym (take-length c.args.earlier.now)) here)) }
