use Rattle.std.proofs.Common.{arith, subst, ◌≡◌, ◌<◌, ◌+◌, ◌-◌, ◌/◌, ℕ, length}
use Rattle.hw_store.specs.Stores.{IsClauseOf}
use Rattle.hw_store.proofs.Holding.{only_one, below_half, above_half}
use Rattle.hw_store.proofs.scan.find.Goals as goal

pub returns-then-one-id : goal.returns-then-one-id
returns-then-one-id c =
    let m : ℕ = c.loop-low.low + (c.loop-low.high - c.loop-low.low) / 2 in
    let lt : m < length c.args.held.now = omega (arith, c.loop-low.invariant.0, c.loop-low.invariant.1) in
    let e : c.index-held-middle.result.number ≡ c.args.id = omega arith in
    record { tells = subst (λ n. IsClauseOf c.args.held.now n c.index-held-middle.result.clause) e (only_one c.args.held.now m c.index-held-middle.result c.requires.ascends lt c.index-held-middle.is) }

pub loop-low-preserved-then-one-id-2 : goal.loop-low-preserved-then-one-id-2
loop-low-preserved-then-one-id-2 c =
    let m : ℕ = c.loop-low.low + (c.loop-low.high - c.loop-low.low) / 2 in
    let lt : m < c.loop-low.high = omega (arith, c.loop-low.invariant.0) in
    let inside : m < length c.args.held.now = omega (arith, lt, c.loop-low.invariant.1) in
    let less : c.index-held-middle.result.number < c.args.id = omega arith in
    (omega (arith, lt), c.loop-low.invariant.1, below_half c.args.held.now c.args.id m c.index-held-middle.result c.requires.ascends inside c.index-held-middle.is less, c.loop-low.invariant.3)

pub loop-low-preserved : goal.loop-low-preserved
loop-low-preserved c =
    let m : ℕ = c.loop-low.low + (c.loop-low.high - c.loop-low.low) / 2 in
    let lt : m < c.loop-low.high = omega (arith, c.loop-low.invariant.0) in
    let inside : m < length c.args.held.now = omega (arith, lt, c.loop-low.invariant.1) in
    let more : c.args.id < c.index-held-middle.result.number = omega arith in
    (omega arith, omega (arith, inside), c.loop-low.invariant.2, above_half c.args.held.now c.args.id m c.index-held-middle.result c.requires.ascends inside c.index-held-middle.is more)
