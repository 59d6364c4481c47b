use Rattle.std.proofs.Common.{◌≡◌, ℕ, length, subst, arith, ◌∙◌}
use Rattle.std.proofs.lemmas.Option.{slice_get-get_or}
use Rattle.hw_search_sources.proofs.Adding.{next_listed, all_told, ListedUpto}
use Rattle.hw_search_sources.proofs.speakers.Speakers.new.Goals as goal

pub loop-at-preserved : goal.loop-at-preserved
loop-at-preserved c =
    let e : c.in-Ok.place ≡ c.loop-at.at = omega (arith, c.in-Ok.ensures) in
    record { same = c.in_ok-add.ensures.adds.same_ships ∙ c.loop-at.invariant.same; listed = next_listed c.args.flat.now c.args.sources.now c.loop-at.at c.in-Ok.place _ c.loop-at.speakers c.add.new.self c.loop-at.invariant.same e (slice_get-get_or c.args.sources.now c.loop-at.at _ c.loop-at-test.true) c.loop-at.invariant.listed c.in_ok-add.ensures.adds }

pub returns-clause-tells : goal.returns-clause-tells
returns-clause-tells c =
    let e : c.loop-at.at ≡ length c.args.sources.now = omega arith in
    all_told c.args.flat.now c.args.sources.now c.loop-at.speakers c.loop-at.invariant.same (subst (λ (n : ℕ). ListedUpto c.args.flat.now c.args.sources.now n c.loop-at.speakers) e c.loop-at.invariant.listed)
