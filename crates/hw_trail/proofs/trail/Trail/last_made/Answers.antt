use Rattle.std.proofs.Common.{◌≡◌, arith, subst}
use Rattle.hw_trail.proofs.Made.{NoneFrom, none_at_all}
use Rattle.hw_trail.proofs.trail.Trail.last_made.Goals as goal

pub returns-clause-value : goal.returns-clause-value
returns-clause-value c =
    let z : c.loop-place.place ≡ 0 = omega (arith, c.loop-place-test.false) in
    none_at_all c.args.self.now c.args.lit c.len-place.ensures.trail c.requires.fits (subst (NoneFrom c.args.self.now c.args.lit) z c.loop-place.invariant.1)
