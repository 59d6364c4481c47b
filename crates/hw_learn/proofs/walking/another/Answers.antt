use Rattle.std.proofs.Common.{◌≡◌, ◌-◌, ◌+◌, ℕ, arith, sym, subst}
use Rattle.std.proofs.lemmas.Bool.{MatchBool-at_false}
use Rattle.hw_trail_laws.specs.Knowing.{knows}
use Rattle.hw_trail_laws.specs.Bridge.{story_of}
use Rattle.hw_trail_laws.specs.Passes.{NoHit}
use Rattle.hw_learn.proofs.Hits.{no_hit_lower}
use Rattle.hw_learn.proofs.walking.another.Goals as goal

pub loop-earlier-preserved : goal.loop-earlier-preserved
loop-earlier-preserved c =
    let e : c.loop-earlier.earlier - 1 + 1 ≡ c.loop-earlier.earlier = omega (arith, c.loop-earlier-test.true) in (
      omega (arith, c.loop-earlier.invariant.0),
      no_hit_lower (story_of c.args.trail.now) (c.loop-earlier.earlier - 1) c.args.place (knows c.args.held.now)
          (subst (λ (n : ℕ). NoHit (story_of c.args.trail.now) n c.args.place (knows c.args.held.now)) (sym e) c.loop-earlier.invariant.1)
          (MatchBool-at_false _ _ c.if-hit.false c.hit.ensures.answer),
    )

pub returns : goal.returns
returns c = record { answer = λ q from below. c.loop-earlier.invariant.1 q (omega (arith, from, c.loop-earlier-test.false)) below }
