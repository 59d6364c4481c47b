use Rattle.std.proofs.Common.{◌≡◌, ◌-◌, ◌∙◌, ap, refl, arith}
use Rattle.hw_port_windows.specs.Runs.{deepest, lightest}
use Rattle.hw_port_windows.specs.Windows.{drafts}
use Rattle.hw_port_windows.proofs.Extremes.{deepest_on, lightest_on}
use Rattle.hw_port_windows.proofs.run.extremes_in.Goals as goal

pub loop-slot-init : goal.loop-slot-init
loop-slot-init c =
    let none : c.args.run.first - c.args.run.first ≡ 0 = omega arith in
    record {
      light = rw none refl;
      light_inside = omega arith;
      deep = rw none refl;
      deep_inside = omega arith;
    }

pub loop-slot-preserved : goal.loop-slot-preserved
loop-slot-preserved c = record {
  light = c.lighter-light.ensures.value ∙ lightest_on (drafts c.args.asked.now) c.args.run.first c.loop-slot.slot c.loop-slot.light (omega arith) c.loop-slot.invariant.light;
  light_inside = c.lighter-light.ensures.inside;
  deep = c.deeper-deep.ensures.value ∙ deepest_on (drafts c.args.asked.now) c.args.run.first c.loop-slot.slot c.loop-slot.deep (omega arith) c.loop-slot.invariant.deep;
  deep_inside = c.deeper-deep.ensures.inside;
}

pub returns-clause-light : goal.returns-clause-light
returns-clause-light c =
    let at : c.loop-slot.slot ≡ c.args.run.last = omega arith in
    c.loop-slot.invariant.light ∙ ap (λ slot. lightest (drafts c.args.asked.now) c.args.run.first (slot - c.args.run.first)) at

pub returns-clause-deep : goal.returns-clause-deep
returns-clause-deep c =
    let at : c.loop-slot.slot ≡ c.args.run.last = omega arith in
    c.loop-slot.invariant.deep ∙ ap (λ slot. deepest (drafts c.args.asked.now) c.args.run.first (slot - c.args.run.first)) at
