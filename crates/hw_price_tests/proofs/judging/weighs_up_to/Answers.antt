use Rattle.std.proofs.Common.{◌∙◌}
use Rattle.hw_price_tests.proofs.Judged.{small_hour}
use Rattle.hw_price_tests.proofs.judging.weighs_up_to.Goals as goal

pub jobs_weigh-requires-clause-small_fleet : goal.jobs_weigh-requires-clause-small_fleet
jobs_weigh-requires-clause-small_fleet c = small_hour 40 c.in-Tugs.fleet c.args.slot c.fleet_in.result c.args.rule.now c.in-Tugs.later c.deref.result.now c.in-Tugs.jobs c.in-Tugs.is (c.deref.ensures.value ∙ c.later.view_is) c.fleet_in.ensures.value c.requires.fits
