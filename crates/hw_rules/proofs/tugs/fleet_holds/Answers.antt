use Rattle.std.proofs.Common.{sum_by}
use Rattle.std.specs.List.{range_with_len}
use Rattle.hw_model.specs.Problem.{horizon}
use Rattle.hw_model.specs.Rules.{held_by, fleet_in}
use Rattle.hw_rules.proofs.Passes.{all_keep}
use Rattle.hw_rules.proofs.tugs.fleet_holds.Goals as goal

pub returns : goal.returns
returns c = record { value = all_keep (fleet_in c.args.fleet c.args.later.now) (λ slot. sum_by (held_by c.args.table.now slot) c.args.jobs.now) (range_with_len 0 (horizon c.args.flat.now)) _ _ c.overfull.ensures.value c.is_none.ensures }
