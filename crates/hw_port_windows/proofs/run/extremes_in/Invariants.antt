use Rattle.std.proofs.Common.{◌≡◌, ◌-◌, ◌<◌}
use Rattle.hw_port_model.specs.Numbers.{horizon_of}
use Rattle.hw_port_windows.specs.Runs.{deepest, lightest}
use Rattle.hw_port_windows.specs.Windows.{drafts}
use Rattle.hw_port_windows.proofs.run.extremes_in.Given as goal

abbrev pub invariant-loop-slot : goal.invariant-loop-slot
invariant-loop-slot l = record {
  light : l.light ≡ lightest (drafts l.asked) l.fn.run.first (l.slot - l.fn.run.first);
  light_inside : l.light < horizon_of l.asked.port;
  deep : l.deep ≡ deepest (drafts l.asked) l.fn.run.first (l.slot - l.fn.run.first);
  deep_inside : l.deep < horizon_of l.asked.port;
}
