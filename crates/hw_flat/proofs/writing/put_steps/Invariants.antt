use Rattle.std.proofs.Common.{◌≡◌, ◌++◌, map, drop}
use Rattle.hw_flat.specs.TextWritten.{led, step_text}
use Rattle.hw_flat.proofs.writing.put_steps.Given as goal

abbrev pub invariant-loop-step : goal.invariant-loop-step
invariant-loop-step l = l.out.items ++ led (map step_text (drop l.step-index l.steps)) ≡ l.fn.out.items ++ led (map step_text l.steps)
