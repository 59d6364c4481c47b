use Rattle.std.proofs.Common.{◌≡◌, ◌+◌, ◌-◌, ◌++◌, ◌∙◌, ap, arith}
use Rattle.hw_desk.proofs.Written.{puts_nothing, puts_on, puts_same}
use Rattle.hw_port_windows.specs.Runs.{runs}
use Rattle.hw_port_windows.specs.Windows.{run_line, run_lines, statuses}
use Rattle.hw_port_windows.proofs.windows.+put_runs.Goals as goal

pub returns-else-run-span : goal.returns-else-run-span
returns-else-run-span g t c =
    let none : c.args.span.last + 1 - (c.first_run-run.result.last + 1) ≡ 0 = omega arith in
    puts_same _ (ap (run_lines c.args.asked.now) c.first_run-run.ensures.runs ∙ ap (λ n. run_line c.args.asked.now c.first_run-run.result ++ run_lines c.args.asked.now (runs (statuses c.args.asked.now) (c.first_run-run.result.last + 1) n)) none) (puts_on c.put_run.ensures (puts_nothing _))
