use Rattle.hw_report.specs.Reports.{whole_text}
use Rattle.hw_report.specs.Seen.{report_seen}
use Rattle.hw_command_texts.proofs.Linting.{both_sent, first_cut, second_cut}
use Rattle.hw_command_texts.proofs.lint.send_both.Goals as goal

pub returns-in-Ok-print_report : goal.returns-in-Ok-print_report
returns-in-Ok-print_report g c = both_sent (whole_text c.args.hints.now) (report_seen c.args.refusal.now) c.status_of.ensures (rw c.whole_report-whole.ensures.value at c.in-Ok.ensures) c.in-Ok-print_report.ensures

pub returns-in-Err-print_report : goal.returns-in-Err-print_report
returns-in-Err-print_report g c = second_cut (whole_text c.args.hints.now) (report_seen c.args.refusal.now) (rw c.whole_report-whole.ensures.value at c.in-Ok.ensures) c.in-Err-print_report.ensures

pub returns-in-Err : goal.returns-in-Err
returns-in-Err g c = first_cut (whole_text c.args.hints.now) (report_seen c.args.refusal.now) (rw c.whole_report-whole.ensures.value at c.in-Err.ensures)
