use Rattle.std.proofs.Common.{[], ◌∷◌, refl}
use Rattle.hw_report.specs.Seen.{report_seen}
use Rattle.hw_command.proofs.Endings.{all_sent, cut_off, nothing_sent, sent_more}
use Rattle.hw_command_split.proofs.joining.send_both.Goals as goal

pub returns-in-Ok-print_report : goal.returns-in-Ok-print_report
returns-in-Ok-print_report g c =
    let first = report_seen c.args.first.now in
    let last = report_seen c.args.last.now in
    let one = sent_more [] first (nothing_sent (g.D.Desk.state c.args.desk.now)) refl c.in-Ok.ensures in
    let both = sent_more (first ∷ []) last one.0 one.1 c.in-Ok-print_report.ensures in
    all_sent first (last ∷ []) c.status_of.ensures both.0 both.1

pub returns-in-Err-print_report : goal.returns-in-Err-print_report
returns-in-Err-print_report g c =
    let first = report_seen c.args.first.now in
    let last = report_seen c.args.last.now in
    let one = sent_more [] first (nothing_sent (g.D.Desk.state c.args.desk.now)) refl c.in-Ok.ensures in
    cut_off (first ∷ last ∷ []) (first ∷ []) last [] refl one.0 one.1 c.in-Err-print_report.ensures

pub returns-in-Err : goal.returns-in-Err
returns-in-Err g c =
    let first = report_seen c.args.first.now in
    let last = report_seen c.args.last.now in
    cut_off (first ∷ last ∷ []) [] first (last ∷ []) refl (nothing_sent (g.D.Desk.state c.args.desk.now)) refl c.in-Err.ensures
