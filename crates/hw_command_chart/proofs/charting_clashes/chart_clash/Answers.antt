use Rattle.hw_subject.specs.Subjects.{port_subject}
use Rattle.hw_command_chart.proofs.ClashCharted.{clash_charted, clash_unread, columns_in, lines_in}
use Rattle.hw_command_chart.proofs.charting_clashes.chart_clash.Goals as goal

pub draw_checked-requires : goal.draw_checked-requires
draw_checked-requires g c = record { lines = lines_in c.in-Ok.ensures.checked; columns = columns_in c.in-Ok.ensures.checked }

pub returns-in-Ok : goal.returns-in-Ok
returns-in-Ok g c = clash_charted c.in-Ok.ensures.checked c.draw_checked.ensures

pub returns-in-Err : goal.returns-in-Err
returns-in-Err g c = clash_unread {s = port_subject c.args.port.instance.now c.args.port.tides.now} {name = c.args.clash.now} {cert = c.args.cert.now} c.in-Err.ensures.stops c.finish.ensures
