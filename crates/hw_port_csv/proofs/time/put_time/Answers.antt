use Rattle.std.proofs.Common.{ap}
use Rattle.hw_desk.proofs.Written.{puts_on, puts_same}
use Rattle.hw_port.specs.Whole.{Parts}
use Rattle.hw_port_csv.proofs.Plain.{time_as_it_is}
use Rattle.hw_port_csv.proofs.time.put_time.Goals as goal

pub returns : goal.returns
returns g c =
    let same = ap (λ (q : Parts). q.start) c.parts.view_is in
    puts_same _ (time_as_it_is c.args.parts.now c.parts.inside.start c.args.slot c.minutes_before.result same c.requires.kept.start c.minutes_before.ensures) (puts_on c.put_comma.ensures c.put_minutes.ensures)
