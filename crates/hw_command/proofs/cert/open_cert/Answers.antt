use Rattle.std.proofs.Common.{◌≡◌, rules}
use Rattle.hw_desk.specs.declared.desk.Feed.TheVariants.{Certificate}
use Rattle.hw_command.proofs.Kept.{open_is}
use Rattle.hw_command.proofs.cert.open_cert.Goals as goal

pub returns : goal.returns
returns g c =
    let x = g.D.Desk.state c.args.desk.now in
    let y = g.D.Desk.state c.begin.new.self in
    let begins = c.begin.ensures.begins in
    let opened : (y.feeds Certificate).left ≡ x.held c.args.name.now = search rules in
    let kept : y.read_faults ≡ x.read_faults = search rules in
    record {
      enters = record { only = begins.only; begun = begins.begun; named = begins.named };
      answer = (open_is c.shape-shape.result c.in-Ok.reader c.in-Ok-new.checker c.shape-shape.ensures.value c.in-Ok.ensures.value c.in-Ok-new.ensures.state c.in-Ok-new.ensures.followed begins.begun opened, kept);
    }
