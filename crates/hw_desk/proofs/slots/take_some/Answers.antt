use Rattle.std.proofs.Common.{◌≡◌, ◌+◌, drop, arith}
use Rattle.std.proofs.lemmas.Grind.{common_steps}
use Rattle.hw_desk.proofs.Left.{left_past}
use Rattle.hw_desk.specs.Files.{left_at}
use Rattle.hw_desk.proofs.slots.take_some.Goals as goal

pub returns-clause-moved : goal.returns-clause-moved
returns-clause-moved c =
    let sum : c.saturating_add-slot.result ≡ c.args.slot.now.at + c.min-count.result = grind arith in
    let past = left_past c.args.files.now c.args.slot.now.file c.args.slot.now.at c.min-count.result in
    let moved : left_at c.args.files.now c.args.slot.now.file c.saturating_add-slot.result ≡ drop c.min-count.result (left_at c.args.files.now c.args.slot.now.file c.args.slot.now.at) = cc in
    grind (arith, common_steps)
