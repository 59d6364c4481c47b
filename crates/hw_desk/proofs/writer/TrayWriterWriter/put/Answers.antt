use Rattle.std.proofs.Common.{◌<◌, ◌+◌, refl, arith, length}
use Rattle.hw_desk.proofs.Written.{flush_then_put, puts_sent, answered}
use Rattle.hw_desk.specs.Writers.{answer_of}
use Rattle.hw_desk.proofs.writer.TrayWriterWriter.put.Goals as goal

pub returns-else-has_room-2 : goal.returns-else-has_room-2
returns-else-has_room-2 g c =
    let full : 8192 < length c.args.self.now.waiting + length c.args.bytes.now = search arith in
    let none = c.flush-answer.ensures.flushes.waiting in
    let long : 8192 < length c.args.bytes.now = search arith in
    record { puts = flush_then_put full c.flush-answer.ensures.flushes (puts_sent _ _ c.args.bytes.now (answer_of c.is_spent-self.result) refl refl none none long c.is_spent-self.ensures.stays (λ going. (c.is_spent-self.ensures.sends going, answered c.is_spent-self.result))) }
