use Rattle.std.proofs.Common.{refl}
use Rattle.hw_desk.proofs.Written.{flushed, answered}
use Rattle.hw_desk.specs.Writers.{answer_of}
use Rattle.hw_desk.proofs.writer.TrayWriterWriter.flush.Goals as goal

pub returns-then-self : goal.returns-then-self
returns-then-self g c = record {
  flushes = flushed _ _ (answer_of c.is_spent-self.result) _ refl refl c.clear.ensures c.if-self.true c.is_spent-self.ensures.stays (λ going. (rw c.as_slice.ensures at c.is_spent-self.ensures.sends going, answered c.is_spent-self.result));
}

pub returns-else-self : goal.returns-else-self
returns-else-self g c = record {
  flushes = flushed _ _ (answer_of c.is_spent-self.result) _ refl refl c.clear.ensures c.if-self.false c.is_spent-self.ensures.stays (λ going. (rw c.as_slice.ensures at c.is_spent-self.ensures.sends going, answered c.is_spent-self.result));
}
