use Rattle.std.proofs.Common.{◌∙◌, arith}
use Rattle.hw_store.proofs.Marking.{marks_twice}
use Rattle.hw_store.proofs.Sifting.{run_more, ahead_more}
use Rattle.hw_store.proofs.watch.WatchStore.mark_run.Goals as goal

pub loop-bucket-preserved : goal.loop-bucket-preserved
loop-bucket-preserved c =
    let old = c.loop-bucket.self in
    let new = c.mark_at.new.self in (
      record { held = c.mark_at.ensures.same.held ∙ c.loop-bucket.invariant.0.held; seen = c.mark_at.ensures.same.seen ∙ c.loop-bucket.invariant.0.seen },
      marks_twice c.args.self.now.watched c.loop-bucket.self.watched c.mark_at.new.self.watched c.loop-bucket.invariant.1 c.mark_at.ensures.marks,
      run_more old.watched.ships old.watched.slots c.args.first c.loop-bucket.bucket c.args.cutting old.watched.watches new.watched.watches c.args.self.now.lists old.lists new.lists c.loop-bucket.invariant.2 c.loop-bucket.invariant.3 c.mark_at.ensures.marks.drops c.mark_at.ensures.sifted,
      ahead_more old.watched.ships old.watched.slots c.loop-bucket.bucket c.args.cutting new.watched.watches c.args.self.now.lists old.lists new.lists c.mark_at.ensures.sifted c.loop-bucket.invariant.3,
      c.mark_at.ensures.sifted.same_length ∙ c.loop-bucket.invariant.4,
    )

pub returns-clause-missed : goal.returns-clause-missed
returns-clause-missed c = λ n p le lt h. c.loop-bucket.invariant.2 n p le (omega (arith, lt)) h
