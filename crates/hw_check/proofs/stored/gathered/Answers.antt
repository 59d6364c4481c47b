use Rattle.hw_check.proofs.Storing.{gathering_dead, gathering_live}
use Rattle.hw_check.proofs.stored.gathered.Goals as goal
use Rattle.hw_check.proofs.stored.gathered.Goals.{then-place+in_ok-add, else-place}

pub loop-place-preserved : goal.loop-place-preserved
loop-place-preserved c = elim c.if-place.branch [
  | then-place+in_ok-add w ↦ rw (w.stored-is, w.in_ok-add.ensures.lits, w.in_ok-add.ensures.places, w.lits_at.ensures.value) (gathering_live c.args.lits.now c.args.places.now c.loop-place.stored.lits.items c.loop-place.stored.places.items c.loop-place.place-index _ c.loop-place-test.true w.if-place.true c.loop-place.invariant)
  | else-place w ↦ rw w.stored-is (gathering_dead c.args.lits.now c.args.places.now c.loop-place.stored.lits.items c.loop-place.stored.places.items c.loop-place.place-index _ c.loop-place-test.true w.if-place.false c.loop-place.invariant)
]
