use Rattle.hw_rules.proofs.Meets.{pair_answer}
use Rattle.hw_rules.proofs.pair.pair_refuted.Goals as goal

pub returns : goal.returns
returns c = record {
  value =
      pair_answer c.args.flat.now c.args.room.now c.args.v c.args.w c.args.holes.now c.two_refuted.result c.requires.ascends
      (rw c.two_of.ensures.value at c.two_of.ensures.slots) (rw (c.two_of.ensures.value, c.sailing_slots-horizon.ensures.value) at c.two_refuted.ensures);
}
