use Rattle.hw_rules.proofs.Meets.{precedence_answer}
use Rattle.hw_rules.proofs.precedence.precedence_refuted.Goals as goal

pub returns : goal.returns
returns c = record {
  value =
      precedence_answer c.args.flat.now c.args.room.now c.args.v c.args.w c.args.gap c.two_refuted.result c.requires.two_ships
      (rw (c.two_of.ensures.value, c.one_hole-rule.ensures.value) at c.two_of.ensures.slots) (rw (c.two_of.ensures.value, c.one_hole-rule.ensures.value, c.sailing_slots-horizon.ensures.value) at c.two_refuted.ensures);
}
