use Rattle.hw_flat.proofs.DrawnFits.{made_fits}
use Rattle.hw_flat.proofs.demo.make_demo.Goals as goal

pub invariant_of-result : goal.invariant_of-result
invariant_of-result c = made_fits c.words_of-words.result _ c.args.ships c.args.slots _ _ c.requires.some_ship c.requires.few_ships c.requires.some_slot c.requires.few_slots c.in_ok-values.ensures c.in_ok-rules.ensures
