use Rattle.hw_draft.proofs.Assembling.{assembled_fits, assembled_same, assembled_written}
use Rattle.hw_draft.proofs.flattening.assembled.Goals as goal

pub invariant_of-result : goal.invariant_of-result
invariant_of-result c = assembled_fits c.args.port.now c.args.tide.now _ c.requires.kept c.ship_count.ensures c.slot_count.ensures c.requires.stay c.requires.values c.requires.rules

pub returns-clause-same : goal.returns-clause-same
returns-clause-same c = assembled_same c.args.port.now c.args.tide.now _ c.requires.kept c.ship_count.ensures c.slot_count.ensures c.requires.stay c.requires.values c.requires.rules

pub returns-clause-writable : goal.returns-clause-writable
returns-clause-writable c = assembled_written c.args.port.now c.args.tide.now _ c.requires.kept c.ship_count.ensures c.slot_count.ensures c.requires.stay c.requires.values c.requires.rules
