use Rattle.std.proofs.Common.{sym, subst}
use Rattle.hw_lits.specs.Normal.{IsNormal}
use Rattle.hw_prop.proofs.Laws.{plain_is_normal}
use Rattle.hw_prop.proofs.writing.plain.Goals as goal

pub of_normal-requires : goal.of_normal-requires
of_normal-requires c = record { normal = subst IsNormal (sym c.in_ok-lits.ensures.value) (plain_is_normal c.args.room.now c.args.ships.now c.args.pairs.now c.ships-ships.ensures.room c.requires.ships c.requires.pairs) }
