use Rattle.std.proofs.Common.{◌≤◌, ◌^◌, arith}
use Rattle.hw_flat.specs.Opened.{shape_in}
use Rattle.hw_lits.specs.Normal.{widest_shape}
use Rattle.hw_lits.proofs.Forms.{clause_wider}
use Rattle.hw_lits.proofs.spelling.clause_of_room.Goals as goal

pub of_normal-requires : goal.of_normal-requires
of_normal-requires c =
    let wide : c.args.room.now.slots ≤ 2 ^ 32 = omega (arith, c.ships.ensures.room.few_slots) in
    record { normal = clause_wider (shape_in c.args.room.now) widest_shape c.in_ok-lits.lits.items c.ships.ensures.room.few wide c.in_ok-lits.ensures.normal }
