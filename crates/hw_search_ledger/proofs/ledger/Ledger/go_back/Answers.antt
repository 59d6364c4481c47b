use Rattle.std.proofs.Common.{length, sym, ◌∙◌, ap, arith}
use Rattle.hw_model.specs.Rooms.{RoomModel}
use Rattle.hw_trail_laws.specs.Trails.{TrailModel}
use Rattle.hw_search_ledger.proofs.Tidying.{trail_ships, fewer_back}
use Rattle.hw_search_ledger.proofs.ledger.Ledger.go_back.Goals as goal

pub undone-requires : goal.undone-requires
undone-requires g c = record { fits = ap (λ (r : RoomModel). r.ships) c.room.ensures.value ∙ trail_ships c.back_to.new.self c.room.ensures.trail ∙ ap (λ (t : TrailModel). t.ships) c.back_to.ensures.value ∙ sym c.requires.ships }

pub tidy-tidied-requires-clause-each_event : goal.tidy-tidied-requires-clause-each_event
tidy-tidied-requires-clause-each_event g c = omega (arith, fewer_back c.args.trail.now c.args.level, ap (λ (t : TrailModel). length t.events) c.back_to.ensures.value, c.requires.each_event)
