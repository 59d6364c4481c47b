use Rattle.std.proofs.Common.{◌≡◌, ◌∷◌, [], ℕ, List, Some, IsTrue, refl, subst, sym, ◌∙◌, ap}
use Rattle.hw_model.specs.Rooms.{RoomModel, RoomFits, point_of}
use Rattle.hw_model.specs.Timetables.{Permits, cargo, beats}
use Rattle.hw_cert_lines.specs.declared.line.Line.TheVariants as lines
use Rattle.hw_search_laws.specs.declared.outcome.Turn.TheVariants as turns
use Rattle.hw_search_laws.specs.Searches.{IsSearch, room_in, best_cargo}
use Rattle.hw_search_laws.proofs.Turned.{point_table}
use Rattle.hw_search.specs.Engines.{EngineModel}
use Rattle.hw_search_ledger.specs.Handing.{TakesAll, StopsWithin}
use Rattle.hw_search.specs.Turning.{turn_of, halted}
use Rattle.hw_search.proofs.Kept.{room_here}
use Rattle.hw_search.proofs.Answering.{better_meets, table_stops}
use Rattle.hw_search.proofs.Ending.{turned}
use Rattle.hw_search.proofs.Faults.{stop_keeps}
use Rattle.hw_search.proofs.engine.Engine.improve.Goals as goal

pub hand_table-requires-clause-room : goal.hand_table-requires-clause-room
hand_table-requires-clause-room g c = subst (RoomFits c.self.inside.flat.now) (sym c.room.ensures.value) (room_here _ c.self.invariant.0.search)

pub take_best-requires-clause-permitted : goal.take_best-requires-clause-permitted
take_best-requires-clause-permitted g c =
    let s0 = c.args.self.now.search in
    let is : IsSearch s0 = subst (λ (e : EngineModel). IsSearch e.search) c.self.view_is c.self.invariant.0.search in
    let room : c.room.result.now ≡ room_in s0 = c.room.ensures.value ∙ ap (λ (e : EngineModel). room_in e.search) c.self.view_is in
    let p = point_table s0 is c.requires.quiet c.requires.point in
    subst (Permits s0.problem) (sym (c.in-Ok.ensures.value ∙ ap point_of room)) p.0

pub take_best-requires-clause-better : goal.take_best-requires-clause-better
take_best-requires-clause-better g c =
    let s0 = c.args.self.now.search in
    let is : IsSearch s0 = subst (λ (e : EngineModel). IsSearch e.search) c.self.view_is c.self.invariant.0.search in
    let room : c.room.result.now ≡ room_in s0 = c.room.ensures.value ∙ ap (λ (e : EngineModel). room_in e.search) c.self.view_is in
    let p = point_table s0 is c.requires.quiet c.requires.point in
    let P : List ℕ → Type 0 = λ row. (n : ℕ) × (cargo s0.problem row ≡ Some n) × IsTrue (beats n (best_cargo s0)) in
    subst P (sym (c.in-Ok.ensures.value ∙ ap point_of room)) (p.1, p.2, p.3)

pub returns-in-Ok-clause-turns : goal.returns-in-Ok-clause-turns
returns-in-Ok-clause-turns g c = λ s b settles.
    let s0 = c.args.self.now.search in
    let room : c.room.result.now ≡ room_in s0 = c.room.ensures.value ∙ ap (λ (e : EngineModel). room_in e.search) c.self.view_is in
    let P : RoomModel → Type 0 = λ r. TakesAll (lines.Table (point_of r) ∷ []) (g.L.Log.state c.args.log.now) (g.L.Log.state c.hand_table.new.log) in
    turned s (g.L.Log.state c.args.log.now) (g.L.Log.state c.hand_table.new.log) turns.Better turns.Better (record s0 { best = Some (point_of (room_in s0)) }) c.take_best.new.self.search refl (c.take_best.ensures.search ∙ ap (λ row. record s0 { best = Some row }) (c.in-Ok.ensures.value ∙ ap point_of room))
    (better_meets s s0 (g.L.Log.state c.args.log.now) (g.L.Log.state c.hand_table.new.log) b settles c.requires.point (subst P room c.in-Ok.ensures.takes))

pub returns-in-Err-clause-turns : goal.returns-in-Err-clause-turns
returns-in-Err-clause-turns g c = λ s b settles.
    let s0 = c.args.self.now.search in
    let stop = c.in-Err.stop in
    let room : c.room.result.now ≡ room_in s0 = c.room.ensures.value ∙ ap (λ (e : EngineModel). room_in e.search) c.self.view_is in
    let P : RoomModel → Type 0 = λ r. StopsWithin stop (lines.Table (point_of r) ∷ []) 0 (g.L.Log.state c.args.log.now) (g.L.Log.state c.hand_table.new.log) in
    turned s (g.L.Log.state c.args.log.now) (g.L.Log.state c.hand_table.new.log) (turn_of stop) c.halt.result (halted s0 s0.written s0.clause_lines) c.halt.new.self.search c.halt.ensures.value c.halt.ensures.search
    (table_stops s s0 s0.written s0.clause_lines stop (g.L.Log.state c.args.log.now) (g.L.Log.state c.hand_table.new.log) b settles c.requires.point (subst P room c.in-Err.ensures.stops))

pub returns-in-Ok-clause-kept : goal.returns-in-Ok-clause-kept
returns-in-Ok-clause-kept g c = c.in-Ok.ensures.takes.faults

pub returns-in-Err-clause-kept : goal.returns-in-Err-clause-kept
returns-in-Err-clause-kept g c = stop_keeps c.in-Err.stop c.halt.result (g.L.Log.state c.args.log.now) (g.L.Log.state c.args.log.now) (g.L.Log.state c.hand_table.new.log) c.halt.ensures.value refl c.in-Err.ensures.stops.cause
