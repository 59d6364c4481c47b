use Rattle.hw_model.specs.Rooms.{point_of}
use Rattle.hw_search_ledger.proofs.Named.{table_stopped}
use Rattle.hw_search_ledger.proofs.writing.hand_table.Goals as goal

pub returns-in-Err-clause-stops : goal.returns-in-Err-clause-stops
returns-in-Err-clause-stops g c = table_stopped c.in_ok-table.table (point_of c.args.room.now) c.in-Err.stop (g.L.Log.state c.args.log.now) (g.L.Log.state c.line.new.self) c.in_ok-table.ensures.value c.requires.whole c.in-Err.ensures.takes
