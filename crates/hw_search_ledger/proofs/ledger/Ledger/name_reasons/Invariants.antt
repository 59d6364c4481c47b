use Rattle.std.proofs.Common.{◌≡◌, take, fold}
use Rattle.hw_search_laws.specs.Searches.{SearchModel}
use Rattle.hw_search_laws.specs.Turns.{cite}
use Rattle.hw_search_ledger.specs.Handing.{TakesAll}
use Rattle.hw_search_ledger.specs.Ledgers.{GivesAtMost}
use Rattle.hw_search_ledger.specs.Naming.{search_by, naming, Numbers}
use Rattle.hw_search_ledger.proofs.ledger.Ledger.name_reasons.Given as goal

abbrev pub invariant-loop-place : goal.invariant-loop-place
invariant-loop-place g l = record {
  lines : (s : SearchModel) → TakesAll (fold cite (naming (search_by s l.flat l.trail l.fn.self) l.fn.hints.items) (take l.place-index l.places)).lines (g.L.Log.state l.fn.log) (g.L.Log.state l.log);
  names : (s : SearchModel) → Numbers (fold cite (naming (search_by s l.flat l.trail l.fn.self) l.fn.hints.items) (take l.place-index l.places)) l.self.written l.self.clause_lines l.hints.items;
  gives : GivesAtMost l.place-index l.fn.self l.self;
  same_reference : g.L.Log.anchor l.log ≡ g.L.Log.anchor l.fn.log;
}
