-- A search whose lines go to Proof.
use Rattle.std.specs.Prelude.{◌≡◌, ◌≤◌, ℕ, List, [], Option, Some, None, IfSome, true}
use Rattle.hw_model.specs.Problem.{Problem}
use Rattle.hw_model.specs.Timetables.{Permits}
use Rattle.hw_desk.specs.Calls.{OnlyTray}
use Rattle.hw_desk.specs.State.{DeskState, Rose}
use Rattle.hw_desk.specs.declared.desk.Tray.TheVariants as tray
use Rattle.hw_cert_laws.specs.Laws.{IsBound}
use Rattle.hw_cert.specs.Logs.{LogModel, LogTold, WhereTold}
use Rattle.hw_cert.specs.Told.{log_of}
use Rattle.hw_command_search.specs.Certified.{HeadMeans, BoundIsAbove, IsWritten, ShowsHead, IsCertificate, IsCutLine, IsCutShort}
use Rattle.hw_command_search.specs.Searchers.{Searcher}
use Rattle.hw_command_search.specs.declared.finding.Found.{Found}

-- what was found of the problem that was searched is true
pub record FoundIsTrue (q : Searcher) (f : Problem) (budget : ℕ) (found : Found) : Type 0 where
  pub permitted : IfSome found.table (Permits f)
  pub means : HeadMeans f budget (q.most f) found.head found.table
  pub bounded : IfSome found.bound (IsBound f)
  pub above : BoundIsAbove f found.head found.table found.bound

-- ---- on a log

-- whole lines of the search show what was found
pub record TellsFound (q : Searcher) (f : Problem) (budget : ℕ) (found : Found) (told : LogTold) : Type 0 where
  pub whole : told.remainder ≡ []
  pub written : IsWritten q f budget told.lines
  pub shows : ShowsHead f None budget found.head found.table found.bound told.lines

-- lines of the search, and a part of the next one
pub record TellsCut (q : Searcher) (f : Problem) (budget : ℕ) (told : LogTold) : Type 0 where
  pub written : IsWritten q f budget told.lines
  pub next : IsCutLine q f told

-- what a search leaves: what was found, the log not having failed; or a log that failed
abbrev pub LogLeaves : Searcher → Problem → ℕ → LogModel → LogModel → Option Found → Type 0
LogLeaves q f budget old new (Some found) = (new.faults ≡ old.faults) × FoundIsTrue q f budget found × WhereTold new (TellsFound q f budget found)
LogLeaves q f budget old new None = Rose old.faults new.faults × WhereTold new (TellsCut q f budget)

pub record SearchMeets (q : Searcher) (f : Problem) (budget : ℕ) (old : LogModel) (found : Option Found) (new : LogModel) : Type 0 where
  pub later : old.faults ≤ new.faults
  pub leaves : LogLeaves q f budget old new found

-- ---- on Proof

-- the same of a desk whose Proof holds the header of a certificate of the search
abbrev pub SearchesOn : Searcher → Problem → ℕ → DeskState → Option Found → DeskState → Type 0
SearchesOn q f budget old found new = SearchMeets q f budget (log_of q.version old) found (log_of q.version new)

-- what is on Proof after a search: a certificate that shows what was found; or what a failed make or write leaves
abbrev pub SearchLeaves : Searcher → Problem → ℕ → DeskState → DeskState → Option Found → Type 0
SearchLeaves q f budget old new (Some found) = (new.write_faults ≡ old.write_faults) × FoundIsTrue q f budget found × IfSome (new.trays tray.Proof).sent (IsCertificate q f None budget found.head found.table found.bound)
SearchLeaves q f budget old new None = Rose old.write_faults new.write_faults × IsCutShort q f budget new

-- Proof was made under its name, and a search wrote to it
pub record SearchesTo (q : Searcher) (f : Problem) (budget : ℕ) (name : List ℕ) (old new : DeskState) (found : Option Found) : Type 0 where
  pub only : OnlyTray tray.Proof old new
  pub made : (new.trays tray.Proof).made ≡ true
  pub named : IfSome (new.trays tray.Proof).name (λ n. n ≡ name)
  pub leaves : SearchLeaves q f budget old new found
