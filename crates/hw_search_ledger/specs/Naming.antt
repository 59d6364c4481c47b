-- Reasons and conflicts that are named by the numbers of their lines, and written where they have none.
use Rattle.std.specs.Prelude.{◌≡◌, ℕ, ◌+◌, ◌≤◌, List, [], Option, Some, None, Result, Ok, Err, IfSome, fold, length}
use Rattle.hw_model.specs.Problem.{Problem}
use Rattle.hw_model.specs.Refuting.{IsSourceOf}
use Rattle.hw_trail_laws.specs.declared.event.Why.{Why}
use Rattle.hw_trail_laws.specs.declared.event.Why.TheVariants as whys
use Rattle.hw_trail_laws.specs.Trails.{TrailModel}
use Rattle.hw_cert.specs.declared.log.LogStop.{LogStop}
use Rattle.hw_cert.specs.Logs.{LogModel}
use Rattle.hw_learn.specs.declared.learning.Learnt.{Learnt}
use Rattle.hw_search_laws.specs.Searches.{SearchModel, why_at}
use Rattle.hw_search_laws.specs.Turns.{Cited, cite, cited, cite_conflict}
use Rattle.hw_search_ledger.specs.Handing.{Hands, HandsLemma}
use Rattle.hw_search_ledger.specs.Ledgers.{LedgerModel}
use Rattle.hw_search_ledger.specs.declared.writing.WrittenLemma.{WrittenLemma}

-- the number by which a clause is named already: that of a stored lemma, or that of the line that was written for it
abbrev pub known_number : Why → Option ℕ → Option ℕ
known_number (whys.Lemma number clause) written = Some number
known_number (whys.Source source clause) written = written
known_number (whys.Priced clause) written = written

-- a clause that a source gave names a source of the problem
abbrev pub IsOfProblem : Problem → Why → Type 0
IsOfProblem f (whys.Lemma number clause) = Unit {0}
IsOfProblem f (whys.Source source clause) = IsSourceOf f source
IsOfProblem f (whys.Priced clause) = Unit {0}

-- each reason of the trail that a source gave names a source of the problem
abbrev pub EachOfProblem : Problem → TrailModel → Type 0
EachOfProblem f t = (place : ℕ) → IfSome (why_at t place) (IsOfProblem f)

-- a search on this problem and trail, with these numbers
abbrev pub search_on : SearchModel → Problem → TrailModel → List (Option ℕ) → ℕ → SearchModel
search_on s f t written lines = record s { problem = f; trail = t; written = written; clause_lines = lines }

-- nothing was written yet, and these numbers are to be named
abbrev pub naming : SearchModel → List ℕ → Cited
naming s hints = record { search = s; lines = []; hints = hints }

-- the numbers after naming
pub record Numbers (c : Cited) (written : List (Option ℕ)) (lines : ℕ) (hints : List ℕ) : Type 0 where
  pub same_written : written ≡ c.search.written
  pub same_lines : lines ≡ c.search.clause_lines
  pub same_hints : hints ≡ c.hints

-- where naming stopped, fewer numbers were given
pub record FewerNumbers (old_written : List (Option ℕ)) (old_lines : ℕ) (written : List (Option ℕ)) (lines : ℕ) : Type 0 where
  pub long : length written ≡ length old_written
  pub low : old_lines ≤ lines

-- what naming does to the numbers
abbrev pub NamesBy : {A : Type 0} → Cited → Result A LogStop → List (Option ℕ) → ℕ → List (Option ℕ) → ℕ → List ℕ → Type 0
NamesBy c (Ok done) old_written old_lines written lines hints = Numbers c written lines hints
NamesBy c (Err stop) old_written old_lines written lines hints = FewerNumbers old_written old_lines written lines

-- a search on this problem and trail, with the numbers of a ledger
abbrev pub search_by : SearchModel → Problem → TrailModel → LedgerModel → SearchModel
search_by s f t l = search_on s f t l.written l.clause_lines

-- ---- reasons: whatever else the search has that they are named for

-- the lines of the reasons at places that have none are handed to a log
abbrev pub HandsReasons : {A : Type 0} → Problem → TrailModel → LedgerModel → List ℕ → List ℕ → LogModel → LogModel → Result A LogStop → Type 0
HandsReasons f t l hints places old new result = (s : SearchModel) → Hands (fold cite (naming (search_by s f t l) hints) places).lines old new result

-- the reasons at places are named after these numbers
abbrev pub NamesReasons : {A : Type 0} → Problem → TrailModel → LedgerModel → List ℕ → List ℕ → LedgerModel → List ℕ → Result A LogStop → Type 0
NamesReasons f t l hints places l' hints' result = (s : SearchModel) → NamesBy (fold cite (naming (search_by s f t l) hints) places) result l.written l.clause_lines l'.written l'.clause_lines hints'

-- ---- the conflict

-- the number of the line that was written for a conflict, none where it is a stored lemma
abbrev pub own_number : Why → ℕ → Option ℕ
own_number (whys.Lemma number clause) next = None
own_number (whys.Source source clause) next = Some next
own_number (whys.Priced clause) next = Some next

-- the line of a conflict that is no stored lemma is handed to a log
abbrev pub HandsConflict : {A : Type 0} → Problem → List ℕ → Why → LogModel → LogModel → Result A LogStop → Type 0
HandsConflict f hints why old new result = (s : SearchModel) → s.problem ≡ f → Hands (cite_conflict (naming s hints) why).lines old new result

-- a conflict is named after these numbers, and its own line has this number
pub record NamesConflict (l : LedgerModel) (hints : List ℕ) (why : Why) (l' : LedgerModel) (hints' : List ℕ) (own : Option ℕ) : Type 0 where
  pub same_lines : (s : SearchModel) → s.clause_lines ≡ l.clause_lines → l'.clause_lines ≡ (cite_conflict (naming s hints) why).search.clause_lines
  pub same_hints : (s : SearchModel) → s.clause_lines ≡ l.clause_lines → hints' ≡ (cite_conflict (naming s hints) why).hints
  pub same_written : l'.written ≡ l.written
  pub own_is : own ≡ own_number why (l.clause_lines + 1)

-- ---- a lemma

-- a lemma's reasons and its conflict
abbrev pub taught : SearchModel → Why → List ℕ → Cited
taught s why places = cite_conflict (cited s places) why

-- the number of the conflict's own line
abbrev pub own_after : SearchModel → Why → List ℕ → Option ℕ
own_after s why places = own_number why ((cited s places).search.clause_lines + 1)

-- the lines of the reasons and of the conflict are handed to a log
abbrev pub HandsTaught : {A : Type 0} → Problem → TrailModel → LedgerModel → Why → List ℕ → LogModel → LogModel → Result A LogStop → Type 0
HandsTaught f t l why places old new result = (s : SearchModel) → Hands (taught (search_by s f t l) why places).lines old new result

-- the reasons and the conflict are named, whose own line has this number
pub record NamesTaught (f : Problem) (t : TrailModel) (l : LedgerModel) (why : Why) (places : List ℕ) (l' : LedgerModel) (hints : List ℕ) (own : Option ℕ) : Type 0 where
  pub numbers : (s : SearchModel) → Numbers (taught (search_by s f t l) why places) l'.written l'.clause_lines hints
  pub own_is : (s : SearchModel) → own ≡ own_after (search_by s f t l) why places

-- the numbers after the lemma
pub record Taught (c : Cited) (written : List (Option ℕ)) (lines : ℕ) : Type 0 where
  pub same_written : written ≡ c.search.written
  pub same_lines : lines ≡ c.search.clause_lines + 1

-- the lines of a lemma are handed to a log
abbrev pub HandsLearnt : {A : Type 0} → Problem → TrailModel → LedgerModel → Why → Learnt → LogModel → LogModel → Result A LogStop → Type 0
HandsLearnt f t l why learnt old new result = (s : SearchModel) → HandsLemma (taught (search_by s f t l) why learnt.places.items) learnt.lemma old new result

-- the lemma was written, and the numbers are those after it
pub record WritesLearnt (f : Problem) (t : TrailModel) (l : LedgerModel) (why : Why) (learnt : Learnt) (l' : LedgerModel) (written : WrittenLemma) : Type 0 where
  pub numbers : (s : SearchModel) → Taught (taught (search_by s f t l) why learnt.places.items) l'.written l'.clause_lines
  pub own_is : (s : SearchModel) → written.conflict ≡ own_after (search_by s f t l) why learnt.places.items
  pub same_lemma : written.lemma ≡ learnt.lemma
