-- What is done after a lemma: it is added, and lines are deleted.
use Rattle.std.specs.Prelude.{◌≡◌, ◌⊎◌, ℕ, List, [], ◌∷◌, ◌++◌, Option, Result, Ok, Err}
use Rattle.hw_cert_lines.specs.declared.line.Line.{Line}
use Rattle.hw_cert.specs.declared.log.LogStop.{LogStop}
use Rattle.hw_cert.specs.declared.log.LogStop.TheVariants.{Failed, NoMemory}
use Rattle.hw_cert.specs.Logs.{LogModel}
use Rattle.hw_store.specs.declared.store.Stored.{Stored}
use Rattle.hw_cert_laws.specs.Renewing.{deletion}
use Rattle.hw_search_ledger.specs.Dropped.{IsLeftOver}
use Rattle.hw_search_ledger.specs.Handing.{TakesAll, StopsWithin}
use Rattle.hw_search_ledger.specs.Ledgers.{LedgerModel}
use Rattle.hw_search_ledger.specs.declared.writing.WrittenLemma.{WrittenLemma}

-- the lemma was added; if memory ran out it may be missing
abbrev pub Adds : LogStop → List Stored → Stored → List Stored → Type 0
Adds Failed old one new = new ≡ old ++ one ∷ []
Adds NoMemory old one new = (new ≡ old ++ one ∷ []) ⊎ (new ≡ old)

-- what is about to be deleted, if that is known yet
abbrev pub Deleting : List Stored → List (Option ℕ) → ℕ → Option ℕ → List Line → Type 0
Deleting stored written keep conflict more = (more ≡ []) ⊎ ((ids : List ℕ) × IsLeftOver stored written keep conflict ids × (more ≡ deletion ids))

-- a lemma is added and what is left over is deleted
abbrev pub Tidies : {A : Type 0} → List Stored → Stored → List (Option ℕ) → ℕ → Option ℕ → Result A LogStop → List Stored → LogModel → LogModel → Type 0
Tidies stored one written keep conflict (Ok done) stored' old new = (stored' ≡ stored ++ one ∷ []) × ((ids : List ℕ) × IsLeftOver (stored ++ one ∷ []) written keep conflict ids × TakesAll (deletion ids) old new)
Tidies stored one written keep conflict (Err stop) stored' old new = Adds stop stored one stored' × ((more : List Line) × Deleting (stored ++ one ∷ []) written keep conflict more × StopsWithin stop more 0 old new)

-- the same of a lemma that was written: its number is that of the last clause line
abbrev pub TidiesBy : {A : Type 0} → LedgerModel → ℕ → WrittenLemma → List Stored → Result A LogStop → List Stored → LogModel → LogModel → Type 0
TidiesBy l keep one stored result stored' old new = Tidies stored (record { number = l.clause_lines; clause = one.lemma }) l.written keep one.conflict result stored' old new
