-- The numbers of a search's clause lines.
use Rattle.std.specs.Prelude.{◌≡◌, ℕ, ◌+◌, ◌≤◌, List, [], ◌∷◌, ◌++◌, Option, All, IfSome, length, slice_set, Some, take}
use Rattle.hw_search_laws.specs.Searches.{NumbersStay}

-- for each event of the trail the number of the line that was written for its reason, if one was; how many clause lines were written; and for how many events there is memory
pub record LedgerModel : Type 0 where
  pub written : List (Option ℕ)
  pub clause_lines : ℕ
  pub reserved : ℕ

-- no reason stands under a number that no clause line has yet
abbrev pub EachGiven : LedgerModel → Type 0
EachGiven l = All (λ number. IfSome number (λ n. n ≤ l.clause_lines)) l.written

-- one more clause line
abbrev pub with_clause_line : LedgerModel → LedgerModel
with_clause_line l = record l { clause_lines = l.clause_lines + 1 }

-- one more clause line, written for the reason of the event at a place
abbrev pub with_reason : LedgerModel → ℕ → LedgerModel
with_reason l place = record l { written = slice_set l.written place (Some (l.clause_lines + 1)); clause_lines = l.clause_lines + 1 }

-- one more event, and one more clause line, written for its reason
abbrev pub with_written_number : LedgerModel → LedgerModel
with_written_number l = record l { written = l.written ++ Some (l.clause_lines + 1) ∷ []; clause_lines = l.clause_lines + 1 }

-- only the first `count` events are left
abbrev pub with_events_left : LedgerModel → ℕ → LedgerModel
with_events_left l count = record l { written = take count l.written }

-- at most `most` numbers were given, each event that had a number has one, and there is one place for each event still
pub record GivesAtMost (most : ℕ) (old new : LedgerModel) : Type 0 where
  pub long : length new.written ≡ length old.written
  pub stay : NumbersStay old.written new.written
  pub reserved : new.reserved ≡ old.reserved
  pub low : old.clause_lines ≤ new.clause_lines
  pub high : new.clause_lines ≤ old.clause_lines + most
