-- What is kept of earlier lines: all that validity and verdict of later ones need.
use Rattle.std.specs.Prelude.{ℕ, ◌+◌, ◌==◌, Bool, false, ◌||◌, not, List, [], ◌∷◌, ◌++◌, Option, Some, None, filter, filter_map, find, option_map}
use Rattle.std.specs.List.{list_any, range_with_len}
use Rattle.hw_model.specs.declared.lit.Lit.{Lit}
use Rattle.hw_model.specs.Problem.{Problem}
use Rattle.hw_model.specs.Timetables.{cargo}
use Rattle.hw_price_laws.specs.declared.tariff.Tariff.{Tariff}
use Rattle.hw_price_laws.specs.declared.toll.Toll.{Toll}
use Rattle.hw_cert_lines.specs.declared.line.Line.{Line}
use Rattle.hw_cert_lines.specs.declared.line.Line.TheVariants as lines
use Rattle.hw_cert_lines.specs.Lines.{clause_count, live, best_of, is_end, is_closed}
use Rattle.hw_cert_lines.specs.Tolled.{tolls_of, tariff_of, bound_of}

-- a clause with the number of its line
pub record NumberedClause : Type 0 where
  pub id : ℕ
  pub clause : List Lit

-- the live clauses by ascending numbers, the number of the next clause line, the best cargo, whether a clause line had no literals,
-- the tolls, the tariff in force, and the last bound
pub record Kept : Type 0 where
  pub live : List NumberedClause
  pub next : ℕ
  pub best : Option ℕ
  pub closed : Bool
  pub tolls : List Toll
  pub tariff : Option Tariff
  pub bound : Option ℕ

-- the clause of this number
abbrev pub clause_under : List NumberedClause → ℕ → Option (List Lit)
clause_under held id = option_map (λ one. one.clause) (find (λ one. one.id == id) held)

-- a clause, if there is one, with this number
abbrev pub with_number : ℕ → Option (List Lit) → Option NumberedClause
with_number id clause = option_map (λ lits. record { id = id; clause = lits }) clause

-- the live clauses of these lines
abbrev pub live_clauses : List Line → List NumberedClause
live_clauses all = filter_map (λ id. with_number id (live all id)) (range_with_len 1 (clause_count all))

-- what is kept of these lines
abbrev pub kept_of : Problem → List Line → Kept
kept_of f all = record { live = live_clauses all; next = clause_count all + 1; best = best_of f all; closed = is_closed all; tolls = tolls_of all; tariff = tariff_of all; bound = bound_of all }

-- what is kept of no lines
abbrev pub none_kept : Kept
none_kept = record { live = []; next = 1; best = None; closed = false; tolls = []; tariff = None; bound = None }

-- with one more clause, which may have no literals
abbrev pub with_clause : Kept → List Lit → Kept
with_clause kept clause = record kept { live = kept.live ++ (record { id = kept.next; clause = clause }) ∷ []; next = kept.next + 1; closed = kept.closed || is_end (Some clause) }

-- with one more toll
abbrev pub with_toll : Kept → Toll → Kept
with_toll kept toll = record kept { tolls = kept.tolls ++ toll ∷ [] }

-- the clauses that have none of these numbers
abbrev pub without : List ℕ → List NumberedClause → List NumberedClause
without ids held = filter (λ one. not (list_any (λ id. id == one.id) ids)) held

-- what is kept after one more line
abbrev pub kept_after : Problem → Kept → Line → Kept
kept_after f kept (lines.Table table) = record kept { best = cargo f table }
kept_after f kept (lines.Explain n clause) = with_clause kept clause
kept_after f kept (lines.Order v w x clause) = with_clause kept clause
kept_after f kept (lines.Goal clause) = with_clause kept clause
kept_after f kept (lines.Lemma clause hints) = with_clause kept clause
kept_after f kept (lines.Delete ids) = record kept { live = without ids kept.live }
kept_after f kept (lines.Toll toll) = with_toll kept toll
kept_after f kept (lines.Tariff tariff) = record kept { tariff = Some tariff }
kept_after f kept (lines.Priced clause) = with_clause kept clause
kept_after f kept (lines.Bound bound) = record kept { bound = Some bound }
