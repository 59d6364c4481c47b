-- What a checker keeps.
use Rattle.std.specs.Prelude.{ℕ, ◌+◌, ◌*◌, ◌≤◌, Bool, List, [], ◌∷◌, ◌++◌, Option, All, length, sum_by}
use Rattle.hw_model.specs.declared.lit.Lit.{Lit}
use Rattle.hw_model.specs.Problem.{Problem}
use Rattle.hw_model.specs.Rooms.{RoomModel, RoomFits}
use Rattle.hw_model.specs.Lits.{IsLitOf}
use Rattle.hw_cert_lines.specs.Kept.{NumberedClause, Kept, none_kept}
use Rattle.hw_price_tests.specs.PriceStates.{PriceState, AreGood, tariff_in_force}

-- what is kept of the lines that were taken, and how many literals and places are kept for it, including those of dead clauses
pub record CheckState : Type 0 where
  pub problem : Problem
  pub kept : Kept
  pub kept_lits : ℕ
  pub kept_places : ℕ

-- how many literals the clauses have
abbrev pub literals : List NumberedClause → ℕ
literals held = sum_by (λ one. length one.clause) held

-- how many literals and places live clauses need
abbrev pub needed_by_clauses : List NumberedClause → ℕ
needed_by_clauses held = length held + literals held

-- no lines yet
abbrev pub no_lines : Problem → CheckState
no_lines f = record { problem = f; kept = none_kept; kept_lits = 0; kept_places = 0 }

-- a list of clauses: the live ones, the number of the next one, and how many literals and places are kept
pub record ClauseStore : Type 0 where
  pub live : List NumberedClause
  pub next : ℕ
  pub kept_lits : ℕ
  pub kept_places : ℕ

-- the list with these literals as one more live clause, under the next number
abbrev pub with_next : ClauseStore → List Lit → ClauseStore
with_next store lits = record { live = store.live ++ (record { id = store.next; clause = lits }) ∷ []; next = store.next + 1; kept_lits = store.kept_lits + length lits; kept_places = store.kept_places + 1 }

-- what is kept, by the clauses, the tolls and prices, the best cargo, and whether a clause line had no literals
abbrev pub kept_in : ClauseStore → PriceState → Option ℕ → Bool → Kept
kept_in store prices best closed = record { live = store.live; next = store.next; best = best; closed = closed; tolls = prices.tolls; tariff = tariff_in_force prices; bound = prices.bound }

-- each clause speaks only of this many ships
abbrev pub LitsFit : ℕ → List NumberedClause → Type 0
LitsFit ships held = All (λ one. All (IsLitOf ships) one.clause) held

-- no more is kept of dead clauses than of live ones
abbrev pub FewDeadClauses : ClauseStore → Type 0
FewDeadClauses store = store.kept_lits + store.kept_places ≤ 2 * needed_by_clauses store.live

-- what the type of a checker keeps: each clause is one of the problem, so is each toll, the tariff in force is charged, and the room is one of the problem
pub record IsKept (f : Problem) (store : ClauseStore) (prices : PriceState) (room : RoomModel) : Type 0 where
  pub lits : LitsFit f.ships store.live
  pub bounded : FewDeadClauses store
  pub good : AreGood f prices
  pub fits : RoomFits f room
