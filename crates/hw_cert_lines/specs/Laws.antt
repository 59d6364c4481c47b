-- The laws of lines: what one more changes, what is kept of them, and that valid ones declare tolls.
use Rattle.std.specs.Prelude.{◌≡◌, ℕ, ◌+◌, ◌≤◌, ◌==◌, ◌||◌, List, [], ◌∷◌, ◌++◌, Some, None, All, IfSome, map, length, option_and_then, false, if◌then◌else◌}
use Rattle.std.specs.List.{cons_option, list_any}
use Rattle.hw_model.specs.declared.lit.Lit.{Lit}
use Rattle.hw_model.specs.Problem.{Problem}
use Rattle.hw_model.specs.Timetables.{cargo}
use Rattle.hw_price_laws.specs.declared.limits.TheConstants.{MOST_TOLLS}
use Rattle.hw_price_laws.specs.declared.tariff.Tariff.{Tariff}
use Rattle.hw_price_laws.specs.declared.toll.Toll.{Toll}
use Rattle.hw_price_laws.specs.Prices.{TariffFits}
use Rattle.hw_price_laws.specs.Tolls.{IsToll}
use Rattle.hw_cert_lines.specs.declared.line.Line.{Line}
use Rattle.hw_cert_lines.specs.declared.line.Line.TheVariants as lines
use Rattle.hw_cert_lines.specs.Lines.{clause_of, clause_count, clause_at, deletes, live, live_numbers, DeletesEarlier, table_after, last_table, best_of, is_end, is_closed, ends}
use Rattle.hw_cert_lines.specs.Tolled.{toll_of, tolls_of, tariff_after, tariff_of, bound_after, bound_of}
use Rattle.hw_cert_lines.specs.Valid.{LineFits, Valid, verdict, verdict_by}
use Rattle.hw_cert_lines.specs.Kept.{clause_under, kept_of, kept_after}

-- what any line changes
pub record OneMore (f : Problem) (before : List Line) (line : Line) : Type 0 where
  pub best : best_of f (before ++ line ∷ []) ≡ option_and_then (cargo f) (table_after (last_table before) line)
  pub closed : is_closed (before ++ line ∷ []) ≡ (is_closed before || is_end (clause_of line))
  pub ended : ends (before ++ line ∷ []) ≡ is_end (clause_of line)
  pub counted : IfSome (clause_of line) (λ clause. clause_count (before ++ line ∷ []) ≡ clause_count before + 1)
  pub uncounted : clause_of line ≡ None → clause_count (before ++ line ∷ []) ≡ clause_count before
  pub earlier : (id : ℕ) → id ≤ clause_count before → deletes id line ≡ false → live (before ++ line ∷ []) id ≡ live before id
  pub added : IfSome (clause_of line) (λ clause. clause_at (before ++ line ∷ []) (clause_count before + 1) ≡ Some clause)
  pub tolls : tolls_of (before ++ line ∷ []) ≡ tolls_of before ++ cons_option (toll_of line) []
  pub tariff : tariff_of (before ++ line ∷ []) ≡ tariff_after (tariff_of before) line
  pub bound : bound_of (before ++ line ∷ []) ≡ bound_after (bound_of before) line

-- what one more line changes, of every problem and line
abbrev pub LinesPushed : Type 0
LinesPushed = (f : Problem) (before : List Line) (line : Line) → OneMore f before line

-- the tolls, the tariff in force and the bound stay
pub record PricesStay (before after : List Line) : Type 0 where
  pub tolls : tolls_of after ≡ tolls_of before
  pub tariff : tariff_of after ≡ tariff_of before
  pub bound : bound_of after ≡ bound_of before

-- the clauses and the last table stay
pub record ClausesStay (f : Problem) (before after : List Line) : Type 0 where
  pub count : clause_count after ≡ clause_count before
  pub live_ones : (id : ℕ) → live after id ≡ live before id
  pub table : last_table after ≡ last_table before
  pub best : best_of f after ≡ best_of f before
  pub closed : is_closed after ≡ is_closed before

-- a clause line brings one more number, which is live, and changes no other
pub record ClauseAdded (f : Problem) (before after : List Line) (clause : List Lit) : Type 0 where
  pub count : clause_count after ≡ clause_count before + 1
  pub live_ones : (id : ℕ) → live after id ≡ if id == clause_count before + 1 then Some clause else live before id
  pub table : last_table after ≡ last_table before
  pub best : best_of f after ≡ best_of f before
  pub closed : is_closed after ≡ (is_closed before || is_end (Some clause))
  pub prices : PricesStay before after

-- what one more clause line changes, of every problem and line
abbrev pub ClausePushed : Type 0
ClausePushed = (f : Problem) (before : List Line) (line : Line) (clause : List Lit) → DeletesEarlier before → clause_of line ≡ Some clause → ClauseAdded f before (before ++ line ∷ []) clause

-- a table is the last one from then on, and changes nothing else
pub record TableAdded (f : Problem) (before after : List Line) (slots : List ℕ) : Type 0 where
  pub count : clause_count after ≡ clause_count before
  pub live_ones : (id : ℕ) → live after id ≡ live before id
  pub table : last_table after ≡ Some slots
  pub best : best_of f after ≡ cargo f slots
  pub closed : is_closed after ≡ is_closed before
  pub prices : PricesStay before after

-- what one more table changes
abbrev pub TablePushed : Type 0
TablePushed = (f : Problem) (before : List Line) (table : List ℕ) → TableAdded f before (before ++ lines.Table table ∷ []) table

-- a deletion takes its numbers, and changes nothing else
pub record NumbersDeleted (f : Problem) (before after : List Line) (ids : List ℕ) : Type 0 where
  pub count : clause_count after ≡ clause_count before
  pub live_ones : (id : ℕ) → live after id ≡ if list_any (λ other. other == id) ids then None else live before id
  pub table : last_table after ≡ last_table before
  pub best : best_of f after ≡ best_of f before
  pub closed : is_closed after ≡ is_closed before
  pub prices : PricesStay before after

-- what one more deletion changes
abbrev pub DeletionPushed : Type 0
DeletionPushed = (f : Problem) (before : List Line) (ids : List ℕ) → NumbersDeleted f before (before ++ lines.Delete ids ∷ []) ids

-- a line that declares a toll is the last one to do so, and changes nothing else
pub record TollAdded (f : Problem) (before after : List Line) (toll : Toll) : Type 0 where
  pub clauses : ClausesStay f before after
  pub tolls : tolls_of after ≡ tolls_of before ++ toll ∷ []
  pub tariff : tariff_of after ≡ tariff_of before
  pub bound : bound_of after ≡ bound_of before

-- what one more toll changes
abbrev pub TollPushed : Type 0
TollPushed = (f : Problem) (before : List Line) (line : Line) (toll : Toll) → toll_of line ≡ Some toll → TollAdded f before (before ++ line ∷ []) toll

-- prices come into force, and nothing else changes
pub record TariffAdded (f : Problem) (before after : List Line) (tariff : Tariff) : Type 0 where
  pub clauses : ClausesStay f before after
  pub tolls : tolls_of after ≡ tolls_of before
  pub new_tariff : tariff_of after ≡ Some tariff
  pub bound : bound_of after ≡ bound_of before

-- what one more tariff changes
abbrev pub TariffPushed : Type 0
TariffPushed = (f : Problem) (before : List Line) (tariff : Tariff) → TariffAdded f before (before ++ lines.Tariff tariff ∷ []) tariff

-- a bound is the last one from then on, and changes nothing else
pub record BoundAdded (f : Problem) (before after : List Line) (bound : ℕ) : Type 0 where
  pub clauses : ClausesStay f before after
  pub tolls : tolls_of after ≡ tolls_of before
  pub tariff : tariff_of after ≡ tariff_of before
  pub new_bound : bound_of after ≡ Some bound

-- what one more bound changes
abbrev pub BoundPushed : Type 0
BoundPushed = (f : Problem) (before : List Line) (bound : ℕ) → BoundAdded f before (before ++ lines.Bound bound ∷ []) bound

-- the tolls are of the problem and at most `MOST_TOLLS`, and the tariff in force fits them where the lines fit
pub record TollsAreGood (f : Problem) (all : List Line) : Type 0 where
  pub tolls : All (IsToll f) (tolls_of all)
  pub few : length (tolls_of all) ≤ MOST_TOLLS
  pub tariff : All (LineFits f) all → IfSome (tariff_of all) (TariffFits (length (tolls_of all)))

-- valid lines declare tolls of the problem alone, and put prices in force on these alone
abbrev pub ValidTolls : Type 0
ValidTolls = (f : Problem) (all : List Line) → Valid f all → TollsAreGood f all

-- valid lines delete no number that no clause line has yet
abbrev pub ValidDeletes : Type 0
ValidDeletes = (f : Problem) (all : List Line) → Valid f all → DeletesEarlier all

-- valid lines end with a clause line without literals exactly where they have one
abbrev pub ClosedEnds : Type 0
ClosedEnds = (f : Problem) (all : List Line) → Valid f all → ends all ≡ is_closed all

-- the clause that is kept under a number is the live one
abbrev pub KeptLive : Type 0
KeptLive = (f : Problem) (all : List Line) (id : ℕ) → clause_under (kept_of f all).live id ≡ live all id

-- the kept numbers are the live ones
abbrev pub KeptNumbers : Type 0
KeptNumbers = (f : Problem) (all : List Line) → map (λ one. one.id) (kept_of f all).live ≡ live_numbers all

-- what is kept after one more line needs only what was kept
abbrev pub KeptPushed : Type 0
KeptPushed = (f : Problem) (before : List Line) (line : Line) → DeletesEarlier before → kept_of f (before ++ line ∷ []) ≡ kept_after f (kept_of f before) line

-- the verdict needs only what is kept
abbrev pub KeptVerdict : Type 0
KeptVerdict = (f : Problem) (all : List Line) → Valid f all → verdict f all ≡ verdict_by (kept_of f all).closed (kept_of f all).best
