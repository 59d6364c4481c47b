-- When a line is valid after those before it, and what valid lines prove.
use Rattle.std.specs.Prelude.{◌≡◌, ℕ, ◌+◌, ◌^◌, ◌<◌, ◌≤◌, Bool, true, false, List, [], ◌∷◌, ◌++◌, Option, Some, None, All, filter_map, map, IsSome, IsSomeAnd, IfSome, IsTrue, ⊤, length, slice_index}
use Rattle.std.specs.List.Sorted.{IsStrictlyIncreasing}
use Rattle.hw_model.specs.declared.limits.TheConstants.{MOST_SHIPS, MOST_CARGO, MOST_TUGS, MOST_HELD}
use Rattle.hw_model.specs.declared.lit.Lit.{Lit}
use Rattle.hw_model.specs.declared.source.Source.TheVariants as sources
use Rattle.hw_model.specs.Problem.{Problem, shape_of, IsTimetable}
use Rattle.hw_model.specs.Timetables.{Permits, cargo, beats, restriction_count}
use Rattle.hw_model.specs.Lits.{IsClause}
use Rattle.hw_model.specs.Rooms.{RoomModel}
use Rattle.hw_model.specs.Narrowing.{denied}
use Rattle.hw_model.specs.Refuting.{Refutes, source_of}
use Rattle.hw_model.specs.Replay.{replay, conflict}
use Rattle.hw_price_laws.specs.declared.limits.TheConstants.{MOST_TOLLS, MOST_PRICE, MOST_SCALE}
use Rattle.hw_price_laws.specs.declared.tariff.Due.{Due}
use Rattle.hw_price_laws.specs.declared.tariff.Tariff.{Tariff}
use Rattle.hw_price_laws.specs.declared.toll.Block.{Block}
use Rattle.hw_price_laws.specs.declared.toll.Toll.{Toll}
use Rattle.hw_price_laws.specs.declared.toll.Toll.TheVariants as tolls
use Rattle.hw_price_laws.specs.Tolls.{BlockFits, IsToll}
use Rattle.hw_price_laws.specs.Prices.{PricesRefute, PricesBound}
use Rattle.hw_cert_lines.specs.declared.check.Verdict.{Verdict}
use Rattle.hw_cert_lines.specs.declared.check.Verdict.TheVariants.{Optimal, Infeasible, Unfinished}
use Rattle.hw_cert_lines.specs.declared.line.Line.{Line}
use Rattle.hw_cert_lines.specs.declared.line.Line.TheVariants as lines
use Rattle.hw_cert_lines.specs.Lines.{clause_of, clause_count, live, best_of, is_closed, ends}
use Rattle.hw_cert_lines.specs.Tolled.{tolls_of, tariff_of, bound_of}

-- 1 to `MOST_SHIPS` blocks of the problem, of ascending ships
pub record BlocksFit (f : Problem) (blocks : List Block) : Type 0 where
  pub some_block : 1 ≤ length blocks
  pub few_blocks : length blocks ≤ MOST_SHIPS
  pub each_block : All (BlockFits f) blocks
  pub ascend : IsStrictlyIncreasing (map (λ block. block.ship) blocks)

-- the number of a rule, one of the problem's slots, and small weights
pub record WeightsFit (f : Problem) (n slot most : ℕ) (weights : List ℕ) : Type 0 where
  pub past_ships : f.ships ≤ n
  pub restriction_in : n < restriction_count f
  pub slot_in : slot < f.slots
  pub small_most : most ≤ MOST_HELD
  pub few_weights : length weights ≤ MOST_SHIPS
  pub small_weights : All (λ weight. weight ≤ MOST_TUGS) weights

-- such blocks or weights
abbrev pub TollFits : Problem → Toll → Type 0
TollFits f (tolls.Narrows blocks) = BlocksFit f blocks
TollFits f (tolls.Tugs n slot weights most) = WeightsFit f n slot most weights

-- a small scale, and small prices on tolls of ascending numbers from 1 on
pub record PricesFit (tariff : Tariff) : Type 0 where
  pub small_scale : tariff.scale ≤ MOST_SCALE
  pub from_one : All (λ due. 0 < due.toll) tariff.dues
  pub ascend : IsStrictlyIncreasing (map (λ due. due.toll) tariff.dues)
  pub small_prices : All (λ due. due.price ≤ MOST_PRICE) tariff.dues

-- the line is one of the problem's shape
abbrev pub LineFits : Problem → Line → Type 0
LineFits f (lines.Table table) = IsTimetable f table
LineFits f (lines.Explain n clause) = (n < restriction_count f) × IsClause (shape_of f) clause
LineFits f (lines.Order v w x clause) = (v < w) × (w < x) × (x < f.ships) × IsClause (shape_of f) clause
LineFits f (lines.Goal clause) = IsClause (shape_of f) clause
LineFits f (lines.Lemma clause hints) = IsClause (shape_of f) clause
LineFits f (lines.Delete ids) = (0 < length ids) × (0 < slice_index ids 0) × IsStrictlyIncreasing ids
LineFits f (lines.Toll toll) = TollFits f toll
LineFits f (lines.Tariff tariff) = PricesFit tariff
LineFits f (lines.Priced clause) = IsClause (shape_of f) clause
LineFits f (lines.Bound bound) = bound ≤ MOST_CARGO

-- the denied room of a clause of the problem
abbrev pub denied_room : Problem → List Lit → RoomModel
denied_room f clause = denied (shape_of f) clause

-- the clauses that the hints name
abbrev pub hinted : List Line → List ℕ → List (List Lit)
hinted before hints = filter_map (live before) hints

-- the toll is one of the problem, and fewer than `MOST_TOLLS` are declared before it
abbrev pub TollHolds : Problem → List Line → Toll → Type 0
TollHolds f before toll = (length (tolls_of before) < MOST_TOLLS) × IsToll f toll

-- each price is on a toll that is declared
abbrev pub TariffHolds : List Line → List Due → Type 0
TariffHolds before dues = All (λ due. due.toll ≤ length (tolls_of before)) dues

-- the prices in force refute the denied room under the best
abbrev pub PricedHolds : Problem → List Line → List Lit → Type 0
PricedHolds f before clause = IsSomeAnd (tariff_of before) (λ tariff. PricesRefute f (tolls_of before) tariff (best_of f before) (denied_room f clause))

-- the prices bound the whole problem, and cargo counts in them
abbrev pub Bounds : Problem → List Line → ℕ → Tariff → Type 0
Bounds f before bound tariff = (1 ≤ tariff.scale) × PricesBound f (tolls_of before) tariff bound

-- the prices in force show the bound, which is below the last one
abbrev pub BoundHolds : Problem → List Line → ℕ → Type 0
BoundHolds f before bound = IsSomeAnd (tariff_of before) (Bounds f before bound) × IfSome (bound_of before) (λ last. bound < last)

-- what the line itself claims holds after those before it
abbrev pub Holds : Problem → List Line → Line → Type 0
Holds f before (lines.Table table) = Permits f table × IsSomeAnd (cargo f table) (λ c. IsTrue (beats c (best_of f before)))
Holds f before (lines.Explain n clause) = Refutes f (source_of f n) (best_of f before) (denied_room f clause)
Holds f before (lines.Order v w x clause) = Refutes f (sources.Order v w x) (best_of f before) (denied_room f clause)
Holds f before (lines.Goal clause) = Refutes f sources.Goal (best_of f before) (denied_room f clause)
Holds f before (lines.Lemma clause hints) = All (λ id. IsSome (live before id)) hints × (replay (denied_room f clause) (hinted before hints) ≡ conflict)
Holds f before (lines.Delete ids) = All (λ id. IsSome (live before id)) ids
Holds f before (lines.Toll toll) = TollHolds f before toll
Holds f before (lines.Tariff tariff) = TariffHolds before tariff.dues
Holds f before (lines.Priced clause) = PricedHolds f before clause
Holds f before (lines.Bound bound) = BoundHolds f before bound

-- no earlier clause is without literals, the line has a number if it needs one, and what it claims holds
pub record ValidAfter (f : Problem) (before : List Line) (line : Line) : Type 0 where
  pub goes_on : is_closed before ≡ false
  pub numbered : IfSome (clause_of line) (λ clause. clause_count before + 1 < 2 ^ 32)
  pub claim : Holds f before line

-- each of these lines is valid after those before it, these ones first
abbrev pub ValidFrom : Problem → List Line → List Line → Type 0
ValidFrom f before [] = ⊤
ValidFrom f before (line ∷ more) = ValidAfter f before line × ValidFrom f (before ++ line ∷ []) more

-- each line is valid after those before it
abbrev pub Valid : Problem → List Line → Type 0
Valid f all = ValidFrom f [] all

-- the verdict by whether the last line is a clause without literals and by the best
abbrev pub verdict_by : Bool → Option ℕ → Verdict
verdict_by true None = Infeasible
verdict_by true (Some best) = Optimal best
verdict_by false best = Unfinished best

-- what the lines prove of the problem, where they are valid
abbrev pub verdict : Problem → List Line → Verdict
verdict f all = verdict_by (ends all) (best_of f all)
