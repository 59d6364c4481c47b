-- What is wrong with a line that is refused, by the word that refuses it.
use Rattle.std.specs.Prelude.{◌≡◌, ◌⊎◌, ◌^◌, ℕ, ◌+◌, ◌<◌, ◌≤◌, true, length, ⊤, List, Option, Some, None, All, IsSome, IfSome, IsSomeAnd, slice_get}
use Rattle.hw_model.specs.declared.lit.Lit.{Lit}
use Rattle.hw_model.specs.declared.source.Source.{Source}
use Rattle.hw_model.specs.declared.source.Source.TheVariants as sources
use Rattle.hw_model.specs.Problem.{Problem}
use Rattle.hw_model.specs.Limits.{IsFlat}
use Rattle.hw_model.specs.Timetables.{Permits, FirstBroken, cargo}
use Rattle.hw_model.specs.Refuting.{Refutes, source_of}
use Rattle.hw_model.specs.Replay.{replay, loose, no_conflict}
use Rattle.hw_price_laws.specs.declared.limits.TheConstants.{MOST_TOLLS}
use Rattle.hw_price_laws.specs.Prices.{PricesRefute}
use Rattle.hw_price_laws.specs.Tolls.{IsToll}
use Rattle.hw_cert_lines.specs.declared.check.CheckWord.{CheckWord}
use Rattle.hw_cert_lines.specs.declared.check.CheckWord.TheVariants as words
use Rattle.hw_cert_lines.specs.declared.line.Line.{Line}
use Rattle.hw_cert_lines.specs.declared.line.Line.TheVariants as lines
use Rattle.hw_price_laws.specs.declared.tariff.Due.{Due}
use Rattle.hw_cert_lines.specs.Lines.{clause_of, clause_count, live, best_of, is_closed}
use Rattle.hw_cert_lines.specs.Tolled.{toll_of, tolls_of, tariff_of, bound_of}
use Rattle.hw_cert_lines.specs.Valid.{LineFits, denied_room, hinted, Bounds}
use Rattle.hw_cert_lines.specs.Refusals.{refusal}

-- the line explains a clause by a source
abbrev pub LineExplains : Problem → Line → Source → List Lit → Type 0
LineExplains f (lines.Table table) source clause = ⊥
LineExplains f (lines.Explain n own) source clause = (source ≡ source_of f n) × (clause ≡ own)
LineExplains f (lines.Order v w x own) source clause = (source ≡ sources.Order v w x) × (clause ≡ own)
LineExplains f (lines.Goal own) source clause = (source ≡ sources.Goal) × (clause ≡ own)
LineExplains f (lines.Lemma own hints) source clause = ⊥
LineExplains f (lines.Delete ids) source clause = ⊥
LineExplains f (lines.Toll toll) source clause = ⊥
LineExplains f (lines.Tariff tariff) source clause = ⊥
LineExplains f (lines.Priced own) source clause = ⊥
LineExplains f (lines.Bound bound) source clause = ⊥

-- some restriction is broken by the timetable, and this is the first
pub record TableBroken (f : Problem) (line : Line) : Type 0 where
  pub table : List ℕ
  pub is : line ≡ lines.Table table
  pub restriction : ℕ
  pub broken : FirstBroken f table restriction

-- the timetable is permitted, and its cargo isn't above the best
pub record TableWorse (f : Problem) (before : List Line) (line : Line) : Type 0 where
  pub table : List ℕ
  pub is : line ≡ lines.Table table
  pub permitted : Permits f table
  pub worse : IsSomeAnd (cargo f table) (λ c. IsSomeAnd (best_of f before) (λ best. c ≤ best))

-- the source doesn't refute the denied room of the clause
pub record Unrefuted (f : Problem) (before : List Line) (line : Line) : Type 0 where
  pub source : Source
  pub clause : List Lit
  pub explains : LineExplains f line source clause
  pub leaves : Refutes f source (best_of f before) (denied_room f clause) → ⊥

-- what the line shows by a source or by prices isn't so: its source or the prices in force leave something of the denied room,
-- or the prices don't bound the whole problem
abbrev pub Unshown : Problem → List Line → Line → Type 0
Unshown f before (lines.Table table) = Unrefuted f before (lines.Table table)
Unshown f before (lines.Explain n clause) = Unrefuted f before (lines.Explain n clause)
Unshown f before (lines.Order v w x clause) = Unrefuted f before (lines.Order v w x clause)
Unshown f before (lines.Goal clause) = Unrefuted f before (lines.Goal clause)
Unshown f before (lines.Lemma clause hints) = Unrefuted f before (lines.Lemma clause hints)
Unshown f before (lines.Delete ids) = Unrefuted f before (lines.Delete ids)
Unshown f before (lines.Toll toll) = ⊥
Unshown f before (lines.Tariff tariff) = ⊥
Unshown f before (lines.Priced clause) = IsSomeAnd (tariff_of before) (λ tariff. PricesRefute f (tolls_of before) tariff (best_of f before) (denied_room f clause) → ⊥)
Unshown f before (lines.Bound bound) = IsSomeAnd (tariff_of before) (λ tariff. Bounds f before bound tariff → ⊥)

-- the line declares what isn't a toll of the problem
abbrev pub NoToll : Problem → Line → Type 0
NoToll f line = IsSomeAnd (toll_of line) (λ toll. IsToll f toll → ⊥)

-- the number is that of the first price on a toll past this many
pub record FirstUnknown (count : ℕ) (dues : List Due) (toll : ℕ) : Type 0 where
  pub place : ℕ
  pub stands : IsSomeAnd (slice_get dues place) (λ due. due.toll ≡ toll)
  pub unknown : count < toll
  pub earlier : (i : ℕ) → i < place → IfSome (slice_get dues i) (λ other. other.toll ≤ count)

-- a price is on a toll that isn't declared, and this is the first; or no prices are in force
abbrev pub DueWrong : Problem → List Line → Line → Option ℕ → Type 0
DueWrong f before (lines.Table table) named = ⊥
DueWrong f before (lines.Explain n clause) named = ⊥
DueWrong f before (lines.Order v w x clause) named = ⊥
DueWrong f before (lines.Goal clause) named = ⊥
DueWrong f before (lines.Lemma clause hints) named = ⊥
DueWrong f before (lines.Delete ids) named = ⊥
DueWrong f before (lines.Toll toll) named = ⊥
DueWrong f before (lines.Tariff tariff) named = IsSomeAnd named (FirstUnknown (length (tolls_of before)) tariff.dues)
DueWrong f before (lines.Priced clause) named = (named ≡ None) × (tariff_of before ≡ None)
DueWrong f before (lines.Bound bound) named = (named ≡ None) × (tariff_of before ≡ None)

-- the prices show the bound, and it isn't below the last one
pub record NotLower (f : Problem) (before : List Line) (line : Line) : Type 0 where
  pub bound : ℕ
  pub is : line ≡ lines.Bound bound
  pub shown : IsSomeAnd (tariff_of before) (Bounds f before bound)
  pub not_lower : IsSomeAnd (bound_of before) (λ last. last ≤ bound)

-- a clause line would have a number past the last one, or 10,000 tolls are declared before a line that declares one
abbrev pub NoNumber : Problem → List Line → Line → Type 0
NoNumber f before line = IsSomeAnd (clause_of line) (λ clause. 2 ^ 32 ≤ clause_count before + 1) ⊎ IsSomeAnd (toll_of line) (λ toll. MOST_TOLLS ≤ length (tolls_of before))

-- the number is the first of these that isn't live
pub record FirstDead (before : List Line) (ids : List ℕ) (id : ℕ) : Type 0 where
  pub place : ℕ
  pub stands : slice_get ids place ≡ Some id
  pub dead : live before id ≡ None
  pub earlier : (i : ℕ) → i < place → IfSome (slice_get ids i) (λ other. IsSome (live before other))

-- the number is the first hint that isn't live
pub record HintDead (before : List Line) (line : Line) (id : ℕ) : Type 0 where
  pub clause : List Lit
  pub hints : List ℕ
  pub is : line ≡ lines.Lemma clause hints
  pub first : FirstDead before hints id

-- the hints are live, and their replay from the denied room ends loose at this one
pub record HintLoose (f : Problem) (before : List Line) (line : Line) (id : ℕ) : Type 0 where
  pub clause : List Lit
  pub hints : List ℕ
  pub is : line ≡ lines.Lemma clause hints
  pub all_live : All (λ hint. IsSome (live before hint)) hints
  pub place : ℕ
  pub stands : slice_get hints place ≡ Some id
  pub ends : replay (denied_room f clause) (hinted before hints) ≡ loose place

-- the hints are live, and their replay from the denied room ends without a conflict
pub record NoConflict (f : Problem) (before : List Line) (line : Line) : Type 0 where
  pub clause : List Lit
  pub hints : List ℕ
  pub is : line ≡ lines.Lemma clause hints
  pub all_live : All (λ hint. IsSome (live before hint)) hints
  pub ends : replay (denied_room f clause) (hinted before hints) ≡ no_conflict

-- the number is the first to be deleted that isn't live
pub record DeletedDead (before : List Line) (line : Line) (id : ℕ) : Type 0 where
  pub ids : List ℕ
  pub is : line ≡ lines.Delete ids
  pub first : FirstDead before ids id

-- what is wrong with the line, by the word and the number that it names
abbrev pub Wrong : Problem → List Line → Line → CheckWord → Option ℕ → Type 0
Wrong f before line words.Ended named = (named ≡ None) × (is_closed before ≡ true)
Wrong f before line words.Table named = (named ≡ None) × TableBroken f line
Wrong f before line words.Worse named = (named ≡ None) × TableWorse f before line
Wrong f before line words.Refute named = (named ≡ None) × Unshown f before line
Wrong f before line words.Hint named = IsSomeAnd named (HintDead before line)
Wrong f before line words.Loose named = IsSomeAnd named (HintLoose f before line)
Wrong f before line words.Conflict named = (named ≡ None) × NoConflict f before line
Wrong f before line words.Many named = (named ≡ None) × NoNumber f before line
Wrong f before line words.Dead named = IsSomeAnd named (DeletedDead before line)
Wrong f before line words.Toll named = (named ≡ None) × NoToll f line
Wrong f before line words.Due named = DueWrong f before line named
Wrong f before line words.Looser named = (named ≡ None) × NotLower f before line

-- prices are tested exactly where the problem keeps the limits and the declared tolls are tolls; other lines always are
abbrev pub CanJudge : Problem → List Line → Line → Type 0
CanJudge f before (lines.Table table) = ⊤
CanJudge f before (lines.Explain n clause) = ⊤
CanJudge f before (lines.Order v w x clause) = ⊤
CanJudge f before (lines.Goal clause) = ⊤
CanJudge f before (lines.Lemma clause hints) = ⊤
CanJudge f before (lines.Delete ids) = ⊤
CanJudge f before (lines.Toll toll) = ⊤
CanJudge f before (lines.Tariff tariff) = ⊤
CanJudge f before (lines.Priced clause) = IsFlat f × All (IsToll f) (tolls_of before)
CanJudge f before (lines.Bound bound) = IsFlat f × All (IsToll f) (tolls_of before)

-- a line that is refused is wrong as its word says
abbrev pub RefusalCauses : Type 0
RefusalCauses = (f : Problem) (before : List Line) (line : Line) → LineFits f line → CanJudge f before line → IfSome (refusal f before line) (λ why. Wrong f before line why.word why.hint)
