-- Why a line isn't valid, by what is kept of the lines before it: the word and the hint, in the order of the tests.
use Rattle.std.specs.Prelude.{ℕ, ◌^◌, Bool, true, false, not, nat_lt, ◌&&◌, List, Option, Some, None, length, slice_index, find, filter_map, is_none, option_map, if◌then◌else◌}
use Rattle.hw_model.specs.declared.lit.Lit.{Lit}
use Rattle.hw_model.specs.declared.source.Source.{Source}
use Rattle.hw_model.specs.declared.source.Source.TheVariants as sources
use Rattle.hw_model.specs.Problem.{Problem, shape_of}
use Rattle.hw_model.specs.Rooms.{whole_room}
use Rattle.hw_model.specs.Timetables.{first_broken, cargo, beats}
use Rattle.hw_model.specs.RefutingComputed.{refutes}
use Rattle.hw_model.specs.Refuting.{source_of}
use Rattle.hw_model.specs.Replay.{Replayed, conflict, loose, no_conflict, replay}
use Rattle.hw_price_laws.specs.declared.limits.TheConstants.{MOST_TOLLS}
use Rattle.hw_price_laws.specs.declared.tariff.Due.{Due}
use Rattle.hw_price_laws.specs.declared.tariff.Tariff.{Tariff}
use Rattle.hw_price_laws.specs.declared.toll.Toll.{Toll}
use Rattle.hw_price_laws.specs.Judged.{is_toll}
use Rattle.hw_price_laws.specs.Computed.{prices_refute}
use Rattle.hw_cert_lines.specs.declared.check.CheckWord.{CheckWord}
use Rattle.hw_cert_lines.specs.declared.check.CheckWord.TheVariants as words
use Rattle.hw_cert_lines.specs.declared.check.Refusal.{Refusal}
use Rattle.hw_cert_lines.specs.declared.line.Line.{Line}
use Rattle.hw_cert_lines.specs.declared.line.Line.TheVariants as lines
use Rattle.hw_cert_lines.specs.Lines.{clause_of}
use Rattle.hw_cert_lines.specs.Kept.{NumberedClause, Kept, clause_under, kept_of}
use Rattle.hw_cert_lines.specs.Valid.{denied_room}

-- a word that names no number
abbrev pub refused : CheckWord → Option Refusal
refused word = Some (record { word = word; hint = None })

-- a word with the number that it names
abbrev pub refused_at : CheckWord → ℕ → Option Refusal
refused_at word id = Some (record { word = word; hint = Some id })

-- a table, by whether it is permitted and its cargo
abbrev pub table_refusal : Bool → Option ℕ → Option ℕ → Option Refusal
table_refusal false c best = refused words.Table
table_refusal true None best = refused words.Table
table_refusal true (Some c) best = if beats c best then None else refused words.Worse

-- an explanation, an order or a goal
abbrev pub source_refusal : Problem → Option ℕ → Source → List Lit → Option Refusal
source_refusal f best source clause = if refutes f source best (denied_room f clause) then None else refused words.Refute

-- the first of these numbers that isn't live
abbrev pub first_dead : List NumberedClause → List ℕ → Option ℕ
first_dead held ids = find (λ id. is_none (clause_under held id)) ids

-- the live clauses of these numbers
abbrev pub named : List NumberedClause → List ℕ → List (List Lit)
named held ids = filter_map (clause_under held) ids

-- a lemma whose hints are all live, by how its replay ends
abbrev pub replay_refusal : List ℕ → Replayed → Option Refusal
replay_refusal hints conflict = None
replay_refusal hints (loose place) = refused_at words.Loose (slice_index hints place)
replay_refusal hints no_conflict = refused words.Conflict

-- a lemma, by the first hint that isn't live
abbrev pub lemma_refusal : Option ℕ → List ℕ → Replayed → Option Refusal
lemma_refusal (Some id) hints end = refused_at words.Hint id
lemma_refusal None hints end = replay_refusal hints end

-- a deletion, by the first number that isn't live
abbrev pub delete_refusal : Option ℕ → Option Refusal
delete_refusal None = None
delete_refusal (Some id) = refused_at words.Dead id

-- a toll, after those that are declared
abbrev pub toll_refusal : Problem → List Toll → Toll → Option Refusal
toll_refusal f held toll = if not (nat_lt (length held) MOST_TOLLS) then refused words.Many else if is_toll f toll then None else refused words.Toll

-- the first number of a toll that isn't among this many
abbrev pub first_unknown : ℕ → List Due → Option ℕ
first_unknown count dues = option_map (λ due. due.toll) (find (λ due. nat_lt count due.toll) dues)

-- a tariff, by the first number of a toll that isn't declared
abbrev pub tariff_refusal : Option ℕ → Option Refusal
tariff_refusal None = None
tariff_refusal (Some toll) = refused_at words.Due toll

-- a clause by the prices in force
abbrev pub priced_refusal : Problem → List Toll → Option ℕ → List Lit → Option Tariff → Option Refusal
priced_refusal f held best clause None = refused words.Due
priced_refusal f held best clause (Some tariff) = if prices_refute f held tariff best (denied_room f clause) then None else refused words.Refute

-- a bound that the prices show, by the last one
abbrev pub lower_refusal : ℕ → Option ℕ → Option Refusal
lower_refusal bound None = None
lower_refusal bound (Some last) = if nat_lt bound last then None else refused words.Looser

-- cargo counts in these prices, and they leave the whole problem no more than the bound
abbrev pub bounds : Problem → List Toll → Tariff → ℕ → Bool
bounds f held tariff bound = nat_lt 0 tariff.scale && prices_refute f held tariff (Some bound) (whole_room (shape_of f))

-- a bound by the prices in force and the last bound
abbrev pub bound_refusal : Problem → List Toll → ℕ → Option ℕ → Option Tariff → Option Refusal
bound_refusal f held bound last None = refused words.Due
bound_refusal f held bound last (Some tariff) = if bounds f held tariff bound then lower_refusal bound last else refused words.Refute

-- what the line itself claims doesn't hold, for this cause
abbrev pub claim_refusal : Problem → Kept → Line → Option Refusal
claim_refusal f kept (lines.Table table) = table_refusal (is_none (first_broken f table)) (cargo f table) kept.best
claim_refusal f kept (lines.Explain n clause) = source_refusal f kept.best (source_of f n) clause
claim_refusal f kept (lines.Order v w x clause) = source_refusal f kept.best (sources.Order v w x) clause
claim_refusal f kept (lines.Goal clause) = source_refusal f kept.best sources.Goal clause
claim_refusal f kept (lines.Lemma clause hints) = lemma_refusal (first_dead kept.live hints) hints (replay (denied_room f clause) (named kept.live hints))
claim_refusal f kept (lines.Delete ids) = delete_refusal (first_dead kept.live ids)
claim_refusal f kept (lines.Toll toll) = toll_refusal f kept.tolls toll
claim_refusal f kept (lines.Tariff tariff) = tariff_refusal (first_unknown (length kept.tolls) tariff.dues)
claim_refusal f kept (lines.Priced clause) = priced_refusal f kept.tolls kept.best clause kept.tariff
claim_refusal f kept (lines.Bound bound) = bound_refusal f kept.tolls bound kept.bound kept.tariff

-- a clause line would have a number past the last one
abbrev pub is_past : ℕ → Option (List Lit) → Bool
is_past next None = false
is_past next (Some clause) = not (nat_lt next (2 ^ 32))

-- the word and the hint of a line that isn't valid, by what is kept of the lines before it; none of a valid one
abbrev pub kept_refusal : Problem → Kept → Line → Option Refusal
kept_refusal f kept line = if kept.closed then refused words.Ended else if is_past kept.next (clause_of line) then refused words.Many else claim_refusal f kept line

-- the same by the lines themselves
abbrev pub refusal : Problem → List Line → Line → Option Refusal
refusal f before line = kept_refusal f (kept_of f before) line
