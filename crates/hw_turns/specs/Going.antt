-- What holds of a crew that goes on, and what a turn of one of it leaves.
use Rattle.std.specs.Prelude.{Contains, filter, ◌≡◌, ℕ, ◌<◌, ◌≤◌, true, false, List, ◌∷◌, ◌++◌, Option, Some, None, All, IsSomeAnd, length, map, slice_get, sum_by, []}
use Rattle.std.specs.List.{list_any}
use Rattle.hw_model.specs.Problem.{Problem}
use Rattle.hw_model.specs.Limits.{IsFlat}
use Rattle.hw_model.specs.Timetables.{cargo}
use Rattle.hw_cert_lines.specs.declared.line.Line.{Line}
use Rattle.hw_cert_lines.specs.Lines.{is_closed}
use Rattle.hw_cert.specs.declared.log.LogStop.TheVariants as stops
use Rattle.hw_cert.specs.Logs.{LogModel}
use Rattle.hw_search_laws.specs.declared.outcome.Branching.{Branching}
use Rattle.hw_search_laws.specs.declared.outcome.Turn.{Turn}
use Rattle.hw_search_laws.specs.declared.outcome.Turn.TheVariants as turns
use Rattle.hw_search_laws.specs.Turns.{is_last}
use Rattle.hw_search.specs.Going.{turns_left}
use Rattle.hw_cert_crews.specs.Pages.{Page}
use Rattle.hw_turns.specs.declared.board.Board.{Board}
use Rattle.hw_turns.specs.declared.member.Member.{Member}
use Rattle.hw_turns.specs.declared.outcome.Crewed.{Crewed}
use Rattle.hw_turns.specs.declared.outcome.Crewed.TheVariants.{Optimal, Infeasible}
use Rattle.hw_turns.specs.Orders.{same_rule, searcher_count}
use Rattle.hw_turns.specs.Crewing.{IsSaid, Crewing}
use Rattle.hw_turns.specs.Members.{Working, Halts, StaysTold}

-- a searcher's page
abbrev pub page_of : Member → Page
page_of m = record { lines = m.log; numbers = m.numbers.items }

-- the pages of searchers, in order
abbrev pub pages_of : List Member → List Page
pages_of members = map page_of members

-- at most this many turns are to come
abbrev pub crew_left : ℕ → List Member → ℕ
crew_left budget members = sum_by (λ (m : Member). turns_left budget m.search) members

-- a searcher has this rule
abbrev pub HasRule : List Member → Branching → Type 0
HasRule members rule = list_any (λ (m : Member). same_rule m.rule rule) members ≡ true

-- the searcher at a place has this rule
abbrev pub HasRuleAt : List Member → ℕ → Branching → Type 0
HasRuleAt members place rule = IsSomeAnd (slice_get members place) (λ (m : Member). same_rule m.rule rule ≡ true)

-- each searcher goes on
abbrev pub AllWorking : Problem → List Member → Type 0
AllWorking f members = All (λ (m : Member). Working f m.search m.log) members

-- all that was handed on, whether it is told or not
pub record Written (f : Problem) (members : List Member) (board : Board) (closed : Turn) (now : LogModel) : Type 0 where
  pub all : List Line
  pub crewing : Crewing f (pages_of members) board all
  pub closed_by : is_closed all ≡ is_last closed
  pub said : IsSaid all now

-- what a turn leaves of the whole crew
abbrev pub CrewStepLeaves : Problem → Turn → List Member → Board → LogModel → Type 0
CrewStepLeaves f turns.Decided members board new = Written f members board turns.Decided new
CrewStepLeaves f turns.Better members board new = Written f members board turns.Better new
CrewStepLeaves f turns.Lemma members board new = Written f members board turns.Lemma new
CrewStepLeaves f turns.Ended members board new = Written f members board turns.Ended new
CrewStepLeaves f turns.NoMemory members board new = Halts f stops.NoMemory board (pages_of members) new
CrewStepLeaves f turns.LogFailed members board new = Halts f stops.Failed board (pages_of members) new

-- from what was handed on before a turn to what it leaves
abbrev pub StepFrom : Problem → List Member → Board → LogModel → Turn → List Member → Board → LogModel → Type 0
StepFrom f members board old turn members' board' new = Written f members board turns.Decided old → CrewStepLeaves f turn members' board' new

-- a turn that isn't the last one brings the crew nearer to the budget's lemmas
abbrev pub CrewNearer : ℕ → Turn → List Member → List Member → Type 0
CrewNearer budget turn members members' = is_last turn ≡ false → All (λ (m : Member). m.search.lemmas < budget) members → crew_left budget members' < crew_left budget members

-- a crew that goes on: the log was `old` as it began
pub record CrewGoes (f : Problem) (order : List Branching) (budget : ℕ) (members : List Member) (board : Board) (old now : LogModel) : Type 0 where
  pub flat : IsFlat f
  pub written : Written f members board turns.Decided now
  pub working : AllWorking f members
  pub few : board.lemmas ≤ budget
  pub as_many : length members ≡ searcher_count order
  pub seats : (rule : Branching) → list_any (same_rule rule) order ≡ true → HasRule members rule
  pub faults : now.faults ≡ old.faults
  pub told : StaysTold old now

-- the searchers for those of these rules that come in the order, none of which has done anything
pub record NewSoFar (f : Problem) (order had : List Branching) (members : List Member) : Type 0 where
  pub working : AllWorking f members
  pub blank : All (λ (m : Member). (m.search.lemmas ≡ 0) × (m.log ≡ []) × (m.numbers.items ≡ [])) members
  pub as_many : length members ≡ length (filter (λ rule. list_any (same_rule rule) order) had)
  pub seats : (rule : Branching) → Contains had rule → list_any (same_rule rule) order ≡ true → HasRule members rule

-- a rule was added to those that came in the order
abbrev pub AddsRule : Problem → List Branching → Branching → List Member → List Member → Type 0
AddsRule f order rule members members' = (had : List Branching) → NewSoFar f order had members → NewSoFar f order (had ++ rule ∷ []) members'

-- a searcher for each rule of the order, none of which has done anything
pub record CrewIsBlank (f : Problem) (order : List Branching) (members : List Member) : Type 0 where
  pub working : AllWorking f members
  pub blank : All (λ (m : Member). (m.search.lemmas ≡ 0) × (m.log ≡ []) × (m.numbers.items ≡ [])) members
  pub as_many : length members ≡ searcher_count order
  pub seats : (rule : Branching) → list_any (same_rule rule) order ≡ true → HasRule members rule

-- the answer of a crew of which one ended, by the best of all
abbrev pub EndsCrewed : Problem → Option (List ℕ) → Crewed → Type 0
EndsCrewed f None answer = answer ≡ Infeasible
EndsCrewed f (Some table) answer = (c : ℕ) × (answer ≡ Optimal table c) × (cargo f table ≡ Some c)
