-- The 0-1 linear programme of a flat problem.
use Rattle.std.specs.Prelude.{◌≡◌, ◌≤◌, ◌<◌, ℕ, zero, suc, ◌+◌, ◌-◌, ◌/◌, min, max, ℤ, pos, negsuc, neg_ℤ, ◌+ℤ◌, ◌-ℤ◌, nat_eq, nat_lt, ◌&&◌, is_some, if◌then◌else◌, List, [], ◌∷◌, ◌++◌, map, slice_get, slice_index_or, Option, Some, None}
use Rattle.hw_model.specs.declared.limits.TheConstants.{MOST_SHIPS, MOST_TUGS}
use Rattle.hw_flat_programme.specs.declared.limits.TheConstants.{MOST_WINDOWS}
use Rattle.hw_model.specs.declared.rule.Hole.{Hole}
use Rattle.hw_model.specs.declared.rule.Job.{Job}
use Rattle.hw_model.specs.declared.rule.Rule.{Rule}
use Rattle.hw_model.specs.declared.rule.Rule.TheVariants.{Pair, After, Tugs}
use Rattle.hw_model.specs.declared.rule.Step.{Step}
use Rattle.hw_model.specs.Problem.{Problem, horizon, value_at}
use Rattle.hw_model.specs.Refuting.{greatest_value}
use Rattle.hw_model.specs.Rules.{fleet_in}
use Rattle.hw_flat_programme.specs.declared.format.Format.{Format}
use Rattle.hw_flat_programme.specs.declared.format.Format.TheVariants.{Lp, Opb}
use Rattle.hw_flat_programme.specs.declared.format.Sense.TheVariants.{AtMost, Exactly}
use Rattle.hw_flat_programme.specs.declared.span.Span.{Span}
use Rattle.hw_flat_programme.specs.Programmes.{Term, Row, Programme, weight_of}

-- ---- terms

-- the term of a slot in which the ship has a value, or none
abbrev pub term_at : Problem → ℕ → ℕ → ℕ → List Term
term_at f weight ship slot = if is_some (value_at f ship slot) then record { weight = weight; ship = ship; slot = slot } ∷ [] else []

-- those of `count` slots from this one on
abbrev pub terms_from : Problem → ℕ → ℕ → ℕ → ℕ → List Term
terms_from f weight ship slot zero = []
terms_from f weight ship slot (suc more) = term_at f weight ship slot ++ terms_from f weight ship (slot + 1) more

-- those of a span: the slots from its first one to before its end
abbrev pub span_terms : Problem → Span → List Term
span_terms f span = terms_from f span.weight span.ship span.from (span.to - span.from)

abbrev pub terms_of : Problem → List Span → List Term
terms_of f [] = []
terms_of f (span ∷ spans) = span_terms f span ++ terms_of f spans

-- a span of one of the ships, inside its slots
pub record SpanFits (f : Problem) (span : Span) : Type 0 where
  pub ship_in : span.ship < f.ships
  pub slots_in : span.to ≤ f.slots
  pub small : span.weight ≤ MOST_TUGS

-- ---- the objective

-- the most that a ship may carry
abbrev pub most : Problem → ℕ → ℕ
most f ship = greatest_value f ship 0 (f.slots - 1)

-- what a value counts: in the LP format itself, and in OPB, which has least sums alone, what it lacks of the ship's most
abbrev pub counts : Format → ℕ → ℕ → ℕ
counts Lp top value = value
counts Opb top value = top - value

abbrev pub value_term : Format → ℕ → ℕ → ℕ → Option ℕ → List Term
value_term format top ship slot None = []
value_term format top ship slot (Some value) = record { weight = counts format top value; ship = ship; slot = slot } ∷ []

-- those of `count` slots from this one on
abbrev pub value_terms : Format → Problem → ℕ → ℕ → ℕ → List Term
value_terms format f ship slot zero = []
value_terms format f ship slot (suc more) = value_term format (most f ship) ship slot (value_at f ship slot) ++ value_terms format f ship (slot + 1) more

-- those of `count` ships from this one on
abbrev pub ships_terms : Format → Problem → ℕ → ℕ → List Term
ships_terms format f ship zero = []
ships_terms format f ship (suc more) = value_terms format f ship 0 f.slots ++ ships_terms format f (ship + 1) more

-- the most that each of `count` ships from this one on may carry, added up
abbrev pub most_from : Problem → ℕ → ℕ → ℕ
most_from f ship zero = 0
most_from f ship (suc more) = most f ship + most_from f (ship + 1) more

-- ---- rows

-- the row that a weight in some spans is at most a bound; none where all of them together are
abbrev pub row_at_most : Problem → ℕ → List Span → List Row
row_at_most f bound spans = if nat_lt bound (weight_of (terms_of f spans)) then record { terms = terms_of f spans; sense = AtMost; bound = bound } ∷ [] else []

-- one such row for each of `count` numbers from this one on, with its own bound and over its own spans
abbrev pub numbered_rows : Problem → (ℕ → ℕ) → (ℕ → List Span) → ℕ → ℕ → List Row
numbered_rows f bound spans k zero = []
numbered_rows f bound spans k (suc more) = row_at_most f (bound k) (spans k) ++ numbered_rows f bound spans (k + 1) more

-- all slots of a ship, with weight 1
abbrev pub whole_span : Problem → ℕ → Span
whole_span f ship = record { ship = ship; from = 0; to = f.slots; weight = 1 }

-- a ship has exactly one slot; where ships may stay, one slot means so
abbrev pub ship_row : Problem → ℕ → Row
ship_row f ship = record { terms = span_terms f (whole_span f ship); sense = Exactly; bound = 1 }

-- those of `count` ships from this one on
abbrev pub ship_rows : Problem → ℕ → ℕ → List Row
ship_rows f ship zero = []
ship_rows f ship (suc more) = ship_row f ship ∷ ship_rows f (ship + 1) more

-- the first slot that isn't before a time
abbrev pub slot_from : ℤ → ℕ
slot_from (pos n) = n
slot_from (negsuc n) = 0

-- how many slots the first ship's window has: half of those that a hole spans
abbrev pub width : Hole → ℕ
width hole = slot_from (hole.hi -ℤ hole.lo) / 2 + 1

-- the window of the first ship that ends with a slot
abbrev pub first_window : Problem → ℕ → Hole → ℕ → Span
first_window f v hole last = record { ship = v; from = last + 1 - width hole; to = min (last + 1) (horizon f); weight = 1 }

-- the sailing slots of the second ship that a hole keeps apart from each slot of a window of the first one
abbrev pub partner : Problem → ℕ → Hole → Span → Span
partner f w hole first = record { ship = w; from = slot_from ((pos first.to -ℤ pos 1) +ℤ hole.lo); to = min (horizon f) (slot_from ((pos first.from +ℤ hole.hi) +ℤ pos 1)); weight = 1 }

-- of these two windows at most one is sailed in
abbrev pub window_spans : Problem → ℕ → ℕ → Hole → ℕ → List Span
window_spans f v w hole last = first_window f v hole last ∷ partner f w hole (first_window f v hole last) ∷ []

-- ---- groups of ships

-- a hole of a pair, seen from its second ship
abbrev pub mirrored_hole : Hole → Hole
mirrored_hole hole = record { lo = neg_ℤ hole.hi; hi = neg_ℤ hole.lo }

abbrev pub turned_of : Option Hole → Option Hole
turned_of None = None
turned_of (Some hole) = Some (mirrored_hole hole)

-- the first hole of a pair, seen from the first of these two ships; none in a rule on others
abbrev pub hole_in : Rule → ℕ → ℕ → Option Hole
hole_in (Pair a b holes) v w = if nat_eq a v && nat_eq b w then slice_get holes 0 else if nat_eq a w && nat_eq b v then turned_of (slice_get holes 0) else None
hole_in (After a b gap) v w = None
hole_in (Tugs fleet later jobs) v w = None

abbrev pub or_else : Option Hole → Option Hole → Option Hole
or_else None other = other
or_else (Some hole) other = Some hole

-- that of the first pair of these two ships
abbrev pub hole_between : List Rule → ℕ → ℕ → Option Hole
hole_between [] v w = None
hole_between (rule ∷ rules) v w = or_else (hole_in rule v w) (hole_between rules v w)

-- a table has it for each two ships
abbrev pub IsHoleTable : Problem → List (List (Option Hole)) → Type 0
IsHoleTable f table = (v w : ℕ) → v < MOST_SHIPS → w < MOST_SHIPS → slice_index_or (slice_index_or table v []) w None ≡ hole_between f.rules v w

-- all slots in which a ship may sail
abbrev pub sailing_span : Problem → ℕ → Span
sailing_span f ship = record { ship = ship; from = 0; to = horizon f; weight = 1 }

-- the sailing slots of a ship that a hole keeps apart from each slot of a span; none where the two ships have no hole
abbrev pub apart_by : Problem → ℕ → Span → Option Hole → Span
apart_by f ship span None = record { ship = ship; from = 0; to = 0; weight = 1 }
apart_by f ship span (Some hole) = partner f ship hole span

abbrev pub apart_from : Problem → ℕ → Span → Span
apart_from f ship span = apart_by f ship span (hole_between f.rules span.ship ship)

-- the slots of two spans
abbrev pub meet : Span → Span → Span
meet a b = record { ship = a.ship; from = max a.from b.from; to = min a.to b.to; weight = 1 }

-- those of a span that are kept apart from each slot of some spans
abbrev pub joint_from : Problem → ℕ → Span → List Span → Span
joint_from f ship joint [] = joint
joint_from f ship joint (span ∷ spans) = joint_from f ship (meet joint (apart_from f ship span)) spans

abbrev pub joint : Problem → ℕ → List Span → Span
joint f ship spans = joint_from f ship (sailing_span f ship) spans

-- spans of which at most one is sailed in, and with them the span of a ship that is kept apart from all of them, where it has a value there
abbrev pub with_ship : Problem → List Span → ℕ → List Span
with_ship f spans ship = if nat_eq (weight_of (span_terms f (joint f ship spans))) 0 then spans else spans ++ joint f ship spans ∷ []

-- grown by `count` ships from this one on
abbrev pub grown_from : Problem → List Span → ℕ → ℕ → List Span
grown_from f spans ship zero = spans
grown_from f spans ship (suc more) = grown_from f (with_ship f spans ship) (ship + 1) more

-- grown by each ship in turn
abbrev pub grown : Problem → List Span → List Span
grown f spans = grown_from f spans 0 f.ships

-- a span of sailing slots of weight 1
pub record IsWindow (f : Problem) (span : Span) : Type 0 where
  pub ship_in : span.ship < f.ships
  pub near : span.from ≤ MOST_WINDOWS
  pub slots_in : span.to ≤ horizon f
  pub one : span.weight ≡ 1

-- two windows of a hole, grown to a group of ships of which at most one sails in its window
abbrev pub group_spans : Problem → ℕ → ℕ → Hole → ℕ → List Span
group_spans f v w hole last = grown f (window_spans f v w hole last)

-- the windows of a hole: the first ship's end with each slot of the horizon, and after it while they begin in it
abbrev pub window_rows : Problem → ℕ → ℕ → Hole → List Row
window_rows f v w hole = numbered_rows f (λ k. 1) (group_spans f v w hole) 0 (horizon f + width hole - 1)

abbrev pub hole_rows : Problem → ℕ → ℕ → List Hole → List Row
hole_rows f v w [] = []
hole_rows f v w (hole ∷ holes) = window_rows f v w hole ++ hole_rows f v w holes

-- where the first ship of a precedence sails in a slot or later, or stays, the second one doesn't sail before the gap is over
abbrev pub after_spans : Problem → ℕ → ℕ → ℕ → ℕ → List Span
after_spans f v w gap slot = record { ship = v; from = slot; to = f.slots; weight = 1 } ∷ record { ship = w; from = 0; to = min (horizon f) (slot + gap); weight = 1 } ∷ []

abbrev pub after_rows : Problem → ℕ → ℕ → ℕ → List Row
after_rows f v w gap = numbered_rows f (λ k. 1) (after_spans f v w gap) 0 f.slots

-- the slots from which a job holds its tugs in a slot
abbrev pub job_span : ℕ → Job → Span
job_span slot job = record { ship = job.ship; from = slot + 1 - job.hold; to = slot + 1; weight = job.tugs }

abbrev pub job_spans : List Job → ℕ → List Span
job_spans jobs slot = map (job_span slot) jobs

-- in each slot of the horizon no more tugs are held than the fleet has in it
abbrev pub tug_rows : Problem → ℕ → List Step → List Job → List Row
tug_rows f fleet later jobs = numbered_rows f (fleet_in fleet later) (job_spans jobs) 0 (horizon f)

abbrev pub rule_rows : Problem → Rule → List Row
rule_rows f (Pair v w holes) = hole_rows f v w holes
rule_rows f (After v w gap) = after_rows f v w gap
rule_rows f (Tugs fleet later jobs) = tug_rows f fleet later jobs

abbrev pub rules_rows : Problem → List Rule → List Row
rules_rows f [] = []
rules_rows f (rule ∷ rules) = rule_rows f rule ++ rules_rows f rules

-- a row for each ship, and then those of the rules
abbrev pub rows_of : Problem → List Row
rows_of f = ship_rows f 0 f.ships ++ rules_rows f f.rules

-- the objective is a greatest sum in the LP format, and a least sum in OPB
abbrev pub programme_of : Format → Problem → Programme
programme_of format f = record { objective = ships_terms format f 0 f.ships; rows = rows_of f }
