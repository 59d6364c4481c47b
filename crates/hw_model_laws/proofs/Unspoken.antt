-- The range of a ship that a source doesn't speak of doesn't matter to it.
use Rattle.std.proofs.Common.{◌≡◌, ◌≢◌, ℕ, ◌+◌, ◌<◌, ◌≤◌, false, cond, ◌&&◌, nat_eq, nat_lt, nat_le, List, [], ◌∷◌, Option, Some, None, slice_get, sum_by, IsSomeAnd, All, refl, sym, arith}
use Rattle.std.proofs.lemmas.Bool.{eqb-false, or_parts, lt-ltb, both_ways}
use Rattle.std.proofs.lemmas.List.Elements.{All-nil, All-cons}
use Rattle.std.specs.List.{list_any}
use Rattle.hw_model.specs.declared.rule.Job.{Job}
use Rattle.hw_model.specs.declared.rule.Rule.{Rule}
use Rattle.hw_model.specs.declared.rule.Rule.TheVariants.{Pair, After, Tugs}
use Rattle.hw_model.specs.declared.source.Source.{Source}
use Rattle.hw_model.specs.declared.source.Source.TheVariants as sources
use Rattle.hw_model.specs.Rules.{fleet_in}
use Rattle.hw_model.specs.Problem.{Problem}
use Rattle.hw_model.specs.Rooms.{RoomModel, low_of, high_of}
use Rattle.hw_model.specs.Narrowing.{with_range}
use Rattle.hw_model.specs.Refuting.{Refutes, RuleRefutes, NoneMeets, forced_by}
use Rattle.hw_model.specs.Quiet.{names_ship, rule_names_ship}
use Rattle.hw_model_laws.proofs.Counting.{sum_le}
use Rattle.hw_model_laws.proofs.Ranges.{in_other_range}
use Rattle.hw_model_laws.proofs.Bounds.{low_other, high_other}

other : (a b : ℕ) → nat_eq a b ≡ false → b ≢ a
other a b e = λ same. eqb-false a b e (sym same)

none_other : (f : Problem) (room : RoomModel) (rule : Rule) (v w ship low high : ℕ) → v ≢ ship → w ≢ ship → NoneMeets f (with_range room ship low high) rule v w → NoneMeets f room rule v w
none_other f room rule v w ship low high a b none = λ x y hx hy e. none x y (in_other_range room ship low high v x a hx) (in_other_range room ship low high w y b hy) e

same_forced : (room : RoomModel) (ship low high slot : ℕ) (jobs : List Job) → list_any (λ job. nat_eq job.ship ship) jobs ≡ false → All (λ job. forced_by (with_range room ship low high) slot job ≤ forced_by room slot job) jobs
same_forced room ship low high slot [] e = All-nil (λ job. forced_by (with_range room ship low high) slot job ≤ forced_by room slot job)
same_forced room ship low high slot (job ∷ jobs) e =
    let parts = or_parts (nat_eq job.ship ship) (list_any (λ job. nat_eq job.ship ship) jobs) e in
    let ne : job.ship ≢ ship = eqb-false job.ship ship parts.0 in
    let a = low_other room ship low high job.ship ne in
    let b = high_other room ship low high job.ship ne in
    let same : forced_by (with_range room ship low high) slot job ≡ forced_by room slot job = by (low_of (with_range room ship low high) job.ship) (high_of (with_range room ship low high) job.ship) (low_of room job.ship) (high_of room job.ship) slot job.hold job.tugs a b in
    let le : forced_by (with_range room ship low high) slot job ≤ forced_by room slot job = omega (arith, same) in
    All-cons (λ job. forced_by (with_range room ship low high) slot job ≤ forced_by room slot job) job jobs le (same_forced room ship low high slot jobs parts.1)
  where
    by : (low high low' high' slot hold tugs : ℕ) → low ≡ low' → high ≡ high' → cond (nat_le high slot && nat_lt slot (low + hold)) tugs 0 ≡ cond (nat_le high' slot && nat_lt slot (low' + hold)) tugs 0
    by low high low' high' slot hold tugs a b = rw (a, b) refl

rule_other : (f : Problem) (room : RoomModel) (o : Option Rule) (ship low high : ℕ) → rule_names_ship o ship ≡ false → IsSomeAnd o (RuleRefutes f (with_range room ship low high)) → IsSomeAnd o (RuleRefutes f room)
rule_other f room None ship low high e h = absurd h
rule_other f room (Some (Pair v w holes)) ship low high e h =
    let p = or_parts (nat_eq ship v) (nat_eq ship w) e in
    none_other f room (Pair v w holes) v w ship low high (other ship v p.0) (other ship w p.1) h
rule_other f room (Some (After v w gap)) ship low high e h =
    let p = or_parts (nat_eq ship v) (nat_eq ship w) e in
    none_other f room (After v w gap) v w ship low high (other ship v p.0) (other ship w p.1) h
rule_other f room (Some (Tugs fleet later jobs)) ship low high e h =
    let more : fleet_in fleet later h.0 < sum_by (forced_by (with_range room ship low high) h.0) jobs = h.2 in
    (h.0, h.1, omega (arith, more, sum_le (forced_by (with_range room ship low high) h.0) (forced_by room h.0) jobs (same_forced room ship low high h.0 jobs e)))

pub unspoken : (f : Problem) (source : Source) (best : Option ℕ) (room : RoomModel) (ship low high : ℕ) → ship < f.ships → names_ship f source ship ≡ false → Refutes f source best (with_range room ship low high) → Refutes f source best room
unspoken f (sources.Window v) best room ship low high lt e h = λ slot r. h slot (in_other_range room ship low high v slot (other ship v e) r)
unspoken f (sources.Rule place) best room ship low high lt e h = rule_other f room (slice_get f.rules place) ship low high e h
unspoken f (sources.Order v w x) best room ship low high lt e h = h
unspoken f sources.Goal best room ship low high lt e h = absurd (both_ways _ e (lt-ltb _ _ lt))
