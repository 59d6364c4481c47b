-- What the source of a rule on tugs says, by its fleet and its jobs.
use Rattle.std.proofs.Common.{◌≡◌, ℕ, ◌<◌, List, [], ◌∷◌, Option, Some, sum_by, map, refl, sym, ap, subst, arith, inl, inr}
use Rattle.std.proofs.lemmas.List.Sums.{sum_by-cons}
use Rattle.hw_model.specs.declared.lit.Lit.{Lit}
use Rattle.hw_model.specs.declared.rule.Job.{Job}
use Rattle.hw_model.specs.declared.rule.Rule.TheVariants.{Tugs}
use Rattle.hw_model.specs.declared.rule.Step.{Step}
use Rattle.hw_model.specs.declared.source.Source.{Source}
use Rattle.hw_model.specs.Problem.{Problem, horizon, shape_of}
use Rattle.hw_model.specs.Limits.{IsFlat}
use Rattle.hw_model.specs.Rooms.{RoomModel, RoomFits}
use Rattle.hw_model.specs.Refuting.{Refutes, Exceeds, IsSourceOf, forced_by}
use Rattle.hw_model.specs.Quiet.{QuietSource}
use Rattle.hw_prop.specs.Finds.{Explanation}
use Rattle.hw_prop.specs.Plain.{range_of, In}
use Rattle.hw_prop.specs.Reductions.{IsQuiet, reduced}
use Rattle.hw_prop.specs.Ruled.{rule_of}
use Rattle.hw_prop.specs.Speaks.{SpokenOf, IsLocal, IsExplanation}
use Rattle.hw_prop.proofs.Laws.{of_source, quiet_of}
use Rattle.hw_prop.proofs.Ruled.{rule_spoken, rule_refutes}
use Rattle.hw_tugs.specs.Fleets.{fleet_at, TellsEach}
use Rattle.hw_tugs.specs.Held.{held_for}
use Rattle.hw_tugs.specs.declared.fleets.Fleets.{Fleets}
use Rattle.hw_tugs.specs.Over.{OverAt, Exceeding}

-- the ships of the jobs, and no pair, are what the source speaks of
pub jobs_spoken : (f : Problem) (source : Source) (fleet : ℕ) (later : List Step) (jobs : List Job) → IsFlat f → IsSourceOf f source → rule_of f source ≡ Some (Tugs fleet later jobs) → SpokenOf f source (map (λ job. job.ship) jobs) []
jobs_spoken f source fleet later jobs flat of e = rule_spoken f source (Tugs fleet later jobs) flat of e

-- the source refutes exactly where the fleet of a slot of the horizon is exceeded
pub to_refutes : (f : Problem) (source : Source) (best : Option ℕ) (fleet : ℕ) (later : List Step) (jobs : List Job) (room : RoomModel) → rule_of f source ≡ Some (Tugs fleet later jobs) → Exceeds f room fleet later jobs → Refutes f source best room
to_refutes f source best fleet later jobs room e over = (rule_refutes f source best room (Tugs fleet later jobs) e).0 over

pub from_refutes : (f : Problem) (source : Source) (best : Option ℕ) (fleet : ℕ) (later : List Step) (jobs : List Job) (room : RoomModel) → rule_of f source ≡ Some (Tugs fleet later jobs) → Refutes f source best room → Exceeds f room fleet later jobs
from_refutes f source best fleet later jobs room e h = (rule_refutes f source best room (Tugs fleet later jobs) e).1 h

-- what exceeds a rule's fleet exceeds the one that is told
to_told : (f : Problem) (fleet : ℕ) (later : List Step) (jobs : List Job) (fleets : Fleets) (room : RoomModel) → TellsEach (horizon f) fleet later fleets → Exceeds f room fleet later jobs → Exceeding fleets jobs (horizon f) room
to_told f fleet later jobs fleets room tells over = (over.0, over.1, subst (λ n. OverAt n jobs over.0 room) (sym (tells over.0 over.1)) over.2)

pub quiet_source : (f : Problem) (source : Source) (best : Option ℕ) (fleet : ℕ) (later : List Step) (jobs : List Job) (fleets : Fleets) (room : RoomModel) → RoomFits f room → rule_of f source ≡ Some (Tugs fleet later jobs) → TellsEach (horizon f) fleet later fleets → IsQuiet (Exceeding fleets jobs (horizon f)) room → QuietSource f source best room
quiet_source f source best fleet later jobs fleets room fits e tells quiet = quiet_of f source best room fits.same_ships (λ c i h. quiet c i (to_told f fleet later jobs fleets (reduced c room) tells (from_refutes f source best fleet later jobs _ e h)))

-- the ranges of the jobs' ships tell what is certainly held in a slot
same_sum : (jobs : List Job) (slot : ℕ) (d e : RoomModel) → ((u : ℕ) → In u (map (λ job. job.ship) jobs) → range_of e u ≡ range_of d u) → sum_by (forced_by e slot) jobs ≡ sum_by (forced_by d slot) jobs
same_sum [] slot d e same = refl
same_sum (job ∷ jobs) slot d e same =
    let here : forced_by e slot job ≡ forced_by d slot job = ap (λ (r : ℕ × ℕ). held_for job r slot) (same job.ship (inl refl)) in
    omega (
      arith,
      here,
      sum_by-cons (forced_by e slot) job jobs,
      sum_by-cons (forced_by d slot) job jobs,
      same_sum jobs slot d e (λ u i. same u (inr i)),
    )

pub slot_local : (fleet : ℕ) (jobs : List Job) (slot : ℕ) → IsLocal (OverAt fleet jobs slot) (map (λ job. job.ship) jobs) []
slot_local fleet jobs slot d e ranges orders over = omega (arith, over, same_sum jobs slot d e ranges)

-- an explanation by one slot is one of the source
pub slot_explains : (f : Problem) (source : Source) (best : Option ℕ) (fleet : ℕ) (later : List Step) (jobs : List Job) (fleets : Fleets) (slot : ℕ) (ships : List ℕ) (room : RoomModel) (clause : List Lit) → IsFlat f → IsSourceOf f source → RoomFits f room → rule_of f source ≡ Some (Tugs fleet later jobs) → TellsEach (horizon f) fleet later fleets → slot < horizon f → SpokenOf f source ships []
    → IsExplanation (OverAt (fleet_at fleets slot) jobs slot) (shape_of f) ships [] room clause → Explanation f source best room clause
slot_explains f source best fleet later jobs fleets slot ships room clause flat of fits e tells lt spoken x =
    let refutes : (d : RoomModel) → OverAt (fleet_at fleets slot) jobs slot d → Refutes f source best d =
    λ d over. to_refutes f source best fleet later jobs d e (slot, lt, subst (λ n. OverAt n jobs slot d) (tells slot lt) over) in
    of_source f source best ships [] room clause flat of fits spoken (record {
      normal = x.normal;
      refuted = refutes _ x.refuted;
      active = x.active;
      speaks = x.speaks;
      loud = λ quiet. x.loud (λ c i over. quiet c i (refutes _ over));
    })

pub spoken_by : (f : Problem) (source : Source) (fleet : ℕ) (later : List Step) (jobs : List Job) (ships : List ℕ) → IsFlat f → IsSourceOf f source → rule_of f source ≡ Some (Tugs fleet later jobs) → ships ≡ map (λ job. job.ship) jobs → SpokenOf f source ships []
spoken_by f source fleet later jobs ships flat of e same = subst (λ s. SpokenOf f source s []) (sym same) (jobs_spoken f source fleet later jobs flat of e)

pub slot_local_by : (fleet : ℕ) (jobs : List Job) (slot : ℕ) (ships : List ℕ) → ships ≡ map (λ job. job.ship) jobs → IsLocal (OverAt fleet jobs slot) ships []
slot_local_by fleet jobs slot ships same = subst (λ s. IsLocal (OverAt fleet jobs slot) s []) (sym same) (slot_local fleet jobs slot)
