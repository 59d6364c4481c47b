-- Each turn with advice brings a solution nearer to its end, and a bound keeps it as near.
use Rattle.std.proofs.Common.{◌≡◌, ℕ, ◌+◌, ◌-◌, ◌*◌, ◌<◌, ◌≤◌, true, false, [], ◌∷◌, ◌++◌, Option, Some, None, IsSomeAnd, length, sym, ap, ◌∙◌, subst, arith, length-append}
use Rattle.hw_model.specs.declared.lit.Lit.{Lit}
use Rattle.hw_model.specs.declared.lit.LitTruth.TheVariants.{Free}
use Rattle.hw_model.specs.Lits.{lit_fits}
use Rattle.hw_model.specs.Narrowing.{truth}
use Rattle.hw_model.specs.Problem.{Problem, shape_of}
use Rattle.hw_model.specs.Rooms.{point_of}
use Rattle.hw_trail_laws.specs.Trails.{most_events, trail_shape, decided}
use Rattle.hw_search_laws.specs.Branches.{branch_literal}
use Rattle.hw_cert.specs.Logs.{LogModel}
use Rattle.hw_search_laws.specs.declared.outcome.Turn.{Turn}
use Rattle.hw_search_laws.specs.declared.outcome.Turn.TheVariants as turns
use Rattle.hw_search_laws.specs.Searches.{SearchModel, IsSearch, room_in, best_cargo}
use Rattle.hw_search_laws.specs.Turns.{DoesDecide, DoesBetter, DoesLemma, TurnDoes, is_last}
use Rattle.hw_search_laws.specs.Advised.{Heeds, Lowers, Prefers, FollowsAdvice, AdvisedMeets}
use Rattle.hw_search_laws.specs.Advised.FollowsAdvice.{by_turn, by_preference, by_stop}
use Rattle.hw_search_laws.proofs.Choices.{branch_open}
use Rattle.hw_search_laws.proofs.Keeps.{decided_search, better_search}
use Rattle.hw_search_laws.proofs.Stops.{past}
use Rattle.hw_search_laws.proofs.Turned.{point_table}
use Rattle.hw_search_laws.proofs.Provings.{no_stop}
use Rattle.hw_search.specs.Going.{cargo_rank, most_cargo, turns_left}
use Rattle.hw_search_advised.proofs.Heedings.{same_problem, no_fewer}
use Rattle.hw_search.proofs.Counting.{nearer, less_decided, same_cargo, same_left}
use Rattle.hw_search.proofs.Kept.{few_in, room_here}
use Rattle.hw_search.proofs.Turns.{same_fits}

-- ---- what is left

no_more : (g x m e now : ℕ) → e ≤ now → g + (x + (m - now)) ≤ g + (x + (m - e))
no_more g x m e now a = omega (arith, a)

-- advice that is heeded leaves no more turns
heeded_left : (budget : ℕ) (s u : SearchModel) (old new : LogModel) → Heeds s u old new → turns_left budget u ≤ turns_left budget s
heeded_left budget s u old new h =
    let m = most_events s.problem.ships s.problem.slots in
    let p : u.problem ≡ s.problem = same_problem s u old new h in
    let b : u.best ≡ s.best = ap (λ (x : SearchModel). x.best) h.same in
    let l : u.lemmas ≡ s.lemmas = ap (λ (x : SearchModel). x.lemmas) h.same in
    let g : cargo_rank (best_cargo u) ≡ cargo_rank (best_cargo s) = ap cargo_rank (same_cargo s u p b) in
    let x : (budget - u.lemmas) * (m + 1) ≡ (budget - s.lemmas) * (m + 1) = ap (λ n. (budget - n) * (m + 1)) l in
    let r = no_more (most_cargo s.problem + 1 - cargo_rank (best_cargo s)) ((budget - s.lemmas) * (m + 1)) m (length s.trail.events) (length u.trail.events) (no_fewer s u old new h) in
    omega (arith, r, g, x, same_left budget s u p)

-- a decision that was preferred is one more event, for which there is room
preferred_left : (budget : ℕ) (s u : SearchModel) (turn : Turn) (old new : LogModel) → Prefers s old turn u new → turns_left budget u < turns_left budget s
preferred_left budget s u turn old new d =
    let m = most_events s.problem.ships s.problem.slots in
    let p : u.problem ≡ s.problem = ap (λ (x : SearchModel). x.problem) d.decides in
    let b : u.best ≡ s.best = ap (λ (x : SearchModel). x.best) d.decides in
    let l : u.lemmas ≡ s.lemmas = ap (λ (x : SearchModel). x.lemmas) d.decides in
    let e : length u.trail.events ≡ length s.trail.events + 1 = ap (λ (x : SearchModel). length x.trail.events) d.decides ∙ length-append s.trail.events _ in
    let few : length u.trail.events ≤ m = subst (λ (f : Problem). length u.trail.events ≤ most_events f.ships f.slots) p (few_in u d.kept) in
    let g : cargo_rank (best_cargo u) ≡ cargo_rank (best_cargo s) = ap cargo_rank (same_cargo s u p b) in
    let x : (budget - u.lemmas) * (m + 1) ≡ (budget - s.lemmas) * (m + 1) = ap (λ n. (budget - n) * (m + 1)) l in
    let r = less_decided (most_cargo s.problem + 1 - cargo_rank (best_cargo s)) ((budget - s.lemmas) * (m + 1)) m (length s.trail.events) (length u.trail.events) (omega (arith, e)) few in
    omega (arith, r, g, x, same_left budget s u p)

pub advised_nearer : (turn : Turn) (budget : ℕ) (s u : SearchModel) (old new : LogModel) → is_last turn ≡ false → s.lemmas < budget → AdvisedMeets s old turn u new → turns_left budget u < turns_left budget s
advised_nearer turn budget s u old new last lt a = omega (arith, heeded_left budget s a.mid old a.then a.heeds, by a.follows)
  where
    by : FollowsAdvice a.mid a.then turn u new → turns_left budget u < turns_left budget a.mid
    by (by_turn t) = nearer turn budget a.mid u a.then new last (omega (arith, lt, ap (λ (x : SearchModel). x.lemmas) a.heeds.same)) t.same_problem t.does
    by (by_preference p) = preferred_left budget a.mid u turn a.then new p
    by (by_stop x) = absurd (no_stop a.mid.problem turn a.then new last x.cause)

-- a bound leaves no more turns
pub lowered_left : (budget : ℕ) (s u : SearchModel) (old new : LogModel) → Lowers s u old new → turns_left budget u ≤ turns_left budget s
lowered_left budget s u old new l =
    let e : turns_left budget u ≡ turns_left budget l.mid = ap (turns_left budget) l.after_is in
    omega (arith, e, heeded_left budget s l.mid old l.then l.heeds)

-- ---- what is kept

-- after a decision by the branching rule there is a search
decided_kept : (s u : SearchModel) (old new : LogModel) → DoesDecide s u old new → IsSearch u
decided_kept s u old new h = by (branch_literal h.mid.branching h.mid.problem (room_in h.mid)) h.decides (branch_open h.mid.branching h.mid.problem (room_in h.mid) (room_here h.mid is) h.open_room)
  where
    is : IsSearch h.mid
    is = h.settles.kept

    by : (o : Option Lit) → IsSomeAnd o (λ lit. u ≡ record h.mid { trail = decided h.mid.trail lit; written = h.mid.written ++ None ∷ [] }) → IsSomeAnd o (λ lit. (lit_fits (shape_of h.mid.problem) lit ≡ true) × (truth (room_in h.mid) lit ≡ Free)) → IsSearch u
    by None d open' = absurd d
    by (Some lit) d open' = subst IsSearch (sym d) (decided_search h.mid lit is h.settles.ends (same_fits (trail_shape h.mid.trail) (shape_of h.mid.problem) lit is.same_ships is.same_slots ∙ open'.0) open'.1)

-- after a better timetable there is one
better_kept : (s u : SearchModel) (old new : LogModel) → DoesBetter s u old new → IsSearch u
better_kept s u old new h =
    let p = point_table h.mid h.settles.kept h.settles.ends h.point in
    subst IsSearch (sym h.better) (better_search h.mid (point_of (room_in h.mid)) p.1 h.settles.kept p.0 p.2 p.3)

-- after a turn that found a lemma there is one
lemma_kept : (s u : SearchModel) (old new : LogModel) → s.over ≡ false → DoesLemma s u old new → IsSearch u
lemma_kept s u old new going h =
    let a = h.analysed in
    let over : h.mid.over ≡ false = ap (λ (x : SearchModel). x.over) a.settles.implies.only ∙ going in
    subst IsSearch (sym h.search) (past h.mid a.settles.kept h.why h.lemma h.back h.places over a.settles.ends a.learns h.some_literal).kept

turn_kept : (turn : Turn) (s u : SearchModel) (old new : LogModel) → is_last turn ≡ false → s.over ≡ false → TurnDoes s old turn u new → IsSearch u
turn_kept turns.Decided s u old new last going h = decided_kept s u old new h
turn_kept turns.Better s u old new last going h = better_kept s u old new h
turn_kept turns.Lemma s u old new last going h = lemma_kept s u old new going h
turn_kept turns.Ended s u old new last going h = absurd cc
turn_kept turns.NoMemory s u old new last going h = absurd cc
turn_kept turns.LogFailed s u old new last going h = absurd cc

-- after a turn that isn't the last there is one
pub turn_search : (turn : Turn) (s u : SearchModel) (old new : LogModel) → is_last turn ≡ false → s.over ≡ false → AdvisedMeets s old turn u new → IsSearch u
turn_search turn s u old new last going a = by a.follows
  where
    by : FollowsAdvice a.mid a.then turn u new → IsSearch u
    by (by_turn t) = turn_kept turn a.mid u a.then new last (ap (λ (x : SearchModel). x.over) a.heeds.same ∙ going) t.does
    by (by_preference p) = p.kept
    by (by_stop x) = absurd (no_stop a.mid.problem turn a.then new last x.cause)
