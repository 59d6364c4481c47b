-- Each turn of a solution brings it nearer to its end.
use Rattle.std.proofs.Common.{option_and_then, ◌≡◌, ℕ, ◌+◌, ◌-◌, ◌*◌, ◌<◌, ◌≤◌, Bool, true, false, cond, nat_lt, nat_le, ◌&&◌, List, [], ◌∷◌, ◌++◌, Option, Some, None, IsSomeAnd, IsTrue, length, refl, sym, ap, ◌∙◌, subst, arith, length-append}
use Rattle.std.proofs.lemmas.Bool.{ltb-true}
use Rattle.hw_model.specs.declared.lit.Lit.{Lit}
use Rattle.hw_model.specs.declared.lit.Lit.TheVariants.{AtOrAfter, Before, First, NotFirst}
use Rattle.hw_model.specs.Problem.{Problem, shape_of}
use Rattle.hw_model.specs.Timetables.{cargo, beats}
use Rattle.hw_model.specs.Lits.{lit_fits}
use Rattle.hw_model.specs.Rooms.{whole_room, point_of}
use Rattle.hw_model_laws.proofs.Denials.{inside_whole}
use Rattle.hw_model_laws.proofs.Sound.{cargo_le}
use Rattle.hw_trail_laws.specs.declared.event.Why.{Why}
use Rattle.hw_trail_laws.specs.Trails.{trail_shape, decided, most_events}
use Rattle.hw_cert.specs.Logs.{LogModel}
use Rattle.hw_search_laws.specs.declared.outcome.Turn.{Turn}
use Rattle.hw_search_laws.specs.declared.outcome.Turn.TheVariants as turns
use Rattle.hw_search_laws.specs.Branches.{branch_literal}
use Rattle.hw_search_laws.specs.Searches.{SearchModel, IsSearch, best_cargo, room_in}
use Rattle.hw_search_laws.specs.Settling.{Implies}
use Rattle.hw_search_laws.specs.Turns.{cited, cite_conflict, with_lemma, to_level, restart_is_due, gone_back, is_last, DoesDecide, DoesBetter, DoesLemma, TurnDoes}
use Rattle.hw_search_laws.proofs.Bounds.{few_reasons}
use Rattle.hw_search_laws.proofs.Choices.{branch_open, IsOpen}
use Rattle.hw_search_laws.proofs.Holds.{room_fits}
use Rattle.hw_search_laws.proofs.Keeps.{decided_search}
use Rattle.hw_search_laws.proofs.Stops.{numbers_kept}
use Rattle.hw_search_laws.proofs.Turned.{point_table}
use Rattle.hw_search_laws.proofs.OneLemma.{gone_lemmas, implied_lemmas, decide_lemmas}
use Rattle.hw_search.specs.Going.{cargo_rank, most_cargo, turns_left}

-- ---- counts of lemmas

gone_best : (u : SearchModel) (back : ℕ) → (gone_back u back).best ≡ u.best
gone_best u back = by (restart_is_due u)
  where
    by : (b : Bool) → (cond b (record (to_level u 0) { restarts = u.restarts + 1; since = 0 }) (record (to_level u back) { since = u.since + 1 })).best ≡ u.best
    by true = refl
    by false = refl

cited_lemmas : (mid : SearchModel) (why : Why) (places : List ℕ) → (cite_conflict (cited mid places) why).search.lemmas ≡ mid.lemmas
cited_lemmas mid why places = ap (λ (x : SearchModel). x.lemmas) (numbers_kept mid why places).same

cited_best : (mid : SearchModel) (why : Why) (places : List ℕ) → (cite_conflict (cited mid places) why).search.best ≡ mid.best
cited_best mid why places = ap (λ (x : SearchModel). x.best) (numbers_kept mid why places).same

implied_best : (s mid : SearchModel) → Implies s mid → mid.best ≡ s.best
implied_best s mid h = ap (λ (x : SearchModel). x.best) h.only

implied_problem : (s mid : SearchModel) → Implies s mid → mid.problem ≡ s.problem
implied_problem s mid h = ap (λ (x : SearchModel). x.problem) h.only

implied_events : (s mid : SearchModel) → Implies s mid → length s.trail.events ≤ length mid.trail.events
implied_events s mid h = omega (arith, ap (λ (x : SearchModel). length x.trail.events) h.only, length-append s.trail.events h.more)

of_some : {A : Type 0} (o : Option A) (P Q : A → Type 0) → IsSomeAnd o P → IsSomeAnd o Q → (x : A) × P x × Q x
of_some None P Q a b = absurd a
of_some (Some x) P Q a b = (x, a, b)

-- ---- what is left

-- what is left of a search, by its numbers
abbrev left_by : Problem → ℕ → Option ℕ → ℕ → ℕ → ℕ
left_by f budget best lemmas events = (most_cargo f + 1 - cargo_rank best) + ((budget - lemmas) * (most_events f.ships f.slots + 1) + (most_events f.ships f.slots - events))

fits_trail : (s : SearchModel) (lit : Lit) → s.trail.ships ≡ s.problem.ships → s.trail.slots ≡ s.problem.slots → lit_fits (shape_of s.problem) lit ≡ true → lit_fits (trail_shape s.trail) lit ≡ true
fits_trail s (AtOrAfter ship slot) a b e = ap (λ n. nat_lt ship n && (nat_le 1 slot && nat_lt slot s.trail.slots)) a ∙ ap (λ n. nat_lt ship s.problem.ships && (nat_le 1 slot && nat_lt slot n)) b ∙ e
fits_trail s (Before ship slot) a b e = ap (λ n. nat_lt ship n && (nat_le 1 slot && nat_lt slot s.trail.slots)) a ∙ ap (λ n. nat_lt ship s.problem.ships && (nat_le 1 slot && nat_lt slot n)) b ∙ e
fits_trail s (First v w) a b e = ap (λ n. nat_lt v w && nat_lt w n) a ∙ e
fits_trail s (NotFirst v w) a b e = ap (λ n. nat_lt v w && nat_lt w n) a ∙ e

-- a decision is one more event, for which there is room
decide_more : (s u : SearchModel) (old new : LogModel) → DoesDecide s u old new → (u.problem ≡ s.problem) × (u.best ≡ s.best) × (length s.trail.events < length u.trail.events) × (length u.trail.events ≤ most_events u.problem.ships u.problem.slots)
decide_more s u old new h =
    let m = h.mid in
    let is : IsSearch m = h.settles.kept in
    let room = room_fits m is.trail is.same_ships is.same_slots in
    let d = of_some (branch_literal m.branching m.problem (room_in m)) (λ lit. u ≡ record m { trail = decided m.trail lit; written = m.written ++ None ∷ [] }) (IsOpen m.problem (room_in m)) h.decides (branch_open m.branching m.problem (room_in m) room h.open_room) in
    let after : IsSearch u = subst IsSearch (sym d.1) (decided_search m d.0 is h.settles.ends (fits_trail m d.0 is.same_ships is.same_slots d.2.0) d.2.1) in
    let e : length u.trail.events ≡ length m.trail.events + 1 = ap (λ (x : SearchModel). length x.trail.events) d.1 ∙ length-append m.trail.events _ in
    let few = few_reasons u after in (
      ap (λ (x : SearchModel). x.problem) d.1 ∙ implied_problem s m h.settles.implies,
      ap (λ (x : SearchModel). x.best) d.1 ∙ implied_best s m h.settles.implies,
      omega (arith, e, implied_events s m h.settles.implies),
      omega (arith, few.0, after.each_event),
    )

pub rank_rises : (c : ℕ) (best : Option ℕ) → IsTrue (beats c best) → cargo_rank best < c + 1
rank_rises c None h = omega arith
rank_rises c (Some b) h = let lt = ltb-true b c h in omega (arith, lt)

-- a better timetable has more cargo, and no more than there is
better_more : (s u : SearchModel) (old new : LogModel) → DoesBetter s u old new → (u.problem ≡ s.problem) × (cargo_rank (best_cargo s) < cargo_rank (best_cargo u)) × (cargo_rank (best_cargo u) ≤ most_cargo s.problem + 1) × (length s.trail.events ≤ length u.trail.events)
better_more s u old new h =
    let m = h.mid in
    let is : IsSearch m = h.settles.kept in
    let p = point_table m is h.settles.ends h.point in
    let same : m.problem ≡ s.problem = implied_problem s m h.settles.implies in
    let old_best : best_cargo m ≡ best_cargo s = ap best_cargo h.settles.implies.only in
    let new_best : best_cargo u ≡ Some p.1 = ap best_cargo h.better ∙ p.2 in
    let le : p.1 ≤ most_cargo m.problem = cargo_le m.problem (whole_room (shape_of m.problem)) (point_of (room_in m)) p.1 refl (inside_whole m.problem (point_of (room_in m)) p.0.listed) p.2 in
    let most : most_cargo m.problem ≡ most_cargo s.problem = ap most_cargo same in
    let up : cargo_rank (best_cargo m) < p.1 + 1 = rank_rises p.1 (best_cargo m) p.3 in
    let a : cargo_rank (best_cargo m) ≡ cargo_rank (best_cargo s) = ap cargo_rank old_best in
    let b : cargo_rank (best_cargo u) ≡ p.1 + 1 = ap cargo_rank new_best in (
      ap (λ (x : SearchModel). x.problem) h.better ∙ same,
      omega (arith, up, a, b),
      omega (arith, le, most, b),
      omega (arith, ap (λ (x : SearchModel). length x.trail.events) h.better, implied_events s m h.settles.implies),
    )

lemma_more : (s u : SearchModel) (old new : LogModel) → DoesLemma s u old new → (u.best ≡ s.best) × (u.lemmas ≡ s.lemmas + 1)
lemma_more s u old new h =
    let c = cite_conflict (cited h.mid h.places) h.why in (
      ap (λ (x : SearchModel). x.best) h.search ∙ gone_best (with_lemma c.search h.lemma) h.back ∙ cited_best h.mid h.why h.places ∙ implied_best s h.mid h.analysed.settles.implies,
      ap (λ (x : SearchModel). x.lemmas) h.search ∙ gone_lemmas (with_lemma c.search h.lemma) h.back ∙ ap (λ n. n + 1) (cited_lemmas h.mid h.why h.places) ∙ ap (λ n. n + 1) (implied_lemmas s h.mid h.analysed.settles.implies),
    )

-- ---- fewer turns are left

pub less_decided : (g x m e now : ℕ) → e < now → now ≤ m → g + (x + (m - now)) < g + (x + (m - e))
less_decided g x m e now a b = omega (arith, a, b)

less_better : (t r now x m e later : ℕ) → r < now → now ≤ t + 1 → e ≤ later → (t + 1 - now) + (x + (m - later)) < (t + 1 - r) + (x + (m - e))
less_better t r now x m e later a b c = omega (arith, a, b, c)

less_lemma : (g budget l now m e later : ℕ) → now ≡ l + 1 → l < budget → g + ((budget - now) * (m + 1) + (m - later)) < g + ((budget - l) * (m + 1) + (m - e))
less_lemma g budget l now m e later a b =
    let one : budget - l ≡ (budget - now) + 1 = omega (arith, a, b) in
    let two : (budget - l) * (m + 1) ≡ ((budget - now) + 1) * (m + 1) = ap (λ n. n * (m + 1)) one in
    by (budget - now) ((budget - l) * (m + 1)) two
  where
    by : (x y : ℕ) → y ≡ (x + 1) * (m + 1) → g + (x * (m + 1) + (m - later)) < g + (y + (m - e))
    by x y h = let more : (x + 1) * (m + 1) ≡ x * (m + 1) + (m + 1) = omega arith in omega (arith, h, more)

pub same_cargo : (s u : SearchModel) → u.problem ≡ s.problem → u.best ≡ s.best → best_cargo u ≡ best_cargo s
same_cargo s u p b = ap (λ (f : Problem). option_and_then (cargo f) u.best) p ∙ ap (option_and_then (cargo s.problem)) b

pub same_left : (budget : ℕ) (s u : SearchModel) → u.problem ≡ s.problem → turns_left budget u ≡ left_by s.problem budget (best_cargo u) u.lemmas (length u.trail.events)
same_left budget s u p = ap (λ (f : Problem). left_by f budget (best_cargo u) u.lemmas (length u.trail.events)) p

pub nearer : (turn : Turn) (budget : ℕ) (s u : SearchModel) (old new : LogModel) → is_last turn ≡ false → s.lemmas < budget → u.problem ≡ s.problem → TurnDoes s old turn u new → turns_left budget u < turns_left budget s
nearer turns.Decided budget s u old new last lt p h =
    let m = most_events s.problem.ships s.problem.slots in
    let d = decide_more s u old new h in
    let few : length u.trail.events ≤ m = subst (λ (f : Problem). length u.trail.events ≤ most_events f.ships f.slots) p d.3 in
    let g : cargo_rank (best_cargo u) ≡ cargo_rank (best_cargo s) = ap cargo_rank (same_cargo s u p d.1) in
    let x : (budget - u.lemmas) * (m + 1) ≡ (budget - s.lemmas) * (m + 1) = ap (λ n. (budget - n) * (m + 1)) (decide_lemmas s u old new h) in
    let r = less_decided (most_cargo s.problem + 1 - cargo_rank (best_cargo s)) ((budget - s.lemmas) * (m + 1)) m (length s.trail.events) (length u.trail.events) d.2 few in
    omega (arith, r, g, x, same_left budget s u p)
nearer turns.Better budget s u old new last lt p h =
    let m = most_events s.problem.ships s.problem.slots in
    let d = better_more s u old new h in
    let e : u.lemmas ≡ s.lemmas = ap (λ (x : SearchModel). x.lemmas) h.better ∙ implied_lemmas s h.mid h.settles.implies in
    let x : (budget - u.lemmas) * (m + 1) ≡ (budget - s.lemmas) * (m + 1) = ap (λ n. (budget - n) * (m + 1)) e in
    let r = less_better (most_cargo s.problem) (cargo_rank (best_cargo s)) (cargo_rank (best_cargo u)) ((budget - s.lemmas) * (m + 1)) m (length s.trail.events) (length u.trail.events) d.1 d.2 d.3 in
    omega (arith, r, x, same_left budget s u p)
nearer turns.Lemma budget s u old new last lt p h =
    let m = most_events s.problem.ships s.problem.slots in
    let d = lemma_more s u old new h in
    let g : cargo_rank (best_cargo u) ≡ cargo_rank (best_cargo s) = ap cargo_rank (same_cargo s u p d.0) in
    let r = less_lemma (most_cargo s.problem + 1 - cargo_rank (best_cargo s)) budget s.lemmas u.lemmas m (length s.trail.events) (length u.trail.events) d.1 lt in
    omega (arith, r, g, same_left budget s u p)
nearer turns.Ended budget s u old new last lt p h = absurd cc
nearer turns.NoMemory budget s u old new last lt p h = absurd cc
nearer turns.LogFailed budget s u old new last lt p h = absurd cc
