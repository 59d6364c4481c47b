-- What a turn that learns needs and keeps, in the words of a call.
use Rattle.std.proofs.Common.{◌≡◌, ℕ, ◌+◌, ◌^◌, ◌<◌, ◌≤◌, Bool, true, false, cond, List, [], ◌∷◌, Option, Some, option_and_then, length, slice_get, refl, sym, ap, ◌∙◌, subst, arith, inl, inr}
use Rattle.std.specs.Prelude.{All, IsSome, ◌==◌}
use Rattle.std.proofs.lemmas.Bool.{cases_lt, eq-eqb}
use Rattle.std.proofs.lemmas.List.Elements.{All-weaker}
use Rattle.hw_model.specs.declared.lit.Lit.{Lit}
use Rattle.hw_model.specs.Lits.{IsLitOf}
use Rattle.hw_model.specs.declared.source.Source.{Source}
use Rattle.hw_model.specs.declared.source.Source.TheVariants.{Goal}
use Rattle.hw_model.specs.Problem.{Problem}
use Rattle.hw_model.specs.Refuting.{IsSourceOf}
use Rattle.hw_model.specs.Timetables.{cargo}
use Rattle.hw_lits.proofs.Forms.{clause_lits}
use Rattle.hw_trail_laws.specs.declared.event.Why.{Why}
use Rattle.hw_trail_laws.specs.Trails.{trail_shape, reason_clause, most_events, back_to, room_of}
use Rattle.hw_trail_laws.specs.Learning.{reason_at, top_level, Learns}
use Rattle.hw_trail_laws.proofs.Quiets.{back_below}
use Rattle.hw_store.specs.declared.store.Stored.{Stored}
use Rattle.hw_search_laws.specs.Searches.{SearchModel, IsSearch, room_in, best_cargo}
use Rattle.hw_search_laws.specs.Settling.{IsConflict}
use Rattle.hw_search_laws.specs.Starting.{EachSourceOnce}
use Rattle.hw_search_laws.proofs.Bounds.{few_numbers}
use Rattle.hw_search_laws.proofs.Citing.{reason_why, why_inside}
use Rattle.hw_search_laws.proofs.Stops.{numbers_kept}
use Rattle.hw_search_laws.proofs.Turned.{few_for}
use Rattle.hw_search.specs.Engines.{EngineModel, KeepsEngine, QuietLevels, QuietUnmarked}
use Rattle.hw_search_sources.specs.Marks.{is_place_marked}
use Rattle.hw_search_sources.specs.Speaking.{SpeakersModel, TellsSpeakers}
use Rattle.hw_search_ledger.specs.Naming.{taught, Taught}
use Rattle.hw_search_sources.specs.Restarts.{due, NextLevel}
use Rattle.hw_search.proofs.Levels.{levels_back, quiet_gone, at_get}
use Rattle.hw_search.specs.Turning.{Teaches}

-- ---- what was learnt

pub teaches : (e u : EngineModel) (why : Why) (conflict lemma : List Lit) (back : ℕ) (given places : List ℕ) → e ≡ u → IsSearch e.search → u.search.over ≡ false → IsConflict u.search why → 1 ≤ length (reason_clause why) → conflict ≡ reason_clause why → given ≡ places → Learns e.search.trail conflict lemma back places → Teaches e.search why lemma back given
teaches e u why conflict lemma back given places same is going k some c p learns = record {
  kept = is;
  going = ap (λ (x : EngineModel). x.search.over) same ∙ going;
  conflict = subst (λ (x : EngineModel). IsConflict x.search why) (sym same) k;
  some = some;
  learns = subst (λ ps. Learns e.search.trail (reason_clause why) lemma back ps) (sym p) (subst (λ xs. Learns e.search.trail xs lemma back places) c learns);
}

pub places_inside : (mid : SearchModel) (why : Why) (lemma : List Lit) (back : ℕ) (places : List ℕ) → Teaches mid why lemma back places → All (λ place. place < length mid.trail.events) places
places_inside mid why lemma back places t = All-weaker (λ place. IsSome (reason_at mid.trail place)) (λ place. place < length mid.trail.events) (λ q k. let w = reason_why mid.trail q k in why_inside mid.trail q w.0 w.1) places t.learns.reasons

pub numbers_left : (e u : EngineModel) (why : Why) (lemma : List Lit) (back : ℕ) (places : List ℕ) → e ≡ u → u.search.lemmas < 100000 → Teaches e.search why lemma back places → e.search.clause_lines + length places + 2 < 2 ^ 32
numbers_left e u why lemma back places same few t =
    let n = few_numbers e.search t.kept t.going (omega (arith, ap (λ (x : EngineModel). x.search.lemmas) same, few)) in
    let m = few_for e.search why lemma back places t.kept t.learns in
    omega (arith, n, m)

-- ---- going back

level_by : (b : Bool) (level back most : ℕ) → level ≡ cond b 0 back → back < most → level < most
level_by true level back most e lt = omega (arith, e, lt)
level_by false level back most e lt = omega (arith, e, lt)

pub level_below : (mid : SearchModel) (why : Why) (lemma : List Lit) (back : ℕ) (places : List ℕ) (restarts since level : ℕ) → Teaches mid why lemma back places → 1 ≤ length lemma → NextLevel mid.restarts mid.since back restarts since level → level < mid.trail.level
level_below mid why lemma back places restarts since level t literal n =
    let below : back < mid.trail.level = elim (cases_lt 0 (top_level mid.trail (reason_clause why))) [
      | inl some ↦ back_below mid.trail t.kept.trail (reason_clause why) lemma back places t.learns (omega (arith, some))
      | inr none ↦ absurd (let z : top_level mid.trail (reason_clause why) ≡ 0 = omega (arith, none) in omega (arith, literal, ap length (t.learns.ground z).0))
    ] in
    level_by (due mid.restarts mid.since) level back mid.trail.level n.to below

pub lits_here : (mid : SearchModel) (why : Why) (lemma given : List Lit) (back : ℕ) (places : List ℕ) → Teaches mid why lemma back places → given ≡ lemma → All (IsLitOf mid.trail.ships) given
lits_here mid why lemma given back places t e = subst (All (IsLitOf mid.trail.ships)) (sym e) (clause_lits (trail_shape mid.trail) lemma t.learns.fits)

pub numbers_below : (mid : SearchModel) (why : Why) (lemma : List Lit) (back : ℕ) (places : List ℕ) (ws : List (Option ℕ)) (lines : ℕ) → Teaches mid why lemma back places → Taught (taught mid why places) ws lines → All (λ (one : Stored). one.number < lines) mid.stored
numbers_below mid why lemma back places ws lines t n =
    let low = (numbers_kept mid why places).low in
    All-weaker (λ (one : Stored). one.number ≤ mid.clause_lines) (λ (one : Stored). one.number < lines) (λ one h. omega (arith, h, low, n.same_lines)) mid.stored t.kept.numbered

-- ---- what is kept

-- the goal is marked
pub goal_marked : (goal : ℕ) (sources : List Source) (new old : List Bool) → length old ≡ length sources → slice_get sources goal ≡ Some Goal → ((other : ℕ) → other < length old → is_place_marked new other ≡ (other == goal)) → is_place_marked new goal ≡ true
goal_marked goal sources new old long at h = h goal (omega (arith, (at_get sources goal Goal at).0, long)) ∙ eq-eqb goal goal refl

pub kept_back : (e : EngineModel) (table : SpeakersModel) (goal : ℕ) (worth : Option ℕ) (capacity capacity' level : ℕ) (u : SearchModel) (marks : List Bool) → KeepsEngine e table goal worth capacity → IsSearch u → u.problem ≡ e.search.problem → u.best ≡ e.search.best → u.trail ≡ back_to e.search.trail level → level < e.search.trail.level → length marks ≡ length e.marks → is_place_marked marks goal ≡ true → capacity' ≡ capacity
    → KeepsEngine (record { search = u; sources = e.sources; marks = marks }) table goal worth capacity'
kept_back e table goal worth capacity capacity' level u marks k is p b t lt m marked c =
    let s = e.search in
    let worth_same : best_cargo s ≡ best_cargo u = sym (ap (λ f. option_and_then (cargo f) u.best) p ∙ ap (λ o. option_and_then (cargo s.problem) o) b) in
    let quiet : QuietUnmarked s.problem (best_cargo s) (room_of (back_to s.trail level)) e.sources marks = quiet_gone s.problem (best_cargo s) s.trail level e.sources marks goal k.once.once k.of_problem k.goal_at marked lt k.quiet_below in
    let below : QuietLevels s.problem (best_cargo s) (back_to s.trail level) = levels_back s.problem (best_cargo s) s.trail level (omega (arith, lt)) k.quiet_below in
    record {
      search = is;
      once = subst (λ f. EachSourceOnce f e.sources) (sym p) k.once;
      of_problem = subst (λ f. All (IsSourceOf f) e.sources) (sym p) k.of_problem;
      each_mark = m ∙ k.each_mark;
      quiet = subst (λ f. QuietUnmarked f (best_cargo u) (room_in u) e.sources marks) (sym p) (subst (λ w. QuietUnmarked s.problem w (room_in u) e.sources marks) worth_same (subst (λ x. QuietUnmarked s.problem (best_cargo s) (room_of x) e.sources marks) (sym t) quiet));
      quiet_below = subst (λ f. QuietLevels f (best_cargo u) u.trail) (sym p) (subst (λ w. QuietLevels s.problem w u.trail) worth_same (subst (QuietLevels s.problem (best_cargo s)) (sym t) below));
      speakers = subst (λ f. TellsSpeakers f e.sources table) (sym p) k.speakers;
      goal_at = k.goal_at;
      worth_is = k.worth_is ∙ worth_same;
      room = omega (arith, subst (λ (f : Problem). most_events f.ships f.slots ≤ capacity) (sym p) k.room, c);
    }

pub no_lits : (xs : List Lit) → length xs ≡ 0 → xs ≡ []
no_lits [] e = refl
no_lits (x ∷ xs) e = absurd (omega (arith, e))
