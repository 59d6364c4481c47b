-- Where the walk back begins, and the level to go back to.
use Rattle.std.proofs.Common.{◌≡◌, ℕ, zero, suc, ◌+◌, ◌-◌, ◌<◌, ◌≤◌, true, false, List, [], ◌∷◌, ◌++◌, Some, None, length, sym, ap, ◌∙◌, subst, arith, inl, inr}
use Rattle.std.specs.Prelude.{slice_get}
use Rattle.std.proofs.lemmas.Bool.{cases_lt}
use Rattle.std.proofs.lemmas.Option.{same_Some}
use Rattle.hw_model.specs.declared.lit.Lit.{Lit}
use Rattle.hw_model.specs.declared.lit.LitTruth.TheVariants.{False}
use Rattle.hw_model.specs.Lits.{negation, lit_fits}
use Rattle.hw_model.specs.Narrowing.{truth}
use Rattle.hw_trail_laws.specs.declared.event.Event.{Event}
use Rattle.hw_trail_laws.specs.Stories.{Story, room_at, IsStory}
use Rattle.hw_trail_laws.specs.Walks.{InClause, EventBounds, IsTopLevel, story_level}
use Rattle.hw_trail_laws.specs.Trails.{TrailModel, trail_shape, room_of, IsTrail}
use Rattle.hw_trail_laws.specs.Learning.{event_of, level_by, level_made, level_of}
use Rattle.hw_trail_laws.specs.Bridge.{event_at, story_of, GoesBack}
use Rattle.hw_trail_laws.proofs.Stories.{room_grows, levels_rise}
use Rattle.hw_trail_laws.proofs.Ends.{became}
use Rattle.hw_trail_laws.proofs.Trails.{trail_story}
use Rattle.hw_trail_laws.proofs.Levels.{made_false, false_end, fits_fresh, level_is, level_stays}
use Rattle.hw_trail_laws.proofs.Decisions.{event_is}
use Rattle.hw_trail_laws.proofs.Passes.{in_append, in_front, in_last}
use Rattle.hw_learn.specs.Starts.{IsLastFalsified, IsLevelOf, IsFirst, IsBack}

-- ---- one past the last event

pub event_inside : (t : TrailModel) → IsTrail t → (lit : Lit) → lit_fits (trail_shape t) lit ≡ true → (place : ℕ) → event_of t lit ≡ Some place → place < length t.events
event_inside t is lit f place e = (((event_is t lit is f).0 place).0 e).inside

pub never_none : (t : TrailModel) → IsTrail t → (lit : Lit) → lit_fits (trail_shape t) lit ≡ true → truth (room_of t) lit ≡ False → event_of t lit ≡ None → ⊥
never_none t is lit f h none =
    let m = made_false t is lit f (false_end t is lit f h) in
    let e : None ≡ Some m.place = sym none ∙ m.event in
    cc

pub past_up : (t : TrailModel) → IsTrail t → (lit : Lit) → lit_fits (trail_shape t) lit ≡ true → truth (room_of t) lit ≡ False → (last place : ℕ) → event_of t lit ≡ Some place → last ≤ place
    → (clause : List Lit) → IsLastFalsified t clause last → IsLastFalsified t (clause ++ lit ∷ []) (place + 1)
past_up t is lit f h last place eq le clause s =
    let m = made_false t is lit f (false_end t is lit f h) in
    let e : m.place ≡ place = same_Some m.place place (sym m.event ∙ eq) in
    let next : suc m.place ≡ place + 1 = omega (arith, e) in
    let prior : m.place ≡ place + 1 - 1 = omega (arith, e) in
    let made : room_at (story_of t) (place + 1) (negation lit) ≡ true = subst (λ k. room_at (story_of t) k (negation lit) ≡ true) next m.made in
    record {
      inside = omega (arith, m.inside, e);
      known = λ d i. elim (in_append clause (lit ∷ []) d i) [
        | inl a ↦ room_grows (story_of t) last (place + 1) (omega (arith, le)) (negation d) (s.known d a)
        | inr b ↦ elim b [ inl q ↦ subst (λ (x : Lit). room_at (story_of t) (place + 1) (negation x) ≡ true) q made | inr q ↦ absurd q ]
      ];
      reached = inr (lit, in_last clause lit, omega arith, subst (λ k. room_at (story_of t) k (negation lit) ≡ false) prior m.before);
    }

pub past_same : (t : TrailModel) → IsTrail t → (lit : Lit) → lit_fits (trail_shape t) lit ≡ true → truth (room_of t) lit ≡ False → (last place : ℕ) → event_of t lit ≡ Some place → place < last
    → (clause : List Lit) → IsLastFalsified t clause last → IsLastFalsified t (clause ++ lit ∷ []) last
past_same t is lit f h last place eq lt clause s =
    let m = made_false t is lit f (false_end t is lit f h) in
    let e : m.place ≡ place = same_Some m.place place (sym m.event ∙ eq) in
    let made : room_at (story_of t) last (negation lit) ≡ true = room_grows (story_of t) (suc m.place) last (omega (arith, e, lt)) (negation lit) m.made in
    record {
      inside = s.inside;
      known = λ d i. elim (in_append clause (lit ∷ []) d i) [
        | inl a ↦ s.known d a
        | inr b ↦ elim b [ inl q ↦ subst (λ (x : Lit). room_at (story_of t) last (negation x) ≡ true) q made | inr q ↦ absurd q ]
      ];
      reached = elim s.reached [ inl z ↦ inl z | inr r ↦ inr (r.0, in_front clause (lit ∷ []) r.0 r.1, r.2, r.3) ];
    }

-- ---- the level to go back to

pub level_none : (t : TrailModel) (lit : Lit) → event_of t lit ≡ None → level_of t lit ≡ 0
level_none t lit e = ap (level_made t) e

pub level_some : (t : TrailModel) (lit : Lit) (place : ℕ) (event : Event) → event_of t lit ≡ Some place → slice_get t.events place ≡ Some event → level_of t lit ≡ event.level
level_some t lit place event e h = ap (level_made t) e ∙ ap level_by h

pub back_same : (t : TrailModel) (top back : ℕ) (lit : Lit) (lemma : List Lit) → (level_of t lit < top → level_of t lit ≤ back) → IsBack t top lemma back → IsBack t top (lemma ++ lit ∷ []) back
back_same t top back lit lemma small s = record {
  most = λ l i. elim (in_append lemma (lit ∷ []) l i) [
    | inl a ↦ s.most l a
    | inr b ↦ elim b [ inl q ↦ subst (λ (x : Lit). level_of t x < top → level_of t x ≤ back) q small | inr q ↦ absurd q ]
  ];
  reached = elim s.reached [ inl z ↦ inl z | inr r ↦ inr (r.0, in_front lemma (lit ∷ []) r.0 r.1, r.2, r.3) ];
}

pub back_more : (t : TrailModel) (top back level : ℕ) (lit : Lit) (lemma : List Lit) → level_of t lit ≡ level → level < top → back < level → IsBack t top lemma back → IsBack t top (lemma ++ lit ∷ []) level
back_more t top back level lit lemma e low high s = record {
  most = λ l i lt. elim (in_append lemma (lit ∷ []) l i) [
    | inl a ↦ omega (arith, s.most l a lt, high)
    | inr b ↦ elim b [ inl q ↦ omega (arith, ap (level_of t) q, e) | inr q ↦ absurd q ]
  ];
  reached = inr (lit, in_last lemma lit, omega (arith, e, low), e);
}

-- the level by the events is the level by the story
pub goes_back : (t : TrailModel) → IsTrail t → (n : ℕ) → n ≤ length t.events → (top back : ℕ) (lemma : List Lit) → ((l : Lit) → InClause l lemma → lit_fits (trail_shape t) l ≡ true) → ((l : Lit) → InClause l lemma → room_at (story_of t) n (negation l) ≡ true)
    → IsBack t top lemma back → GoesBack (story_of t) n top lemma back
goes_back t is n le top back lemma fits known s =
    let same : (l : Lit) → InClause l lemma → level_of t l ≡ story_level (story_of t) n l = λ l i.
    level_is t is l (fits l i) (room_grows (story_of t) n (length t.events) le (negation l) (known l i)) ∙ level_stays (story_of t) l n (length t.events) le (known l i) in
    record {
      most = λ l i lt. omega (arith, same l i, s.most l i (omega (arith, same l i, lt)));
      reached = elim s.reached [
        | inl z ↦ inl z
        | inr r ↦ inr (r.0, r.1, omega (arith, same r.0 r.1, r.2), sym (same r.0 r.1) ∙ r.3)
      ];
    }

pub back_ground : (t : TrailModel) (top back : ℕ) (lemma : List Lit) → IsBack t top lemma back → top ≡ 0 → back ≡ 0
back_ground t top back lemma s z = elim s.reached [ inl e ↦ e | inr r ↦ absurd (omega (arith, r.2, z)) ]

-- ---- the bounds

-- how many of the first events are of level 0
record Ground (t : Story) (n base : ℕ) : Type 0 where
  inside : base ≤ n
  ground : (q : ℕ) → q < base → (t.at q).level ≡ 0
  above : (q : ℕ) → base ≤ q → q < n → 1 ≤ (t.at q).level

ground_of : (t : Story) (n : ℕ) → IsStory t n → (k : ℕ) → k ≤ n → (base : ℕ) × Ground t k base
ground_of t n s zero le = (0, record { inside = omega arith; ground = λ q lt. absurd (omega (arith, lt)); above = λ q from lt. absurd (omega (arith, lt)) })
ground_of t n s (suc k) le =
    let r = ground_of t n s k (omega (arith, le)) in
    elim (cases_lt 0 (t.at k).level) [
      | inl up ↦ (
        r.0,
        record {
          inside = omega (arith, r.1.inside);
          ground = r.1.ground;
          above = λ q from lt. elim (cases_lt q k) [
            | inl less ↦ r.1.above q from less
            | inr more ↦ let e : k ≡ q = omega (arith, lt, more) in subst (λ (x : ℕ). 1 ≤ (t.at x).level) e up
          ];
        },
      )
      | inr low ↦ (
        suc k,
        record {
          inside = omega arith;
          ground = λ q lt. let rise : (t.at q).level ≤ (t.at k).level = levels_rise t n s q k (omega (arith, lt)) (omega (arith, le)) in omega (arith, rise, low);
          above = λ q from lt. absurd (omega (arith, from, lt));
        },
      )
    ]

pub story_upto : (t : Story) (n k : ℕ) → IsStory t n → k ≤ n → IsStory t k
story_upto t n k s le = record { start_world = s.start_world; told = λ p lt. s.told p (omega (arith, lt, le)) }

pub bounds_of : (t : TrailModel) → IsTrail t → (last top first : ℕ) → last ≤ length t.events → IsLevelOf t last top → IsFirst t last top first → (base : ℕ) × EventBounds (story_of t) last top first base
bounds_of t is last top first le level f =
    let s : IsStory (story_of t) last = story_upto (story_of t) (length t.events) last (trail_story t is) le in
    let g = ground_of (story_of t) last s last (omega arith) in (
      g.0,
      record {
        story = s;
        low = λ q lt.
            let some : 1 ≤ first = omega (arith, lt) in
            let down : (event_at t q).level ≤ (event_at t (first - 1)).level = levels_rise (story_of t) last s q (first - 1) (omega (arith, lt)) (omega (arith, some, f.inside)) in
            let up : (event_at t (first - 1)).level ≤ (event_at t (last - 1)).level = levels_rise (story_of t) last s (first - 1) (last - 1) (omega (arith, some, f.inside)) (omega (arith, some, f.inside)) in
            let at : (event_at t (last - 1)).level ≡ top = level.some (omega (arith, some, f.inside)) in
            elim (cases_lt (event_at t (first - 1)).level top) [
              | inl less ↦ omega (arith, down, less)
              | inr more ↦ absurd (f.before some (omega (arith, up, at, more)))
            ];
        high = f.each;
        ground = g.1.ground;
        above = g.1.above;
        first_in = f.inside;
        base_in = g.1.inside;
      },
    )

-- ---- the greatest level

pub top_from : (t : TrailModel) → IsTrail t → (last top first base : ℕ) (clause : List Lit) → ((d : Lit) → InClause d clause → lit_fits (trail_shape t) d ≡ true) → IsLastFalsified t clause last → IsLevelOf t last top
    → EventBounds (story_of t) last top first base → IsTopLevel (story_of t) last clause top
top_from t is last top first base clause fits s level bs = record {
  most = λ d i.
      let b = became (story_of t) last d (fits_fresh (trail_shape t) d (fits d i)) (s.known d i) in
      elim (cases_lt b.place first) [
        | inl less ↦ omega (arith, b.level, bs.low b.place less)
        | inr more ↦ omega (arith, b.level, bs.high b.place more b.inside)
      ];
  reached = elim s.reached [
    | inl z ↦ inl (level.none z)
    | inr r ↦ inr (r.0, r.1, at_last (story_of t) last r.0 top r.2 r.3 (level.some r.2))
  ];
}
  where
    at_last : (u : Story) (n : ℕ) (d : Lit) (top : ℕ) → 1 ≤ n → room_at u (n - 1) (negation d) ≡ false → (u.at (n - 1)).level ≡ top → story_level u n d ≡ top
    at_last u zero d top some out e = absurd (omega (arith, some))
    at_last u (suc p) d top some out e =
        let same : suc p - 1 ≡ p = omega arith in
        let gone : room_at u p (negation d) ≡ false = subst (λ k. room_at u k (negation d) ≡ false) same out in
        let at : (u.at p).level ≡ top = subst (λ k. (u.at k).level ≡ top) same e in
        rw gone at
