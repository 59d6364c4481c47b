-- Where the walk begins and what it has at its end.
use Rattle.std.proofs.Common.{◌≡◌, ℕ, zero, suc, ◌<◌, ◌≤◌, Bool, true, false, refl, arith, ◌⊎◌, inl, inr, ◌∙◌, sym, ap, List, [], ◌∷◌, subst}
use Rattle.std.proofs.lemmas.Bool.{or_cases, or_left, or_right, cases_lt}
use Rattle.hw_model.specs.declared.lit.Lit.{Lit}
use Rattle.hw_model.specs.Lits.{negation}
use Rattle.hw_trail_laws.specs.Sides.{implies}
use Rattle.hw_trail_laws.specs.Replays.{Facts, Narrower, World}
use Rattle.hw_trail_laws.specs.Stories.{Story, room_at, IsStory}
use Rattle.hw_trail_laws.specs.Walks.{chain, InClause, InSome, Late, EventBounds, Top, KeptFor, Walk, denying, story_level, IsTopLevel, OneAtTop, Levels, WalkGives, CoveredByLemma, SpellsLemma, Denies}
use Rattle.hw_trail_laws.specs.Walks.Top.{Ground, Open, Found}
use Rattle.hw_trail_laws.specs.Walks.Levels.{Nothing, One}
use Rattle.hw_trail_laws.proofs.Sides.{implies_trans, implies_antisym, neg_neg, same_when_implied, same_sym}
use Rattle.hw_trail_laws.proofs.Replays.{ends_inside, ends_conflict}
use Rattle.hw_trail_laws.proofs.Stories.{room_grows, room_falls, room_world, start_known}
use Rattle.hw_trail_laws.proofs.Needs.{false_in, needed_start, needed_end}

clash : (r : Facts) (m : Lit) → r m ≡ true → r m ≡ false → ⊥
clash r m y n = cc

-- LEVELS BY ROOMS
pub record Became (t : Story) (n : ℕ) (l : Lit) : Type 0 where
  pub place : ℕ
  pub inside : place < n
  pub before : room_at t place (negation l) ≡ false
  pub made : room_at t (suc place) (negation l) ≡ true
  pub level : story_level t n l ≡ (t.at place).level

became_step : (t : Story) (p : ℕ) (l : Lit) (b : Bool) → room_at t p (negation l) ≡ b → room_at t (suc p) (negation l) ≡ true
    → (room_at t p (negation l) ≡ true → Became t p l) → Became t (suc p) l
became_step t p l true e y ih = let r = ih e in record {
  place = r.place;
  inside = omega (arith, r.inside);
  before = r.before;
  made = r.made;
  level = rw e r.level;
}
became_step t p l false e y ih = record { place = p; inside = omega arith; before = e; made = y; level = rw e refl }

pub became : (t : Story) (n : ℕ) (l : Lit) → t.start (negation l) ≡ false → room_at t n (negation l) ≡ true → Became t n l
became t zero l fresh y = absurd (clash t.start (negation l) y fresh)
became t (suc p) l fresh y = became_step t p l (room_at t p (negation l)) refl y (became t p l fresh)

-- the room at the end of the level below tells whether a literal is of the greatest level
pub level_known : (t : Story) (n top first base : ℕ) → EventBounds t n top first base → (l : Lit) → t.start (negation l) ≡ false → room_at t n (negation l) ≡ true
    → room_at t first (negation l) ≡ true → story_level t n l < top
level_known t n top first base bs l fresh y k =
    let w = became t n l fresh y in
    elim (cases_lt w.place first) [
      | inl q ↦ omega (arith, w.level, bs.low w.place q)
      | inr q ↦ absurd (clash (room_at t first) (negation l) k (room_falls t first w.place q (negation l) w.before))
    ]

pub level_new : (t : Story) (n top first base : ℕ) → EventBounds t n top first base → (l : Lit) → t.start (negation l) ≡ false → room_at t n (negation l) ≡ true
    → room_at t first (negation l) ≡ false → story_level t n l ≡ top
level_new t n top first base bs l fresh y k =
    let w = became t n l fresh y in
    elim (cases_lt w.place first) [
      | inl q ↦ absurd (clash (room_at t first) (negation l) (room_grows t (suc w.place) first q (negation l) w.made) k)
      | inr q ↦ w.level ∙ bs.high w.place q w.inside
    ]

pub level_up : (t : Story) (n top first base : ℕ) → EventBounds t n top first base → (l : Lit) → t.start (negation l) ≡ false → room_at t n (negation l) ≡ true
    → room_at t base (negation l) ≡ false → 1 ≤ story_level t n l
level_up t n top first base bs l fresh y k =
    let w = became t n l fresh y in
    elim (cases_lt w.place base) [
      | inl q ↦ absurd (clash (room_at t base) (negation l) (room_grows t (suc w.place) base q (negation l) w.made) k)
      | inr q ↦ omega (arith, w.level, bs.above w.place q w.inside)
    ]

-- THE START
begin_known : (t : Story) (n : ℕ) → IsStory t n → (k : List Lit) (b : Facts) → Denies t.start (room_at t n) k b → (m : Lit) → b m ≡ true → room_at t n m ≡ true
begin_known t n s k b d m y = elim (d.sources m y) [
  | inl o ↦ start_known t n m o
  | inr x ↦ (room_world t n s n (omega arith)).closed (negation x.by) m x.was_false x.implied
]

all_ground : (t : Story) (n top first base : ℕ) → EventBounds t n top first base → top ≡ 0 → n ≤ base
all_ground t n top first base bs z = elim (cases_lt base n) [
  | inl q ↦ elim (cases_lt base first) [
    | inl f ↦ absurd (omega (arith, bs.low base f))
    | inr f ↦ absurd (omega (arith, bs.high base f q, bs.above base (omega arith) q))
  ]
  | inr q ↦ q
]

start_top : (t : Story) (n top first base : ℕ) (k : List Lit) (b : Facts) → EventBounds t n top first base → IsTopLevel t n k top → ((d : Lit) → InClause d k → t.start (negation d) ≡ false) → Denies t.start (room_at t n) k b
    → (x : (top ≡ 0) ⊎ (1 ≤ top)) → Top t top first base n b []
start_top t n top first base k b bs it fresh d (inl z) =
    Ground z (λ m y. room_grows t n base (all_ground t n top first base bs z) m (begin_known t n bs.story k b d m y))
start_top t n top first base k b bs it fresh d (inr z) = Open z
    (λ i. elim it.reached [
      | inl e ↦ absurd (omega arith)
      | inr r ↦
          let kn : b (negation r.0) ≡ true = false_in b k r.0 d.all r.1 in
          let lt : story_level t n r.0 < top = level_known t n top first base bs r.0 (fresh r.0 r.1) (begin_known t n bs.story k b d (negation r.0) kn) (i (negation r.0) kn) in
          absurd (omega (arith, lt, r.2))
    ])
    (begin_known t n bs.story k b d)

pub walk_start : (t : Story) (n top first base : ℕ) (k : List Lit) (b : Facts) → EventBounds t n top first base → IsTopLevel t n k top → ((d : Lit) → InClause d k → t.start (negation d) ≡ false) → World b → Narrower b t.start → Denies t.start (room_at t n) k b
    → Walk t n top first base k n b []
walk_start t n top first base k b bs it fresh w basic d = record {
  world = w;
  basic = basic;
  around = begin_known t n bs.story k b d;
  replays = ends_conflict b k d.all;
  lean = λ m y. elim (d.sources m y) [ inl o ↦ inl o | inr x ↦ inr (record { by = x.by; within = inl x.within; known = x.known; implied = x.implied }) ];
  rest = λ m y. inl (begin_known t n bs.story k b d m y);
  ascends = tt;
  needed = needed_start t n k b d;
  top_level = start_top t n top first base k b bs it fresh d (elim (cases_lt 0 top) [ inl q ↦ inr q | inr q ↦ inl (omega arith) ]);
}

-- THE END
neg_same : (l m : Lit) → negation l ≡ negation m → l ≡ m
neg_same l m e = sym (neg_neg l) ∙ ap negation e ∙ neg_neg m

-- what implies a greatest literal of the room and is in the room is that literal
is_greatest : (start b : Facts) (lemma : List Lit) → SpellsLemma start b lemma → (l : Lit) → InClause l lemma → (m : Lit) → b m ≡ true → implies m (negation l) ≡ true → m ≡ negation l
is_greatest start b lemma s l i m y h = implies_antisym m (negation l) h (s.greatest l i m y (same_sym _ _ (same_when_implied _ _ h)))

pub denied_parts : (start : Facts) (c : List Lit) (m : Lit) → denying start c m ≡ true → (start m ≡ true) ⊎ CoveredByLemma start c m
denied_parts start [] m h = inl h
denied_parts start (l ∷ c) m h = elim (or_cases _ _ h) [
  | inl y ↦ inr (record { by = l; within = inl refl; implied = y })
  | inr y ↦ elim (denied_parts start c m y) [
    | inl o ↦ inl o
    | inr r ↦ inr (record { by = r.by; within = inr r.within; implied = r.implied })
  ]
]

pub denied_from : (start : Facts) (c : List Lit) (l m : Lit) → InClause l c → implies (negation l) m ≡ true → denying start c m ≡ true
denied_from start [] l m i h = absurd i
denied_from start (x ∷ c) l m (inl e) h = or_left _ _ (subst (λ (y : Lit). implies (negation y) m ≡ true) (sym e) h)
denied_from start (x ∷ c) l m (inr i) h = or_right _ _ (denied_from start c l m i h)

pub denied_start : (start : Facts) (c : List Lit) (m : Lit) → start m ≡ true → denying start c m ≡ true
denied_start start [] m h = h
denied_start start (l ∷ c) m h = or_right _ _ (denied_start start c m h)

denied_inside : (start b : Facts) (lemma : List Lit) → World b → Narrower b start → SpellsLemma start b lemma → Narrower b (denying start lemma)
denied_inside start b lemma w basic s m h = elim (denied_parts start lemma m h) [
  | inl o ↦ basic m o
  | inr r ↦ w.closed (negation r.by) m (s.known r.by r.within) r.implied
]

denied_closed : (start : Facts) → World start → (lemma : List Lit) (l m : Lit) → denying start lemma l ≡ true → implies l m ≡ true → denying start lemma m ≡ true
denied_closed start sw lemma l m p q = elim (denied_parts start lemma l p) [
  | inl o ↦ denied_start start lemma m (sw.closed l m o q)
  | inr r ↦ denied_from start lemma r.by m r.within (implies_trans _ _ _ r.implied q)
]

denied_world : (start b : Facts) (lemma : List Lit) → World start → World b → Narrower b start → SpellsLemma start b lemma → World (denying start lemma)
denied_world start b lemma sw w basic s = record {
  closed = denied_closed start sw lemma;
  consistent = λ m p q. w.consistent m (denied_inside start b lemma w basic s m p) (denied_inside start b lemma w basic s (negation m) q);
}

end_kept : (t : Story) (n top first base : ℕ) (k : List Lit) (b : Facts) (places : List ℕ) → Walk t n top first base k 0 b places → (m : Lit) → b m ≡ true → t.start m ≡ false → KeptFor t base b m
end_kept t n top first base k b places w m y fresh = elim (w.rest m y) [ inl q ↦ absurd (clash t.start m q fresh) | inr q ↦ q ]

end_later : (t : Story) (n top first base : ℕ) (k : List Lit) (b : Facts) (places : List ℕ) → Walk t n top first base k 0 b places → (lemma : List Lit) → SpellsLemma t.start b lemma → (l : Lit) → InClause l lemma
    → room_at t base (negation l) ≡ false
end_later t n top first base k b places w lemma s l i =
    let x = end_kept t n top first base k b places w (negation l) (s.known l i) (s.proper l i) in
    let e : x.by ≡ negation l = is_greatest t.start b lemma s l i x.by x.known x.implied in
    subst (λ (m : Lit). room_at t base m ≡ false) e x.later

end_lean : (t : Story) (n top first base : ℕ) (k : List Lit) (b : Facts) (places : List ℕ) → Walk t n top first base k 0 b places → (lemma : List Lit) → SpellsLemma t.start b lemma → (l : Lit) → InClause l lemma
    → InSome l (chain t places k)
end_lean t n top first base k b places w lemma s l i =
    elim (w.lean (negation l) (s.known l i)) [
      | inl o ↦ absurd (clash t.start (negation l) o (s.proper l i))
      | inr x ↦
          let e : negation x.by ≡ negation l = is_greatest t.start b lemma s l i (negation x.by) x.known x.implied in
          subst (λ (m : Lit). InSome m (chain t places k)) (neg_same _ _ e) x.within
    ]

found_one : (t : Story) (n top first base : ℕ) (k : List Lit) (b : Facts) (places : List ℕ) (back : ℕ) → EventBounds t n top first base → Walk t n top first base k 0 b places → (lemma : List Lit) → SpellsLemma t.start b lemma
    → (u : Lit) → b u ≡ true → room_at t first u ≡ false → ((m : Lit) → b m ≡ true → (room_at t first m ≡ true) ⊎ (implies u m ≡ true)) → Late t top u places
    → (by : Lit) → InClause by lemma → implies (negation by) u ≡ true → OneAtTop t n top back lemma places
found_one t n top first base k b places back bs w lemma s u y f rest late by within implied =
    let e : negation by ≡ u = elim (rest (negation by) (s.known by within)) [
      | inl q ↦ absurd (clash (room_at t first) u ((room_world t n bs.story first bs.first_in).closed (negation by) u q implied) f)
      | inr q ↦ implies_antisym _ _ implied q
    ] in
    let only : (l : Lit) → InClause l lemma → (l ≡ by) ⊎ (story_level t n l < top) = λ l i. elim (rest (negation l) (s.known l i)) [
      | inl q ↦ inr (level_known t n top first base bs l (s.proper l i) (w.around _ (s.known l i)) q)
      | inr q ↦ inl (neg_same _ _ (sym (is_greatest t.start b lemma s l i u y q) ∙ sym e))
    ] in
    record {
      lit = by;
      within = within;
      level = level_new t n top first base bs by (s.proper by within) (w.around _ (s.known by within)) (subst (λ (m : Lit). room_at t first m ≡ false) (sym e) f);
      others = λ l i ne. (
        level_up t n top first base bs l (s.proper l i) (w.around _ (s.known l i)) (end_later t n top first base k b places w lemma s l i),
        elim (only l i) [ inl q ↦ absurd (ne q) | inr q ↦ q ],
      );
      only = only;
      later = subst (λ (m : Lit). Late t top m places) (sym e) late;
    }

end_levels : (t : Story) (n top first base : ℕ) (k : List Lit) (b : Facts) (places : List ℕ) (back : ℕ) → EventBounds t n top first base → Walk t n top first base k 0 b places → (lemma : List Lit) → SpellsLemma t.start b lemma
    → Top t top first base 0 b places → Levels t n top back lemma places
end_levels t n top first base k b places back bs w [] s (Ground z g) = Nothing z refl
end_levels t n top first base k b places back bs w (l ∷ lemma) s (Ground z g) =
    absurd (clash (room_at t base) (negation l) (g (negation l) (s.known l (inl refl))) (end_later t n top first base k b places w (l ∷ lemma) s l (inl refl)))
end_levels t n top first base k b places back bs w lemma s (Open z refused all) = absurd (refused (λ m y. start_known t first m (all m y)))
end_levels t n top first base k b places back bs w lemma s (Found z u y f g rest late) = elim (s.all u y) [
  | inl o ↦ absurd (clash (room_at t first) u (start_known t first u o) f)
  | inr c ↦ One z (found_one t n top first base k b places back bs w lemma s u y f rest late c.by c.within c.implied)
]

-- THE THEOREM OF `learn`
pub walk_end : (t : Story) (n top first base : ℕ) (k : List Lit) (b : Facts) (places : List ℕ) (back : ℕ) → EventBounds t n top first base → Walk t n top first base k 0 b places → (lemma : List Lit) → SpellsLemma t.start b lemma
    → WalkGives t n top k lemma back places
walk_end t n top first base k b places back bs w lemma s = record {
  replays = ends_inside (chain t places k) b (denying t.start lemma) (λ m y. elim (s.all m y) [ inl o ↦ denied_start t.start lemma m o | inr c ↦ denied_from t.start lemma c.by m c.within c.implied ]) (denied_world t.start b lemma bs.story.start_world w.world w.basic s) w.replays;
  all_false = λ l i. w.around _ (s.known l i);
  lean = end_lean t n top first base k b places w lemma s;
  ascends = w.ascends;
  needed = λ r world basic inside. needed_end t n k b places w.needed w.around r world basic (λ m y. denied_inside t.start b lemma w.world w.basic s m (inside m y));
  levels = end_levels t n top first base k b places back bs w lemma s w.top_level;
}
