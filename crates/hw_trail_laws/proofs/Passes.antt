-- A step of the walk back: a miss, a hit that stays, one that is resolved; and where the walk begins.
use Rattle.std.proofs.Common.{◌≡◌, ℕ, zero, suc, ◌<◌, ◌≤◌, ◌-◌, Bool, true, false, refl, arith, ◌⊎◌, inl, inr, ◌∙◌, sym, subst, cond, List, [], ◌∷◌, ◌++◌, Some, None}
use Rattle.std.specs.Prelude.{MatchBool}
use Rattle.std.proofs.lemmas.Bool.{cases_Bool, cases_lt, or_cases, or_left}
use Rattle.hw_model.specs.declared.lit.Lit.{Lit}
use Rattle.hw_model.specs.Lits.{negation}
use Rattle.hw_model.specs.Rooms.{RoomModel, IsRoom}
use Rattle.hw_model.specs.Lits.{IsLitOf}
use Rattle.hw_model_laws.proofs.Cuts.{full_room}
use Rattle.hw_trail_laws.specs.Sides.{same_side, implies}
use Rattle.hw_trail_laws.specs.Replays.{Facts, Narrower, dropping, OnlyLeft, AllDenied}
use Rattle.hw_trail_laws.specs.Knowing.{knows, always, widened}
use Rattle.hw_trail_laws.specs.Stories.{Story, room_at, IsStory}
use Rattle.hw_trail_laws.specs.Walks.{InClause, EventBounds, Walk, Hit, Miss, Top, Denies, Resolves}
use Rattle.hw_trail_laws.specs.Walks.Top.{Ground, Open, Found}
use Rattle.hw_trail_laws.specs.Passes.{DeniesOne, MostOf, NothingOf, HitBefore, NoHit, DeniesOthers, DeniesAll, StepKeeps, When, Walks}
use Rattle.hw_trail_laws.specs.Passes.When.{OnGround, WithAnother}
use Rattle.hw_trail_laws.proofs.Sides.{same_when_implied, same_sym, same_trans}
use Rattle.hw_trail_laws.proofs.Knowing.{know_world, know_basic, widen_in, widen_out}
use Rattle.hw_trail_laws.proofs.Stories.{room_world, room_grows, room_falls, start_known}
use Rattle.hw_trail_laws.proofs.Needs.{others_false, unit_of}
use Rattle.hw_trail_laws.proofs.Walks.{walk_miss, walk_keep, walk_resolve, has_reason, found_no_hit, first_of_top, still_known, wide_parts, miss_known, hit_side, new_free}

clash : (r : Facts) (m : Lit) → r m ≡ true → r m ≡ false → ⊥
clash r m y n = cc

-- MEMBERS
pub in_append : (xs ys : List Lit) (l : Lit) → InClause l (xs ++ ys) → InClause l xs ⊎ InClause l ys
in_append [] ys l h = inr h
in_append (x ∷ xs) ys l (inl e) = inl (inl e)
in_append (x ∷ xs) ys l (inr h) = elim (in_append xs ys l h) [ inl a ↦ inl (inr a) | inr b ↦ inr b ]

pub in_front : (xs ys : List Lit) (l : Lit) → InClause l xs → InClause l (xs ++ ys)
in_front [] ys l h = absurd h
in_front (x ∷ xs) ys l (inl e) = inl e
in_front (x ∷ xs) ys l (inr h) = inr (in_front xs ys l h)

pub in_last : (xs : List Lit) (l : Lit) → InClause l (xs ++ l ∷ [])
in_last [] l = inl refl
in_last (x ∷ xs) l = inr (in_last xs l)

pub denies_skip : (old new : Facts) (c : List Lit) (e x : Lit) → DeniesOthers old new c e → x ≡ e → DeniesOthers old new (c ++ x ∷ []) e
denies_skip old new c e x d same = record {
  keeps = d.keeps;
  known = λ l i. elim (in_append c (x ∷ []) l i) [
    | inl a ↦ d.known l a
    | inr b ↦ elim b [ inl q ↦ inl (sym q ∙ same) | inr q ↦ absurd q ]
  ];
  sources = λ m y. elim (d.sources m y) [
    | inl o ↦ inl o
    | inr s ↦ inr (s.0, in_front c (x ∷ []) s.0 s.1, s.2, s.3, s.4)
  ];
}

pub denies_more : (old mid new : Facts) (c : List Lit) (e x : Lit) → DeniesOthers old mid c e → (x ≡ e → ⊥) → DeniesOne mid new x → DeniesOthers old new (c ++ x ∷ []) e
denies_more old mid new c e x d ne o = record {
  keeps = λ m y. o.keeps m (d.keeps m y);
  known = λ l i. elim (in_append c (x ∷ []) l i) [
    | inl a ↦ elim (d.known l a) [
      | inl q ↦ inl q
      | inr q ↦ inr (elim q [ inl u ↦ inl (o.keeps _ u) | inr u ↦ inr (o.keeps _ u) ])
    ]
    | inr b ↦ elim b [
      | inl q ↦ inr (subst (λ (y : Lit). (new (negation y) ≡ true) ⊎ (new y ≡ true)) q o.known)
      | inr q ↦ absurd q
    ]
  ];
  sources = λ m y. elim (o.sources m y) [
    | inl q ↦ elim (d.sources m q) [
      | inl r ↦ inl r
      | inr s ↦ inr (s.0, in_front c (x ∷ []) s.0 s.1, s.2, s.3, o.keeps _ s.4)
    ]
    | inr q ↦ inr (x, in_last c x, ne, q.0, q.1)
  ];
}

pub match_by : (b : Bool) (P Q : Type 0) → (b ≡ true → P) → (b ≡ false → Q) → MatchBool b P Q
match_by true P Q f g = f refl
match_by false P Q f g = g refl

-- HIT OR MISS
pub hit_from : (t : Story) (p : ℕ) (b : Facts) (x : Lit) → MostOf t.start b (t.at p).lit x → room_at t p x ≡ false → room_at t (suc p) x ≡ true → Hit t p b
hit_from t p b x m out known = record {
  most = x;
  known = m.known;
  before = out;
  made = elim (or_cases _ _ known) [ inl y ↦ y | inr y ↦ absurd (clash (room_at t p) x y out) ];
  greatest = m.greatest;
}

pub miss_nothing : (t : Story) (p : ℕ) (b : Facts) → NothingOf t.start b (t.at p).lit → Miss t p b
miss_nothing t p b none m y side = inl (start_known t p m (none m y side))

pub miss_before : (t : Story) (n : ℕ) → IsStory t n → (p : ℕ) → p < n → (b : Facts) (x : Lit) → MostOf t.start b (t.at p).lit x → room_at t p x ≡ true → Miss t p b
miss_before t n s p lt b x m known y h side = inl ((room_world t n s p (omega arith)).closed x y known (m.greatest y h side))

pub miss_after : (t : Story) (p : ℕ) (b : Facts) (x : Lit) → MostOf t.start b (t.at p).lit x → room_at t (suc p) x ≡ false → Miss t p b
miss_after t p b x m later y h side = inr (record { by = x; known = m.known; implied = m.greatest y h side; later = later })

-- WHETHER ANOTHER IS OPEN
pub another_open : (t : Story) (n : ℕ) → IsStory t n → (first p : ℕ) → p < n → (b : Facts) → Hit t p b → HitBefore t first p b → Narrower (room_at t first) (dropping (t.at p).lit b) → ⊥
another_open t n s first p lt b h a i =
    let q = a.hit in
    let out : room_at t first q.most ≡ false = room_falls t first a.place a.from q.most q.before in
    elim (cases_Bool (same_side (t.at p).lit q.most)) [
      | inr no_side ↦ clash (room_at t first) q.most (i q.most (rw (q.known, no_side) refl)) out
      | inl side ↦
          let near : same_side (t.at a.place).lit h.most ≡ true = same_trans _ _ _ (hit_side t a.place b q) (same_trans _ _ _ (same_sym _ _ side) (hit_side t p b h)) in
          let w = room_world t n s p (omega arith) in
          let known : room_at t p q.most ≡ true = room_grows t (suc a.place) p a.below q.most (or_left _ _ q.made) in
          clash (room_at t p) h.most (w.closed q.most h.most known (q.greatest h.most h.known near)) h.before
    ]

-- all that isn't of the side of e was known before each place without a hit
goes_down : (t : Story) (first : ℕ) (b : Facts) (e : Lit) (p : ℕ) → first ≤ p → NoHit t first p b → ((m : Lit) → b m ≡ true → same_side e m ≡ false → room_at t p m ≡ true)
    → (m : Lit) → b m ≡ true → same_side e m ≡ false → room_at t first m ≡ true
goes_down t first b e zero le none all m y n = subst (λ (k : ℕ). room_at t k m ≡ true) (let z : zero ≡ first = omega arith in z) (all m y n)
goes_down t first b e (suc p) le none all m y n = elim (cases_lt p first) [
  | inl less ↦ let z : suc p ≡ first = omega arith in subst (λ (k : ℕ). room_at t k m ≡ true) z (all m y n)
  | inr more ↦ goes_down t first b e p more (λ q a c. none q a (omega arith)) (λ x u v. elim (miss_known t p b (none p more (omega arith)) x u (all x u v)) [
    | inl k ↦ k
    | inr l ↦ absurd (clash (room_at t (suc p)) l.by (all l.by l.known (away e l.by x l.implied v)) l.later)
  ]) m y n
]
  where
    away : (e l m : Lit) → implies l m ≡ true → same_side e m ≡ false → same_side e l ≡ false
    away e l m i v = elim (cases_Bool (same_side e l)) [
      | inl s ↦ absurd (let z : same_side e m ≡ true = same_trans _ _ _ s (same_when_implied _ _ i) in cc)
      | inr s ↦ s
    ]

pub alone_from : (t : Story) (n top first base p : ℕ) (b : Facts) (places : List ℕ) → EventBounds t n top first base → p < n → Hit t p b → 1 ≤ (t.at p).level → NoHit t first p b
    → Top t top first base (suc p) b places → (t.at p).level ≡ top → Narrower (room_at t first) (dropping (t.at p).lit b)
alone_from t n top first base p b places bs lt h up none (Ground z g) e = absurd (omega arith)
alone_from t n top first base p b places bs lt h up none (Open z out all) e =
    λ m y. let a = wide_parts _ _ b y in
    goes_down t first b (t.at p).lit p (first_of_top t n top first base p bs e) none (λ x u v. still_known t p x (all x u) v) m a.0 a.1
alone_from t n top first base p b places bs lt h up none (Found z u k f g rest late) e =
    absurd (found_no_hit t n top first base p b bs lt h (first_of_top t n top first base p bs e) u k g rest)

-- RESOLVING
all_moved : (r s : Facts) (c : List Lit) → AllDenied r c → ((l : Lit) → InClause l c → r (negation l) ≡ true → s (negation l) ≡ true) → AllDenied s c
all_moved r s [] h f = tt
all_moved r s (l ∷ c) h f = (f l (inl refl) h.0, all_moved r s c h.1 (λ x i. f x (inr i)))

only_moved : (r s : Facts) (e : Lit) (c : List Lit) → OnlyLeft r e c → ((l : Lit) → InClause l c → r (negation l) ≡ true → s (negation l) ≡ true) → OnlyLeft s e c
only_moved r s e [] h f = h
only_moved r s e (l ∷ c) (inl h) f = inl (h.0, all_moved r s c h.1 (λ x i. f x (inr i)))
only_moved r s e (l ∷ c) (inr h) f = inr (f l (inl refl) h.0, only_moved r s e c h.1 (λ x i. f x (inr i)))

-- what the new room knows, the trail knows
new_around : (t : Story) (n : ℕ) → IsStory t n → (p : ℕ) → p < n → (r : RoomModel) → IsRoom r → (new : Facts) (c : List Lit) → t.start ≡ always r.ships r.slots
    → IsLitOf r.ships (t.at p).lit → OnlyLeft (room_at t p) (t.at p).lit c → DeniesOthers (knows (widened (t.at p).lit r)) new c (t.at p).lit → Narrower (room_at t n) (knows r) → Narrower (room_at t n) new
new_around t n s p lt r i new c st f only d around m y = elim (d.sources m y) [
  | inl o ↦ elim (widen_out r (full_room r i) (t.at p).lit f m o) [
    | inl z ↦ start_known t n m (subst (λ (x : Facts). x m ≡ true) (sym st) z)
    | inr z ↦ around m z.0
  ]
  | inr q ↦ elim (others_false (room_at t p) (t.at p).lit c only q.0 q.1) [
    | inl e ↦ absurd (q.2 e)
    | inr k ↦ (room_world t n s n (omega arith)).closed (negation q.0) m (room_grows t p n (omega arith) (negation q.0) k) q.3
  ]
]

pub resolves_from : (t : Story) (n : ℕ) → IsStory t n → (p : ℕ) → p < n → (r : RoomModel) → IsRoom r → (new : Facts) (c : List Lit) → t.start ≡ always r.ships r.slots
    → IsLitOf r.ships (t.at p).lit → (t.at p).why ≡ Some c → DeniesOthers (knows (widened (t.at p).lit r)) new c (t.at p).lit → Narrower (room_at t n) (knows r)
    → Resolves t.start (room_at t p) (t.at p).lit c (knows r) new
resolves_from t n s p lt r i new c st f why d around =
    let only : OnlyLeft (room_at t p) (t.at p).lit c = unit_of t p c (t.at p).why why (s.told p lt).because in
    let inside : Narrower (room_at t n) new = new_around t n s p lt r i new c st f only d around in
    record {
      keeps = λ m y apart. d.keeps m (widen_in r (full_room r i) (t.at p).lit f (new_free t n s p lt (knows r) around) m y apart);
      denies = only_moved (room_at t p) new (t.at p).lit c only (λ l k out. elim (d.known l k) [
        | inl e ↦ absurd (clash (room_at t p) (negation (t.at p).lit) (subst (λ (x : Lit). room_at t p (negation x) ≡ true) e out) (s.told p lt).not_false)
        | inr q ↦ elim q [
          | inl a ↦ a
          | inr a ↦ absurd ((room_world t n s n (omega arith)).consistent l (inside l a) (room_grows t p n (omega arith) (negation l) out))
        ]
      ]);
      sources = λ m y. elim (d.sources m y) [
        | inl o ↦ elim (widen_out r (full_room r i) (t.at p).lit f m o) [
          | inl z ↦ inl (subst (λ (x : Facts). x m ≡ true) (sym st) z)
          | inr z ↦ inr (inl z)
        ]
        | inr q ↦ elim (others_false (room_at t p) (t.at p).lit c only q.0 q.1) [
          | inl e ↦ absurd (q.2 e)
          | inr k ↦ inr (inr (record { by = q.0; within = q.1; was_false = k; known = q.4; implied = q.3 }))
        ]
      ];
    }

-- THE FOUR WAYS OF A STEP
pub step_miss : (t : Story) (p top first : ℕ) (b : Facts) → Miss t p b → StepKeeps t p top first b b false
step_miss t p top first b miss n base k places lt bs w = walk_miss t n top first base k p b places w miss

pub step_other : (t : Story) (p top first : ℕ) (b : Facts) → Hit t p b → 1 ≤ (t.at p).level → ((t.at p).level ≡ top → ⊥) → StepKeeps t p top first b b false
step_other t p top first b h up ne n base k places lt bs w = walk_keep t n top first base k p b places bs lt w h up (λ e. absurd (ne e))

pub step_alone : (t : Story) (p top first : ℕ) (b : Facts) → Hit t p b → 1 ≤ (t.at p).level → NoHit t first p b → StepKeeps t p top first b b false
step_alone t p top first b h up none n base k places lt bs w =
    walk_keep t n top first base k p b places bs lt w h up (alone_from t n top first base p b places bs lt h up none w.top_level)

when : (t : Story) (n p top first : ℕ) (b : Facts) → IsStory t n → p < n → Hit t p b → When t p top first b
    → ((t.at p).level ≡ 0) ⊎ (((t.at p).level ≡ top) × (Narrower (room_at t first) (dropping (t.at p).lit b) → ⊥))
when t n p top first b s lt h (OnGround e) = inl e
when t n p top first b s lt h (WithAnother e a) = inr (e, another_open t n s first p lt b h a)

pub step_decision : (t : Story) (p top first : ℕ) (b : Facts) → Hit t p b → When t p top first b → (t.at p).why ≡ None → StepKeeps t p top first b b false
step_decision t p top first b h x none n base k places lt bs w =
    absurd (has_reason t n top first base k p b places bs lt w h (when t n p top first b bs.story lt h x) none)

pub step_resolve : (t : Story) (p top first : ℕ) (r new : RoomModel) (c : List Lit) → IsRoom r → IsRoom new → t.start ≡ always r.ships r.slots → t.start ≡ always new.ships new.slots → IsLitOf r.ships (t.at p).lit
    → Hit t p (knows r) → When t p top first (knows r) → (t.at p).why ≡ Some c → DeniesOthers (knows (widened (t.at p).lit r)) (knows new) c (t.at p).lit
    → StepKeeps t p top first (knows r) (knows new) true
step_resolve t p top first r new c i j st st2 f h x why d n base k places lt bs w =
    walk_resolve t n top first base k p (knows r) (knows new) c places bs lt w h (when t n p top first (knows r) bs.story lt h x) why (know_world new j)
    (λ m y. know_basic new j m (subst (λ (z : Facts). z m ≡ true) st2 y))
    (resolves_from t n bs.story p lt r i (knows new) c st f why d w.around)

-- the last test of `due`
pub due_answer : (t : Story) (p top first : ℕ) (b : Facts) → Hit t p b → 1 ≤ (t.at p).level → (t.at p).level ≡ top → (found : Bool) → MatchBool found (HitBefore t first p b) (NoHit t first p b)
    → MatchBool found (Hit t p b × When t p top first b) (StepKeeps t p top first b b false)
due_answer t p top first b h up e true a = (h, WithAnother e a)
due_answer t p top first b h up e false none = step_alone t p top first b h up none

-- THE LOOP
pub walks_on : (t : Story) (n top first p : ℕ) (start old new : Facts) (places : List ℕ) (resolved : Bool) → 0 < p → p ≤ n → Walks t n top first p start old places
    → StepKeeps t (p - 1) top first old new resolved → Walks t n top first (p - 1) start new (cond resolved ((p - 1) ∷ places) places)
walks_on t n top first p start old new places resolved some le w keeps base k bs begin =
    let e : p ≡ suc (p - 1) = omega arith in
    keeps n base k places (omega arith) bs (subst (λ (q : ℕ). Walk t n top first base k q old places) e (w base k bs begin))

pub all_more : (old mid new : Facts) (c : List Lit) (x : Lit) → DeniesAll old mid c → DeniesOne mid new x → DeniesAll old new (c ++ x ∷ [])
all_more old mid new c x d o = record {
  keeps = λ m y. o.keeps m (d.keeps m y);
  known = λ l i. elim (in_append c (x ∷ []) l i) [
    | inl a ↦ elim (d.known l a) [ inl u ↦ inl (o.keeps _ u) | inr u ↦ inr (o.keeps _ u) ]
    | inr b ↦ elim b [
      | inl q ↦ subst (λ (y : Lit). (new (negation y) ≡ true) ⊎ (new y ≡ true)) q o.known
      | inr q ↦ absurd q
    ]
  ];
  sources = λ m y. elim (o.sources m y) [
    | inl q ↦ elim (d.sources m q) [
      | inl r ↦ inl r
      | inr s ↦ inr (s.0, in_front c (x ∷ []) s.0 s.1, s.2, o.keeps _ s.3)
    ]
    | inr q ↦ inr (x, in_last c x, q.0, q.1)
  ];
}

all_from : (r : Facts) (c : List Lit) → ((l : Lit) → InClause l c → r (negation l) ≡ true) → AllDenied r c
all_from r [] f = tt
all_from r (l ∷ c) f = (f l (inl refl), all_from r c (λ x i. f x (inr i)))

-- the room that denies the conflict is where the walk begins: the trail lies inside it
pub denies_from : (t : Story) (n : ℕ) → IsStory t n → (k : List Lit) (old new : Facts) → ((m : Lit) → old m ≡ true → t.start m ≡ true) → ((l : Lit) → InClause l k → room_at t n (negation l) ≡ true)
    → DeniesAll old new k → Denies t.start (room_at t n) k new
denies_from t n s k old new fresh false_all d =
    let inside : Narrower (room_at t n) new = λ m y. elim (d.sources m y) [
      | inl o ↦ start_known t n m (fresh m o)
      | inr q ↦ (room_world t n s n (omega arith)).closed (negation q.0) m (false_all q.0 q.1) q.2
    ] in
    record {
      all = all_from new k (λ l i. elim (d.known l i) [
        | inl u ↦ u
        | inr u ↦ absurd ((room_world t n s n (omega arith)).consistent l (inside l u) (false_all l i))
      ]);
      sources = λ m y. elim (d.sources m y) [
        | inl o ↦ inl (fresh m o)
        | inr q ↦ inr (record { by = q.0; within = q.1; was_false = false_all q.0 q.1; known = q.3; implied = q.2 })
      ];
    }
