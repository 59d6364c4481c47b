-- Each step of the walk keeps what is kept.
use Rattle.std.proofs.Common.{◌≡◌, ℕ, suc, ◌<◌, ◌≤◌, Bool, true, false, refl, arith, ◌⊎◌, inl, inr, List, [], ◌∷◌, subst, Some, None}
use Rattle.std.proofs.lemmas.Bool.{or_cases, or_left, or_right, cases_lt, cases_Bool, and_parts, not-true}
use Rattle.hw_model.specs.declared.lit.Lit.{Lit}
use Rattle.hw_model.specs.Lits.{negation}
use Rattle.hw_trail_laws.specs.Sides.{same_side, implies}
use Rattle.hw_trail_laws.specs.Replays.{Facts, Narrower, adding, dropping, World, meets}
use Rattle.hw_trail_laws.specs.Stories.{Story, room_at, IsStory}
use Rattle.hw_trail_laws.specs.Walks.{chain, ReasonedAscend, Late, EventBounds, Top, KeptFor, FromClause, Walk, Hit, Later, Miss, Denied, Resolves}
use Rattle.hw_trail_laws.specs.Walks.Top.{Ground, Open, Found}
use Rattle.hw_trail_laws.proofs.Sides.{implies_self, implies_trans, same_when_implied, same_sym, same_trans}
use Rattle.hw_trail_laws.proofs.Replays.{ends_inside, ends_before, cut_world}
use Rattle.hw_trail_laws.proofs.Stories.{room_grows, room_falls, room_world, decides_first, decides_above, start_known}
use Rattle.hw_trail_laws.proofs.Needs.{needed_more}

-- two tests of one literal that disagree
clash : (r : Facts) (m : Lit) → r m ≡ true → r m ≡ false → ⊥
clash r m y n = cc

pub ascends_from : (t : Story) (n p : ℕ) (places : List ℕ) → ReasonedAscend t n (suc p) places → ReasonedAscend t n p places
ascends_from t n p [] h = tt
ascends_from t n p (q ∷ qs) h = (omega (arith, h.0), h.1, h.2, h.3)

-- what the room knows at p + 1 and not at p is what the event implies
pub known_before : (t : Story) (p : ℕ) (m : Lit) → room_at t (suc p) m ≡ true → (implies (t.at p).lit m ≡ true) ⊎ (room_at t p m ≡ true)
known_before t p m h = or_cases _ _ h

-- A MISS
pub miss_known : (t : Story) (p : ℕ) (b : Facts) → Miss t p b → (m : Lit) → b m ≡ true → room_at t (suc p) m ≡ true → (room_at t p m ≡ true) ⊎ Later t p b m
miss_known t p b miss m h k = elim (known_before t p m k) [
  | inl y ↦ miss m h (same_when_implied _ _ y)
  | inr y ↦ inl y
]

miss_rest : (t : Story) (n top first base : ℕ) (k : List Lit) (p : ℕ) (b : Facts) (places : List ℕ) → Walk t n top first base k (suc p) b places
    → Miss t p b → (m : Lit) → b m ≡ true → (room_at t p m ≡ true) ⊎ KeptFor t base b m
miss_rest t n top first base k p b places w miss m h = elim (w.rest m h) [
  | inl y ↦ elim (miss_known t p b miss m h y) [
    | inl z ↦ inl z
    | inr z ↦ elim (w.rest z.by z.known) [
      | inl late ↦ absurd (clash (room_at t (suc p)) z.by late z.later)
      | inr kept ↦ inr (record { by = kept.by; known = kept.known; implied = implies_trans _ _ _ kept.implied z.implied; later = kept.later })
    ]
  ]
  | inr y ↦ inr y
]

miss_top : (t : Story) (top first base p : ℕ) (b : Facts) (places : List ℕ) → Miss t p b → Top t top first base (suc p) b places → Top t top first base p b places
miss_top t top first base p b places miss (Ground z h) = Ground z h
miss_top t top first base p b places miss (Open z h k) = Open z h (λ m y. elim (miss_known t p b miss m y (k m y)) [
  | inl x ↦ x
  | inr x ↦ absurd (clash (room_at t (suc p)) x.by (k x.by x.known) x.later)
])
miss_top t top first base p b places miss (Found z u h f g rest late) = Found z u h f (room_falls t p (suc p) (omega arith) u g) rest late

pub walk_miss : (t : Story) (n top first base : ℕ) (k : List Lit) (p : ℕ) (b : Facts) (places : List ℕ) → Walk t n top first base k (suc p) b places
    → Miss t p b → Walk t n top first base k p b places
walk_miss t n top first base k p b places w miss = record {
  world = w.world;
  basic = w.basic;
  around = w.around;
  replays = w.replays;
  lean = w.lean;
  rest = miss_rest t n top first base k p b places w miss;
  ascends = ascends_from t n p places w.ascends;
  needed = w.needed;
  top_level = miss_top t top first base p b places miss w.top_level;
}

-- A HIT THAT STAYS
hit_after : (t : Story) (p : ℕ) (b : Facts) → (h : Hit t p b) → room_at t (suc p) h.most ≡ true
hit_after t p b h = or_left _ _ h.made

pub hit_side : (t : Story) (p : ℕ) (b : Facts) → (h : Hit t p b) → same_side (t.at p).lit h.most ≡ true
hit_side t p b h = same_when_implied _ _ h.made

late_from : (t : Story) (n top p : ℕ) (u : Lit) (places : List ℕ) → room_at t p u ≡ true → ReasonedAscend t n p places → Late t top u places
late_from t n top p u [] k a = tt
late_from t n top p u (q ∷ qs) k a =
    let here : room_at t q u ≡ true = room_grows t p q a.0 u k in
    ((λ e. here), late_from t n top (suc q) u qs (or_right _ _ here) a.3)

-- before the first event of the level nothing is open
open_late : (t : Story) (first p : ℕ) (b : Facts) → (Narrower (room_at t first) b → ⊥) → ((m : Lit) → b m ≡ true → room_at t p m ≡ true) → first < p
open_late t first p b refused all = elim (cases_lt first p) [
  | inl y ↦ y
  | inr y ↦ absurd (refused (λ m h. room_grows t p first y m (all m h)))
]

found_side : (t : Story) (n top first base p : ℕ) (b : Facts) → EventBounds t n top first base → (h : Hit t p b) → p < n → (u : Lit) → b u ≡ true
    → room_at t (suc p) u ≡ false → same_side u h.most ≡ true → ⊥
found_side t n top first base p b bs h lt u k f side =
    let near : same_side (t.at p).lit u ≡ true = same_trans _ _ _ (hit_side t p b h) (same_sym _ _ side) in
    let y : room_at t (suc p) u ≡ true = (room_world t n bs.story (suc p) lt).closed h.most u (hit_after t p b h) (h.greatest u k near) in
    clash (room_at t (suc p)) u y f

kept_most : (t : Story) (n top first base p : ℕ) (b : Facts) → EventBounds t n top first base → (h : Hit t p b) → p < n → 1 ≤ (t.at p).level → room_at t base h.most ≡ false
kept_most t n top first base p b bs h lt up = elim (cases_lt p base) [
  | inl y ↦ absurd (omega (arith, bs.ground p y))
  | inr y ↦ room_falls t base p y h.most h.before
]

keep_rest : (t : Story) (n top first base : ℕ) (k : List Lit) (p : ℕ) (b : Facts) (places : List ℕ) → EventBounds t n top first base → p < n
    → Walk t n top first base k (suc p) b places → (h : Hit t p b) → 1 ≤ (t.at p).level → (m : Lit) → b m ≡ true → (room_at t p m ≡ true) ⊎ KeptFor t base b m
keep_rest t n top first base k p b places bs lt w h up m y = elim (w.rest m y) [
  | inl z ↦ elim (known_before t p m z) [
    | inl x ↦ inr (record { by = h.most; known = h.known; implied = h.greatest m y (same_when_implied _ _ x); later = kept_most t n top first base p b bs h lt up })
    | inr x ↦ inl x
  ]
  | inr z ↦ inr z
]

split_side : (e u m : Lit) (f b : Facts) → Narrower f (dropping e b) → ((same_side e m ≡ true) → implies u m ≡ true) → b m ≡ true → (x : Bool) → same_side e m ≡ x
    → (f m ≡ true) ⊎ (implies u m ≡ true)
split_side e u m f b i g y true e2 = inr (g e2)
split_side e u m f b i g y false e2 = inl (i m (rw (y, e2) refl))

keep_top : (t : Story) (n top first base : ℕ) (p : ℕ) (b : Facts) (places : List ℕ) → EventBounds t n top first base → p < n
    → ReasonedAscend t n (suc p) places → (h : Hit t p b) → 1 ≤ (t.at p).level → ((t.at p).level ≡ top → Narrower (room_at t first) (dropping (t.at p).lit b))
    → Top t top first base (suc p) b places → Top t top first base p b places
keep_top t n top first base p b places bs lt a h up alone (Ground z k) = elim (cases_lt p first) [
  | inl y ↦ absurd (omega (arith, bs.low p y))
  | inr y ↦ absurd (omega (arith, bs.high p y lt))
]
keep_top t n top first base p b places bs lt a h up alone (Open z refused all) =
    let le : first ≤ p = omega (arith, open_late t first (suc p) b refused all) in
    Found z h.most h.known (room_falls t first p le h.most h.before) h.before
    (λ m y. split_side (t.at p).lit h.most m (room_at t first) b (alone (bs.high p le lt)) (h.greatest m y) y (same_side (t.at p).lit m) refl)
    (late_from t n top (suc p) h.most places (hit_after t p b h) a)
keep_top t n top first base p b places bs lt a h up alone (Found z u k f g rest late) =
    Found z u k f (room_falls t p (suc p) (omega arith) u g) rest late

pub walk_keep : (t : Story) (n top first base : ℕ) (k : List Lit) (p : ℕ) (b : Facts) (places : List ℕ) → EventBounds t n top first base → p < n
    → Walk t n top first base k (suc p) b places → Hit t p b → 1 ≤ (t.at p).level
    → ((t.at p).level ≡ top → Narrower (room_at t first) (dropping (t.at p).lit b)) → Walk t n top first base k p b places
walk_keep t n top first base k p b places bs lt w h up alone = record {
  world = w.world;
  basic = w.basic;
  around = w.around;
  replays = w.replays;
  lean = w.lean;
  rest = keep_rest t n top first base k p b places bs lt w h up;
  ascends = ascends_from t n p places w.ascends;
  needed = w.needed;
  top_level = keep_top t n top first base p b places bs lt w.ascends h up alone w.top_level;
}

-- No decision IS RESOLVED
first_decision : (t : Story) (n top first base p : ℕ) → EventBounds t n top first base → p < n → (t.at p).level ≡ top → first ≤ p → (t.at p).why ≡ None → p ≡ first
first_decision t n top first base p bs lt e le none = elim (cases_lt first p) [
  | inl y ↦ absurd (omega (arith, decides_first t n bs.story p lt none first y, bs.high first (omega arith) (omega arith)))
  | inr y ↦ omega arith
]

pub first_of_top : (t : Story) (n top first base p : ℕ) → EventBounds t n top first base → (t.at p).level ≡ top → first ≤ p
first_of_top t n top first base p bs e = elim (cases_lt p first) [
  | inl y ↦ absurd (omega (arith, bs.low p y))
  | inr y ↦ y
]

pub wide_parts : (e m : Lit) (b : Facts) → dropping e b m ≡ true → (b m ≡ true) × (same_side e m ≡ false)
wide_parts e m b h = let a = and_parts _ _ h in (a.0, not-true _ a.1)

pub still_known : (t : Story) (p : ℕ) (m : Lit) → room_at t (suc p) m ≡ true → same_side (t.at p).lit m ≡ false → room_at t p m ≡ true
still_known t p m h n = elim (known_before t p m h) [
  | inl y ↦ absurd (let s : same_side (t.at p).lit m ≡ true = same_when_implied _ _ y in cc)
  | inr y ↦ y
]

pub found_no_hit : (t : Story) (n top first base p : ℕ) (b : Facts) → EventBounds t n top first base → p < n → (h : Hit t p b) → first ≤ p → (u : Lit) → b u ≡ true
    → room_at t (suc p) u ≡ false → ((m : Lit) → b m ≡ true → (room_at t first m ≡ true) ⊎ (implies u m ≡ true)) → ⊥
found_no_hit t n top first base p b bs lt h le u k f rest = elim (rest h.most h.known) [
  | inl y ↦ clash (room_at t first) h.most y (room_falls t first p le h.most h.before)
  | inr y ↦ found_side t n top first base p b bs h lt u k f (same_when_implied _ _ y)
]

top_reason : (t : Story) (n top first base p : ℕ) (b : Facts) (places : List ℕ) → EventBounds t n top first base → p < n → Hit t p b → (t.at p).why ≡ None
    → (t.at p).level ≡ top → (Narrower (room_at t first) (dropping (t.at p).lit b) → ⊥) → Top t top first base (suc p) b places → ⊥
top_reason t n top first base p b places bs lt h none e refused (Ground z k) = omega (arith, decides_above t n bs.story p lt none)
top_reason t n top first base p b places bs lt h none e refused (Open z n2 all) =
    let at : p ≡ first = first_decision t n top first base p bs lt e (first_of_top t n top first base p bs e) none in
    refused (λ m y. let a = wide_parts _ _ b y in subst (λ (q : ℕ). room_at t q m ≡ true) at (still_known t p m (all m a.0) a.1))
top_reason t n top first base p b places bs lt h none e refused (Found z u k f g rest late) =
    found_no_hit t n top first base p b bs lt h (first_of_top t n top first base p bs e) u k g rest

pub has_reason : (t : Story) (n top first base : ℕ) (k : List Lit) (p : ℕ) (b : Facts) (places : List ℕ) → EventBounds t n top first base → p < n
    → Walk t n top first base k (suc p) b places → Hit t p b
    → ((t.at p).level ≡ 0) ⊎ (((t.at p).level ≡ top) × (Narrower (room_at t first) (dropping (t.at p).lit b) → ⊥)) → (t.at p).why ≡ None → ⊥
has_reason t n top first base k p b places bs lt w h (inl e) none = omega (arith, decides_above t n bs.story p lt none)
has_reason t n top first base k p b places bs lt w h (inr e) none = top_reason t n top first base p b places bs lt h none e.0 e.1 w.top_level

-- A HIT THAT IS RESOLVED
covers : (t : Story) (p : ℕ) (b new : Facts) (c : List Lit) → (h : Hit t p b) → Resolves t.start (room_at t p) (t.at p).lit c b new → (m : Lit) → b m ≡ true
    → (x : Bool) → same_side (t.at p).lit m ≡ x → adding (t.at p).lit new m ≡ true
covers t p b new c h r m y true e = or_left _ _ (implies_trans _ _ _ h.made (h.greatest m y e))
covers t p b new c h r m y false e = or_right _ _ (r.keeps m y e)

-- where e is known and s lies inside the new room, s lies inside the old one too; so the resolved replay meets
resolved_replays : (t : Story) (n : ℕ) → IsStory t n → (p : ℕ) → p < n → (b new : Facts) (c : List Lit) (cs : List (List Lit)) → World new → (h : Hit t p b) → Resolves t.start (room_at t p) (t.at p).lit c b new
    → new (negation (t.at p).lit) ≡ false → meets cs b → meets (c ∷ cs) new
resolved_replays t n s p lt b new c cs w h r free k =
    ends_before new (t.at p).lit c cs w r.denies
    (ends_inside cs b (adding (t.at p).lit new) (λ m y. covers t p b new c h r m y (same_side (t.at p).lit m) refl) (cut_world (t.at p).lit new w free) k)

-- what is known of the new room was known before the event, or was kept
new_before : (t : Story) (n : ℕ) → IsStory t n → (p : ℕ) → p < n → (b new : Facts) (c : List Lit) → Resolves t.start (room_at t p) (t.at p).lit c b new
    → (m : Lit) → Denied (room_at t p) c new m → room_at t p m ≡ true
new_before t n s p lt b new c r m d = (room_world t n s p (omega arith)).closed (negation d.by) m d.was_false d.implied

side_apart : (e l m : Lit) → implies l m ≡ true → same_side e m ≡ false → same_side e l ≡ false
side_apart e l m i n = elim (cases_Bool (same_side e l)) [
  | inl y ↦ absurd (let z : same_side e m ≡ true = same_trans _ _ _ y (same_when_implied _ _ i) in cc)
  | inr y ↦ y
]

resolve_rest : (t : Story) (n top first base : ℕ) (k : List Lit) (p : ℕ) (b new : Facts) (c : List Lit) (places : List ℕ) → EventBounds t n top first base → p < n
    → Walk t n top first base k (suc p) b places → Resolves t.start (room_at t p) (t.at p).lit c b new → (m : Lit) → new m ≡ true → (room_at t p m ≡ true) ⊎ KeptFor t base new m
resolve_rest t n top first base k p b new c places bs lt w r m y = elim (r.sources m y) [
  | inl o ↦ inl (start_known t p m o)
  | inr (inl a) ↦ elim (w.rest m a.0) [
    | inl z ↦ inl (still_known t p m z a.1)
    | inr z ↦ inr (record { by = z.by; known = r.keeps z.by z.known (side_apart _ _ _ z.implied a.1); implied = z.implied; later = z.later })
  ]
  | inr (inr d) ↦ inl (new_before t n bs.story p lt b new c r m d)
]

resolve_around : (t : Story) (n top first base : ℕ) (k : List Lit) (p : ℕ) (b new : Facts) (c : List Lit) (places : List ℕ) → EventBounds t n top first base → p < n
    → Walk t n top first base k (suc p) b places → Resolves t.start (room_at t p) (t.at p).lit c b new → Narrower (room_at t n) new
resolve_around t n top first base k p b new c places bs lt w r m y = elim (r.sources m y) [
  | inl o ↦ start_known t n m o
  | inr (inl a) ↦ w.around m a.0
  | inr (inr d) ↦ room_grows t p n (omega arith) m (new_before t n bs.story p lt b new c r m d)
]

resolve_lean : (t : Story) (n top first base : ℕ) (k : List Lit) (p : ℕ) (b new : Facts) (c : List Lit) (places : List ℕ) → (t.at p).why ≡ Some c
    → Walk t n top first base k (suc p) b places → Resolves t.start (room_at t p) (t.at p).lit c b new → (m : Lit) → new m ≡ true → (t.start m ≡ true) ⊎ FromClause (chain t (p ∷ places) k) new m
resolve_lean t n top first base k p b new c places why w r m y = elim (r.sources m y) [
  | inl o ↦ inl o
  | inr (inl a) ↦ elim (w.lean m a.0) [
    | inl o ↦ inl o
    | inr f ↦ inr (record { by = f.by; within = inr f.within; known = r.keeps (negation f.by) f.known (side_apart _ _ _ f.implied a.1); implied = f.implied })
  ]
  | inr (inr d) ↦ inr (record { by = d.by; within = inl (rw why d.within); known = d.known; implied = d.implied })
]

event_known : (t : Story) (p : ℕ) → room_at t (suc p) (t.at p).lit ≡ true
event_known t p = or_left _ _ (implies_self (t.at p).lit)

-- the event's own negation isn't known in the new room, since the trail lies inside it
pub new_free : (t : Story) (n : ℕ) → IsStory t n → (p : ℕ) → p < n → (new : Facts) → Narrower (room_at t n) new → new (negation (t.at p).lit) ≡ false
new_free t n s p lt new i = elim (cases_Bool (new (negation (t.at p).lit))) [
  | inl y ↦ absurd ((room_world t n s n (omega arith)).consistent (t.at p).lit (room_grows t (suc p) n lt (t.at p).lit (event_known t p)) (i _ y))
  | inr y ↦ y
]

resolve_top_open : (t : Story) (n top first base : ℕ) (p : ℕ) (b new : Facts) (c : List Lit) → Resolves t.start (room_at t p) (t.at p).lit c b new
    → (Narrower (room_at t first) (dropping (t.at p).lit b) → ⊥) → Narrower (room_at t first) new → ⊥
resolve_top_open t n top first base p b new c r out i = out (λ m y. let a = wide_parts _ _ b y in i m (r.keeps m a.0 a.1))

resolve_top : (t : Story) (n top first base : ℕ) (p : ℕ) (b new : Facts) (c : List Lit) (places : List ℕ) → EventBounds t n top first base → p < n
    → (h : Hit t p b) → Resolves t.start (room_at t p) (t.at p).lit c b new
    → ((t.at p).level ≡ 0) ⊎ (((t.at p).level ≡ top) × (Narrower (room_at t first) (dropping (t.at p).lit b) → ⊥))
    → Top t top first base (suc p) b places → Top t top first base p new (p ∷ places)
resolve_top t n top first base p b new c places bs lt h r why (Ground z g) = Ground z (λ m y. elim (r.sources m y) [
  | inl o ↦ start_known t base m o
  | inr (inl a) ↦ g m a.0
  | inr (inr d) ↦ elim (cases_lt p base) [
    | inl q ↦ room_grows t p base (omega arith) m (new_before t n bs.story p lt b new c r m d)
    | inr q ↦ absurd (omega (arith, bs.above p q lt, bs.high p (elim (cases_lt p first) [ inl u ↦ absurd (omega (arith, bs.low p u)) | inr u ↦ u ]) lt))
  ]
])
resolve_top t n top first base p b new c places bs lt h r (inl zer) (Open z out all) =
    let le : first ≤ p = omega (arith, open_late t first (suc p) b out all) in
    absurd (omega (arith, bs.high p le lt))
resolve_top t n top first base p b new c places bs lt h r (inr e) (Open z out all) = Open z
    (resolve_top_open t n top first base p b new c r e.1)
    (λ m y. elim (r.sources m y) [
      | inl o ↦ start_known t p m o
      | inr (inl a) ↦ still_known t p m (all m a.0) a.1
      | inr (inr d) ↦ new_before t n bs.story p lt b new c r m d
    ])
resolve_top t n top first base p b new c places bs lt h r (inr e) (Found z u k f g rest late) =
    absurd (found_no_hit t n top first base p b bs lt h (first_of_top t n top first base p bs e.0) u k g rest)
resolve_top t n top first base p b new c places bs lt h r (inl zer) (Found z u k f g rest late) =
    let low : p < first = elim (cases_lt p first) [ inl q ↦ q | inr q ↦ absurd (omega (arith, bs.high p q lt)) ] in
    let apart : same_side (t.at p).lit u ≡ false = elim (cases_Bool (same_side (t.at p).lit u)) [
      | inl q ↦ absurd (found_side t n top first base p b bs h lt u k g (same_trans _ _ _ (same_sym _ _ q) (hit_side t p b h)))
      | inr q ↦ q
    ] in
    Found z u (r.keeps u k apart) f (room_falls t p (suc p) (omega arith) u g)
    (λ m y. elim (r.sources m y) [
      | inl o ↦ inl (start_known t first m o)
      | inr (inl a) ↦ rest m a.0
      | inr (inr d) ↦ inl (room_grows t p first (omega arith) m (new_before t n bs.story p lt b new c r m d))
    ])
    ((λ e. absurd (omega (arith, e))), late)

pub walk_resolve : (t : Story) (n top first base : ℕ) (k : List Lit) (p : ℕ) (b new : Facts) (c : List Lit) (places : List ℕ) → EventBounds t n top first base → p < n
    → Walk t n top first base k (suc p) b places → (h : Hit t p b)
    → ((t.at p).level ≡ 0) ⊎ (((t.at p).level ≡ top) × (Narrower (room_at t first) (dropping (t.at p).lit b) → ⊥))
    → (t.at p).why ≡ Some c → World new → Narrower new t.start → Resolves t.start (room_at t p) (t.at p).lit c b new → Walk t n top first base k p new (p ∷ places)
walk_resolve t n top first base k p b new c places bs lt w h when why wn basic r =
    let around : Narrower (room_at t n) new = resolve_around t n top first base k p b new c places bs lt w r in
    record {
      world = wn;
      basic = basic;
      around = around;
      replays = rw why (resolved_replays t n bs.story p lt b new c (chain t places k) wn h r (new_free t n bs.story p lt new around) w.replays);
      lean = resolve_lean t n top first base k p b new c places why w r;
      rest = resolve_rest t n top first base k p b new c places bs lt w r;
      ascends = (omega arith, lt, (c, why), w.ascends);
      needed = needed_more t n bs.story k p lt b new c places w.ascends h why r w.needed;
      top_level = resolve_top t n top first base p b new c places bs lt h r when w.top_level;
    }
