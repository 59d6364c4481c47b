-- No reason of a chain can be left out.
use Rattle.std.proofs.Common.{◌≡◌, ℕ, suc, ◌<◌, ◌≤◌, Bool, true, false, cond, refl, sym, ◌∙◌, arith, ◌⊎◌, inl, inr, List, [], ◌∷◌, ◌++◌, subst, Option, Some, None}
use Rattle.std.proofs.lemmas.Bool.{or_cases, or_left, or_right, cases_Bool}
use Rattle.hw_lemmas.proofs.Truths.{clash}
use Rattle.hw_model.specs.declared.lit.Lit.{Lit}
use Rattle.hw_model.specs.Lits.{negation}
use Rattle.hw_trail_laws.specs.Sides.{same_side, implies}
use Rattle.hw_trail_laws.specs.Replays.{Facts, Narrower, adding, left, any_true, World, AllDenied, OnlyLeft, meets}
use Rattle.hw_trail_laws.specs.Stories.{Story, room_at, IsStory, CameBy}
use Rattle.hw_trail_laws.specs.Walks.{InClause, chain, reason_of, ReasonedAscend, OneLess, Settled, Before, Needed, Hit, Resolves, Denies}
use Rattle.hw_trail_laws.proofs.Sides.{implies_self, same_when_implied}
use Rattle.hw_trail_laws.proofs.Replays.{Step, step_view, cut_world}
use Rattle.hw_trail_laws.proofs.Replays.Step.{Conflict, Same, Cut}
use Rattle.hw_trail_laws.proofs.Steps.{all_false_left}
use Rattle.hw_trail_laws.proofs.Stories.{room_grows, room_world, start_known}

-- ---- the literals of a clause that aren't false

pub false_in : (r : Facts) (c : List Lit) (d : Lit) → AllDenied r c → InClause d c → r (negation d) ≡ true
false_in r [] d h i = absurd i
false_in r (l ∷ c) d h (inl e) = subst (λ (x : Lit). r (negation x) ≡ true) e h.0
false_in r (l ∷ c) d h (inr i) = false_in r c d h.1 i

stays_step : (b : Bool) (l d : Lit) (xs : List Lit) (r : Facts) → r (negation l) ≡ b → (l ≡ d) ⊎ InClause d xs → r (negation d) ≡ false → InClause d (cond b xs (l ∷ xs))
stays_step true l d xs r e (inl same) f = absurd (clash (r (negation l)) e (subst (λ (x : Lit). r (negation x) ≡ false) (sym same) f))
stays_step true l d xs r e (inr i) f = i
stays_step false l d xs r e (inl same) f = inl same
stays_step false l d xs r e (inr i) f = inr i

-- a literal of the clause is one of these, unless it is false
stays : (r : Facts) (c : List Lit) (d : Lit) → InClause d c → r (negation d) ≡ false → InClause d (left r c)
stays r [] d i f = absurd i
stays r (l ∷ c) d (inl e) f = stays_step (r (negation l)) l d (left r c) r refl (inl e) f
stays r (l ∷ c) d (inr i) f = stays_step (r (negation l)) l d (left r c) r refl (inr (stays r c d i f)) f

true_step : (b : Bool) (r : Facts) (l : Lit) (xs c : List Lit) → (any_true r xs ≡ true → (d : Lit) × InClause d c × (r d ≡ true)) → any_true r (cond b xs (l ∷ xs)) ≡ true → (d : Lit) × InClause d (l ∷ c) × (r d ≡ true)
true_step true r l xs c f h = let g = f h in (g.0, inr g.1, g.2)
true_step false r l xs c f h = elim (or_cases _ _ h) [
  | inl y ↦ (l, inl refl, y)
  | inr y ↦ let g = f y in (g.0, inr g.1, g.2)
]

-- which of these is true
true_left : (r : Facts) (c : List Lit) → any_true r (left r c) ≡ true → (d : Lit) × InClause d c × (r d ≡ true)
true_left r [] h = absurd cc
true_left r (l ∷ c) h = true_step (r (negation l)) r l (left r c) c (true_left r c) h

in_one : (d e : Lit) → InClause d (e ∷ []) → d ≡ e
in_one d e (inl h) = sym h
in_one d e (inr h) = absurd h

-- ---- the reason of an event

in_only : (r : Facts) (e : Lit) (c : List Lit) → OnlyLeft r e c → InClause e c
in_only r e [] h = absurd h
in_only r e (l ∷ c) (inl h) = inl h.0
in_only r e (l ∷ c) (inr h) = inr (in_only r e c h.1)

pub others_false : (r : Facts) (e : Lit) (c : List Lit) → OnlyLeft r e c → (l : Lit) → InClause l c → (l ≡ e) ⊎ (r (negation l) ≡ true)
others_false r e [] h l i = absurd i
others_false r e (x ∷ c) (inl h) l (inl q) = inl (sym q ∙ h.0)
others_false r e (x ∷ c) (inl h) l (inr q) = inr (false_in r c l h.1 q)
others_false r e (x ∷ c) (inr h) l (inl q) = inr (subst (λ (y : Lit). r (negation y) ≡ true) q h.0)
others_false r e (x ∷ c) (inr h) l (inr q) = others_false r e c h.1 l q

-- the outcome of a replay that begins with the reason: its literal is cut by, and the others are false
pub record Goes (r : Facts) (e : Lit) (c : List Lit) (cs : List (List Lit)) : Type 0 where
  pub others : (l : Lit) → InClause l c → (l ≡ e) ⊎ (r (negation l) ≡ true)
  pub on : meets cs (adding e r)

goes_step : (r : Facts) (e : Lit) (c : List Lit) (cs : List (List Lit)) → InClause e c → r (negation e) ≡ false → ((l : Lit) → InClause l c → r l ≡ true → ⊥) → Step r c (meets cs) → Goes r e c cs
goes_step r e c cs i free none (Conflict h) = absurd (clash (r (negation e)) (false_in r c e (all_false_left r c h) i) free)
goes_step r e c cs i free none (Same h k) = let t = true_left r c h in absurd (none t.0 t.1 t.2)
goes_step r e c cs i free none (Cut x h out k) =
    let same : e ≡ x = in_one e x (subst (λ (xs : List Lit). InClause e xs) h (stays r c e i free)) in
    record {
      others = λ l j. elim (cases_Bool (r (negation l))) [
        | inl y ↦ inr y
        | inr n ↦ inl (in_one l x (subst (λ (xs : List Lit). InClause l xs) h (stays r c l j n)) ∙ sym same)
      ];
      on = subst (λ (y : Lit). meets cs (adding y r)) (sym same) k;
    }

-- ---- rooms before a chain

event_true : (t : Story) (n p : ℕ) → p < n → room_at t n (t.at p).lit ≡ true
event_true t n p lt = room_grows t (suc p) n lt (t.at p).lit (or_left _ _ (implies_self (t.at p).lit))

-- nothing of the event's own literal is known
own_open : (t : Story) (n : ℕ) → IsStory t n → (p : ℕ) → p < n → (places : List ℕ) (r : Facts) → Before t n (p ∷ places) r → r (t.at p).lit ≡ false
own_open t n s p lt places r b = elim (cases_Bool (r (t.at p).lit)) [
  | inl y ↦ absurd (clash (room_at t p (t.at p).lit) (b.settled.0 (t.at p).lit y (same_when_implied _ _ (implies_self (t.at p).lit))) (s.told p lt).not_true)
  | inr n ↦ n
]

not_known : (t : Story) (n : ℕ) → IsStory t n → (p : ℕ) → p < n → (r : Facts) → Narrower (room_at t n) r → r (negation (t.at p).lit) ≡ false
not_known t n s p lt r around = elim (cases_Bool (r (negation (t.at p).lit))) [
  | inl y ↦ absurd ((room_world t n s n (omega arith)).consistent (t.at p).lit (event_true t n p lt) (around _ y))
  | inr n ↦ n
]

pub unit_of : (t : Story) (p : ℕ) (c : List Lit) (why : Option (List Lit)) → why ≡ Some c → CameBy t p why → OnlyLeft (room_at t p) (t.at p).lit c
unit_of t p c None e b = absurd cc
unit_of t p c (Some d) e b = let same : d ≡ c = cc in subst (λ (x : List Lit). OnlyLeft (room_at t p) (t.at p).lit x) same b.1

-- the replay goes on from the room with the event's literal
goes : (t : Story) (n : ℕ) → IsStory t n → (p : ℕ) → p < n → (places : List ℕ) (r : Facts) (c : List Lit) (cs : List (List Lit)) → (t.at p).why ≡ Some c → Before t n (p ∷ places) r → meets (c ∷ cs) r → Goes r (t.at p).lit c cs
goes t n s p lt places r c cs why b h =
    let only : OnlyLeft (room_at t p) (t.at p).lit c = unit_of t p c (t.at p).why why (s.told p lt).because in
    goes_step r (t.at p).lit c cs (in_only (room_at t p) (t.at p).lit c only) (not_known t n s p lt r b.around)
    (λ l i y. elim (others_false (room_at t p) (t.at p).lit c only l i) [
      | inl e ↦ clash (r (t.at p).lit) (subst (λ (x : Lit). r x ≡ true) e y) (own_open t n s p lt places r b)
      | inr f ↦ (room_world t n s n (omega arith)).consistent l (b.around l y) (room_grows t p n (omega (arith, lt)) (negation l) f)
    ])
    (step_view r c (meets cs) (left r c) refl h)

ascends_later : (t : Story) (n p q : ℕ) (qs : List ℕ) → p ≤ q → ReasonedAscend t n q qs → ReasonedAscend t n p qs
ascends_later t n p q [] le a = tt
ascends_later t n p q (x ∷ xs) le a = (omega (arith, le, a.0), a.1, a.2, a.3)

settled_add : (t : Story) (n p : ℕ) (r : Facts) (places : List ℕ) → ReasonedAscend t n (suc p) places → Settled t r places → Settled t (adding (t.at p).lit r) places
settled_add t n p r [] a s = tt
settled_add t n p r (q ∷ qs) a s = (
  (λ m y side. elim (or_cases (implies (t.at p).lit m) (r m) y) [
    | inl z ↦ room_grows t (suc p) q a.0 m (or_left (implies (t.at p).lit m) (room_at t p m) z)
    | inr z ↦ s.0 m z side
  ]),
  settled_add t n p r qs (ascends_later t n (suc p) (suc q) qs (omega (arith, a.0)) a.3) s.1,
)

before_add : (t : Story) (n : ℕ) → IsStory t n → (p : ℕ) → p < n → (places : List ℕ) → ReasonedAscend t n (suc p) places → (r : Facts) → Before t n (p ∷ places) r → Before t n places (adding (t.at p).lit r)
before_add t n s p lt places a r b = record {
  world = cut_world (t.at p).lit r b.world (not_known t n s p lt r b.around);
  basic = λ m y. or_right _ _ (b.basic m y);
  around = λ m y. elim (or_cases _ _ y) [
    | inl z ↦ (room_world t n s n (omega arith)).closed (t.at p).lit m (event_true t n p lt) z
    | inr z ↦ b.around m z
  ];
  settled = settled_add t n p r places a b.settled.1;
}

-- ---- the start

nothing_left : (r : Facts) (k : List Lit) → Step r k (meets []) → AllDenied r k
nothing_left r k (Conflict h) = all_false_left r k h
nothing_left r k (Same h go) = absurd go
nothing_left r k (Cut e h out go) = absurd go

pub needed_start : (t : Story) (n : ℕ) (k : List Lit) (b : Facts) → Denies t.start (room_at t n) k b → Needed t n k b []
needed_start t n k b d = record {
  settled = tt;
  all = λ r before h m y. elim (d.sources m y) [
    | inl o ↦ before.basic m o
    | inr x ↦ before.world.closed (negation x.by) m (false_in r k x.by (nothing_left r k (step_view r k (meets []) (left r k) refl h)) x.within) x.implied
  ];
  each = λ rest less r before h. less;
}

-- ---- one more reason

settled_more : (t : Story) (n : ℕ) → IsStory t n → (p : ℕ) → p < n → (b new : Facts) (c : List Lit) (places : List ℕ) → ReasonedAscend t n (suc p) places → Resolves t.start (room_at t p) (t.at p).lit c b new → Settled t b places → Settled t new places
settled_more t n s p lt b new c [] a r h = tt
settled_more t n s p lt b new c (q ∷ qs) a r h = (
  (λ m y side. elim (r.sources m y) [
    | inl o ↦ start_known t q m o
    | inr (inl z) ↦ h.0 m z.0 side
    | inr (inr d) ↦ room_grows t p q (omega (arith, a.0)) m ((room_world t n s p (omega (arith, lt))).closed (negation d.by) m d.was_false d.implied)
  ]),
  settled_more t n s p lt b new c qs (ascends_later t n (suc p) (suc q) qs (omega (arith, a.0)) a.3) r h.1,
)

with_reason : (t : Story) (p : ℕ) (c : List Lit) (cs : List (List Lit)) (r : Facts) → (t.at p).why ≡ Some c → meets (reason_of (t.at p).why ∷ cs) r → meets (c ∷ cs) r
with_reason t p c cs r why h = subst (λ (o : Option (List Lit)). meets (reason_of o ∷ cs) r) why h

pub needed_more : (t : Story) (n : ℕ) → IsStory t n → (k : List Lit) (p : ℕ) → p < n → (b new : Facts) (c : List Lit) (places : List ℕ) → ReasonedAscend t n (suc p) places → (h : Hit t p b) → (t.at p).why ≡ Some c
    → Resolves t.start (room_at t p) (t.at p).lit c b new → Needed t n k b places → Needed t n k new (p ∷ places)
needed_more t n s k p lt b new c places a h why r w = record {
  settled = (
    (λ m y side. elim (r.sources m y) [
      | inl o ↦ start_known t p m o
      | inr (inl z) ↦ absurd (clash (same_side (t.at p).lit m) side z.1)
      | inr (inr d) ↦ (room_world t n s p (omega (arith, lt))).closed (negation d.by) m d.was_false d.implied
    ]),
    settled_more t n s p lt b new c places a r w.settled,
  );
  all = λ x before met.
      let g = goes t n s p lt places x c (chain t places k) why before (with_reason t p c (chain t places k) x why met) in
      let known : Narrower (adding (t.at p).lit x) b = w.all (adding (t.at p).lit x) (before_add t n s p lt places a x before) g.on in
      λ m y. elim (r.sources m y) [
        | inl o ↦ before.basic m o
        | inr (inl z) ↦ elim (or_cases _ _ (known m z.0)) [
          | inl i ↦ absurd (clash (same_side (t.at p).lit m) (same_when_implied _ _ i) z.1)
          | inr i ↦ i
        ]
        | inr (inr d) ↦ elim (g.others d.by d.within) [
          | inl e ↦ absurd (clash (room_at t p (negation (t.at p).lit)) (subst (λ (l : Lit). room_at t p (negation l) ≡ true) e d.was_false) (s.told p lt).not_false)
          | inr f ↦ before.world.closed (negation d.by) m f d.implied
        ]
      ];
  each = λ rest less x before met. elim less [
    | inl e ↦
        let known : Narrower x b = w.all x (record { world = before.world; basic = before.basic; around = before.around; settled = before.settled.1 }) (subst (λ (qs : List ℕ). meets (chain t qs k) x) e met) in
        clash (room_at t p h.most) (before.settled.0 h.most (known h.most h.known) (same_when_implied _ _ h.made)) h.before
    | inr more ↦
        let on = goes t n s p lt places x c (chain t more.0 k) why before (with_reason t p c (chain t more.0 k) x why (subst (λ (qs : List ℕ). meets (chain t qs k) x) more.1 met)) in
        w.each more.0 more.2 (adding (t.at p).lit x) (before_add t n s p lt places a x before) on.on
  ];
}

-- ---- the end

settled_inside : (t : Story) (r b : Facts) (places : List ℕ) → Narrower b r → Settled t b places → Settled t r places
settled_inside t r b [] i s = tt
settled_inside t r b (q ∷ qs) i s = ((λ m y side. s.0 m (i m y) side), settled_inside t r b qs i s.1)

-- from no room that knows at most what b does a shorter chain meets a conflict
pub needed_end : (t : Story) (n : ℕ) (k : List Lit) (b : Facts) (places : List ℕ) → Needed t n k b places → Narrower (room_at t n) b → (r : Facts) → World r → Narrower r t.start → Narrower b r
    → (rest : List ℕ) → OneLess places rest → meets (chain t rest k) r → ⊥
needed_end t n k b places w around r world basic inside rest less met =
    w.each rest less r (record { world = world; basic = basic; around = λ m y. around m (inside m y); settled = settled_inside t r b places inside w.settled }) met

-- ---- one place less

pub ascends_less : (t : Story) (n p : ℕ) (places rest : List ℕ) → ReasonedAscend t n p places → OneLess places rest → ReasonedAscend t n p rest
ascends_less t n p [] rest a h = absurd h
ascends_less t n p (q ∷ qs) rest a (inl e) = subst (ReasonedAscend t n p) (sym e) (ascends_later t n p (suc q) qs (omega (arith, a.0)) a.3)
ascends_less t n p (q ∷ qs) rest a (inr h) = subst (ReasonedAscend t n p) (sym h.1) (a.0, a.1, a.2, ascends_less t n (suc q) qs h.0 a.3 h.2)

pub less_split : (before later : List ℕ) (place : ℕ) → OneLess (before ++ place ∷ later) (before ++ later)
less_split [] later place = inl refl
less_split (q ∷ qs) later place = inr (qs ++ later, refl, less_split qs later place)
