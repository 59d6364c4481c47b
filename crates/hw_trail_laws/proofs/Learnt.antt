-- What the walk back over a trail finds is what a conflict teaches.
use Rattle.std.proofs.Common.{◌≡◌, ◌⊎◌, ℕ, zero, suc, ◌+◌, ◌<◌, ◌≤◌, true, List, [], ◌∷◌, ◌++◌, Option, Some, None, length, get_or, filter_map, option_and_then, All, IfSome, IsSome, IsSomeAnd, refl, sym, ap, ◌∙◌, subst, arith, inl, inr}
use Rattle.std.specs.Prelude.{Any, Contains}
use Rattle.std.specs.List.{cons_option}
use Rattle.std.proofs.lemmas.Bool.{cases_Bool, cases_lt}
use Rattle.std.proofs.lemmas.List.Elements.{All-nil, All-cons}
use Rattle.std.proofs.lemmas.Option.{slice_get-get_or}
use Rattle.hw_lemmas.proofs.Truths.{clash}
use Rattle.hw_model.specs.declared.lit.Lit.{Lit}
use Rattle.hw_model.specs.declared.lit.LitTruth.TheVariants.{False}
use Rattle.hw_model.specs.Lits.{negation, lit_fits, IsClause}
use Rattle.hw_model.specs.Narrowing.{truth, denied}
use Rattle.hw_model.specs.Replay.{replay, conflict}
use Rattle.hw_model.specs.Lits.{IsLitOf}
use Rattle.hw_trail_laws.specs.Sides.{implies}
use Rattle.hw_trail_laws.specs.Replays.{meets}
use Rattle.hw_trail_laws.specs.Stories.{Story, room_at}
use Rattle.hw_trail_laws.specs.Walks.{InClause, InSome, chain, reason_of, ReasonedAscend, OneLess, Late, IsTopLevel, denying, story_level, OneAtTop, Levels, WalkGives}
use Rattle.hw_trail_laws.specs.Walks.Levels.{Nothing, One}
use Rattle.hw_trail_laws.specs.Knowing.{knows, always}
use Rattle.hw_trail_laws.specs.Trails.{TrailModel, trail_shape, reason, room_of, IsTrail}
use Rattle.hw_trail_laws.specs.Learning.{level_at, level_of, level_by, top_level, reason_at, chain_of, OneOfLevel, Learns}
use Rattle.hw_trail_laws.specs.Bridge.{idle, event_at, story_of, GoesBack}
use Rattle.hw_trail_laws.proofs.Sides.{implies_self, implies_antisym}
use Rattle.hw_trail_laws.proofs.Replays.{ends_inside}
use Rattle.hw_trail_laws.proofs.Stories.{room_grows, room_falls}
use Rattle.hw_trail_laws.proofs.Knowing.{know_world}
use Rattle.hw_trail_laws.proofs.Needs.{ascends_less, less_split}
use Rattle.hw_trail_laws.proofs.Ends.{denied_start}
use Rattle.hw_trail_laws.proofs.Steps.{meets_replays, replay_meets}
use Rattle.hw_trail_laws.proofs.Denials.{in_fits, knows_denied, denied_knows}
use Rattle.hw_model_laws.proofs.Denying.{denied_is}
use Rattle.hw_lits.proofs.Forms.{lits_from}
use Rattle.hw_trail_laws.proofs.Trails.{told_at}
use Rattle.hw_trail_laws.proofs.Levels.{made_false, level_is, level_stays, top_is, end_false}

-- ---- members

pub in_contains : (c : List Lit) (d : Lit) → InClause d c → Contains c d
in_contains [] d i = absurd i
in_contains (l ∷ c) d (inl e) = (0, omega arith, e)
in_contains (l ∷ c) d (inr i) = let r = in_contains c d i in (suc r.0, omega (arith, r.1), r.2)

at_in : (c : List Lit) (d : Lit) (k : ℕ) → k < length c → get_or c k d ≡ d → InClause d c
at_in [] d k lt e = absurd (omega (arith, lt))
at_in (l ∷ c) d zero lt e = inl e
at_in (l ∷ c) d (suc k) lt e = inr (at_in c d k (omega (arith, lt)) e)

pub contains_in : (c : List Lit) (d : Lit) → Contains c d → InClause d c
contains_in c d h = at_in c d h.0 h.1 h.2

pub all_in : (P : Lit → Type 0) (c : List Lit) → ((l : Lit) → InClause l c → P l) → All P c
all_in P [] h = All-nil P
all_in P (l ∷ c) h = All-cons P l c (h l (inl refl)) (all_in P c (λ m i. h m (inr i)))

pub in_all : (P : Lit → Type 0) (c : List Lit) → All P c → (l : Lit) → InClause l c → P l
in_all P c h l i =
    let r = in_contains c l i in
    subst P r.2 (h r.0 l r.1)

some_any : (cs : List (List Lit)) (d : Lit) → InSome d cs → Any (λ other. Contains other d) cs
some_any [] d i = absurd i
some_any (c ∷ cs) d (inl i) = (0, c, omega arith, refl, in_contains c d i)
some_any (c ∷ cs) d (inr i) = let r = some_any cs d i in (suc r.0, r.1, omega (arith, r.2), r.3, r.4)

pub same_lit : (l m : Lit) → (l ≡ m) ⊎ (l ≡ m → ⊥)
same_lit l m = elim (cases_Bool (implies l m)) [
  | inl y ↦ elim (cases_Bool (implies m l)) [
    | inl z ↦ inl (implies_antisym l m y z)
    | inr n ↦ inr (λ e. clash (implies m l) (subst (λ (x : Lit). implies m x ≡ true) (sym e) (implies_self m)) n)
  ]
  | inr n ↦ inr (λ e. clash (implies l m) (subst (λ (x : Lit). implies l x ≡ true) e (implies_self l)) n)
]

-- ---- the reasons in order, and then the conflict

pub reason_is : (t : TrailModel) (q : ℕ) → q < length t.events → reason_at t q ≡ reason (event_at t q)
reason_is t q lt = ap (option_and_then reason) (slice_get-get_or t.events q idle lt)

chain_next : (t : TrailModel) (o p : Option (List Lit)) (c k : List Lit) (qs : List ℕ) (cs : List (List Lit)) → o ≡ Some c → p ≡ o → cs ≡ filter_map (reason_at t) qs ++ k ∷ [] → reason_of o ∷ cs ≡ cons_option p (filter_map (reason_at t) qs) ++ k ∷ []
chain_next t None p c k qs cs e f h = absurd cc
chain_next t (Some d) p c k qs cs e f h = ap (λ xs. d ∷ xs) h ∙ sym (ap (λ (o : Option (List Lit)). cons_option o (filter_map (reason_at t) qs) ++ k ∷ []) f)

pub chain_same : (t : TrailModel) (n : ℕ) → n ≤ length t.events → (k : List Lit) (p : ℕ) (places : List ℕ) → ReasonedAscend (story_of t) n p places → chain (story_of t) places k ≡ chain_of t places k
chain_same t n le k p [] h = refl
chain_same t n le k p (q ∷ qs) h = chain_next t (reason (event_at t q)) (reason_at t q) h.2.0 k qs (chain (story_of t) qs k) h.2.1 (reason_is t q (omega (arith, h.1, le))) (chain_same t n le k (suc q) qs h.3)

pub reason_fits : (t : TrailModel) → IsTrail t → (q : ℕ) → q < length t.events → (c : List Lit) → reason (event_at t q) ≡ Some c → IsClause (trail_shape t) c
reason_fits t is q lt c e = subst (λ o. IfSome o (IsClause (trail_shape t))) e (told_at t is q lt).clause_fits

chain_by : (t : TrailModel) (o : Option (List Lit)) (c : List Lit) (cs : List (List Lit)) (ships : ℕ) → o ≡ Some c → All (IsLitOf ships) c → All (All (IsLitOf ships)) cs → All (All (IsLitOf ships)) (reason_of o ∷ cs)
chain_by t None c cs ships e f h = absurd cc
chain_by t (Some d) c cs ships e f h = let same : d ≡ c = cc in All-cons (All (IsLitOf ships)) d cs (subst (All (IsLitOf ships)) (sym same) f) h

pub chain_lits : (t : TrailModel) → IsTrail t → (n : ℕ) → n ≤ length t.events → (k : List Lit) (p : ℕ) (places : List ℕ) → IsClause (trail_shape t) k → ReasonedAscend (story_of t) n p places → All (All (IsLitOf t.ships)) (chain (story_of t) places k)
chain_lits t is n le k p [] f h = All-cons (All (IsLitOf t.ships)) k [] (lits_from (trail_shape t) k 0 None f) (All-nil (All (IsLitOf t.ships)))
chain_lits t is n le k p (q ∷ qs) f h =
    let lt : q < length t.events = omega (arith, h.1, le) in
    chain_by t (reason (event_at t q)) h.2.0 (chain (story_of t) qs k) t.ships h.2.1 (lits_from (trail_shape t) h.2.0 0 None (reason_fits t is q lt h.2.0 h.2.1)) (chain_lits t is n le k (suc q) qs f h.3)

-- ---- places

increasing : (s : Story) (n p : ℕ) (places : List ℕ) → ReasonedAscend s n p places → (k : ℕ) → k + 1 < length places → get_or places k 0 < get_or places (k + 1) 0
increasing s n p [] h k lt = absurd (omega (arith, lt))
increasing s n p (q ∷ []) h k lt = absurd (omega (arith, lt))
increasing s n p (q ∷ r ∷ rs) h zero lt = h.3.0
increasing s n p (q ∷ r ∷ rs) h (suc k) lt =
    let e : suc (k + 1) ≡ suc k + 1 = omega arith in
    subst (λ i. get_or (r ∷ rs) k 0 < get_or (q ∷ r ∷ rs) i 0) e (increasing s n (suc q) (r ∷ rs) h.3 k (omega (arith, lt)))

with_reason : (t : TrailModel) (n : ℕ) → n ≤ length t.events → (p : ℕ) (places : List ℕ) → ReasonedAscend (story_of t) n p places → All (λ place. IsSome (reason_at t place)) places
with_reason t n le p [] h = All-nil (λ place. IsSome (reason_at t place))
with_reason t n le p (q ∷ qs) h =
    let here : IsSome (reason_at t q) = subst IsSome (sym (reason_is t q (omega (arith, h.1, le)) ∙ h.2.1)) refl in
    All-cons (λ place. IsSome (reason_at t place)) q qs here (with_reason t n le (suc q) qs h.3)

late_of : (s : Story) (level : ℕ) (u : Lit) (places : List ℕ) → Late s level u places → (k q : ℕ) → k < length places → get_or places k q ≡ q → (s.at q).level ≡ level → room_at s q u ≡ true
late_of s level u [] h k q lt e l = absurd (omega (arith, lt))
late_of s level u (p ∷ ps) h zero q lt e l = subst (λ (x : ℕ). room_at s x u ≡ true) e (h.0 (ap (λ (x : ℕ). (s.at x).level) e ∙ l))
late_of s level u (p ∷ ps) h (suc k) q lt e l = late_of s level u ps h.1 k q (omega (arith, lt)) e l

place_below : (s : Story) (n p : ℕ) (places : List ℕ) → ReasonedAscend s n p places → (k q : ℕ) → k < length places → get_or places k q ≡ q → q < n
place_below s n p [] h k q lt e = absurd (omega (arith, lt))
place_below s n p (r ∷ rs) h zero q lt e = omega (arith, h.1, e)
place_below s n p (r ∷ rs) h (suc k) q lt e = place_below s n (suc r) rs h.3 k q (omega (arith, lt)) e

-- ---- levels

one_of : (t : TrailModel) → IsTrail t → (n : ℕ) → n ≤ length t.events → (top back : ℕ) (lemma : List Lit) (places : List ℕ) → IsClause (trail_shape t) lemma
    → ((l : Lit) → InClause l lemma → room_at (story_of t) n (negation l) ≡ true) → ReasonedAscend (story_of t) n 0 places → GoesBack (story_of t) n top lemma back → OneAtTop (story_of t) n top back lemma places → OneOfLevel t top lemma back places
one_of t is n le top back lemma places f known asc gb h =
    let fits : (l : Lit) → InClause l lemma → lit_fits (trail_shape t) l ≡ true = in_fits (trail_shape t) lemma 0 None f in
    let known' : (l : Lit) → InClause l lemma → room_at (story_of t) (length t.events) (negation l) ≡ true = λ l i. room_grows (story_of t) n (length t.events) le (negation l) (known l i) in
    let same : (l : Lit) → InClause l lemma → level_of t l ≡ story_level (story_of t) n l = λ l i. level_is t is l (fits l i) (known' l i) ∙ level_stays (story_of t) l n (length t.events) le (known l i) in
    let m = made_false t is h.lit (fits h.lit h.within) (known' h.lit h.within) in
    record {
      lit = h.lit;
      within = in_contains lemma h.lit h.within;
      level = same h.lit h.within ∙ h.level;
      others = λ other c ne.
          let i = contains_in lemma other c in
          let o = h.others other i ne in
          (omega (arith, o.0, same other i), omega (arith, o.1, same other i));
      back_most = λ other c ne.
          let i = contains_in lemma other c in
          omega (arith, gb.most other i (h.others other i ne).1, same other i);
      back_reached = elim gb.reached [
        | inl e ↦ inl e
        | inr r ↦ inr (r.0, in_contains lemma r.0 r.1, (λ e. apart_by r.0 h.lit (story_level (story_of t) n) top r.2 h.level e), same r.0 r.1 ∙ r.3)
      ];
      later = λ place c e.
          let below : place < n = place_below (story_of t) n 0 places asc c.0 place c.1 c.2 in
          let at : level_at t place ≡ (event_at t place).level = ap level_by (slice_get-get_or t.events place idle (omega (arith, below, le))) in
          let seen : room_at (story_of t) place (negation h.lit) ≡ true = late_of (story_of t) top (negation h.lit) places h.later c.0 place c.1 c.2 (sym at ∙ e) in
          subst (λ o. IsSomeAnd o (λ made. made < place)) (sym m.event) (elim (cases_lt m.place place) [
            | inl lt ↦ lt
            | inr ge ↦ absurd (clash (room_at (story_of t) place (negation h.lit)) seen (room_falls (story_of t) place m.place ge (negation h.lit) m.before))
          ]);
    }
  where
    apart_by : (l m : Lit) (g : Lit → ℕ) (top : ℕ) → g l < top → g m ≡ top → l ≡ m → ⊥
    apart_by l m g top lt e same = omega (arith, lt, e, ap g same)

-- ---- the theorem

pub learns_from : (t : TrailModel) → IsTrail t → (n : ℕ) → n ≤ length t.events → (top : ℕ) (clause lemma : List Lit) (back : ℕ) (places : List ℕ)
    → IsClause (trail_shape t) clause → ((d : Lit) → InClause d clause → room_at (story_of t) n (negation d) ≡ true) → IsTopLevel (story_of t) n clause top
    → IsClause (trail_shape t) lemma → (top ≡ 0 → back ≡ 0) → GoesBack (story_of t) n top lemma back
    → WalkGives (story_of t) n top clause lemma back places → Learns t clause lemma back places
learns_from t is n le top clause lemma back places cf known it f zb gb h =
    let room = denied_is (trail_shape t) lemma is.shape f in
    let same : top_level t clause ≡ top = top_is t is n le clause top (in_fits (trail_shape t) clause 0 None cf) known it in
    let chains : chain (story_of t) places clause ≡ chain_of t places clause = chain_same t n le clause 0 places h.ascends in
    let lits : All (All (IsLitOf (denied (trail_shape t) lemma).ships)) (chain (story_of t) places clause) = subst (λ k. All (All (IsLitOf k)) (chain (story_of t) places clause)) (sym room.same_ships) (chain_lits t is n le clause 0 places cf h.ascends) in
    let met : meets (chain (story_of t) places clause) (knows (denied (trail_shape t) lemma)) = ends_inside (chain (story_of t) places clause) (denying (always t.ships t.slots) lemma) (knows (denied (trail_shape t) lemma)) (knows_denied (trail_shape t) lemma is.shape.some_slot f) (know_world (denied (trail_shape t) lemma) room.is_room) h.replays in
    record {
      fits = f;
      ascends = increasing (story_of t) n 0 places h.ascends;
      reasons = with_reason t n le 0 places h.ascends;
      needed = λ before later place e met.
          let less : OneLess places (before ++ later) = subst (λ xs. OneLess xs (before ++ later)) (sym e) (less_split before later place) in
          let asc : ReasonedAscend (story_of t) n 0 (before ++ later) = ascends_less (story_of t) n 0 places (before ++ later) h.ascends less in
          let back' : replay (denied (trail_shape t) lemma) (chain (story_of t) (before ++ later) clause) ≡ conflict = subst (λ cs. replay (denied (trail_shape t) lemma) cs ≡ conflict) (sym (chain_same t n le clause 0 (before ++ later) asc)) met in
          let lits' : All (All (IsLitOf (denied (trail_shape t) lemma).ships)) (chain (story_of t) (before ++ later) clause) = subst (λ k. All (All (IsLitOf k)) (chain (story_of t) (before ++ later) clause)) (sym room.same_ships) (chain_lits t is n le clause 0 (before ++ later) cf asc) in
          h.needed (knows (denied (trail_shape t) lemma)) (know_world (denied (trail_shape t) lemma) room.is_room) (λ m y. knows_denied (trail_shape t) lemma is.shape.some_slot f m (denied_start (story_of t).start lemma m y)) (denied_knows (trail_shape t) lemma is.shape.some_slot f) (before ++ later) less
          (replay_meets (chain (story_of t) (before ++ later) clause) 0 (denied (trail_shape t) lemma) room.is_room lits' back');
      replays = subst (λ cs. replay (denied (trail_shape t) lemma) cs ≡ conflict) chains (meets_replays (chain (story_of t) places clause) 0 (denied (trail_shape t) lemma) room.is_room lits met);
      all_false = all_in (λ lit. truth (room_of t) lit ≡ False) lemma (λ l i. end_false t is l (room_grows (story_of t) n (length t.events) le (negation l) (h.all_false l i)));
      lean = all_in (λ lit. Any (λ other. Contains other lit) (chain_of t places clause)) lemma (λ l i. subst (λ cs. Any (λ other. Contains other l) cs) chains (some_any (chain (story_of t) places clause) l (h.lean l i)));
      ground = λ z. by_ground h.levels (sym same ∙ z);
      above = λ o. subst (λ k. OneOfLevel t k lemma back places) (sym same) (by_above h.levels (subst (λ k. 1 ≤ k) same o));
    }
  where
    by_ground : Levels (story_of t) n top back lemma places → top ≡ 0 → (lemma ≡ []) × (back ≡ 0)
    by_ground (Nothing z e) z2 = (e, zb z2)
    by_ground (One o s) z2 = absurd (omega (arith, o, z2))

    by_above : Levels (story_of t) n top back lemma places → 1 ≤ top → OneOfLevel t top lemma back places
    by_above (Nothing z e) o = absurd (omega (arith, z, o))
    by_above (One o2 s) o = one_of t is n le top back lemma places f h.all_false h.ascends gb s
