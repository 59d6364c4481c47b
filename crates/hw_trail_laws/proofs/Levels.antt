-- The event that made a literal False and its level, on a trail and by what its rooms know.
use Rattle.std.proofs.Common.{◌≡◌, ◌⊎◌, ℕ, zero, suc, ◌+◌, ◌<◌, ◌≤◌, max, Bool, true, false, cond, nat_le, nat_lt, List, [], ◌∷◌, Some, length, fold, refl, sym, ap, ◌∙◌, subst, arith, inl, inr}
use Rattle.std.proofs.lemmas.Bool.{cases_Bool, cases_lt, and_parts, leb-true, ltb-true}
use Rattle.std.proofs.lemmas.Option.{slice_get-get_or}
use Rattle.hw_lemmas.proofs.Truths.{clash}
use Rattle.hw_model.specs.declared.lit.Lit.{Lit}
use Rattle.hw_model.specs.declared.lit.Lit.TheVariants.{AtOrAfter, Before, First, NotFirst}
use Rattle.hw_model.specs.declared.lit.LitTruth.{LitTruth}
use Rattle.hw_model.specs.declared.lit.LitTruth.TheVariants.{True, False, Free}
use Rattle.hw_model.specs.declared.shape.Shape.{Shape}
use Rattle.hw_model.specs.Lits.{negation, lit_fits}
use Rattle.hw_model.specs.Narrowing.{truth}
use Rattle.hw_model.specs.Lits.{IsLitOf}
use Rattle.hw_model_laws.proofs.Denials.{lit_of}
use Rattle.hw_model_laws.proofs.Searches.{found_first}
use Rattle.hw_trail_laws.specs.Stories.{Story, room_at}
use Rattle.hw_trail_laws.specs.Walks.{InClause, IsTopLevel, story_level}
use Rattle.hw_trail_laws.specs.Knowing.{always}
use Rattle.hw_trail_laws.specs.Trails.{TrailModel, trail_shape, room_before, room_of, IsTrail}
use Rattle.hw_trail_laws.specs.Learning.{event_of, level_by, level_made, level_of, top_level}
use Rattle.hw_lits.specs.Steps.{is_false}
use Rattle.hw_trail_laws.specs.Bridge.{idle, event_at, story_of}
use Rattle.hw_trail_laws.proofs.Stories.{room_grows, room_falls}
use Rattle.hw_trail_laws.proofs.Ends.{became}
use Rattle.hw_trail_laws.proofs.Truth.{known_false, false_known}
use Rattle.hw_trail_laws.proofs.Knowing.{after_true}
use Rattle.hw_trail_laws.proofs.Trails.{room_known, room_end}

-- ---- a literal in range isn't False everywhere

pub fits_fresh : (shape : Shape) (lit : Lit) → lit_fits shape lit ≡ true → always shape.ships shape.slots (negation lit) ≡ false
fits_fresh shape (AtOrAfter v k) f = elim (cases_Bool (always shape.ships shape.slots (Before v k))) [
  | inl y ↦
      let a = and_parts (nat_lt v shape.ships) (nat_le shape.slots k) y in
      let le : shape.slots ≤ k = leb-true _ _ a.1 in
      let p = and_parts (nat_lt v shape.ships) _ f in
      let q = and_parts (nat_le 1 k) (nat_lt k shape.slots) p.1 in
      let lt : k < shape.slots = ltb-true _ _ q.1 in
      absurd (omega (arith, le, lt))
  | inr n ↦ n
]
fits_fresh shape (Before v k) f = elim (cases_Bool (always shape.ships shape.slots (AtOrAfter v k))) [
  | inl y ↦
      let a = after_true shape.ships v k 0 y in
      let p = and_parts (nat_lt v shape.ships) _ f in
      let q = and_parts (nat_le 1 k) (nat_lt k shape.slots) p.1 in
      let some : 1 ≤ k = leb-true _ _ q.0 in
      absurd (omega (arith, a.1, some))
  | inr n ↦ n
]
fits_fresh shape (First v w) f = refl
fits_fresh shape (NotFirst v w) f = refl

-- ---- False, and known to be

is_false_when : (t : LitTruth) → t ≡ False → is_false t ≡ true
is_false_when True e = absurd cc
is_false_when False e = refl
is_false_when Free e = absurd cc

pub when_is_false : (t : LitTruth) → is_false t ≡ true → t ≡ False
when_is_false True e = absurd cc
when_is_false False e = refl
when_is_false Free e = absurd cc

-- the literal is False in the room before a place exactly where the story knows its negation there
pub false_at : (t : TrailModel) → IsTrail t → (p : ℕ) → p ≤ length t.events → (lit : Lit) → lit_fits (trail_shape t) lit ≡ true → truth (room_before t p) lit ≡ False → room_at (story_of t) p (negation lit) ≡ true
false_at t is p le lit f e =
    let k = room_known t is p le in
    let fit : IsLitOf (room_before t p).ships lit = subst (λ n. IsLitOf n lit) (sym k.of.same_ships) (lit_of (trail_shape t) lit f) in
    k.into (negation lit) (false_known (room_before t p) lit fit e)

pub at_false : (t : TrailModel) → IsTrail t → (p : ℕ) → p ≤ length t.events → (lit : Lit) → room_at (story_of t) p (negation lit) ≡ true → truth (room_before t p) lit ≡ False
at_false t is p le lit y =
    let k = room_known t is p le in
    known_false (room_before t p) k.of.is_room lit (k.out (negation lit) y)

pub false_end : (t : TrailModel) → IsTrail t → (lit : Lit) → lit_fits (trail_shape t) lit ≡ true → truth (room_of t) lit ≡ False → room_at (story_of t) (length t.events) (negation lit) ≡ true
false_end t is lit f e = false_at t is (length t.events) (omega arith) lit f (subst (λ r. truth r lit ≡ False) (sym (room_end t)) e)

pub end_false : (t : TrailModel) → IsTrail t → (lit : Lit) → room_at (story_of t) (length t.events) (negation lit) ≡ true → truth (room_of t) lit ≡ False
end_false t is lit y = subst (λ r. truth r lit ≡ False) (room_end t) (at_false t is (length t.events) (omega arith) lit y)

-- ---- the event that made it False

pub record Made (t : TrailModel) (lit : Lit) : Type 0 where
  pub place : ℕ
  pub inside : place < length t.events
  pub before : room_at (story_of t) place (negation lit) ≡ false
  pub made : room_at (story_of t) (suc place) (negation lit) ≡ true
  pub event : event_of t lit ≡ Some place
  pub level : level_of t lit ≡ (event_at t place).level
  pub story : story_level (story_of t) (length t.events) lit ≡ (event_at t place).level

not_yet : (t : TrailModel) → IsTrail t → (lit : Lit) → lit_fits (trail_shape t) lit ≡ true → (p : ℕ) → p ≤ length t.events → room_at (story_of t) p (negation lit) ≡ false → is_false (truth (room_before t p) lit) ≡ false
not_yet t is lit f p le n = elim (cases_Bool (is_false (truth (room_before t p) lit))) [
  | inl y ↦ absurd (clash _ (false_at t is p le lit f (when_is_false _ y)) n)
  | inr no' ↦ no'
]

pub made_false : (t : TrailModel) → IsTrail t → (lit : Lit) → lit_fits (trail_shape t) lit ≡ true → room_at (story_of t) (length t.events) (negation lit) ≡ true → Made t lit
made_false t is lit f y =
    let n = length t.events in
    let b = became (story_of t) n lit (fits_fresh (trail_shape t) lit f) y in
    let next : b.place + 1 ≡ suc b.place = omega arith in
    let found : event_of t lit ≡ Some b.place = found_first (λ place. is_false (truth (room_before t (place + 1)) lit)) 0 n b.place (record {
      from = omega arith;
      upto = omega (arith, b.inside);
      passes = is_false_when _ (subst (λ q. truth (room_before t q) lit ≡ False) (sym next) (at_false t is (suc b.place) (omega (arith, b.inside)) lit b.made));
      earlier = λ m le lt. not_yet t is lit f (m + 1) (omega (arith, lt, b.inside)) (room_falls (story_of t) (m + 1) b.place (omega (arith, lt)) (negation lit) b.before);
    }) in
    record {
      place = b.place;
      inside = b.inside;
      before = b.before;
      made = b.made;
      event = found;
      level = ap (level_made t) found ∙ ap level_by (slice_get-get_or t.events b.place idle b.inside);
      story = b.level;
    }

pub level_is : (t : TrailModel) → IsTrail t → (lit : Lit) → lit_fits (trail_shape t) lit ≡ true → room_at (story_of t) (length t.events) (negation lit) ≡ true → level_of t lit ≡ story_level (story_of t) (length t.events) lit
level_is t is lit f y = let m = made_false t is lit f y in m.level ∙ sym m.story

-- a literal that is False stays so, of the level that it has
stays_by : (b : Bool) (x y z : ℕ) → b ≡ true → x ≡ z → cond b x y ≡ z
stays_by true x y z e h = h
stays_by false x y z e h = absurd cc

pub level_stays : (s : Story) (l : Lit) (n m : ℕ) → n ≤ m → room_at s n (negation l) ≡ true → story_level s m l ≡ story_level s n l
level_stays s l n zero le y = let e : n ≡ zero = omega (arith, le) in ap (λ k. story_level s k l) (sym e)
level_stays s l n (suc m) le y = elim (cases_lt m n) [
  | inl at ↦ let e : n ≡ suc m = omega (arith, at, le) in ap (λ k. story_level s k l) (sym e)
  | inr less ↦ stays_by (room_at s m (negation l)) (story_level s m l) _ _ (room_grows s n m less (negation l) y) (level_stays s l n m less y)
]

-- ---- the greatest level

most_kept : (g : Lit → ℕ) (c : List Lit) (m : ℕ) → m ≤ fold (λ top lit. max top (g lit)) m c
most_kept g [] m = omega arith
most_kept g (l ∷ c) m = omega (arith, most_kept g c (max m (g l)))

most_each : (g : Lit → ℕ) (c : List Lit) (m : ℕ) (d : Lit) → InClause d c → g d ≤ fold (λ top lit. max top (g lit)) m c
most_each g [] m d i = absurd i
most_each g (l ∷ c) m d (inl e) = omega (arith, most_kept g c (max m (g l)), ap g e)
most_each g (l ∷ c) m d (inr i) = most_each g c (max m (g l)) d i

most_reached : (g : Lit → ℕ) (c : List Lit) (m : ℕ) → (fold (λ top lit. max top (g lit)) m c ≡ m) ⊎ ((d : Lit) × InClause d c × (g d ≡ fold (λ top lit. max top (g lit)) m c))
most_reached g [] m = inl refl
most_reached g (l ∷ c) m = elim (most_reached g c (max m (g l))) [
  | inl e ↦ elim (cases_lt m (g l)) [
    | inl less ↦ inr (l, inl refl, omega (arith, e, less))
    | inr more ↦ inl (omega (arith, e, more))
  ]
  | inr r ↦ inr (r.0, inr r.1, r.2)
]

pub top_each : (t : TrailModel) (c : List Lit) (d : Lit) → InClause d c → level_of t d ≤ top_level t c
top_each t c d i = most_each (level_of t) c 0 d i

pub top_reached : (t : TrailModel) (c : List Lit) → (top_level t c ≡ 0) ⊎ ((d : Lit) × InClause d c × (level_of t d ≡ top_level t c))
top_reached t c = most_reached (level_of t) c 0

-- the greatest level that was found is the greatest level
pub top_is : (t : TrailModel) → IsTrail t → (n : ℕ) → n ≤ length t.events → (c : List Lit) (top : ℕ) → ((d : Lit) → InClause d c → lit_fits (trail_shape t) d ≡ true) → ((d : Lit) → InClause d c → room_at (story_of t) n (negation d) ≡ true) → IsTopLevel (story_of t) n c top → top_level t c ≡ top
top_is t is n le c top fits known h =
    let same : (d : Lit) → InClause d c → level_of t d ≡ story_level (story_of t) n d = λ d i.
    level_is t is d (fits d i) (room_grows (story_of t) n (length t.events) le (negation d) (known d i)) ∙ level_stays (story_of t) d n (length t.events) le (known d i) in
    let upper : top_level t c ≤ top = elim (top_reached t c) [
      | inl e ↦ omega (arith, e)
      | inr r ↦ omega (arith, r.2, same r.0 r.1, h.most r.0 r.1)
    ] in
    let lower : top ≤ top_level t c = elim h.reached [
      | inl e ↦ omega (arith, e)
      | inr r ↦ omega (arith, r.2, same r.0 r.1, top_each t c r.0 r.1)
    ] in
    omega (arith, upper, lower)
