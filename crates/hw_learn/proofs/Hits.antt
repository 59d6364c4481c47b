-- An event that made the greatest literal of its side known.
use Rattle.std.proofs.Common.{◌≡◌, ℕ, suc, ◌+◌, ◌<◌, ◌≤◌, ◌↔◌, Bool, true, false, Some, length, sym, ap, ◌∙◌, subst, arith, inl, inr}
use Rattle.std.proofs.lemmas.Bool.{cases_Bool, cases_lt}
use Rattle.std.proofs.lemmas.Option.{slice_get-get_or, same_Some}
use Rattle.hw_model.specs.declared.shape.Shape.{Shape}
use Rattle.hw_model.specs.declared.lit.Lit.{Lit}
use Rattle.hw_model.specs.declared.lit.LitTruth.TheVariants.{False}
use Rattle.hw_model.specs.declared.lit.Lit.TheVariants.{AtOrAfter, Before, First, NotFirst}
use Rattle.hw_model.specs.Lits.{negation, lit_fits}
use Rattle.hw_model.specs.Narrowing.{truth}
use Rattle.hw_trail_laws.specs.Replays.{Facts}
use Rattle.hw_trail_laws.specs.Stories.{Story, room_at}
use Rattle.hw_trail_laws.specs.Trails.{TrailModel, trail_shape, room_before, IsTrail}
use Rattle.hw_trail_laws.specs.Learning.{event_of}
use Rattle.hw_trail_laws.specs.Laws.{IsEventOf}
use Rattle.hw_trail_laws.specs.Bridge.{event_at, story_of}
use Rattle.hw_trail_laws.specs.Walks.{Hit, Miss}
use Rattle.hw_trail_laws.specs.Passes.{MostOf}
use Rattle.hw_trail_laws.proofs.Sides.{neg_neg}
use Rattle.hw_trail_laws.proofs.Stories.{room_falls}
use Rattle.hw_trail_laws.proofs.Trails.{trail_story, told_at}
use Rattle.hw_model.specs.Lits.{IsLitOf}
use Rattle.hw_model_laws.proofs.Denials.{lit_of}
use Rattle.hw_trail_laws.proofs.Levels.{at_false, false_at}
use Rattle.hw_trail_laws.proofs.Decisions.{event_is}
use Rattle.hw_trail_laws.proofs.Passes.{hit_from, miss_before, miss_after, miss_nothing, match_by}
use Rattle.hw_model.specs.Rooms.{RoomModel}
use Rattle.hw_flat.specs.Opened.{shape_in}
use Rattle.hw_trail_laws.specs.declared.event.Event.{Event}
use Rattle.hw_trail_laws.specs.Bridge.{idle}
use Rattle.hw_trail_laws.specs.Knowing.{knows, always}
use Rattle.hw_trail_laws.specs.Passes.{NothingOf, NoHit}
use Rattle.std.proofs.Common.{MatchBool}
use Rattle.std.specs.Prelude.{slice_get}
use Rattle.hw_lemmas.proofs.Truths.{clash}

fits_not : (shape : Shape) (x : Lit) → lit_fits shape x ≡ true → lit_fits shape (negation x) ≡ true
fits_not shape (AtOrAfter v k) f = f
fits_not shape (Before v k) f = f
fits_not shape (First v w) f = f
fits_not shape (NotFirst v w) f = f

-- the negation is False exactly where the literal is known
seen : (t : TrailModel) → IsTrail t → (p : ℕ) → p ≤ length t.events → (x : Lit) → lit_fits (trail_shape t) x ≡ true → truth (room_before t p) (negation x) ≡ False → room_at (story_of t) p x ≡ true
seen t is p le x f h = subst (λ (y : Lit). room_at (story_of t) p y ≡ true) (neg_neg x) (false_at t is p le (negation x) (fits_not (trail_shape t) x f) h)

unseen : (t : TrailModel) → IsTrail t → (p : ℕ) → p ≤ length t.events → (x : Lit) → room_at (story_of t) p x ≡ true → truth (room_before t p) (negation x) ≡ False
unseen t is p le x h = at_false t is p le (negation x) (subst (λ (y : Lit). room_at (story_of t) p y ≡ true) (sym (neg_neg x)) h)

pub hit_where : (t : TrailModel) → IsTrail t → (p : ℕ) → p < length t.events → (b : Facts) (x : Lit) → lit_fits (trail_shape t) x ≡ true → MostOf (story_of t).start b (event_at t p).lit x
    → event_of t (negation x) ≡ Some p → Hit (story_of t) p b
hit_where t is p lt b x f m e =
    let next : p + 1 ≡ suc p = omega arith in
    let place : IsEventOf t (negation x) p = ((event_is t (negation x) is (fits_not (trail_shape t) x f)).0 p).0 e in
    let after : room_at (story_of t) (suc p) x ≡ true = seen t is (suc p) (omega (arith, lt)) x f (subst (λ n. truth (room_before t n) (negation x) ≡ False) next place.after) in
    let before : room_at (story_of t) p x ≡ false = elim (cases_Bool (room_at (story_of t) p x)) [
      | inl y ↦ absurd (place.before p (omega arith) (unseen t is p (omega (arith, lt)) x y))
      | inr no' ↦ no'
    ] in
    hit_from (story_of t) p b x m before after

pub miss_where : (t : TrailModel) → IsTrail t → (p : ℕ) → p < length t.events → (b : Facts) (x : Lit) → lit_fits (trail_shape t) x ≡ true → MostOf (story_of t).start b (event_at t p).lit x
    → (event_of t (negation x) ≡ Some p → ⊥) → Miss (story_of t) p b
miss_where t is p lt b x f m ne =
    let next : suc p ≡ p + 1 = omega arith in
    elim (cases_Bool (room_at (story_of t) p x)) [
      | inl y ↦ miss_before (story_of t) (length t.events) (trail_story t is) p lt b x m y
      | inr before ↦ elim (cases_Bool (room_at (story_of t) (suc p) x)) [
        | inl y ↦ absurd (ne (((event_is t (negation x) is (fits_not (trail_shape t) x f)).0 p).1 (record {
          inside = lt;
          after = subst (λ n. truth (room_before t n) (negation x) ≡ False) next (unseen t is (suc p) (omega (arith, lt)) x y);
          before = λ earlier le h. clash _ (seen t is earlier (omega (arith, le, lt)) x f h) (room_falls (story_of t) earlier p le x before);
        })))
        | inr after ↦ miss_after (story_of t) p b x m after
      ]
    ]

-- WHAT `hit` ANSWERS
pub at_event : (t : TrailModel) (p : ℕ) (e : Event) → p < length t.events → slice_get t.events p ≡ Some e → e ≡ event_at t p
at_event t p e lt h = same_Some e (event_at t p) (sym h ∙ slice_get-get_or t.events p idle lt)

pub start_is : (t : TrailModel) (ships slots : ℕ) → ships ≡ t.ships → slots ≡ t.slots → always ships slots ≡ always t.ships t.slots
start_is t ships slots a b = ap (λ s. always s slots) a ∙ ap (λ k. always t.ships k) b

pub none_answer : (t : TrailModel) (p : ℕ) (e : Event) (r : RoomModel) → p < length t.events → slice_get t.events p ≡ Some e → r.ships ≡ t.ships → r.slots ≡ t.slots
    → NothingOf (always r.ships r.slots) (knows r) e.lit → Miss (story_of t) p (knows r)
none_answer t p e r lt h a b none =
    miss_nothing (story_of t) p (knows r)
    (subst (λ (s : Facts). NothingOf s (knows r) (event_at t p).lit) (start_is t r.ships r.slots a b)
    (subst (λ (y : Event). NothingOf (always r.ships r.slots) (knows r) y.lit) (at_event t p e lt h) none))

most_here : (t : TrailModel) (p : ℕ) (e : Event) (r : RoomModel) (x : Lit) → p < length t.events → slice_get t.events p ≡ Some e → r.ships ≡ t.ships → r.slots ≡ t.slots
    → MostOf (always r.ships r.slots) (knows r) e.lit x → MostOf (story_of t).start (knows r) (event_at t p).lit x
most_here t p e r x lt h a b m =
    subst (λ (s : Facts). MostOf s (knows r) (event_at t p).lit x) (start_is t r.ships r.slots a b)
    (subst (λ (y : Event). MostOf (always r.ships r.slots) (knows r) y.lit x) (at_event t p e lt h) m)

fits_here : (t : TrailModel) (r : RoomModel) (x : Lit) → r.ships ≡ t.ships → r.slots ≡ t.slots → lit_fits (shape_in r) x ≡ true → lit_fits (trail_shape t) x ≡ true
fits_here t r (AtOrAfter v k) a b f = subst (λ (n : ℕ). lit_fits (record { ships = n; slots = t.slots; rules = 0 }) (AtOrAfter v k) ≡ true) a (subst (λ (n : ℕ). lit_fits (record { ships = r.ships; slots = n; rules = 0 }) (AtOrAfter v k) ≡ true) b f)
fits_here t r (Before v k) a b f = subst (λ (n : ℕ). lit_fits (record { ships = n; slots = t.slots; rules = 0 }) (Before v k) ≡ true) a (subst (λ (n : ℕ). lit_fits (record { ships = r.ships; slots = n; rules = 0 }) (Before v k) ≡ true) b f)
fits_here t r (First v w) a b f = subst (λ (n : ℕ). lit_fits (record { ships = n; slots = t.slots; rules = 0 }) (First v w) ≡ true) a (subst (λ (n : ℕ). lit_fits (record { ships = r.ships; slots = n; rules = 0 }) (First v w) ≡ true) b f)
fits_here t r (NotFirst v w) a b f = subst (λ (n : ℕ). lit_fits (record { ships = n; slots = t.slots; rules = 0 }) (NotFirst v w) ≡ true) a (subst (λ (n : ℕ). lit_fits (record { ships = r.ships; slots = n; rules = 0 }) (NotFirst v w) ≡ true) b f)

pub exact_answer : (t : TrailModel) → IsTrail t → (p : ℕ) (e : Event) (r : RoomModel) (x : Lit) (b : Bool) → p < length t.events → slice_get t.events p ≡ Some e → r.ships ≡ t.ships → r.slots ≡ t.slots
    → MostOf (always r.ships r.slots) (knows r) e.lit x → lit_fits (shape_in r) x ≡ true → ((b ≡ true) ↔ (event_of t (negation x) ≡ Some p)) → MatchBool b (Hit (story_of t) p (knows r)) (Miss (story_of t) p (knows r))
exact_answer t is p e r x b lt h a c m f exact =
    match_by b _ _
    (λ y. hit_where t is p lt (knows r) x (fits_here t r x a c f) (most_here t p e r x lt h a c m) (exact.0 y))
    (λ n. miss_where t is p lt (knows r) x (fits_here t r x a c f) (most_here t p e r x lt h a c m) (λ y. clash b (exact.1 y) n))

pub event_lit : (t : TrailModel) → IsTrail t → (p : ℕ) → p < length t.events → IsLitOf t.ships (event_at t p).lit
event_lit t is p lt = lit_of (trail_shape t) (event_at t p).lit (told_at t is p lt).fits

-- looking at the events from the later ones down
pub no_hit_lower : (t : Story) (q p : ℕ) (b : Facts) → NoHit t (q + 1) p b → Miss t q b → NoHit t q p b
no_hit_lower t q p b none miss k from below = elim (cases_lt q k) [
  | inl y ↦ none k (omega (arith, y)) below
  | inr y ↦ let e : q ≡ k = omega (arith, y, from) in subst (λ (j : ℕ). Miss t j b) e miss
]
