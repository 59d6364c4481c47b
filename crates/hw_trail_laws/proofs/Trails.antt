-- A trail of rooms is a story, and each of its rooms knows what the story says there.
use Rattle.std.proofs.Common.{◌≡◌, ℕ, zero, suc, ◌+◌, ◌<◌, ◌≤◌, true, false, List, [], ◌∷◌, Option, Some, None, length, take, IfSome, All, refl, sym, ap, ◌∙◌, subst, arith, inl, inr}
use Rattle.std.proofs.Math.Seq.{take-suc}
use Rattle.std.proofs.lemmas.Bool.{cases_Bool, or_cases, or_left, or_right}
use Rattle.std.proofs.lemmas.List.Sums.{fold_push}
use Rattle.std.proofs.lemmas.Option.{slice_get-get_or}
use Rattle.hw_model.specs.declared.lit.Lit.{Lit}
use Rattle.hw_model.specs.Lits.{negation, IsClause}
use Rattle.hw_model.specs.Rooms.{RoomModel, IsRoomOf, whole_room}
use Rattle.hw_model.specs.Narrowing.{cut}
use Rattle.hw_model.specs.Lits.{IsLitOf}
use Rattle.hw_model_laws.proofs.Bounds.{cut_room_is}
use Rattle.hw_model_laws.proofs.Cuts.{full_room, no_order_set, same_ships}
use Rattle.hw_model_laws.proofs.Denials.{lit_of}
use Rattle.hw_model_laws.proofs.Quiets.{same_slots as cut_slots}
use Rattle.hw_lits.proofs.Forms.{lits_from}
use Rattle.hw_trail_laws.specs.declared.event.Event.{Event}
use Rattle.hw_trail_laws.specs.Replays.{World}
use Rattle.hw_trail_laws.specs.Stories.{room_at, level_before, CameBy, IsStory}
use Rattle.hw_trail_laws.specs.Knowing.{knows, always}
use Rattle.hw_trail_laws.specs.Trails.{TrailModel, trail_shape, reason, room_by, room_before, room_of, level_after, Because, Happens, IsTrail}
use Rattle.hw_trail_laws.specs.Bridge.{idle, event_at, story_of}
use Rattle.hw_trail_laws.proofs.Knowing.{know_world, cut_in, cut_out}
use Rattle.hw_trail_laws.proofs.Truth.{free_unknown}
use Rattle.hw_trail_laws.proofs.Steps.{cut_left, only_left_of, only_narrower}
use Rattle.hw_trail_laws.proofs.Denials.{whole_of, whole_knows, knows_whole}

pub told_at : (t : TrailModel) → IsTrail t → (p : ℕ) → p < length t.events → Happens (trail_shape t) (room_before t p) (level_after (take p t.events)) (event_at t p)
told_at t is p lt = subst (λ o. IfSome o (Happens (trail_shape t) (room_before t p) (level_after (take p t.events)))) (slice_get-get_or t.events p idle lt) (is.told p)

pub room_suc : (t : TrailModel) (p : ℕ) → p < length t.events → room_before t (suc p) ≡ cut (event_at t p).lit (room_before t p)
room_suc t p lt = ap (room_by (trail_shape t)) (take-suc t.events p idle lt) ∙ fold_push (λ room (event : Event). cut event.lit room) (whole_room (trail_shape t)) (take p t.events) (event_at t p)

pub level_suc : (t : TrailModel) (p : ℕ) → p < length t.events → level_after (take (suc p) t.events) ≡ (event_at t p).level
level_suc t p lt = ap level_after (take-suc t.events p idle lt) ∙ fold_push (λ level (event : Event). event.level) 0 (take p t.events) (event_at t p)

-- the room before a place is one of the shape, and knows what the story says
pub record Known (t : TrailModel) (p : ℕ) : Type 0 where
  pub of : IsRoomOf (trail_shape t) (room_before t p)
  pub into : (m : Lit) → knows (room_before t p) m ≡ true → room_at (story_of t) p m ≡ true
  pub out : (m : Lit) → room_at (story_of t) p m ≡ true → knows (room_before t p) m ≡ true

fits_at : (t : TrailModel) (p : ℕ) (lit : Lit) → IsRoomOf (trail_shape t) (room_before t p) → IsLitOf t.ships lit → IsLitOf (room_before t p).ships lit
fits_at t p lit of f = subst (λ n. IsLitOf n lit) (sym of.same_ships) f

known_next : (t : TrailModel) → IsTrail t → (p : ℕ) → p < length t.events → Known t p → (next : RoomModel) → next ≡ cut (event_at t p).lit (room_before t p)
    → IsRoomOf (trail_shape t) next × ((m : Lit) → knows next m ≡ true → room_at (story_of t) (suc p) m ≡ true) × ((m : Lit) → room_at (story_of t) (suc p) m ≡ true → knows next m ≡ true)
known_next t is p lt k next e =
    let h = told_at t is p lt in
    let lit = (event_at t p).lit in
    let f : IsLitOf (room_before t p).ships lit = fits_at t p lit k.of (lit_of (trail_shape t) lit h.fits) in
    let full = full_room (room_before t p) k.of.is_room in
    let none = no_order_set (room_before t p) lit h.free in
    let of : IsRoomOf (trail_shape t) (cut lit (room_before t p)) = record {
      is_room = cut_room_is (room_before t p) lit k.of.is_room f h.free;
      same_ships = same_ships (room_before t p) lit ∙ k.of.same_ships;
      same_slots = cut_slots (room_before t p) lit ∙ k.of.same_slots;
    } in (
      subst (IsRoomOf (trail_shape t)) (sym e) of,
      λ m y. elim (or_cases _ _ (cut_out (room_before t p) full lit f m (subst (λ r. knows r m ≡ true) e y))) [
        | inl z ↦ or_left _ _ z
        | inr z ↦ or_right _ _ (k.into m z)
      ],
      λ m y. subst (λ r. knows r m ≡ true) (sym e) (cut_in (room_before t p) full lit f none m (elim (or_cases _ _ y) [
        | inl z ↦ or_left _ _ z
        | inr z ↦ or_right _ _ (k.out m z)
      ])),
    )

pub room_known : (t : TrailModel) → IsTrail t → (p : ℕ) → p ≤ length t.events → Known t p
room_known t is zero le = record {
  of = whole_of (trail_shape t) is.shape;
  into = whole_knows (trail_shape t) is.shape.some_slot;
  out = knows_whole (trail_shape t) is.shape.some_slot;
}
room_known t is (suc p) le =
    let n = known_next t is p (omega (arith, le)) (room_known t is p (omega (arith, le))) (room_before t (suc p)) (room_suc t p (omega (arith, le))) in
    record { of = n.0; into = n.1; out = n.2 }

pub unknown_at : (t : TrailModel) (p : ℕ) → Known t p → (m : Lit) → knows (room_before t p) m ≡ false → room_at (story_of t) p m ≡ false
unknown_at t p k m n = elim (cases_Bool (room_at (story_of t) p m)) [
  | inl y ↦ let z : knows (room_before t p) m ≡ true = k.out m y in absurd cc
  | inr n2 ↦ n2
]

pub at_unknown : (t : TrailModel) (p : ℕ) → Known t p → (m : Lit) → room_at (story_of t) p m ≡ false → knows (room_before t p) m ≡ false
at_unknown t p k m n = elim (cases_Bool (knows (room_before t p) m)) [
  | inl y ↦ let z : room_at (story_of t) p m ≡ true = k.into m y in absurd cc
  | inr n2 ↦ n2
]

-- ---- it is a story

pub level_same : (t : TrailModel) (p : ℕ) → p ≤ length t.events → level_after (take p t.events) ≡ level_before (story_of t) p
level_same t zero le = refl
level_same t (suc p) le = level_suc t p (omega (arith, le))

always_world : (t : TrailModel) → IsTrail t → World (always t.ships t.slots)
always_world t is =
    let k = room_known t is 0 (omega arith) in
    let w = know_world (room_before t 0) k.of.is_room in
    record {
      closed = λ l m y i. k.into m (w.closed l m (k.out l y) i);
      consistent = λ m y z. w.consistent m (k.out m y) (k.out (negation m) z);
    }

because_of : (t : TrailModel) (p : ℕ) → IsTrail t → p < length t.events → Known t p → (why : Option (List Lit)) → IfSome why (IsClause (trail_shape t)) → Because (room_before t p) (level_after (take p t.events)) (event_at t p).lit (event_at t p).level why → CameBy (story_of t) p why
because_of t p is lt k None f b = b ∙ ap (λ n. n + 1) (level_same t p (omega (arith, lt)))
because_of t p is lt k (Some c) f b =
    let lits : All (IsLitOf (room_before t p).ships) c = subst (λ n. All (IsLitOf n) c) (sym k.of.same_ships) (lits_from (trail_shape t) c 0 None f) in
    (b.0 ∙ level_same t p (omega (arith, lt)), only_narrower (knows (room_before t p)) (room_at (story_of t) p) (event_at t p).lit k.into c (only_left_of (knows (room_before t p)) (event_at t p).lit c (cut_left (room_before t p) c (event_at t p).lit k.of.is_room lits b.1)))

pub trail_story : (t : TrailModel) → IsTrail t → IsStory (story_of t) (length t.events)
trail_story t is = record {
  start_world = always_world t is;
  told = λ p lt.
      let k = room_known t is p (omega (arith, lt)) in
      let h = told_at t is p lt in
      let u = free_unknown (room_before t p) k.of.is_room (event_at t p).lit h.free in
      record {
        not_true = unknown_at t p k (event_at t p).lit u.0;
        not_false = unknown_at t p k (negation (event_at t p).lit) u.1;
        because = because_of t p is lt k (reason (event_at t p)) h.clause_fits h.because;
      };
}

-- ---- the room of all events

pub take_all : {A : Type 0} (xs : List A) → take (length xs) xs ≡ xs
take_all [] = refl
take_all (x ∷ xs) = ap (λ ys. x ∷ ys) (take_all xs)

pub room_end : (t : TrailModel) → room_before t (length t.events) ≡ room_of t
room_end t = ap (room_by (trail_shape t)) (take_all t.events)
