-- Quiet clauses by what a room knows, and why no lemma lies inside one that was quiet.
use Rattle.std.proofs.Common.{◌≡◌, None, ℕ, suc, ◌-◌, ◌<◌, ◌≤◌, true, List, [], ◌∷◌, ◌++◌, length, All, refl, sym, ap, ◌∙◌, subst, arith, inl, inr}
use Rattle.std.proofs.lemmas.Bool.{cases_lt, or_cases, or_left, or_right}
use Rattle.std.proofs.lemmas.List.Elements.{All-push}
use Rattle.hw_model.specs.declared.lit.Lit.{Lit}
use Rattle.hw_model.specs.declared.lit.LitTruth.{LitTruth}
use Rattle.hw_model.specs.declared.lit.LitTruth.TheVariants.{True, False, Free}
use Rattle.hw_model.specs.declared.shape.Shape.{Shape}
use Rattle.hw_model.specs.Lits.{negation, lit_fits, IsClause}
use Rattle.hw_model.specs.Limits.{ShapeFits}
use Rattle.hw_model.specs.Rooms.{RoomModel, IsRoom, IsRoomOf, RoomWithin}
use Rattle.hw_model.specs.Narrowing.{truth, denied}
use Rattle.hw_model.specs.Replay.{is_true, is_free, some_true, QuietClause}
use Rattle.hw_model.specs.Lits.{IsLitOf}
use Rattle.hw_model_laws.proofs.Denials.{lit_of}
use Rattle.hw_trail_laws.specs.Replays.{Narrower}
use Rattle.hw_trail_laws.specs.Stories.{room_at}
use Rattle.hw_trail_laws.specs.Walks.{InClause, denying}
use Rattle.hw_trail_laws.specs.News.{Free as IsFree, Quiet}
use Rattle.hw_trail_laws.specs.News.Quiet.{ByTrue, ByTwo}
use Rattle.hw_trail_laws.specs.Knowing.{knows, always}
use Rattle.hw_trail_laws.specs.Trails.{TrailModel, trail_shape, room_before, room_of, IsTrail, back_to}
use Rattle.hw_trail_laws.specs.Learning.{level_of, top_level, Learns, OneOfLevel, QuietBelow}
use Rattle.hw_trail_laws.specs.Bridge.{story_of}
use Rattle.hw_trail_laws.proofs.Stories.{room_grows, room_world, start_known}
use Rattle.hw_trail_laws.proofs.News.{Fresh, never_inside, empty_outside, quiet_below_back}
use Rattle.hw_trail_laws.proofs.Truth.{known_true, true_known, free_unknown, unknown_free}
use Rattle.hw_trail_laws.proofs.Within.{within_narrower}
use Rattle.hw_trail_laws.proofs.Normal.{one_a_side, two_passing, two_count}
use Rattle.hw_trail_laws.proofs.Denials.{in_fits, denied_knows, knows_denied}
use Rattle.hw_model_laws.proofs.Denying.{denied_is}
use Rattle.hw_trail_laws.proofs.Trails.{Known, room_known, trail_story, unknown_at, at_unknown}
use Rattle.hw_trail_laws.proofs.Kept.{Front, front_of, back_room, levels_low, quiet_back, back_back}
use Rattle.hw_trail_laws.proofs.Levels.{made_false, fits_fresh, false_end, level_is}
use Rattle.hw_trail_laws.proofs.Learnt.{in_contains, contains_in, in_all, same_lit}

-- ---- quiet in a room, and by what it knows

is_true_of : (t : LitTruth) → is_true t ≡ true → t ≡ True
is_true_of True e = refl
is_true_of False e = absurd cc
is_true_of Free e = absurd cc

is_free_of : (t : LitTruth) → is_free t ≡ true → t ≡ Free
is_free_of True e = absurd cc
is_free_of False e = absurd cc
is_free_of Free e = refl

some_in : (room : RoomModel) (c : List Lit) → some_true room c ≡ true → (l : Lit) × InClause l c × (truth room l ≡ True)
some_in room [] e = absurd cc
some_in room (l ∷ c) e = elim (or_cases (is_true (truth room l)) (some_true room c) e) [
  | inl y ↦ (l, inl refl, is_true_of _ y)
  | inr y ↦ let r = some_in room c y in (r.0, inr r.1, r.2)
]

in_some : (room : RoomModel) (c : List Lit) (l : Lit) → InClause l c → truth room l ≡ True → some_true room c ≡ true
in_some room [] l i e = absurd i
in_some room (m ∷ c) l (inl same) e = or_left _ _ (ap is_true (ap (truth room) same ∙ e))
in_some room (m ∷ c) l (inr i) e = or_right _ _ (in_some room c l i e)

fits_room : (shape : Shape) (room : RoomModel) (c : List Lit) → IsRoomOf shape room → IsClause shape c → (l : Lit) → InClause l c → IsLitOf room.ships l
fits_room shape room c of f l i = subst (λ n. IsLitOf n l) (sym of.same_ships) (lit_of shape l (in_fits shape c 0 None f l i))

free_known : (room : RoomModel) → IsRoom room → (l : Lit) → truth room l ≡ Free → IsFree (knows room) l
free_known room i l e = let u = free_unknown room i l e in record { not_true = u.0; not_false = u.1 }

pub quiet_knows : (shape : Shape) (room : RoomModel) (c : List Lit) → IsRoomOf shape room → IsClause shape c → QuietClause c room → Quiet (knows room) c
quiet_knows shape room c of f (inl some) =
    let r = some_in room c some in
    ByTrue r.0 r.1 (true_known room r.0 (fits_room shape room c of f r.0 r.1) r.2)
quiet_knows shape room c of f (inr two) =
    let r = two_passing shape (λ lit. is_free (truth room lit)) c f two in
    ByTwo r.one r.other r.one_in r.other_in r.two (free_known room of.is_room r.one (is_free_of _ r.one_passes)) (free_known room of.is_room r.other (is_free_of _ r.other_passes))

pub knows_quiet : (shape : Shape) (room : RoomModel) (c : List Lit) → IsRoomOf shape room → IsClause shape c → Quiet (knows room) c → QuietClause c room
knows_quiet shape room c of f (ByTrue l i y) = inl (in_some room c l i (known_true room l y))
knows_quiet shape room c of f (ByTwo l m i k ne x y) = inr (two_count (λ lit. is_free (truth room lit)) c l m i k ne
    (ap is_free (unknown_free room l (fits_room shape room c of f l i) x.not_true x.not_false))
    (ap is_free (unknown_free room m (fits_room shape room c of f m k) y.not_true y.not_false)))

-- between what a room knows and what the story says
pub quiet_story : (t : TrailModel) (p : ℕ) → Known t p → (c : List Lit) → Quiet (knows (room_before t p)) c → Quiet (room_at (story_of t) p) c
quiet_story t p k c (ByTrue l i y) = ByTrue l i (k.into l y)
quiet_story t p k c (ByTwo l m i j ne x y) = ByTwo l m i j ne
    (record { not_true = unknown_at t p k l x.not_true; not_false = unknown_at t p k (negation l) x.not_false })
    (record { not_true = unknown_at t p k m y.not_true; not_false = unknown_at t p k (negation m) y.not_false })

pub story_quiet : (t : TrailModel) (p : ℕ) → Known t p → (c : List Lit) → Quiet (room_at (story_of t) p) c → Quiet (knows (room_before t p)) c
story_quiet t p k c (ByTrue l i y) = ByTrue l i (k.out l y)
story_quiet t p k c (ByTwo l m i j ne x y) = ByTwo l m i j ne
    (record { not_true = at_unknown t p k l x.not_true; not_false = at_unknown t p k (negation l) x.not_false })
    (record { not_true = at_unknown t p k m y.not_true; not_false = at_unknown t p k (negation m) y.not_false })

-- ---- denied rooms inside each other

pub denied_narrower : (shape : Shape) (new old : List Lit) → ShapeFits shape → IsClause shape new → IsClause shape old → RoomWithin (denied shape new) (denied shape old) → Narrower (denying (always shape.ships shape.slots) new) (denying (always shape.ships shape.slots) old)
denied_narrower shape new old sized fn fo h m y =
    let a = denied_is shape new sized fn in
    let b = denied_is shape old sized fo in
    denied_knows shape new sized.some_slot fn m (within_narrower (denied shape new) (denied shape old) (a.same_ships ∙ sym b.same_ships) h m (knows_denied shape old sized.some_slot fo m y))

-- ---- the lemma against one that was quiet at the end of the level below

known_end : (t : TrailModel) → IsTrail t → (lemma : List Lit) → IsClause (trail_shape t) lemma → All (λ lit. truth (room_of t) lit ≡ False) lemma → (l : Lit) → InClause l lemma → room_at (story_of t) (length t.events) (negation l) ≡ true
known_end t is lemma f h l i = false_end t is l (in_fits (trail_shape t) lemma 0 None f l i) (in_all (λ lit. truth (room_of t) lit ≡ False) lemma h l i)

-- a literal of a level up to this one is False at its end
low_known : (t : TrailModel) → IsTrail t → (l : Lit) → lit_fits (trail_shape t) l ≡ true → room_at (story_of t) (length t.events) (negation l) ≡ true → (level : ℕ) (f : Front t.events level) → level_of t l ≤ level → room_at (story_of t) f.count (negation l) ≡ true
low_known t is l fits y level f le =
    let m = made_false t is l fits y in
    elim (cases_lt m.place f.count) [
      | inl lt ↦ room_grows (story_of t) (suc m.place) f.count lt (negation l) m.made
      | inr ge ↦ absurd (omega (arith, f.high m.place ge m.inside, m.level, le))
    ]

fresh_of : (t : TrailModel) → IsTrail t → (top : ℕ) → 1 ≤ top → (lemma : List Lit) (back : ℕ) (places : List ℕ) → IsClause (trail_shape t) lemma → All (λ lit. truth (room_of t) lit ≡ False) lemma → (one : OneOfLevel t top lemma back places) → (f : Front t.events (top - 1)) → Fresh (always t.ships t.slots) (room_at (story_of t) f.count) (room_at (story_of t) (length t.events)) one.lit lemma
fresh_of t is top some lemma back places fits false' one f =
    let s = trail_story t is in
    let known = known_end t is lemma fits false' in
    record {
      below_world = room_world (story_of t) (length t.events) s f.count f.among;
      now_world = room_world (story_of t) (length t.events) s (length t.events) (omega arith);
      basic = λ m y. start_known (story_of t) f.count m y;
      inside = λ m y. room_grows (story_of t) f.count (length t.events) f.among m y;
      one = contains_in lemma one.lit one.within;
      u_false = known one.lit (contains_in lemma one.lit one.within);
      rest = λ l i. elim (same_lit l one.lit) [
        | inl e ↦ inl e
        | inr ne ↦
            let o = one.others l (in_contains lemma l i) ne in
            inr (low_known t is l (in_fits (trail_shape t) lemma 0 None fits l i) (known l i) (top - 1) f (omega (arith, o.1)))
      ];
    }

pub not_within : (t : TrailModel) → IsTrail t → (clause lemma : List Lit) (back : ℕ) (places : List ℕ) (old : List Lit) → Learns t clause lemma back places → 1 ≤ top_level t clause → IsClause (trail_shape t) old → QuietClause old (room_of (back_to t (top_level t clause - 1))) → RoomWithin (denied (trail_shape t) lemma) (denied (trail_shape t) old) → ⊥
not_within t is clause lemma back places old h some fo quiet inside =
    let f = front_of t is (top_level t clause - 1) in
    let k = room_known t is f.count f.among in
    let one = h.above some in
    let here : QuietClause old (room_before t f.count) = subst (QuietClause old) (back_room t (top_level t clause - 1) f) quiet in
    never_inside (always t.ships t.slots) (room_at (story_of t) f.count) (room_at (story_of t) (length t.events)) one.lit lemma old
    (fresh_of t is (top_level t clause) some lemma back places h.fits h.all_false one f)
    (one_a_side (trail_shape t) old fo)
    (quiet_story t f.count k old (quiet_knows (trail_shape t) (room_before t f.count) old k.of fo here))
    (denied_narrower (trail_shape t) lemma old is.shape h.fits fo inside)

-- a lemma without literals lies inside none that has one
pub none_within : (shape : Shape) (old : List Lit) (l : Lit) → ShapeFits shape → IsClause shape old → InClause l old → RoomWithin (denied shape []) (denied shape old) → ⊥
none_within shape old l sized fo i inside =
    empty_outside (always shape.ships shape.slots) old l i (fits_fresh shape l (in_fits shape old 0 None fo l i)) (denied_narrower shape [] old sized refl fo inside)

-- ---- the lemma is quiet at the ends of the levels below the one gone back to

pub learnt_quiet : (t : TrailModel) → IsTrail t → (clause lemma : List Lit) (back : ℕ) (places : List ℕ) → Learns t clause lemma back places → 1 ≤ top_level t clause → (level : ℕ) → level < back → QuietClause lemma (room_of (back_to t level))
learnt_quiet t is clause lemma back places h some level lt =
    let one = h.above some in
    let s = trail_story t is in
    let f = front_of t is level in
    let k = room_known t is f.count f.among in
    let known = known_end t is lemma h.fits h.all_false in
    let fits = in_fits (trail_shape t) lemma 0 None h.fits in
    elim one.back_reached [
      | inl z ↦ absurd (omega (arith, z, lt))
      | inr r ↦
          let i = contains_in lemma one.lit one.within in
          let j = contains_in lemma r.0 r.1 in
          let a : level < level_of t one.lit = omega (arith, one.level, (one.others r.0 r.1 r.2).1, r.3, lt) in
          let b : level < level_of t r.0 = omega (arith, r.3, lt) in
          let la = level_is t is one.lit (fits one.lit i) (known one.lit i) in
          let lb = level_is t is r.0 (fits r.0 j) (known r.0 j) in
          let q = quiet_below_back (story_of t) (length t.events) s lemma one.lit r.0 i j (λ e. r.2 (sym e))
          (fits_fresh (trail_shape t) one.lit (fits one.lit i)) (fits_fresh (trail_shape t) r.0 (fits r.0 j)) (known one.lit i) (known r.0 j)
          level f.count (omega (arith, a, la)) (omega (arith, b, lb)) (λ p less. f.low p less) in
          subst (QuietClause lemma) (sym (back_room t level f)) (knows_quiet (trail_shape t) (room_before t f.count) lemma k.of h.fits (story_quiet t f.count k lemma q))
    ]

-- the level gone back to is below the current one
pub back_below : (t : TrailModel) → IsTrail t → (clause lemma : List Lit) (back : ℕ) (places : List ℕ) → Learns t clause lemma back places → 1 ≤ top_level t clause → back < t.level
back_below t is clause lemma back places h some =
    let one = h.above some in
    let known = known_end t is lemma h.fits h.all_false in
    let i = contains_in lemma one.lit one.within in
    let m = made_false t is one.lit (in_fits (trail_shape t) lemma 0 None h.fits one.lit i) (known one.lit i) in
    let top : top_level t clause ≤ t.level = omega (arith, one.level, m.level, levels_low t is m.place m.inside) in
    elim one.back_reached [
      | inl z ↦ omega (arith, z, some, top)
      | inr r ↦ omega (arith, r.3, (one.others r.0 r.1 r.2).1, top)
    ]

pub quiet_learnt : (t : TrailModel) → IsTrail t → (clause lemma : List Lit) (back : ℕ) (places : List ℕ) (clauses : List (List Lit)) → Learns t clause lemma back places → 1 ≤ top_level t clause → QuietBelow t clauses → QuietBelow (back_to t back) (clauses ++ lemma ∷ [])
quiet_learnt t is clause lemma back places clauses h some quiet = λ level lt.
    All-push (λ c. QuietClause c (room_of (back_to (back_to t back) level))) clauses lemma
    (quiet_back t back clauses (omega (arith, back_below t is clause lemma back places h some)) quiet level lt)
    (subst (λ u. QuietClause lemma (room_of u)) (sym (back_back t level back (omega (arith, lt)))) (learnt_quiet t is clause lemma back places h some level lt))
