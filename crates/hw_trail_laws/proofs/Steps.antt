-- A replay by what rooms know is the replay of rooms.
use Rattle.std.proofs.Common.{◌≡◌, ◌⊎◌, ℕ, ◌+◌, ◌||◌, Bool, true, false, not, cond, List, [], ◌∷◌, refl, sym, ap, ◌∙◌, subst, inl, inr, All, filter}
use Rattle.std.proofs.lemmas.Bool.{cases_Bool, or_left}
use Rattle.std.proofs.lemmas.List.Elements.{All-head, All-tail}
use Rattle.hw_model.specs.declared.lit.Lit.{Lit}
use Rattle.hw_model.specs.declared.lit.LitTruth.{LitTruth}
use Rattle.hw_model.specs.declared.lit.LitTruth.TheVariants.{True, False, Free}
use Rattle.hw_model.specs.declared.narrowing.Narrowed.{Narrowed}
use Rattle.hw_model.specs.declared.narrowing.Narrowed.TheVariants as step
use Rattle.hw_model.specs.Lits.{negation}
use Rattle.hw_model.specs.Rooms.{RoomModel, IsRoom}
use Rattle.hw_model.specs.Narrowing.{truth, cut}
use Rattle.hw_model.specs.Replay.{is_true, is_free, some_true, free_lits, step_by, narrowing, room_after, conflict, loose, no_conflict, ends_by, replay_from}
use Rattle.hw_model.specs.Lits.{IsLitOf}
use Rattle.hw_model_laws.proofs.Bounds.{cut_room_is}
use Rattle.hw_model_laws.proofs.Cuts.{full_room, no_order_set, same_ships}
use Rattle.hw_trail_laws.specs.Replays.{Facts, Narrower, World, AllDenied, OnlyLeft, adding, left, any_true, meets}
use Rattle.hw_trail_laws.specs.Knowing.{knows}
use Rattle.hw_trail_laws.proofs.Replays.{Step, step_view, left_free, ends_inside, step_conflict, after_same, after_cut, cut_world}
use Rattle.hw_trail_laws.proofs.Replays.Step.{Conflict, Same, Cut}
use Rattle.hw_trail_laws.proofs.Knowing.{know_world, cut_in, cut_out}
use Rattle.hw_trail_laws.proofs.Truth.{true_known, false_known, free_unknown, unknown_free}

-- ---- the literals that aren't False

not_false : (room : RoomModel) → IsRoom room → (l : Lit) → knows room l ≡ true → knows room (negation l) ≡ false
not_false room i l y = elim (cases_Bool (knows room (negation l))) [ inl z ↦ absurd ((know_world room i).consistent l y z) | inr n ↦ n ]

some_by : (t : LitTruth) (room : RoomModel) (l : Lit) (xs : List Lit) (rest : Bool) → IsRoom room → IsLitOf room.ships l → truth room l ≡ t → rest ≡ any_true (knows room) xs → (is_true t || rest) ≡ any_true (knows room) (cond (knows room (negation l)) xs (l ∷ xs))
some_by True room l xs rest i f e h =
    let y : knows room l ≡ true = true_known room l f e in
    let n : knows room (negation l) ≡ false = not_false room i l y in
    sym (ap (λ b. any_true (knows room) (cond b xs (l ∷ xs))) n ∙ ap (λ b. b || any_true (knows room) xs) y)
some_by False room l xs rest i f e h =
    let y : knows room (negation l) ≡ true = false_known room l f e in
    h ∙ sym (ap (λ b. any_true (knows room) (cond b xs (l ∷ xs))) y)
some_by Free room l xs rest i f e h =
    let u = free_unknown room i l e in
    h ∙ sym (ap (λ b. any_true (knows room) (cond b xs (l ∷ xs))) u.1 ∙ ap (λ b. b || any_true (knows room) xs) u.0)

pub some_left : (room : RoomModel) (c : List Lit) → IsRoom room → All (IsLitOf room.ships) c → some_true room c ≡ any_true (knows room) (left (knows room) c)
some_left room [] i f = refl
some_left room (l ∷ c) i f = some_by (truth room l) room l (left (knows room) c) (some_true room c) i (All-head (IsLitOf room.ships) l c f) refl (some_left room c i (All-tail (IsLitOf room.ships) l c f))

-- of these, those that aren't known
abbrev unknown : RoomModel → List Lit → List Lit
unknown room xs = filter (λ m. not (knows room m)) xs

free_by : (t : LitTruth) (room : RoomModel) (l : Lit) (xs rest : List Lit) → IsRoom room → IsLitOf room.ships l → truth room l ≡ t → rest ≡ unknown room xs → cond (is_free t) (l ∷ rest) rest ≡ unknown room (cond (knows room (negation l)) xs (l ∷ xs))
free_by True room l xs rest i f e h =
    let y : knows room l ≡ true = true_known room l f e in
    let n : knows room (negation l) ≡ false = not_false room i l y in
    h ∙ sym (ap (λ b. unknown room (cond b xs (l ∷ xs))) n ∙ ap (λ b. cond (not b) (l ∷ unknown room xs) (unknown room xs)) y)
free_by False room l xs rest i f e h =
    let y : knows room (negation l) ≡ true = false_known room l f e in
    h ∙ sym (ap (λ b. unknown room (cond b xs (l ∷ xs))) y)
free_by Free room l xs rest i f e h =
    let u = free_unknown room i l e in
    ap (λ ys. l ∷ ys) h ∙ sym (ap (λ b. unknown room (cond b xs (l ∷ xs))) u.1 ∙ ap (λ b. cond (not b) (l ∷ unknown room xs) (unknown room xs)) u.0)

pub free_left : (room : RoomModel) (c : List Lit) → IsRoom room → All (IsLitOf room.ships) c → free_lits room c ≡ unknown room (left (knows room) c)
free_left room [] i f = refl
free_left room (l ∷ c) i f = free_by (truth room l) room l (left (knows room) c) (free_lits room c) i (All-head (IsLitOf room.ships) l c f) refl (free_left room c i (All-tail (IsLitOf room.ships) l c f))

none_by : (b : Bool) (room : RoomModel) (l : Lit) (xs : List Lit) → knows room l ≡ b → (b || any_true (knows room) xs) ≡ false → (any_true (knows room) xs ≡ false → unknown room xs ≡ xs) → cond (not b) (l ∷ unknown room xs) (unknown room xs) ≡ l ∷ xs
none_by true room l xs y e k = absurd cc
none_by false room l xs y e k = ap (λ ys. l ∷ ys) (k e)

none_true : (room : RoomModel) (xs : List Lit) → any_true (knows room) xs ≡ false → unknown room xs ≡ xs
none_true room [] e = refl
none_true room (l ∷ xs) e = none_by (knows room l) room l xs refl e (none_true room xs)

-- ---- one step

narrow_left : (room : RoomModel) (c : List Lit) → IsRoom room → All (IsLitOf room.ships) c → (xs : List Lit) → left (knows room) c ≡ xs → narrowing c room ≡ step_by (any_true (knows room) xs) (unknown room xs)
narrow_left room c i f xs e =
    ap (λ b. step_by b (free_lits room c)) (some_left room c i f ∙ ap (any_true (knows room)) e) ∙ ap (λ ys. step_by (any_true (knows room) xs) ys) (free_left room c i f ∙ ap (unknown room) e)

same_step : (b : Bool) (ys : List Lit) → b ≡ true → step_by b ys ≡ step.Same
same_step true ys e = refl
same_step false ys e = absurd cc

alone_step : (b : Bool) (e : Lit) → b ≡ false → step_by (b || false) (cond (not b) (e ∷ []) []) ≡ step.Cut e
alone_step true e h = absurd cc
alone_step false e h = refl

-- how a replay goes on after a step
pub goes_on : (room : RoomModel) (c : List Lit) (cs : List (List Lit)) (place : ℕ) (n : Narrowed) → narrowing c room ≡ n → replay_from place room (c ∷ cs) ≡ ends_by n place (replay_from (place + 1) (room_after n room) cs)
goes_on room c cs place n e = ap (λ m. ends_by m place (replay_from (place + 1) (room_after m room) cs)) e

cut_ships : (room : RoomModel) (e : Lit) (cs : List (List Lit)) → All (All (IsLitOf room.ships)) cs → All (All (IsLitOf (cut e room).ships)) cs
cut_ships room e cs h = subst (λ n. All (All (IsLitOf n)) cs) (sym (same_ships room e)) h

each_left : (r : Facts) (P : Lit → Type 0) (c : List Lit) → All P c → (e : Lit) → left r c ≡ e ∷ [] → P e
each_left r P [] h e eq = absurd cc
each_left r P (l ∷ c) h e eq = go (r (negation l)) (left r c) (each_left r P c (All-tail P l c h) e) eq
  where
    go : (b : Bool) (xs : List Lit) → (xs ≡ e ∷ [] → P e) → cond b xs (l ∷ xs) ≡ e ∷ [] → P e
    go true xs k eq = k eq
    go false xs k eq = let same : l ≡ e = cc in subst P same (All-head P l c h)

from_step : (place : ℕ) (room : RoomModel) (c : List Lit) (cs : List (List Lit)) → IsRoom room → All (IsLitOf room.ships) c → All (All (IsLitOf room.ships)) cs
    → ((p : ℕ) (s : RoomModel) → IsRoom s → All (All (IsLitOf s.ships)) cs → meets cs (knows s) → replay_from p s cs ≡ conflict)
    → Step (knows room) c (meets cs) → replay_from place room (c ∷ cs) ≡ conflict
from_step place room c cs i f fs ih (Conflict h) = goes_on room c cs place step.Conflict (narrow_left room c i f [] h)
from_step place room c cs i f fs ih (Same h k) =
    goes_on room c cs place step.Same (narrow_left room c i f (left (knows room) c) refl ∙ same_step _ _ h) ∙ ih (place + 1) room i fs k
from_step place room c cs i f fs ih (Cut e h out k) =
    let fit : IsLitOf room.ships e = each_left (knows room) (IsLitOf room.ships) c f e h in
    let free : truth room e ≡ Free = unknown_free room e fit out (left_free (knows room) c e h) in
    let is : IsRoom (cut e room) = cut_room_is room e i fit free in
    goes_on room c cs place (step.Cut e) (narrow_left room c i f (e ∷ []) h ∙ alone_step _ e out)
    ∙ ih (place + 1) (cut e room) is (cut_ships room e cs fs) (ends_inside cs (adding e (knows room)) (knows (cut e room)) (cut_in room (full_room room i) e fit (no_order_set room e free)) (know_world (cut e room) is) k)

-- what meets a conflict by what a room knows meets one over the room
pub meets_replays : (cs : List (List Lit)) (place : ℕ) (room : RoomModel) → IsRoom room → All (All (IsLitOf room.ships)) cs → meets cs (knows room) → replay_from place room cs ≡ conflict
meets_replays [] place room i f h = absurd h
meets_replays (c ∷ cs) place room i f h = from_step place room c cs i (All-head (All (IsLitOf room.ships)) c cs f) (All-tail (All (IsLitOf room.ships)) c cs f) (λ p s. meets_replays cs p s) (step_view (knows room) c (meets cs) (left (knows room) c) refl h)

-- ---- and back

none_of : (room : RoomModel) (xs : List Lit) → any_true (knows room) xs ≡ false → unknown room xs ≡ [] → xs ≡ []
none_of room xs n e = sym (none_true room xs n) ∙ e

back_by : (b : Bool) (ys : List Lit) (place : ℕ) (room : RoomModel) (c : List Lit) (cs : List (List Lit)) → IsRoom room → All (IsLitOf room.ships) c → All (All (IsLitOf room.ships)) cs
    → ((p : ℕ) (s : RoomModel) → IsRoom s → All (All (IsLitOf s.ships)) cs → replay_from p s cs ≡ conflict → meets cs (knows s))
    → any_true (knows room) (left (knows room) c) ≡ b → unknown room (left (knows room) c) ≡ ys
    → ends_by (step_by b ys) place (replay_from (place + 1) (room_after (step_by b ys) room) cs) ≡ conflict → meets (c ∷ cs) (knows room)
back_by true ys place room c cs i f fs ih some free e = after_same (knows room) (meets cs) (left (knows room) c) some (ih (place + 1) room i fs e)
back_by false [] place room c cs i f fs ih some free e = step_conflict (knows room) c (meets cs) (left (knows room) c) refl (none_of room _ some free)
back_by false (l ∷ []) place room c cs i f fs ih some free e =
    let one : left (knows room) c ≡ l ∷ [] = sym (none_true room _ some) ∙ free in
    let fit : IsLitOf room.ships l = each_left (knows room) (IsLitOf room.ships) c f l one in
    after_cut (knows room) (meets cs) (left (knows room) c) l one
    (λ y. absurd (clash _ (subst (λ xs. any_true (knows room) xs ≡ true) (sym one) (or_left (knows room l) false y)) some))
    (λ out.
    let isopen : truth room l ≡ Free = unknown_free room l fit out (left_free (knows room) c l one) in
    let is : IsRoom (cut l room) = cut_room_is room l i fit isopen in
    ends_inside cs (knows (cut l room)) (adding l (knows room)) (cut_out room (full_room room i) l fit) (adding_world room i l isopen) (ih (place + 1) (cut l room) is (cut_ships room l cs fs) e))
  where
    clash : (b : Bool) → b ≡ true → b ≡ false → ⊥
    clash b y n = cc

    adding_world : (room : RoomModel) → IsRoom room → (l : Lit) → truth room l ≡ Free → World (adding l (knows room))
    adding_world room i l isopen = cut_world l (knows room) (know_world room i) (free_unknown room i l isopen).1
back_by false (l ∷ m ∷ more) place room c cs i f fs ih some free e = absurd (not_loose place e)
  where
    not_loose : (place : ℕ) → loose place ≡ conflict → ⊥
    not_loose place e = cc

pub replay_meets : (cs : List (List Lit)) (place : ℕ) (room : RoomModel) → IsRoom room → All (All (IsLitOf room.ships)) cs → replay_from place room cs ≡ conflict → meets cs (knows room)
replay_meets [] place room i f h = no_end h
  where
    no_end : no_conflict ≡ conflict → ⊥
    no_end e = cc
replay_meets (c ∷ cs) place room i f h =
    let first = All-head (All (IsLitOf room.ships)) c cs f in
    back_by _ _ place room c cs i first (All-tail (All (IsLitOf room.ships)) c cs f) (λ p s. replay_meets cs p s) refl refl (sym (goes_on room c cs place _ (narrow_left room c i first (left (knows room) c) refl)) ∙ h)

-- ---- a clause that cuts

cut_parts : (b : Bool) (ys : List Lit) (e : Lit) → step_by b ys ≡ step.Cut e → (b ≡ false) × (ys ≡ e ∷ [])
cut_parts true ys e h = absurd cc
cut_parts false [] e h = absurd cc
cut_parts false (l ∷ []) e h = (refl, let same : l ≡ e = cc in cc)
cut_parts false (l ∷ m ∷ more) e h = absurd cc

pub cut_left : (room : RoomModel) (c : List Lit) (e : Lit) → IsRoom room → All (IsLitOf room.ships) c → narrowing c room ≡ step.Cut e → left (knows room) c ≡ e ∷ []
cut_left room c e i f h =
    let parts = cut_parts _ _ e (sym (narrow_left room c i f (left (knows room) c) refl) ∙ h) in
    sym (none_true room (left (knows room) c) parts.0) ∙ parts.1

all_false_by : (b : Bool) (r : Facts) (l : Lit) (xs c : List Lit) → r (negation l) ≡ b → cond b xs (l ∷ xs) ≡ [] → (xs ≡ [] → AllDenied r c) → (r (negation l) ≡ true) × AllDenied r c
all_false_by true r l xs c e h k = (e, k h)
all_false_by false r l xs c e h k = absurd cc

pub all_false_left : (r : Facts) (c : List Lit) → left r c ≡ [] → AllDenied r c
all_false_left r [] h = tt
all_false_left r (l ∷ c) h = all_false_by (r (negation l)) r l (left r c) c refl h (all_false_left r c)

only_by : (b : Bool) (r : Facts) (l e : Lit) (xs c : List Lit) → r (negation l) ≡ b → cond b xs (l ∷ xs) ≡ e ∷ [] → (xs ≡ [] → AllDenied r c) → (xs ≡ e ∷ [] → OnlyLeft r e c) → ((l ≡ e) × AllDenied r c) ⊎ ((r (negation l) ≡ true) × OnlyLeft r e c)
only_by true r l e xs c at h k g = inr (at, g h)
only_by false r l e xs c at h k g = inl ((let same : l ≡ e = cc in same), k (let none : xs ≡ [] = cc in none))

pub only_left_of : (r : Facts) (e : Lit) (c : List Lit) → left r c ≡ e ∷ [] → OnlyLeft r e c
only_left_of r e [] h = absurd cc
only_left_of r e (l ∷ c) h = only_by (r (negation l)) r l e (left r c) c refl h (all_false_left r c) (only_left_of r e c)

-- what a narrower room makes of them
pub false_narrower : (r s : Facts) → Narrower s r → (c : List Lit) → AllDenied r c → AllDenied s c
false_narrower r s n [] h = tt
false_narrower r s n (l ∷ c) h = (n (negation l) h.0, false_narrower r s n c h.1)

pub only_narrower : (r s : Facts) (e : Lit) → Narrower s r → (c : List Lit) → OnlyLeft r e c → OnlyLeft s e c
only_narrower r s e n [] h = absurd h
only_narrower r s e n (l ∷ c) (inl h) = inl (h.0, false_narrower r s n c h.1)
only_narrower r s e n (l ∷ c) (inr h) = inr (n (negation l) h.0, only_narrower r s e n c h.1)
