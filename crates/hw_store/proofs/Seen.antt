-- What is watched in the room that was seen, and in rooms around it.
use Rattle.std.proofs.Common.{◌≡◌, ℕ, ◌<◌, true, List, [], ◌∷◌, ◌++◌, length, get_or, set, refl, sym, ap, ◌∙◌, subst, All, inl, inr, get_or-set_same, get_or-set_other}
use Rattle.std.proofs.lemmas.List.{get_or_default, get_or_past}
use Rattle.std.proofs.lemmas.Bool.{cases_eq, cases_lt}
use Rattle.hw_model.specs.Rooms.{RoomModel, IsRoom, RoomWithin}
use Rattle.hw_store.specs.declared.watching.Watch.{Watch}
use Rattle.hw_store.specs.declared.watching.Watch.TheVariants.{Due, One, Two}
use Rattle.hw_store.specs.Watches.{is_one, IsWatchOf, Shows, ShowsAll, ShowsOnes, IsOpenWatch, DropsSome, KeepsSeen}
use Rattle.hw_store.proofs.Drops.{dropped}
use Rattle.hw_store.proofs.Cuts.{open_around}
use Rattle.hw_store.proofs.Ones.{due_pushed}

shows_open : (room : RoomModel) (w : Watch) → Shows room w → IsOpenWatch room w
shows_open room Due h = tt
shows_open room (One lit) h = tt
shows_open room (Two a b) h = h

open_shows : (room : RoomModel) (w : Watch) → (is_one w ≡ true → Shows room w) → IsOpenWatch room w → Shows room w
open_shows room Due f h = tt
open_shows room (One lit) f h = f refl
open_shows room (Two a b) f h = h

watch_around : (inner outer : RoomModel) (w : Watch) → IsRoom inner → inner.ships ≡ outer.ships → RoomWithin inner outer → IsWatchOf outer.ships w → IsOpenWatch inner w → IsOpenWatch outer w
watch_around inner outer Due is e h fits o = tt
watch_around inner outer (One lit) is e h fits o = tt
watch_around inner outer (Two a b) is e h fits o = (open_around inner outer a is e h fits.0 o.0, open_around inner outer b is e h fits.1 o.1)

-- ---- the room that was seen

pub seen_drop : (ships : ℕ) (seen : RoomModel) (w v : List Watch) → KeepsSeen ships seen w → DropsSome w v → KeepsSeen ships seen v
seen_drop ships seen w v k d = record { same_ships = k.same_ships; open_all = λ i. dropped (IsOpenWatch seen) w v i d tt (k.open_all i) }

pub seen_add : (ships : ℕ) (seen : RoomModel) (ws : List Watch) → KeepsSeen ships seen ws → KeepsSeen ships seen (ws ++ Due ∷ [])
seen_add ships seen ws k = record { same_ships = k.same_ships; open_all = λ i. subst (IsOpenWatch seen) (sym (due_pushed ws i)) (k.open_all i) }

pub seen_set : (ships : ℕ) (seen : RoomModel) (ws : List Watch) (place : ℕ) (watch : Watch) → KeepsSeen ships seen ws → place < length ws → IsOpenWatch seen watch → KeepsSeen ships seen (set ws place watch)
seen_set ships seen ws place watch k lt h = record {
  same_ships = k.same_ships;
  open_all = λ i. elim (cases_eq i place) [
    | inl q ↦ subst (IsOpenWatch seen) (sym (ap (λ n. get_or (set ws place watch) n Due) q ∙ get_or-set_same ws place watch Due lt)) h
    | inr n ↦ subst (IsOpenWatch seen) (sym (get_or-set_other ws place i watch Due n)) (k.open_all i)
  ];
}

-- a room in which the watches show that their clauses are quiet
pub seen_now : (ships : ℕ) (room : RoomModel) (ws : List Watch) → room.ships ≡ ships → ShowsAll room ws → KeepsSeen ships room ws
seen_now ships room ws e h = record {
  same_ships = e;
  open_all = λ i. elim (cases_lt i (length ws)) [
    | inl lt ↦ shows_open room (get_or ws i Due) (h i Due lt)
    | inr past ↦ subst (IsOpenWatch room) (sym (get_or_past ws i Due past)) tt
  ];
}

-- in a room around it two watched literals show that their clause is quiet
pub seen_around : (ships : ℕ) (seen room : RoomModel) (ws : List Watch) → KeepsSeen ships seen ws → IsRoom seen → room.ships ≡ ships → RoomWithin seen room → All (IsWatchOf room.ships) ws → ShowsOnes room ws → ShowsAll room ws
seen_around ships seen room ws k is e h fits ones i d lt =
    let at : get_or ws i d ≡ get_or ws i Due = get_or_default ws i d Due lt in
    subst (Shows room) (sym at) (open_shows room (get_or ws i Due) (ones i)
    (watch_around seen room (get_or ws i Due) is (k.same_ships ∙ sym e) h (fits i Due lt) (k.open_all i)))
