-- What a state leaves each ship, ship by ship.
use Rattle.std.proofs.Common.{◌≡◌, ◌≢◌, ◌==◌, ℕ, zero, suc, ◌<◌, ◌≤◌, Bool, true, false, ◌&&◌, not, cond, nat_lt, List, [], ◌∷◌, Some, slice_get, length, get_or, refl, ap, arith}
use Rattle.std.proofs.lemmas.Bool.{ltb-true, ltb-false, ne_eqb, eq-eqb}
use Rattle.hw_lemmas.proofs.Truths.{absurd_false}
use Rattle.hw_audit.specs.Carried.{reached, earliest, wish_now, wishes_now}

pub wish_at : (day ship : ℕ) (sailed : List Bool) (table slots : List ℕ) → length table ≡ length sailed → length slots ≡ length sailed → ship < length sailed
    → slice_get (wishes_now day sailed table slots) ship ≡ Some (wish_now day (get_or sailed ship false) (get_or table ship 0) (get_or slots ship 0))
wish_at day ship [] table slots e k lt = absurd (omega (arith, lt))
wish_at day ship (gone ∷ sailed) [] slots e k lt = absurd (omega (arith, e))
wish_at day ship (gone ∷ sailed) (planned ∷ table) [] e k lt = absurd (omega (arith, k))
wish_at day zero (gone ∷ sailed) (planned ∷ table) (slot ∷ slots) e k lt = refl
wish_at day (suc ship) (gone ∷ sailed) (planned ∷ table) (slot ∷ slots) e k lt = wish_at day ship sailed table slots (omega (arith, e)) (omega (arith, k)) (omega (arith, lt))

pub wishes_many : (day : ℕ) (sailed : List Bool) (table slots : List ℕ) → length table ≡ length sailed → length slots ≡ length sailed → length (wishes_now day sailed table slots) ≡ length sailed
wishes_many day [] table slots e k = refl
wishes_many day (gone ∷ sailed) [] slots e k = absurd (omega (arith, e))
wishes_many day (gone ∷ sailed) (planned ∷ table) [] e k = absurd (omega (arith, k))
wishes_many day (gone ∷ sailed) (planned ∷ table) (slot ∷ slots) e k = ap suc (wishes_many day sailed table slots (omega (arith, e)) (omega (arith, k)))

-- ---- the slot that the day has reached

-- the greater of the two where the ship has sailed
chosen_least : (gone less : Bool) (slot later most : ℕ) → nat_lt later slot ≡ less → cond (gone && less) slot later ≤ most → (later ≤ most) × (gone ≡ true → slot ≤ most)
chosen_least false less slot later most e h = (h, λ is. absurd cc)
chosen_least true true slot later most e h =
    let lt = ltb-true later slot e in
    (omega (arith, lt, h), λ is. h)
chosen_least true false slot later most e h =
    let le = ltb-false later slot e in
    (h, λ is. omega (arith, le, h))

chosen_most : (gone less : Bool) (slot later most : ℕ) → later ≤ most → (gone ≡ true → slot ≤ most) → cond (gone && less) slot later ≤ most
chosen_most false less slot later most h k = h
chosen_most true true slot later most h k = k refl
chosen_most true false slot later most h k = h

pub reached_each : (sailed : List Bool) (slots : List ℕ) (most other : ℕ) → length slots ≡ length sailed → reached sailed slots ≤ most → other < length sailed → get_or sailed other false ≡ true → get_or slots other 0 ≤ most
reached_each [] slots most other e h lt is = absurd (omega (arith, lt))
reached_each (gone ∷ sailed) [] most other e h lt is = absurd (omega (arith, e))
reached_each (gone ∷ sailed) (slot ∷ slots) most zero e h lt is = (chosen_least gone (nat_lt (reached sailed slots) slot) slot (reached sailed slots) most refl h).1 is
reached_each (gone ∷ sailed) (slot ∷ slots) most (suc other) e h lt is =
    reached_each sailed slots most other (omega (arith, e)) (chosen_least gone (nat_lt (reached sailed slots) slot) slot (reached sailed slots) most refl h).0 (omega (arith, lt)) is

pub each_reached : (sailed : List Bool) (slots : List ℕ) (most : ℕ) → length slots ≡ length sailed → ((other : ℕ) → other < length sailed → get_or sailed other false ≡ true → get_or slots other 0 ≤ most) → reached sailed slots ≤ most
each_reached [] slots most e each = omega arith
each_reached (gone ∷ sailed) [] most e each = omega arith
each_reached (gone ∷ sailed) (slot ∷ slots) most e each =
    chosen_most gone (nat_lt (reached sailed slots) slot) slot (reached sailed slots) most
    (each_reached sailed slots most (omega (arith, e)) (λ other lt is. each (suc other) (omega (arith, lt)) is))
    (λ is. each 0 (omega arith) is)

-- ---- the least slot of a ship

by_tests : (same less : Bool) (day slot given : ℕ) → nat_lt day slot ≡ less → cond (not same && less) slot day ≤ given → (day ≤ given) × (same ≡ false → slot ≤ given)
by_tests true less day slot given e h = (h, λ is. absurd cc)
by_tests false true day slot given e h =
    let lt = ltb-true day slot e in
    (omega (arith, lt, h), λ is. h)
by_tests false false day slot given e h =
    let le = ltb-false day slot e in
    (h, λ is. omega (arith, le, h))

from_tests : (same less : Bool) (day slot given : ℕ) → day ≤ given → (same ≡ false → slot ≤ given) → cond (not same && less) slot day ≤ given
from_tests true less day slot given h k = h
from_tests false true day slot given h k = k refl
from_tests false false day slot given h k = h

pub earliest_parts : (day planned slot given : ℕ) → earliest day planned slot ≤ given → (day ≤ given) × (slot ≢ planned → slot ≤ given)
earliest_parts day planned slot given h =
    let both = by_tests (slot == planned) (nat_lt day slot) day slot given refl h in
    (both.0, λ ne. both.1 (ne_eqb slot planned ne))

pub earliest_from : (day planned slot given : ℕ) → day ≤ given → (slot ≢ planned → slot ≤ given) → earliest day planned slot ≤ given
earliest_from day planned slot given h k = from_tests (slot == planned) (nat_lt day slot) day slot given h (λ e. k (λ is. absurd_false (slot == planned) e (eq-eqb slot planned is)))
