-- The clashes of the small problem whose two rules can't be met together, and of the one with wishes.
use Rattle.std.proofs.Common.{◌≡◌, ℕ, zero, suc, ◌<◌, List, [], ◌∷◌, All, Some, None, length, refl, sym, ◌∙◌, arith, inl, inr}
use Rattle.std.proofs.lemmas.List.Elements.{All-nil, All-cons, All-head, All-tail}
use Rattle.hw_model.specs.Problem.{Problem, IsTimetable}
use Rattle.hw_model.specs.Timetables.{Permits, NonePermitted, first_broken}
use Rattle.hw_model_laws.proofs.Broken.{permits_from, from_permits}
use Rattle.hw_rules.specs.Outcomes.{SomePermitted}
use Rattle.hw_clash.specs.Parts.{part}
use Rattle.hw_clash.specs.Clashing.{IsLeft}
use Rattle.hw_clash.specs.Rows.{no_way, late_first_ship}
use Rattle.hw_clash.specs.Wished.{unplanned}

broken : (f : Problem) (table : List ℕ) (n : ℕ) → first_broken f table ≡ Some n → Permits f table → ⊥
broken f table n e permits = clash (sym (from_permits f table permits) ∙ e)
  where
    clash : None ≡ Some n → ⊥
    clash e = cc

-- each timetable of two ships in two slots
of_two : (f : Problem) → f.ships ≡ 2 → f.slots ≡ 2 → (a b c d : ℕ) → first_broken f (0 ∷ 0 ∷ []) ≡ Some a → first_broken f (0 ∷ 1 ∷ []) ≡ Some b → first_broken f (1 ∷ 0 ∷ []) ≡ Some c → first_broken f (1 ∷ 1 ∷ []) ≡ Some d → NonePermitted f
of_two f ships slots a b c d p q r s table permits = by_table table permits (permits.listed.each_ship ∙ ships) permits.listed.each_slot
  where
    by_slots : (x y : ℕ) → Permits f (x ∷ y ∷ []) → x < 2 → y < 2 → ⊥
    by_slots zero zero permits lx ly = broken f (0 ∷ 0 ∷ []) a p permits
    by_slots zero (suc zero) permits lx ly = broken f (0 ∷ 1 ∷ []) b q permits
    by_slots zero (suc (suc y)) permits lx ly = absurd (omega (arith, ly))
    by_slots (suc zero) zero permits lx ly = broken f (1 ∷ 0 ∷ []) c r permits
    by_slots (suc zero) (suc zero) permits lx ly = broken f (1 ∷ 1 ∷ []) d s permits
    by_slots (suc zero) (suc (suc y)) permits lx ly = absurd (omega (arith, ly))
    by_slots (suc (suc x)) y permits lx ly = absurd (omega (arith, lx))

    by_table : (table : List ℕ) → Permits f table → length table ≡ 2 → All (λ slot. slot < f.slots) table → ⊥
    by_table [] permits size each = absurd (omega (arith, size))
    by_table (x ∷ []) permits size each = absurd (omega (arith, size))
    by_table (x ∷ y ∷ []) permits size each =
        let first : x < f.slots = All-head (λ slot. slot < f.slots) x (y ∷ []) each in
        let second : y < f.slots = All-head (λ slot. slot < f.slots) y [] (All-tail (λ slot. slot < f.slots) x (y ∷ []) each) in
        by_slots x y permits (omega (arith, first, slots)) (omega (arith, second, slots))
    by_table (x ∷ y ∷ z ∷ zs) permits size each = absurd (omega (arith, size))

listed : (f : Problem) (x y : ℕ) → f.ships ≡ 2 → x < f.slots → y < f.slots → IsTimetable f (x ∷ y ∷ [])
listed f x y ships lx ly = record { each_ship = sym ships; each_slot = All-cons (λ slot. slot < f.slots) x (y ∷ []) lx (All-cons (λ slot. slot < f.slots) y [] ly (All-nil (λ slot. slot < f.slots))) }

without_second : SomePermitted (part (unplanned no_way) (3 ∷ []))
without_second = (0 ∷ 0 ∷ [], permits_from (part (unplanned no_way) (3 ∷ [])) (0 ∷ 0 ∷ []) (listed (part (unplanned no_way) (3 ∷ [])) 0 0 refl (omega arith) (omega arith)) refl)

without_third : SomePermitted (part (unplanned no_way) (2 ∷ []))
without_third = (0 ∷ 1 ∷ [], permits_from (part (unplanned no_way) (2 ∷ [])) (0 ∷ 1 ∷ []) (listed (part (unplanned no_way) (2 ∷ [])) 0 1 refl (omega arith) (omega arith)) refl)

pub the_clash : IsLeft (unplanned no_way) 4 (2 ∷ 3 ∷ [])
the_clash = (
  2 ∷ 3 ∷ [],
  (
    2 ∷ 3 ∷ [],
    (
      1 ∷ 2 ∷ 3 ∷ [],
      (0 ∷ 1 ∷ 2 ∷ 3 ∷ [], refl, inl (of_two (part (unplanned no_way) (1 ∷ 2 ∷ 3 ∷ [])) refl refl 2 3 2 2 refl refl refl refl, refl)),
      inl (of_two (part (unplanned no_way) (2 ∷ 3 ∷ [])) refl refl 2 3 2 2 refl refl refl refl, refl),
    ),
    inr (without_second, refl),
  ),
  inr (without_third, refl),
)

without_rule : SomePermitted (part late_first_ship (3 ∷ 4 ∷ []))
without_rule = (1 ∷ 1 ∷ [], permits_from (part late_first_ship (3 ∷ 4 ∷ [])) (1 ∷ 1 ∷ []) (listed (part late_first_ship (3 ∷ 4 ∷ [])) 1 1 refl (omega arith) (omega arith)) refl)

without_late : SomePermitted (part late_first_ship (2 ∷ 4 ∷ []))
without_late = (0 ∷ 1 ∷ [], permits_from (part late_first_ship (2 ∷ 4 ∷ [])) (0 ∷ 1 ∷ []) (listed (part late_first_ship (2 ∷ 4 ∷ [])) 0 1 refl (omega arith) (omega arith)) refl)

pub the_late_clash : IsLeft late_first_ship 5 (2 ∷ 3 ∷ [])
the_late_clash = (
  2 ∷ 3 ∷ 4 ∷ [],
  (
    2 ∷ 3 ∷ 4 ∷ [],
    (
      2 ∷ 3 ∷ 4 ∷ [],
      (
        1 ∷ 2 ∷ 3 ∷ 4 ∷ [],
        (0 ∷ 1 ∷ 2 ∷ 3 ∷ 4 ∷ [], refl, inl (of_two (part late_first_ship (1 ∷ 2 ∷ 3 ∷ 4 ∷ [])) refl refl 0 0 1 2 refl refl refl refl, refl)),
        inl (of_two (part late_first_ship (2 ∷ 3 ∷ 4 ∷ [])) refl refl 0 0 1 2 refl refl refl refl, refl),
      ),
      inr (without_rule, refl),
    ),
    inr (without_late, refl),
  ),
  inl (of_two (part late_first_ship (2 ∷ 3 ∷ [])) refl refl 0 0 2 2 refl refl refl refl, refl),
)
