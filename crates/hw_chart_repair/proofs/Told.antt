-- What the marks of a ship say.
use Rattle.std.proofs.Common.{◌≡◌, ◌==◌, ◌<◌, ◌∙◌, ℕ, Bool, true, false, not, cond, Option, Some, None, refl, sym, ap, arith}
use Rattle.std.proofs.lemmas.Bool.{eq-eqb, eqb-true, ne_eqb, leb-false, lt-leb}
use Rattle.std.proofs.lemmas.Option.{same_Some}
use Rattle.std.proofs.Math.Nat.{lt_of_not-le}
use Rattle.hw_lemmas.proofs.Truths.{absurd_false}
use Rattle.hw_model.specs.Problem.{Problem, horizon, stays}
use Rattle.hw_repair.specs.Wishes.{wished}
use Rattle.hw_repair.specs.declared.plan.Wish.{Wish}
use Rattle.hw_repair.specs.declared.plan.Wish.TheVariants.{Kept, Planned}
use Rattle.hw_repair_text.specs.Fates.{fate, wish_has_sailed}
use Rattle.hw_repair_text.specs.declared.fate.Fate.{Fate}
use Rattle.hw_repair_text.specs.declared.fate.Fate.TheVariants as fates
use Rattle.hw_chart_repair.specs.Laws.{GhostsAreMoved, HatchedIsNotGranted, MarkedHaveSailed}
use Rattle.hw_chart_repair.specs.Marks.{ghost_by, if_sailing, sailed_by}

-- ---- a ship's fate by two tests

abbrev by_tests : Bool → Bool → Fate
by_tests same sailed = cond (not same) fates.Moved (cond sailed fates.Sailed fates.Kept)

-- ---- old slots

abbrev old_by : Fate → Option ℕ → Option ℕ
old_by fates.Moved old = old
old_by fates.Kept old = None
old_by fates.Sailed old = None

ghost_is : (f : Problem) (wish : Wish) (x : Fate) → ghost_by f wish x ≡ old_by x (if_sailing f (wished wish))
ghost_is f wish fates.Moved = refl
ghost_is f wish fates.Kept = refl
ghost_is f wish fates.Sailed = refl

-- moved, and in a slot in which ships sail
record Tested (same late : Bool) (planned old : ℕ) : Type 0 where
  other : same ≡ false
  early : late ≡ false
  is : planned ≡ old

ghost_tells : (same sailed late : Bool) (planned old : ℕ) → old_by (by_tests same sailed) (cond late None (Some planned)) ≡ Some old → Tested same late planned old
ghost_tells true true late planned old e = absurd cc
ghost_tells true false late planned old e = absurd cc
ghost_tells false sailed true planned old e = absurd cc
ghost_tells false sailed false planned old e = record { other = refl; early = refl; is = same_Some planned old e }

ghost_told : (same sailed late : Bool) (planned old : ℕ) → Tested same late planned old → old_by (by_tests same sailed) (cond late None (Some planned)) ≡ Some old
ghost_told true sailed late planned old t = absurd (absurd_false true t.other refl)
ghost_told false sailed true planned old t = absurd (absurd_false true t.early refl)
ghost_told false sailed false planned old t = ap Some t.is

pub ghosts_are_moved_law : GhostsAreMoved
ghosts_are_moved_law f wish slot old =
    let planned = wished wish in
    let same = slot == planned in
    let late = stays f planned in
    let is = ghost_is f wish (fate f wish slot) in (
      λ e.
          let t = ghost_tells same (wish_has_sailed f wish) late planned old (sym is ∙ e) in
          let sails = leb-false (horizon f) planned t.early in
          record { moved = λ own. absurd_false same t.other (eq-eqb slot planned own); planned = sym t.is; sails = omega (arith, sails, t.is) },
      λ h.
          let before : planned < horizon f = omega (arith, h.sails, h.planned) in
          is ∙ ghost_told same (wish_has_sailed f wish) late planned old (record { other = ne_eqb slot planned h.moved; early = lt-leb (horizon f) planned before; is = sym h.planned }),
    )

-- ---- ships that have sailed

abbrev own_by : Fate → ℕ → Option ℕ
own_by fates.Moved slot = None
own_by fates.Kept slot = None
own_by fates.Sailed slot = Some slot

sailed_is : (slot : ℕ) (x : Fate) → sailed_by slot x ≡ own_by x slot
sailed_is slot fates.Moved = refl
sailed_is slot fates.Kept = refl
sailed_is slot fates.Sailed = refl

record Kept_early (same late : Bool) (slot marked : ℕ) : Type 0 where
  own : same ≡ true
  early : late ≡ false
  is : slot ≡ marked

sailed_tells : (same late : Bool) (slot marked : ℕ) → own_by (by_tests same (not late)) slot ≡ Some marked → Kept_early same late slot marked
sailed_tells false late slot marked e = absurd cc
sailed_tells true true slot marked e = absurd cc
sailed_tells true false slot marked e = record { own = refl; early = refl; is = same_Some slot marked e }

sailed_told : (same late : Bool) (slot marked : ℕ) → Kept_early same late slot marked → own_by (by_tests same (not late)) slot ≡ Some marked
sailed_told false late slot marked t = absurd (absurd_false false refl t.own)
sailed_told true true slot marked t = absurd (absurd_false true t.early refl)
sailed_told true false slot marked t = ap Some t.is

never : (same : Bool) (slot marked : ℕ) → own_by (by_tests same false) slot ≡ Some marked → ⊥
never true slot marked e = absurd cc
never false slot marked e = absurd cc

kept_planned : {k s from : ℕ} → Planned s from ≡ Kept k → ⊥
kept_planned e = absurd cc

same_kept : (k marked : ℕ) → Kept k ≡ Kept marked → k ≡ marked
same_kept k marked e = ap wished e

pub marked_have_sailed_law : MarkedHaveSailed
marked_have_sailed_law f (Planned planned from) slot marked =
    let same = slot == planned in
    (λ e. absurd (never same slot marked (sym (sailed_is slot (fate f (Planned planned from) slot)) ∙ e)), λ h. absurd (kept_planned h.kept))
marked_have_sailed_law f (Kept k) slot marked =
    let same = slot == k in
    let late = stays f k in
    let is = sailed_is slot (fate f (Kept k) slot) in (
      λ e.
          let t = sailed_tells same late slot marked (sym is ∙ e) in
          let own = eqb-true slot k t.own in
          let sails = leb-false (horizon f) k t.early in
          record { kept = ap Kept (sym own ∙ t.is); own = t.is; sails = omega (arith, sails, own, t.is) },
      λ h.
          let k_is = same_kept k marked h.kept in
          let before = h.sails in
          is ∙ sailed_told same late slot marked (record { own = eq-eqb slot k (h.own ∙ sym k_is); early = lt-leb (horizon f) k (omega (arith, before, k_is)); is = h.own }),
    )

-- ---- stripes

pub hatched_is_not_granted_law : HatchedIsNotGranted
hatched_is_not_granted_law = record {
  planned = λ slot from k. (λ before granted. omega (arith, before, granted), λ refused. lt_of_not-le refused);
  kept = λ slot. refl;
}
