-- Closed slots are told where they close a slot of a window.
use Rattle.std.proofs.Common.{◌≡◌, ◌⊎◌, ℤ, ◌≤ℤ◌, int_le, true, inl, inr, arith}
use Rattle.std.proofs.lemmas.Bool.{and_from, and_parts}
use Rattle.std.proofs.lemmas.Int.{ints}
use Rattle.hw_port.proofs.Keeping.{le_from_test}
use Rattle.hw_port.specs.declared.parts.Closing.{Closing}
use Rattle.hw_port.proofs.Faultless.{le_test}
use Rattle.hw_port_laws.proofs.Drafts.{le_trans_z, le_refl_z}
use Rattle.hw_port_named.specs.Closed.{ToldCloses, closes_some}

either : (a b : ℤ) → (a ≤ℤ b) ⊎ (b ≤ℤ a)
either a b = grind (arith, ints)

some_slot : (low high : ℤ) (c : Closing) → low ≤ℤ high → c.from ≤ℤ c.to → closes_some low high c ≡ true → (slot : ℤ) × (low ≤ℤ slot) × (slot ≤ℤ high) × (c.from ≤ℤ slot) × (slot ≤ℤ c.to)
some_slot low high c le order e =
    let both = and_parts (int_le c.from high) (int_le low c.to) e in
    let from = le_from_test c.from high both.0 in
    let to = le_from_test low c.to both.1 in
    elim (either low c.from) [
      | inl later ↦ (c.from, later, from, le_refl_z c.from, order)
      | inr earlier ↦ (low, le_refl_z low, le, earlier, to)
    ]

pub told_law : ToldCloses
told_law = λ low high c le order. (
  λ e. some_slot low high c le order e,
  λ found. and_from (int_le c.from high) (int_le low c.to) (le_test c.from high (le_trans_z c.from found.0 high found.3 found.2)) (le_test low c.to (le_trans_z low found.0 c.to found.1 found.4)),
)
