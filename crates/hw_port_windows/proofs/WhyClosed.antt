-- What closes a slot for a ship.
use Rattle.std.proofs.Common.{◌≡◌, ◌||◌, not, ℕ, suc, pos, int_le, Bool, true, false, List, [], ◌∷◌, Contains, refl, inl, inr, arith}
use Rattle.std.specs.List.{list_any}
use Rattle.std.proofs.lemmas.Bool.{and_parts}
use Rattle.hw_lemmas.proofs.Truths.{was_not, either}
use Rattle.hw_port.proofs.Keeping.{le_from_test}
use Rattle.hw_port.specs.declared.parts.Closing.{Closing}
use Rattle.hw_port.specs.Parts.{ShipParts}
use Rattle.hw_port.specs.Whole.{Parts}
use Rattle.hw_port_model.specs.Closed.{closed_at, closes, is_open}
use Rattle.hw_port_model.specs.Drafts.{is_passable, passing_slot}
use Rattle.hw_port_windows.specs.Closings.{ClosesSlot, IsClosedFor, PassCloses, closed_for, some_pass_closed}

-- ---- one of a list

not_not : (b : Bool) → not b ≡ false → b ≡ true
not_not true e = refl
not_not false e = absurd cc

-- an element that passes the test
abbrev One : {A : Type 0} → (A → Bool) → List A → Type 0
One {A} test xs = (x : A) × Contains xs x × (test x ≡ true)

later : {A : Type 0} (test : A → Bool) (x : A) (xs : List A) → One test xs → One test (x ∷ xs)
later test x xs found = (found.0, (suc found.1.0, omega (arith, found.1.1), found.1.2), found.2)

one_of : {A : Type 0} (test : A → Bool) (xs : List A) → list_any test xs ≡ true → One test xs
one_of test [] e = absurd cc
one_of test (x ∷ xs) e = elim (either (test x) (list_any test xs) e) [
  | inl this ↦ (x, (0, omega arith, refl), this)
  | inr that ↦ later test x xs (one_of test xs that)
]

-- ---- closed slots

pub closes_of : (closings : List Closing) (slot : ℕ) → is_open closings slot ≡ false → ClosesSlot closings slot
closes_of closings slot e =
    let found = one_of (closes slot) closings (not_not (list_any (closes slot) closings) e) in
    let both = and_parts (int_le found.0.from (pos slot)) (int_le (pos slot) found.0.to) found.2 in
    record { closing = found.0; among = found.1; from = le_from_test found.0.from (pos slot) both.0; to = le_from_test (pos slot) found.0.to both.1 }

pass_closes : (p : Parts) (s : ShipParts) (slot : ℕ) → some_pass_closed p slot s.route ≡ true → PassCloses p s slot
pass_closes p s slot e =
    let found = one_of (λ pass. not (is_passable p slot pass)) s.route e in
    record { pass = found.0; among = found.1; closes = closes_of (closed_at p.waypoints found.0) (passing_slot slot found.0) (was_not (is_passable p slot found.0) found.2) }

pub why_closed : (p : Parts) (s : ShipParts) (slot : ℕ) → closed_for p s slot ≡ true → IsClosedFor p s slot
why_closed p s slot e = elim (either (not (is_open p.closed slot)) (not (is_open s.closed slot) || some_pass_closed p slot s.route) e) [
  | inl port ↦ inl (closes_of p.closed slot (was_not (is_open p.closed slot) port))
  | inr more ↦ elim (either (not (is_open s.closed slot)) (some_pass_closed p slot s.route) more) [
    | inl ship ↦ inr (inl (closes_of s.closed slot (was_not (is_open s.closed slot) ship)))
    | inr route ↦ inr (inr (pass_closes p s slot route))
  ]
]
