-- The cargo of a timetable by the port and by its flat problem.
use Rattle.std.proofs.Common.{◌≡◌, ℕ, suc, ◌+◌, List, [], ◌∷◌, Option, Some, None, length, slice_get, zip, IsSome, refl, ap, ap₂, arith}
use Rattle.hw_model.specs.Problem.{Problem, value_at}
use Rattle.hw_model.specs.Timetables.{plus, cargo_from}
use Rattle.hw_port.specs.Parts.{ShipParts}
use Rattle.hw_port.specs.Whole.{Parts}
use Rattle.hw_tide.specs.Levels.{TideParts}
use Rattle.hw_port_model.specs.Permitted.{ship_cargo, cargo_of}

pub cargo_alike : (p : Parts) (h : TideParts) (f : Problem) (v : ℕ) (ss : List ShipParts) (ts : List ℕ) → length ts ≡ length ss → ((i k x : ℕ) (s : ShipParts) → k ≡ v + i → slice_get ss i ≡ Some s → slice_get ts i ≡ Some x → ship_cargo p h (s, x) ≡ value_at f k x) → cargo_of p h (zip ss ts) ≡ cargo_from f v ts
cargo_alike p h f v [] [] many at = refl
cargo_alike p h f v [] (x ∷ ts) many at = absurd (omega (arith, many))
cargo_alike p h f v (s ∷ ss) [] many at = absurd (omega (arith, many))
cargo_alike p h f v (s ∷ ss) (x ∷ ts) many at = ap₂ plus (at 0 v x s (omega arith) refl refl) (cargo_alike p h f (v + 1) ss ts (omega (arith, many)) (λ i k y r e g d. at (suc i) k y r (omega (arith, e)) g d))

plus_some : (o q : Option ℕ) → IsSome o → (c : ℕ) × (q ≡ Some c) → (c : ℕ) × (plus o q ≡ Some c)
plus_some None q some worth = absurd cc
plus_some (Some a) q some worth = (a + worth.0, ap (plus (Some a)) worth.1)

-- ships that all have a value carry something
pub has_cargo : (f : Problem) (v : ℕ) (ts : List ℕ) → ((i k x : ℕ) → k ≡ v + i → slice_get ts i ≡ Some x → IsSome (value_at f k x)) → (c : ℕ) × (cargo_from f v ts ≡ Some c)
has_cargo f v [] at = (0, refl)
has_cargo f v (x ∷ ts) at = plus_some (value_at f v x) (cargo_from f (v + 1) ts) (at 0 v x (omega arith) refl) (has_cargo f (v + 1) ts (λ i k y e d. at (suc i) k y (omega (arith, e)) d))
