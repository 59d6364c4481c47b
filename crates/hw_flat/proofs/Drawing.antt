-- Drawing for one item after the other, as a loop does.
use Rattle.std.proofs.Common.{◌≡◌, ℕ, suc, ◌+◌, ◌-◌, ◌<◌, List, append_assoc, ap, ◌∙◌, arith}
use Rattle.rand_pcg.specs.Lcg.{Lcg}
use Rattle.hw_flat.specs.Demonstration.{and_then, in_turn, from_to}

-- one more item
pub more_drawn : {B : Type 0} (make : ℕ → Lcg → List B × Lcg) (front more : List B) (g h : Lcg) (whole : List B × Lcg) (k n : ℕ) → k < n → (more, h) ≡ and_then (front, g) (make k)
    → and_then (front, g) (in_turn make (from_to k n)) ≡ whole → and_then (more, h) (in_turn make (from_to (k + 1) n)) ≡ whole
more_drawn {B} make front more g h whole k n lt one told =
    let size : n - k ≡ suc (n - (k + 1)) = omega arith in
    let rest : Lcg → List B × Lcg = in_turn make (from_to (k + 1) n) in
    let at = rw size at told in
    let grown : and_then (more, h) rest ≡ and_then (and_then (front, g) (make k)) rest = ap (λ (x : List B × Lcg). and_then x rest) one in
    let last : Lcg = (rest (make k g).1).1 in
    let again : and_then (and_then (front, g) (make k)) rest ≡ and_then (front, g) (λ g'. and_then (make k g') rest) = ap (λ (xs : List B). (xs, last)) (append_assoc front (make k g).0 (rest (make k g).1).0) in
    grown ∙ again ∙ at
