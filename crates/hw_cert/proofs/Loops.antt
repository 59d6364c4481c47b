-- What a loop has read, joined to what is left to read.
use Rattle.std.proofs.Common.{◌≡◌, List, [], ◌∷◌, ◌++◌, Option, Some, None, refl, ap, append_assoc}
use Rattle.hw_model.specs.declared.lit.Lit.{Lit}
use Rattle.hw_cert.specs.Spelled.{Lits, put_lit}

abbrev pub with_front : {A : Type 0} → List A → Option (List A) → Option (List A)
with_front front None = None
with_front front (Some xs) = Some (front ++ xs)

abbrev pub with_lits : List Lit → Option Lits → Option Lits
with_lits front None = None
with_lits front (Some found) = Some (record { lits = front ++ found.lits; remainder = found.remainder })

-- a literal more
pub lit_more : (front : List Lit) (lit : Lit) (o : Option Lits) → with_lits (front ++ lit ∷ []) o ≡ with_lits front (put_lit (Some lit) o)
lit_more front lit None = refl
lit_more front lit (Some found) = ap (λ (ls : List Lit). Some (record { lits = ls; remainder = found.remainder })) (append_assoc front (lit ∷ []) found.lits)
