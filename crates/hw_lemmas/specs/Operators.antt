-- One answer after another.
use Rattle.std.specs.Prelude.{Option, Some, None, Result, Ok, Err}

-- the next answer from the value of the first, or the first error
infixl 10 ◌>>=◌
abbrev pub ◌>>=◌ : {E A B : Type 0} → Result A E → (A → Result B E) → Result B E
(Ok x) >>= f = f x
(Err e) >>= f = Err e

-- the first that is there
infixr 10 ◌or_else◌
abbrev pub ◌or_else◌ : {A : Type 0} → Option A → Option A → Option A
None or_else b = b
(Some x) or_else b = Some x
