-- What is said of bytes where they are told.
use Rattle.std.proofs.Common.{ℕ, List, Option, None, Some}
use Rattle.std.specs.Prelude.{IsSomeAnd}

pub some_gives : {P : List ℕ → Type 0} {Q : Type 0} (o : Option (List ℕ)) → ((x : List ℕ) → P x → Q) → IsSomeAnd o P → Q
some_gives None f h = absurd h
some_gives (Some x) f h = f x h
