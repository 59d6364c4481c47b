-- What a ship carries.
use Rattle.std.specs.Prelude.{ℕ, unwrap_or}
use Rattle.hw_model.specs.Problem.{Problem, value_at}

-- in a slot, in tenths of a tonne: nothing where it has no value there
abbrev pub worth : Problem → ℕ → ℕ → ℕ
worth f ship slot = unwrap_or (value_at f ship slot) 0
