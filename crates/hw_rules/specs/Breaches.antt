-- What a breach says.
use Rattle.std.specs.Prelude.{ℕ, Option}
use Rattle.hw_rules.specs.declared.breach.Breach.{Breach}

-- the restriction's number, and its first overfull slot
abbrev pub breach_parts : Breach → ℕ × Option ℕ
breach_parts b = (b.restriction, b.slot)
