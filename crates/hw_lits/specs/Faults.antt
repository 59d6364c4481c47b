-- What a refusal says of the first bad literal.
use Rattle.std.specs.Prelude.{◌≡◌, Option, Some, ⊤}
use Rattle.hw_model.specs.Lits.{BadLit, out_of_range, not_normal}
use Rattle.hw_lits.specs.declared.fault.ClauseFault.{ClauseFault}
use Rattle.hw_lits.specs.declared.fault.ClauseFault.TheVariants as faults

-- the refusal names the first bad literal and what it breaks. Out of memory says nothing of the literals
abbrev pub TellsBad : ClauseFault → Option BadLit → Type 0
TellsBad (faults.Range place) bad = bad ≡ Some (out_of_range place)
TellsBad (faults.NotNormal place) bad = bad ≡ Some (not_normal place)
TellsBad faults.NoMemory bad = ⊤
