-- What the calls that read one line give.
use Rattle.std.specs.Prelude.{◌≡◌, List, Option, Some, None, Result, Ok, Err}
use Rattle.hw_model.specs.declared.lit.Lit.{Lit}
use Rattle.hw_cert.specs.declared.stop.FormWord.{FormWord}
use Rattle.hw_cert.specs.declared.fitting.LineFault.{LineFault}
use Rattle.hw_cert.specs.declared.fitting.LineFault.TheVariants.{Bad, NoMemory}

-- a word that is the answer, or out of memory, which may come at any time
abbrev pub ReadFails : {A : Type 0} → LineFault → Result A FormWord → Type 0
ReadFails (Bad word) read = read ≡ Err word
ReadFails NoMemory read = Unit {0}

-- what a call that reads one line gives is this, unless memory runs out
abbrev pub ReadGives : {A : Type 0} → Result A LineFault → Result A FormWord → Type 0
ReadGives (Ok x) read = read ≡ Ok x
ReadGives (Err e) read = ReadFails e read

-- the same of the first bad literal alone
abbrev pub FailsBy : LineFault → Option FormWord → Type 0
FailsBy (Bad word) fault = fault ≡ Some word
FailsBy NoMemory fault = Unit {0}

-- a clause of these literals, exactly where no literal is bad, unless memory runs out
abbrev pub GivesClause : Result (List Lit) LineFault → List Lit → Option FormWord → Type 0
GivesClause (Ok clause) lits fault = (clause ≡ lits) × (fault ≡ None)
GivesClause (Err e) lits fault = FailsBy e fault
