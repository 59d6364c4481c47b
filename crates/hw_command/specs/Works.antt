-- What the work of every command keeps before its reports: its scope, the causes of faults, and which inputs were begun.
-- What its answer says stands in a file of the command's own.
use Rattle.std.specs.Prelude.{◌≡◌, ◌≢◌, ℕ, List, [], ◌∷◌, ◌++◌, Bool, true, false, Option, None, IsSomeAnd, ⊤}
use Rattle.hw_desk.specs.State.{DeskState, Rose}
use Rattle.hw_desk.specs.declared.desk.Feed.{Feed}
use Rattle.hw_desk.specs.declared.desk.Feed.TheVariants.{Flat, Instance, Tides, Certificate}
use Rattle.hw_report.specs.Reports.{Report, bad_flat, bad_json, bad_field, bad_tides, refused, read_fault, too_long, no_memory, bad_text}
use Rattle.hw_command.specs.Scope.{Named, BeginsAll, GiveBefore, MakesProof, MakesAtMost, last_of}

-- what a report speaks of: the answer of a command, an input that is refused or not read to its end, or only that memory ran out
pub data Speaks : Type 0 where
  of_answer : Speaks
  of_input : Feed → Speaks
  of_memory : Speaks

abbrev pub speaks : Report → Speaks
speaks (bad_flat number word) = of_input Flat
speaks bad_json = of_input Instance
speaks (bad_field fault) = of_input Instance
speaks (bad_tides fault) = of_input Tides
speaks (bad_text feed number word) = of_input feed
speaks (refused number word hint) = of_input Certificate
speaks (read_fault feed) = of_input feed
speaks (too_long feed) = of_input feed
speaks no_memory = of_memory
speaks r = of_answer

-- how far the inputs were begun: all of them before an answer, otherwise up to the one that is spoken of; memory may run out at any place
abbrev pub UpTo : List Named → List Named → Speaks → Type 0
UpTo done rest of_answer = rest ≡ []
UpTo done rest (of_input feed) = IsSomeAnd (last_of done) (λ input. input.feed ≡ feed)
UpTo done rest of_memory = ⊤

-- where an input is refused or memory ran out, no tray was touched
abbrev pub TraysOf : Option (List ℕ) → DeskState → DeskState → Speaks → Type 0
TraysOf proof old new of_answer = MakesAtMost proof old new
TraysOf proof old new (of_input feed) = new.trays ≡ old.trays
TraysOf proof old new of_memory = new.trays ≡ old.trays

-- a read fault has its cause, and before every other report no begin and no read failed
abbrev pub ReadCauseOf : DeskState → DeskState → Report → Type 0
ReadCauseOf old new (read_fault feed) = Rose old.read_faults new.read_faults
ReadCauseOf old new r = new.read_faults ≡ old.read_faults

-- the work before a report, of a command with these inputs that makes Proof under this name, if it makes it
pub record Works (inputs : List Named) (Gives : Feed → Type 0) (proof : Option (List ℕ)) (old new : DeskState) (r : Report) : Type 0 where
  -- a first part of the inputs was begun, and no other feed. After an input that doesn't give its value none is begun
  pub done : List Named
  pub rest : List Named
  pub parts : inputs ≡ done ++ rest
  pub begins : BeginsAll done old new
  pub give : GiveBefore Gives done
  pub upto : UpTo done rest (speaks r)
  pub trays : TraysOf proof old new (speaks r)
  pub read_cause : ReadCauseOf old new r
  -- before a report no make and no write failed
  pub write_faults : new.write_faults ≡ old.write_faults

-- the work that ends at a failed make or write of Proof
pub record Breaks (inputs : List Named) (Gives : Feed → Type 0) (proof : Option (List ℕ)) (old new : DeskState) : Type 0 where
  pub begins : BeginsAll inputs old new
  pub give : GiveBefore Gives inputs
  pub makes : IsSomeAnd proof (λ name. MakesProof name old new)
  pub read_faults : new.read_faults ≡ old.read_faults
  pub write_cause : Rose old.write_faults new.write_faults

-- the last of some reports
abbrev pub last_report : Report → List Report → Report
last_report r [] = r
last_report r (next ∷ more) = last_report next more

-- the work before its reports, by the last one of them; none is a write fault on Proof
abbrev pub WorksTo : List Named → (Feed → Type 0) → Option (List ℕ) → DeskState → DeskState → List Report → Type 0
WorksTo inputs Gives proof old new [] = Breaks inputs Gives proof old new
WorksTo inputs Gives proof old new (r ∷ more) = Works inputs Gives proof old new (last_report r more)

-- whether a report's cause stands here alone: a failed begin or read, or memory that ran out
abbrev pub is_common : Report → Bool
is_common (read_fault feed) = true
is_common no_memory = true
is_common r = false

-- reading stopped at one of these inputs: what was done until the report, and its cause if the command has one of its own
pub record StopsReading (inputs : List Named) (Gives : Feed → Type 0) (Why : Report → Type 0) (old new : DeskState) (r : Report) : Type 0 where
  pub works : Works inputs Gives None old new r
  pub early : speaks r ≢ of_answer
  pub why : is_common r ≡ false → Why r
