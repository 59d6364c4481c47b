-- A whole certificate that is sent to Proof.
use Rattle.std.specs.Prelude.{◌≡◌, ◌<◌, ℕ, List, Result, Ok, Err, IfSome, true, length, take}
use Rattle.hw_desk.specs.Calls.{OnlyTray}
use Rattle.hw_desk.specs.State.{DeskState, Rose}
use Rattle.hw_desk.specs.declared.desk.Tray.TheVariants as tray

-- the bytes are a proper prefix of a text
pub record IsCutOf (text bytes : List ℕ) : Type 0 where
  pub count : ℕ
  pub proper : count < length text
  pub part : bytes ≡ take count text

-- a text was sent whole and no make and no write failed, or one failed and a proper prefix was sent
abbrev pub SendAnswer : {E : Type 0} → List ℕ → DeskState → DeskState → Result Unit E → Type 0
SendAnswer text old new (Ok done) = (new.write_faults ≡ old.write_faults) × IfSome (new.trays tray.Proof).sent (λ bytes. bytes ≡ text)
SendAnswer text old new (Err failed) = Rose old.write_faults new.write_faults × IfSome (new.trays tray.Proof).sent (IsCutOf text)

-- Proof is made under its name, and a text is sent there
pub record SendsTo {E : Type 0} (name text : List ℕ) (old new : DeskState) (result : Result Unit E) : Type 0 where
  pub only : OnlyTray tray.Proof old new
  pub made : (new.trays tray.Proof).made ≡ true
  pub named : IfSome (new.trays tray.Proof).name (λ n. n ≡ name)
  pub answer : SendAnswer text old new result
