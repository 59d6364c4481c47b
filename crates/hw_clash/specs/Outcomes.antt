-- The outcome of the search for a clash.
use Rattle.std.specs.Prelude.{◌≡◌, ℕ, zero, suc, ◌≤◌, false, List, Some, length, ⊤}
use Rattle.hw_model.specs.Rooms.{room_count}
use Rattle.hw_cert_lines.specs.declared.check.Verdict.TheVariants.{Optimal, Infeasible}
use Rattle.hw_cert_lines.specs.declared.line.Line.{Line}
use Rattle.hw_cert_lines.specs.Lemmas.{lemmas_of}
use Rattle.hw_cert_lines.specs.Lines.{last_table, is_closed}
use Rattle.hw_cert_lines.specs.Valid.{verdict}
use Rattle.hw_clash.specs.declared.clashing.Clashed.{Clashed}
use Rattle.hw_clash.specs.declared.clashing.Clashed.TheVariants.{Clash, Met, Spent, NoMemory}
use Rattle.hw_clash.specs.Parts.{part}
use Rattle.hw_clash.specs.Wished.{Wished, wished_count, PermitsWished, NoneWished}
use Rattle.hw_clash.specs.Clashing.{all_restriction_numbers, without_number, IsLeft, IsClash, IsIrreducible, AreDrops}
use Rattle.hw_search.specs.Going.{WellWritten}

-- the list that a step asks about: all numbers first, and then for each number what is left without it
abbrev pub Asks : Wished → ℕ → List ℕ → Type 0
Asks f zero asked = asked ≡ all_restriction_numbers f
Asks f (suc n) asked = (before : List ℕ) × IsLeft f n before × (asked ≡ without_number n before)

-- the clash of a problem with wishes where nothing is permitted that meets them all, with timetables that meet all of it but one, and a certificate that it can't be met whole
pub record IsClashFound (f : Wished) (kept : List ℕ) (drops : List (List ℕ)) (all : List Line) : Type 0 where
  pub none : NoneWished f
  pub clash : IsClash f kept
  pub irreducible : IsIrreducible f kept
  pub met : AreDrops f kept drops
  pub proof : WellWritten (part f kept) all
  pub shown : verdict (part f kept) all ≡ Infeasible

-- a permitted timetable that meets all wishes, the last one of a certificate of the part of all restrictions
pub record IsMet (f : Wished) (table : List ℕ) (all : List Line) : Type 0 where
  pub permitted : PermitsWished f table
  pub proof : WellWritten (part f (all_restriction_numbers f)) all
  pub shown : verdict (part f (all_restriction_numbers f)) all ≡ Optimal 0
  pub last : last_table all ≡ Some table

-- a later step than the first comes only where nothing is permitted that meets all wishes
abbrev pub MayAsk : Wished → ℕ → Type 0
MayAsk f zero = ⊤
MayAsk f (suc n) = NoneWished f

-- the certificate of the part that the step asks about, with as many lemmas as the budget and none without literals: no more than there are rooms
pub record IsSpentAt (f : Wished) (budget step : ℕ) (all : List Line) : Type 0 where
  pub numbered : step ≤ wished_count f
  pub later : MayAsk f step
  pub asked : List ℕ
  pub asks : Asks f step asked
  pub proof : WellWritten (part f asked) all
  pub lemmas : length (lemmas_of all) ≡ budget
  pub unclosed : is_closed all ≡ false
  pub few : budget ≤ room_count f.problem

-- what each answer says; memory may run out at any time. A clash and such a timetable exclude each other
abbrev pub ClashMeets : Wished → ℕ → Clashed → Type 0
ClashMeets f budget (Clash kept drops proof) = IsClashFound f kept.items drops.items proof
ClashMeets f budget (Met table proof) = IsMet f table proof
ClashMeets f budget (Spent step proof) = IsSpentAt f budget step proof
ClashMeets f budget NoMemory = ⊤
