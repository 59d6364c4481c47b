-- The laws of parts and of the clash.
use Rattle.std.specs.Prelude.{◌≡◌, ◌↔◌, ℕ, ◌-◌, ◌<◌, List, Some, Ok, filter_map, slice_get}
use Rattle.hw_model.specs.Limits.{IsFlat}
use Rattle.hw_model.specs.Problem.{Problem, value_at}
use Rattle.hw_model.specs.Timetables.{Permits, cargo}
use Rattle.hw_flat.specs.TextWritten.{IsWritable}
use Rattle.hw_plan_texts.specs.Fleets.{lessened}
use Rattle.hw_repair.specs.Wishes.{PlanParts, PlanFits, PermitsPlan}
use Rattle.hw_clash.specs.Wished.{Wished, IsWished, PermitsWished, NoneWished, with_wishes, unplanned}
use Rattle.hw_clash.specs.Parts.{part_value, part, rule_numbers, Meets}
use Rattle.hw_clash.specs.Clashes.{Clash}
use Rattle.hw_clash.specs.Clashing.{all_restriction_numbers, IsClash, IsIrreducible}
use Rattle.hw_clash.specs.Read.{SaysClash}
use Rattle.hw_clash.specs.Text.{clash_text}
use Rattle.hw_clash.specs.Written.{written_clash}

-- the value of a ship in a slot of a part
abbrev pub PartValue : Type 0
PartValue = (f : Wished) (kept : List ℕ) (ship slot : ℕ) → ship < f.problem.ships → slot < f.problem.slots
    → value_at (part f kept) ship slot ≡ part_value f kept ship slot

-- a part permits exactly the timetables of which its restrictions hold
abbrev pub PartPermits : Type 0
PartPermits = (f : Wished) (kept table : List ℕ) → (Permits (part f kept) table ↔ Meets f kept table)

-- a part keeps the limits of a flat problem, and has a text
pub record FitsPart (f : Wished) (kept : List ℕ) : Type 0 where
  pub limits : IsFlat (part f kept)
  pub writable : IsWritable (part f kept)

abbrev pub PartFits : Type 0
PartFits = (f : Wished) (kept : List ℕ) → IsFlat f.problem → FitsPart f kept

-- what a part permits carries nothing
abbrev pub PartCargo : Type 0
PartCargo = (f : Wished) (kept table : List ℕ) → Permits (part f kept) table → cargo (part f kept) table ≡ Some 0

-- the rules of a part are the problem's rules of its numbers, in order
pub record PartNumbers (f : Wished) (kept : List ℕ) : Type 0 where
  pub rules : (part f kept).rules ≡ filter_map (λ n. slice_get f.problem.rules (n - f.problem.ships)) (rule_numbers f kept)
  -- so the part's rule of this place is the problem's restriction of this number
  pub renumbered : (place n : ℕ) → slice_get (rule_numbers f kept) place ≡ Some n → slice_get (part f kept).rules place ≡ slice_get f.problem.rules (n - f.problem.ships)

abbrev pub PartRules : Type 0
PartRules = (f : Wished) (kept : List ℕ) → PartNumbers f kept

-- all restrictions together permit what the problem permits and all wishes grant
abbrev pub PartOfAll : Type 0
PartOfAll = (f : Wished) (table : List ℕ) → (Permits (part f (all_restriction_numbers f)) table ↔ PermitsWished f table)

-- with the wishes of a plan that fits and the tugs that are left, these are the timetables that meet the plan; without wishes those that the problem permits
pub record WishesMean : Type 0 where
  pub plan : (f : Problem) (plan : PlanParts) (table : List ℕ) → PlanFits f plan → (PermitsWished (with_wishes (lessened plan.withdrawn f) plan.wishes) table ↔ PermitsPlan f plan table)
  pub none : (f : Problem) (table : List ℕ) → (PermitsWished (unplanned f) table ↔ Permits f table)

-- where nothing is permitted that meets all wishes, the clash is irreducible
abbrev pub ClashMeans : Type 0
ClashMeans = (f : Wished) (kept : List ℕ) → IsFlat f.problem → NoneWished f → IsClash f kept → IsIrreducible f kept

-- a problem with wishes has one clash
abbrev pub OneClash : Type 0
OneClash = (f : Wished) (one other : List ℕ) → IsClash f one → IsClash f other → one ≡ other

-- a clash that is written reads as itself
abbrev pub WrittenClashReads : Type 0
WrittenClashReads = (f : Wished) (clash : Clash) → IsWished f → SaysClash f clash → clash_text f (written_clash clash) ≡ Ok clash

-- no other text reads as it
abbrev pub OneClashText : Type 0
OneClashText = (f : Wished) (clash : Clash) (bytes : List ℕ) → IsWished f → clash_text f bytes ≡ Ok clash → bytes ≡ written_clash clash
