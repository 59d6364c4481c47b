-- Of kept restrictions that can't be met together none can be left out, since each has a timetable that meets the others.
use Rattle.std.proofs.Common.{◌≡◌, ℕ, zero, suc, ◌<◌, List, [], ◌∷◌, Some, slice_get, get_or, length, refl, arith}
use Rattle.std.proofs.lemmas.List.Elements.{All-from_get_or}
use Rattle.hw_model.specs.Timetables.{NonePermitted}
use Rattle.hw_rules.specs.Outcomes.{SomePermitted}
use Rattle.hw_clash.specs.Clashes.{Clash}
use Rattle.hw_clash.specs.Clashing.{without_number, IsIrreducible}
use Rattle.hw_clash.specs.Parts.{part}
use Rattle.hw_clash.specs.Read.{SaysClash}
use Rattle.hw_clash.specs.Wished.{Wished}
use Rattle.hw_clash.proofs.Parts.{slot_at}

table_at : (xs : List (List ℕ)) (i : ℕ) → i < length xs → (table : List ℕ) × (slice_get xs i ≡ Some table)
table_at [] i lt = absurd (omega (arith, lt))
table_at (x ∷ xs) zero lt = (x, refl)
table_at (x ∷ xs) (suc i) lt = table_at xs i (omega (arith, lt))

pub irreducible : (f : Wished) (clash : Clash) → SaysClash f clash → NonePermitted (part f clash.kept) → IsIrreducible f clash.kept
irreducible f clash says none = record {
  some = says.some;
  numbered = says.numbered;
  ascending = says.ascending;
  clash = none;
  needed = All-from_get_or (λ n. SomePermitted (part f (without_number n clash.kept))) clash.kept 0 (λ i lt.
      let drop = table_at clash.drops i (omega (arith, lt, says.drops.each_id)) in
      (drop.0, says.drops.met i (get_or clash.kept i 0) drop.0 (slot_at clash.kept i lt) drop.1));
}
