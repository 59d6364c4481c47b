-- Where the goal is quiet, by the kept figures.
use Rattle.std.proofs.Common.{◌≡◌, ℕ, ◌+◌, ◌<◌, ◌≤◌, Some, sym, ap, subst, arith}
use Rattle.hw_model.specs.declared.source.Source.TheVariants.{Goal}
use Rattle.hw_model.specs.Problem.{Problem}
use Rattle.hw_model.specs.Rooms.{RoomModel, RoomFits, low_of, high_of}
use Rattle.hw_model.specs.Narrowing.{with_range}
use Rattle.hw_model.specs.Refuting.{Refutes, greatest_value, greatest_sum}
use Rattle.hw_model_laws.proofs.Sums.{goal_changed, greatest_of_one}
use Rattle.hw_prop.specs.declared.reduction.Reduction.{Reduction}
use Rattle.hw_prop.specs.declared.reduction.Reduction.TheVariants.{Here, Lowest, Highest, First, NotFirst}
use Rattle.hw_prop.specs.Reductions.{IsQuiet, IsCut, reduced}
use Rattle.hw_goal.specs.declared.tops.Figures.{Figures}
use Rattle.hw_flat.specs.Carried.{worth}
use Rattle.hw_goal.specs.Kept.{AreKept, SeenIn, top_at}
use Rattle.hw_goal.specs.Calm.{CalmAt, CutAt}
use Rattle.hw_goal.proofs.Greatest.{top_value}
use Rattle.hw_goal.proofs.Sums.{kept_sum}

module _ (f : Problem) (figures : Figures) (room : RoomModel) (kept : AreKept f f.ships figures) (fits : RoomFits f room) (seen : SeenIn room f.ships figures) where
  -- the sum with a ship in one slot: less its greatest value, plus the slot's
  reduced_sum : (ship slot at : ℕ) → ship < f.ships → at ≡ slot → greatest_sum f (with_range room ship slot slot) + (top_at figures.tops.items ship).peak.value ≡ figures.sum + worth f ship at
  reduced_sum ship slot at lt e =
      let changed : greatest_sum f (with_range room ship slot slot) + greatest_value f ship (low_of room ship) (high_of room ship) ≡ greatest_sum f room + greatest_value f ship slot slot = goal_changed f room ship slot slot fits lt in
      let value : (top_at figures.tops.items ship).peak.value ≡ greatest_value f ship (low_of room ship) (high_of room ship) = top_value f ship _ _ (top_at figures.tops.items ship) (kept.each ship lt) (seen ship lt).0 (seen ship lt).1 in
      let one : greatest_value f ship slot slot ≡ worth f ship slot = greatest_of_one f ship slot in
      let there : worth f ship at ≡ worth f ship slot = ap (worth f ship) e in
      let sum : figures.sum ≡ greatest_sum f room = kept_sum f figures room kept seen in
      omega (arith, changed, value, one, there, sum)

  pub ship_refuted : (b ship : ℕ) (c : Reduction) → ship < f.ships → CutAt f b figures.sum ship (top_at figures.tops.items ship) c → IsCut (Refutes f Goal (Some b)) room c
  ship_refuted b ship Here lt cut = absurd cut
  ship_refuted b ship (First v w) lt cut = absurd cut
  ship_refuted b ship (NotFirst v w) lt cut = absurd cut
  ship_refuted b ship (Lowest v) lt cut =
      let P : ℕ → Type 0 = λ k. Refutes f Goal (Some b) (reduced (Lowest k) room) in
      let le : greatest_sum f (with_range room ship (low_of room ship) (low_of room ship)) ≤ b = omega (arith, cut.1, reduced_sum ship (low_of room ship) (top_at figures.tops.items ship).low lt (seen ship lt).0) in
      record { may = omega (arith, cut.0, lt, fits.same_ships); refuted = subst P (sym cut.0) le }
  ship_refuted b ship (Highest v) lt cut =
      let P : ℕ → Type 0 = λ k. Refutes f Goal (Some b) (reduced (Highest k) room) in
      let le : greatest_sum f (with_range room ship (high_of room ship) (high_of room ship)) ≤ b = omega (arith, cut.1, reduced_sum ship (high_of room ship) (top_at figures.tops.items ship).high lt (seen ship lt).1) in
      record { may = omega (arith, cut.0, lt, fits.same_ships); refuted = subst P (sym cut.0) le }

  pub here_refuted : (b : ℕ) → figures.sum ≤ b → IsCut (Refutes f Goal (Some b)) room Here
  here_refuted b le =
      let sum : greatest_sum f room ≤ b = omega (arith, le, kept_sum f figures room kept seen) in
      record { may = tt; refuted = sum }

  pub all_quiet : (b : ℕ) → b < figures.sum → ((ship : ℕ) → ship < f.ships → CalmAt f b figures.sum ship (top_at figures.tops.items ship)) → IsQuiet (Refutes f Goal (Some b)) room
  all_quiet b lt calm Here may h =
      let le : greatest_sum f room ≤ b = h in
      omega (arith, lt, le, kept_sum f figures room kept seen)
  all_quiet b lt calm (First v w) may h =
      let le : greatest_sum f room ≤ b = h in
      omega (arith, lt, le, kept_sum f figures room kept seen)
  all_quiet b lt calm (NotFirst v w) may h =
      let le : greatest_sum f room ≤ b = h in
      omega (arith, lt, le, kept_sum f figures room kept seen)
  all_quiet b lt calm (Lowest v) may h =
      let le : greatest_sum f (with_range room v (low_of room v) (low_of room v)) ≤ b = h in
      let in_ships : v < f.ships = omega (arith, may, fits.same_ships) in
      omega (arith, le, (calm v in_ships).lowest, reduced_sum v (low_of room v) (top_at figures.tops.items v).low in_ships (seen v in_ships).0)
  all_quiet b lt calm (Highest v) may h =
      let le : greatest_sum f (with_range room v (high_of room v) (high_of room v)) ≤ b = h in
      let in_ships : v < f.ships = omega (arith, may, fits.same_ships) in
      omega (arith, le, (calm v in_ships).highest, reduced_sum v (high_of room v) (top_at figures.tops.items v).high in_ships (seen v in_ships).1)
