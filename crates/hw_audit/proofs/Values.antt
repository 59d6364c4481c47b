-- A port's values are small enough to be repaired.
use Rattle.std.proofs.Common.{◌≡◌, ℕ, ◌+◌, ◌*◌, ◌≤◌, ℤ, pos, ◌-ℤ◌, ◌*ℤ◌, ◌≤ℤ◌, Bool, true, false, cond, [], ◌∷◌, length, mul-le-mul, Option, Some, None, option_map, option_and_then, unwrap_or, int_lt, flat_map, All, refl, sym, subst, arith}
use Rattle.std.proofs.lemmas.List.Elements.{All-cons, All-nil, All-append, All-map, All-weaker}
use Rattle.std.specs.Int.{int_min}
use Rattle.std.specs.List.{range_with_len}
use Rattle.hw_port.specs.Kept.{PortKept, ShipKept}
use Rattle.hw_port.specs.Parts.{ShipParts}
use Rattle.hw_port.specs.Whole.{Parts}
use Rattle.hw_tide.specs.Levels.{TideParts}
use Rattle.hw_port_model.specs.Drafts.{may_sail, floating, allowed_draft, carried, ship_value}
use Rattle.hw_port_model.specs.Flattened.{stay_value, value_row, flattened}
use Rattle.hw_port_model.specs.Numbers.{whole, horizon_of, some_may_stay, is_outgoing}
use Rattle.hw_port_laws.proofs.Eachs.{Each, each_of_all, all_of_each, each_weaker, each_flat_map}
use Rattle.hw_port_laws.proofs.Meeting.{le_from_false}
use Rattle.hw_port_laws.proofs.Wholes.{within}
use Rattle.hw_port_laws.proofs.Limits.{product, load_in, staying_small}
use Rattle.hw_repair.specs.Wishes.{IsRepairable}

-- at most 3000 tenths of a tonne for each of 10000 centimetres
abbrev IsSmall : Option ℕ → Type 0
IsSmall value = unwrap_or value 0 ≤ 30_000_000

carried_small : (p : Parts) (s : ShipParts) (draft : ℤ) → ShipKept p s → s.light ≤ℤ draft → carried s draft ≤ 30_000_000
carried_small p s draft ks float = by_side (is_outgoing s)
  where
    loaded : whole (s.tpc *ℤ (int_min s.deep draft -ℤ s.light)) ≤ 3_000 * 10_000
    loaded =
        let tpc = within 0 3_000 s.tpc ks.tpc in
        let load = within 0 10_000 (int_min s.deep draft -ℤ s.light) (load_in s.light s.deep draft ks.light.low ks.load ks.deep.high float) in
        subst (λ z. whole (z *ℤ (int_min s.deep draft -ℤ s.light)) ≤ 3_000 * 10_000) (sym tpc.0)
        (subst (λ z. whole (pos (whole s.tpc) *ℤ z) ≤ 3_000 * 10_000) (sym load.0) (product (whole s.tpc) (whole (int_min s.deep draft -ℤ s.light)) 3_000 10_000 tpc.2 load.2))

    by_side : (b : Bool) → cond b (whole (s.tpc *ℤ (int_min s.deep draft -ℤ s.light))) 0 ≤ 30_000_000
    by_side true = omega (arith, loaded)
    by_side false = omega arith

value_small : (p : Parts) (h : TideParts) (s : ShipParts) (slot : ℕ) → ShipKept p s → IsSmall (ship_value p h s slot)
value_small p h s slot ks = in_all (may_sail p s slot) (allowed_draft p h s slot)
  where
    floats : (draft : ℤ) (b : Bool) → int_lt draft s.light ≡ b → IsSmall (option_map (carried s) (cond b None (Some draft)))
    floats draft true e = omega arith
    floats draft false e = carried_small p s draft ks (le_from_false draft s.light e)

    in_all : (b : Bool) (o : Option ℤ) → IsSmall (option_map (carried s) (cond b (option_and_then (floating s) o) None))
    in_all false o = omega arith
    in_all true None = omega arith
    in_all true (Some draft) = floats draft (int_lt draft s.light) refl

row_small : (p : Parts) (h : TideParts) (s : ShipParts) → ShipKept p s → All IsSmall (value_row p h s)
row_small p h s ks = All-append IsSmall _ (cond (some_may_stay p) (stay_value s ∷ []) [])
    (All-map IsSmall (ship_value p h s) (range_with_len 0 (horizon_of p)) (λ k d lt. value_small p h s _ ks))
    (last (some_may_stay p))
  where
    last : (b : Bool) → All IsSmall (cond b (stay_value s ∷ []) [])
    last true =
        let le : unwrap_or (stay_value s) 0 ≤ 1 = staying_small s.may_stay in
        let small : IsSmall (stay_value s) = omega (arith, le) in
        All-cons IsSmall (stay_value s) [] small (All-nil IsSmall)
    last false = All-nil IsSmall

values_small : (p : Parts) (h : TideParts) → PortKept p → All IsSmall (flattened p h).values
values_small p h kept = all_of_each IsSmall (flat_map (value_row p h) p.ships) (each_flat_map IsSmall (value_row p h) p.ships
    (each_weaker (ShipKept p) (λ s. Each IsSmall (value_row p h s)) p.ships (λ s ks. each_of_all IsSmall (value_row p h s) (row_small p h s ks))
    (each_of_all (ShipKept p) p.ships kept.ships)))

repairable : (ships : ℕ) (value : Option ℕ) → ships ≤ 40 → IsSmall value → IsRepairable ships (unwrap_or value 0)
repairable ships value few small =
    let times : ships + 1 ≤ 41 = omega (arith, few) in
    let most : unwrap_or value 0 * (ships + 1) ≤ 30_000_000 * 41 = mul-le-mul small times in
    omega (arith, most)

pub values_repairable : (p : Parts) (h : TideParts) → PortKept p → length p.ships ≤ 40 → All (λ v. IsRepairable (length p.ships) (unwrap_or v 0)) (flattened p h).values
values_repairable p h kept few = All-weaker IsSmall (λ v. IsRepairable (length p.ships) (unwrap_or v 0)) (λ v small. repairable (length p.ships) v few small) (flattened p h).values (values_small p h kept)
