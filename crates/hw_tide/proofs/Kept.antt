-- What a table gives keeps the limits of a tide.
use Rattle.std.proofs.Common.{◌≡◌, ℕ, zero, suc, ◌+◌, ◌-◌, ◌≤◌, ◌==◌, ◌&&◌, Bool, true, false, cond, nat_le, ℤ, pos, neg_ℤ, List, [], ◌∷◌, length, drop, slice_index, Option, Some, None, option_map, option_and_then, Result, Ok, Err, All, ◌⊎◌, inl, inr, refl, sym, ap, ◌∙◌, subst, arith, eqb-true}
use Rattle.std.specs.Str.Parse.{digits_value}
use Rattle.std.proofs.lemmas.Bool.{and_parts, leb-true}
use Rattle.std.proofs.lemmas.Int.{ints}
use Rattle.std.proofs.lemmas.List.{length-drop}
use Rattle.std.proofs.lemmas.List.Elements.{All-nil, All-cons}
use Rattle.hw_lemmas.proofs.Truths.{given_by}
use Rattle.hw_lemmas.specs.Operators.{◌>>=◌}
use Rattle.hw_text.specs.Numbers.{is_number, number_up_to, number_from_to, signed_up_to}
use Rattle.hw_tide.specs.declared.kind.TableKind.{TableKind}
use Rattle.hw_tide.specs.declared.kind.TableKind.TheVariants.{Heights, Waters}
use Rattle.hw_tide.specs.Twelfths.{InLimits}
use Rattle.hw_tide.specs.Levels.{LevelsParts, IsLevels}
use Rattle.hw_tide.specs.Tides.{IsTable, slot_at}
use Rattle.hw_tide.specs.declared.fault.TideFault.{TideFault}
use Rattle.hw_tide.specs.declared.fault.TideFault.TheVariants.{Length, Field}
use Rattle.hw_tide.specs.Table.{formed_field, needed, kind_word, wrong_column, header_of, slot_fits, fitting, first_field, heights_from, levels_form, levels_from, not_empty, table_of}

-- ---- numbers

up_to : (most : ℕ) (word : List ℕ) (n : ℕ) → number_up_to most word ≡ Some n → n ≤ most
up_to most word n e =
    let p = given_by (is_number word && nat_le (digits_value 10 word) most) (digits_value 10 word) n e in
    let q = and_parts (is_number word) (nat_le (digits_value 10 word) most) p.0 in
    let le : digits_value 10 word ≤ most = leb-true _ _ q.1 in
    omega (arith, le, p.1)

at_least : (least n : ℕ) (o : Option ℕ) → option_and_then (λ m. cond (nat_le least m) (Some m) None) o ≡ Some n → o ≡ Some n
at_least least n None e = absurd cc
at_least least n (Some m) e = ap (λ k. Some k) (given_by (nat_le least m) m n e).1

from_to : (least most : ℕ) (word : List ℕ) (n : ℕ) → number_from_to least most word ≡ Some n → n ≤ most
from_to least most word n e = up_to most word n (at_least least n (number_up_to most word) e)

mapped : (f : ℕ → ℤ) (o : Option ℕ) (z : ℤ) → option_map f o ≡ Some z → (n : ℕ) × (o ≡ Some n) × (f n ≡ z)
mapped f None z e = absurd cc
mapped f (Some n) z e = (n, refl, cc)

in_limits : (word : List ℕ) (z : ℤ) → signed_up_to 2_000 word ≡ Some z → InLimits z
in_limits word z e = by_sign (slice_index word 0 == 45) e
  where
    positive : (n : ℕ) → n ≤ 2_000 → InLimits (pos n)
    positive n le = (omega (arith, ints, le), omega (arith, ints, le))

    negative : (n : ℕ) → n ≤ 2_000 → InLimits (neg_ℤ (pos n))
    negative zero le = (omega (arith, ints), omega (arith, ints))
    negative (suc n) le = (omega (arith, ints, le), omega (arith, ints, le))

    by_sign : (b : Bool) → cond b (option_map (λ n. neg_ℤ (pos n)) (number_from_to 1 2_000 (drop 1 word))) (option_map (λ n. pos n) (number_from_to 0 2_000 word)) ≡ Some z → InLimits z
    by_sign true e =
        let p = mapped (λ n. neg_ℤ (pos n)) (number_from_to 1 2_000 (drop 1 word)) z e in
        subst InLimits p.2 (negative p.0 (from_to 1 2_000 (drop 1 word) p.0 p.1))
    by_sign false e =
        let p = mapped (λ n. pos n) (number_from_to 0 2_000 word) z e in
        subst InLimits p.2 (positive p.0 (from_to 0 2_000 word p.0 p.1))

-- ---- steps

pub bound : {A B : Type 0} (r : Result A TideFault) (g : A → Result B TideFault) (y : B) → (r >>= g) ≡ Ok y → (x : A) × (r ≡ Ok x) × (g x ≡ Ok y)
bound (Ok x) g y e = (x, refl, e)
bound (Err f) g y e = absurd cc

pub was_formed : {A : Type 0} (fault : TideFault) (o : Option A) (x : A) → formed_field fault o ≡ Ok x → o ≡ Some x
was_formed fault None x e = absurd cc
was_formed fault (Some a) x e = cc

pub was_needed : (fault : TideFault) (b x : Bool) → needed fault b ≡ Ok x → b ≡ true
was_needed fault true x e = refl
was_needed fault false x e = absurd cc

pub same_Ok : {A : Type 0} (x y : A) → ◌≡◌ {A = Result A TideFault} (Ok x) (Ok y) → x ≡ y
same_Ok x y e = cc

-- ---- a record

pub heights_kept : (row column : ℕ) (fields : List (List ℕ)) (heights : List ℤ) → heights_from row column fields ≡ Ok heights → (length heights ≡ length fields) × All InLimits heights
unfolding heights_from
heights_kept row column [] heights e =
    let is : [] ≡ heights = same_Ok [] heights e in
    subst (λ (hs : List ℤ). (length hs ≡ 0) × All InLimits hs) is (refl, All-nil InLimits)
heights_kept row column (f ∷ fs) heights e =
    let one = bound (formed_field (Field row column) (signed_up_to 2_000 f)) (λ h. heights_from row (column + 1) fs >>= λ hs. Ok (h ∷ hs)) heights e in
    let rest = bound (heights_from row (column + 1) fs) (λ hs. Ok (one.0 ∷ hs)) heights one.2 in
    let more = heights_kept row (column + 1) fs rest.0 rest.1 in
    let small = in_limits f one.0 (was_formed (Field row column) (signed_up_to 2_000 f) one.0 one.1) in
    let is : one.0 ∷ rest.0 ≡ heights = same_Ok (one.0 ∷ rest.0) heights rest.2 in
    subst (λ (hs : List ℤ). (length hs ≡ suc (length fs)) × All InLimits hs) is (ap (λ n. suc n) more.0, All-cons InLimits one.0 rest.0 small more.1)

pub fitted : (kind : TableKind) (row : ℕ) (last : Option ℕ) (o : Option ℕ) (slot : ℕ) → option_and_then (fitting kind row last) o ≡ Some slot → (o ≡ Some slot) × (slot_fits kind row last slot ≡ true)
fitted kind row last None slot e = absurd cc
fitted kind row last (Some m) slot e =
    let p = given_by (slot_fits kind row last m) m slot e in
    (ap (λ k. Some k) p.1, subst (λ k. slot_fits kind row last k ≡ true) p.1 p.0)

pub levels_kept : (kind : TableKind) (waypoints row : ℕ) (last : Option ℕ) (fields : List (List ℕ)) (l : LevelsParts) → levels_form kind (1 + waypoints) row last fields ≡ Ok l → IsLevels waypoints l × (slot_fits kind row last l.slot ≡ true)
unfolding levels_form
levels_kept kind waypoints row last fields l e =
    let a = bound (needed (Length row) (length fields == 1 + waypoints)) _ l e in
    let size : length fields ≡ 1 + waypoints = eqb-true (length fields) (1 + waypoints) (was_needed (Length row) (length fields == 1 + waypoints) a.0 a.1) in
    let b = bound (formed_field (Field row 0) (option_and_then (fitting kind row last) (number_up_to 2_047 (first_field (drop 0 fields))))) _ l a.2 in
    let f = fitted kind row last (number_up_to 2_047 (first_field (drop 0 fields))) b.0 (was_formed (Field row 0) _ b.0 b.1) in
    let few : b.0 ≤ 2_047 = up_to 2_047 (first_field (drop 0 fields)) b.0 f.0 in
    let c = bound (heights_from row 1 (drop 1 fields)) _ l b.2 in
    let h = heights_kept row 1 (drop 1 fields) c.0 c.1 in
    let one : LevelsParts = record { slot = b.0; heights = c.0 } in
    let each : length c.0 ≡ waypoints = omega (arith, h.0, length-drop 1 fields, size) in
    subst (λ (x : LevelsParts). IsLevels waypoints x × (slot_fits kind row last x.slot ≡ true)) (same_Ok one l c.2) (record { few_slots = few; each_height = each; small_heights = h.1 }, f.1)

-- ---- all records

pub each_kept : (kind : TableKind) (waypoints row : ℕ) (last : Option ℕ) (records : List (List (List ℕ))) (levels : List LevelsParts) → levels_from kind (1 + waypoints) row last records ≡ Ok levels → All (IsLevels waypoints) levels
each_kept kind waypoints row last [] levels e = subst (All (IsLevels waypoints)) (same_Ok [] levels e) (All-nil (IsLevels waypoints))
each_kept kind waypoints row last (x ∷ xs) levels e =
    let a = bound (levels_form kind (1 + waypoints) row last x) _ levels e in
    let b = bound (levels_from kind (1 + waypoints) (row + 1) (Some a.0.slot) xs) _ levels a.2 in
    let rest = each_kept kind waypoints (row + 1) (Some a.0.slot) xs b.0 b.1 in
    subst (All (IsLevels waypoints)) (same_Ok (a.0 ∷ b.0) levels b.2) (All-cons (IsLevels waypoints) a.0 b.0 (levels_kept kind waypoints row last x a.0 a.1).0 rest)

begins : (kind : TableKind) (slot : ℕ) → slot_fits kind 1 None slot ≡ true → slot ≡ 0
begins Waters slot e = eqb-true slot 0 e
begins Heights slot e = eqb-true slot 0 e

first_slot : (kind : TableKind) (waypoints : ℕ) (records : List (List (List ℕ))) (levels : List LevelsParts) → levels_from kind (1 + waypoints) 1 None records ≡ Ok levels → slot_at levels 0 ≡ 0
first_slot kind waypoints [] levels e = subst (λ ls. slot_at ls 0 ≡ 0) (same_Ok [] levels e) refl
first_slot kind waypoints (x ∷ xs) levels e =
    let a = bound (levels_form kind (1 + waypoints) 1 None x) _ levels e in
    let b = bound (levels_from kind (1 + waypoints) (1 + 1) (Some a.0.slot) xs) _ levels a.2 in
    subst (λ ls. slot_at ls 0 ≡ 0) (same_Ok (a.0 ∷ b.0) levels b.2) (begins kind a.0.slot (levels_kept kind waypoints 1 None x a.0 a.1).1)

few_records : (waypoints row : ℕ) (last : Option ℕ) (records : List (List (List ℕ))) (levels : List LevelsParts) → 1 ≤ row → levels_from Heights (1 + waypoints) row last records ≡ Ok levels → (length levels ≡ 0) ⊎ (length levels + row ≤ 2_049)
few_records waypoints row last [] levels some e = inl (ap length (sym (same_Ok [] levels e)))
few_records waypoints row last (x ∷ xs) levels some e =
    let a = bound (levels_form Heights (1 + waypoints) row last x) _ levels e in
    let b = bound (levels_from Heights (1 + waypoints) (row + 1) (Some a.0.slot) xs) _ levels a.2 in
    let k = levels_kept Heights waypoints row last x a.0 a.1 in
    let slot : a.0.slot ≡ row - 1 = eqb-true a.0.slot (row - 1) k.1 in
    let here : row ≤ 2_048 = omega (arith, slot, k.0.few_slots, some) in
    let size : suc (length b.0) ≡ length levels = ap length (same_Ok (a.0 ∷ b.0) levels b.2) in
    elim (few_records waypoints (row + 1) (Some a.0.slot) xs b.0 (omega arith) b.1) [
      | inl none ↦ inr (omega (arith, none, size, here))
      | inr le ↦ inr (omega (arith, le, size))
    ]

few_heights : (kind : TableKind) (waypoints : ℕ) (records : List (List (List ℕ))) (levels : List LevelsParts) → levels_from kind (1 + waypoints) 1 None records ≡ Ok levels → kind ≡ Heights → length levels ≤ 2_048
few_heights Waters waypoints records levels e no' = absurd cc
few_heights Heights waypoints records levels e no' = elim (few_records waypoints 1 None records levels (omega arith) e) [
  | inl none ↦ omega (arith, none)
  | inr le ↦ omega (arith, le)
]

pub was_some : {A : Type 0} (xs ys : List A) → not_empty xs ≡ Ok ys → (xs ≡ ys) × (1 ≤ length ys)
was_some [] ys e = absurd cc
was_some (x ∷ xs) ys e =
    let is = same_Ok (x ∷ xs) ys e in
    (is, subst (λ l. 1 ≤ length l) is (omega arith))

-- the heights of a table are one
pub table_kept : (kind : TableKind) (names : List (List ℕ)) (records : List (List (List ℕ))) (levels : List LevelsParts) → table_of kind names records ≡ Ok levels → IsTable kind (length names) levels
unfolding table_of
table_kept kind names [] levels e = absurd cc
table_kept kind names (first ∷ records) levels e =
    let a = bound (header_of (wrong_column 0 (kind_word kind ∷ names) (drop 0 first))) _ levels e in
    let b = bound (levels_from kind (1 + length names) 1 None records) _ levels a.2 in
    let s = was_some b.0 levels b.2 in
    let from : levels_from kind (1 + length names) 1 None records ≡ Ok levels = b.1 ∙ ap (λ ls. Ok ls) s.0 in
    record {
      some = s.1;
      begins = first_slot kind (length names) records levels from;
      each = each_kept kind (length names) 1 None records levels from;
      few = few_heights kind (length names) records levels from;
    }
