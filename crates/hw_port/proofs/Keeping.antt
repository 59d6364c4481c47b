-- What a rule that finds no fault says.
use Rattle.std.proofs.Common.{◌≡◌, ℕ, ◌+◌, ◌≤◌, ◌≤ℤ◌, ◌<ℤ◌, ℤ, pos, Bool, true, false, not, ◌&&◌, List, [], ◌∷◌, Option, Some, None, refl, arith, All, nat_le, int_le, int_lt}
use Rattle.std.proofs.lemmas.Bool.{and_parts}
use Rattle.std.proofs.lemmas.Bool.Decides.{nat_tests}
use Rattle.std.proofs.lemmas.Float.{T_from_true}
use Rattle.std.proofs.lemmas.List.Elements.{All-cons}
use Rattle.std.specs.Int.Signed.{le_z_yes, lt_z_yes}
use Rattle.hw_lemmas.specs.Operators.{◌or_else◌}
use Rattle.hw_port.specs.declared.fault.Path.{Path}
use Rattle.hw_port.specs.declared.fault.PortFault.{PortFault}
use Rattle.hw_port.specs.declared.fault.PortWord.{PortWord}
use Rattle.hw_port.specs.declared.fault.PortWord.TheVariants.{Range, Count, Name, Repeat, Order}
use Rattle.hw_port.specs.Faults.{unless, each}
use Rattle.hw_port.specs.Rules.{in_range, is_place, is_name, range, place_in_list, count, at_least, above, new_name}
use Rattle.hw_port.specs.Kept.{Within, IsPlace, Counts, IsName}
use Rattle.hw_port.proofs.Wording.{name_from}

-- where neither of two has a fault
pub neither : (a b : Option PortFault) → a or_else b ≡ None → (a ≡ None) × (b ≡ None)
neither None b e = (refl, e)
neither (Some f) b e = absurd cc

pub unless_none : (path : Path) (word : PortWord) (b : Bool) → unless path word b ≡ None → b ≡ true
unless_none path word true e = refl
unless_none path word false e = absurd cc

pub le_from_test : (a b : ℤ) → int_le a b ≡ true → a ≤ℤ b
le_from_test a b e = le_z_yes (T_from_true (int_le a b) e)

pub lt_from_test : (a b : ℤ) → int_lt a b ≡ true → a <ℤ b
lt_from_test a b e = lt_z_yes (T_from_true (int_lt a b) e)

pub range_kept : (path : Path) (low high value : ℤ) → range path low high value ≡ None → Within low high value
unfolding range
range_kept path low high value e =
    let p = and_parts (int_le low value) (int_le value high) (unless_none path Range (in_range low high value) e) in
    record { low = le_from_test low value p.0; high = le_from_test value high p.1 }

pub place_kept : (path : Path) (many value : ℤ) → place_in_list path many value ≡ None → IsPlace many value
unfolding place_in_list
place_kept path many value e =
    let p = and_parts (int_le (pos 0) value) (int_lt value many) (unless_none path Range (is_place many value) e) in
    record { low = le_from_test (pos 0) value p.0; below = lt_from_test value many p.1 }

at_most : (a b : ℕ) → nat_le a b ≡ true → a ≤ b
at_most a b e = grind (arith, nat_tests)

pub count_kept : (path : Path) (low high many : ℕ) → count path low high many ≡ None → Counts low high many
unfolding count
count_kept path low high many e =
    let p = and_parts (nat_le low many) (nat_le many high) (unless_none path Count (nat_le low many && nat_le many high) e) in
    record { low = at_most low many p.0; high = at_most many high p.1 }

pub at_least_kept : (path : Path) (low value : ℤ) → at_least path low value ≡ None → low ≤ℤ value
unfolding at_least
at_least_kept path low value e = le_from_test low value (unless_none path Order (int_le low value) e)

pub above_kept : (path : Path) (low value : ℤ) → above path low value ≡ None → low <ℤ value
unfolding above
above_kept path low value e = lt_from_test low value (unless_none path Order (int_lt low value) e)

pub name_kept : (path : Path) (used : Bool) (text : List ℕ) → new_name path used text ≡ None → IsName text
unfolding new_name
name_kept path used text e = name_from text (unless_none path Name (is_name text) (neither (unless path Name (is_name text)) (unless path Repeat (not used)) e).0)

pub each_kept : {A : Type 0} (rule : ℕ → A → Option PortFault) (P : A → Type 0) → ((i : ℕ) (x : A) → rule i x ≡ None → P x) → (i : ℕ) (xs : List A) → each rule i xs ≡ None → All P xs
each_kept rule P keeps i [] e = λ k d h. absurd (omega (arith, h))
each_kept rule P keeps i (x ∷ xs) e =
    let p = neither (rule i x) (each rule (i + 1) xs) e in
    All-cons P x xs (keeps i x p.0) (each_kept rule P keeps (i + 1) xs p.1)
