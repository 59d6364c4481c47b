-- Names that differ, and the test of those before.
use Rattle.std.proofs.Common.{◌≡◌, ◌≢◌, ℕ, zero, suc, ◌+◌, ◌<◌, Bool, true, false, not, ◌||◌, List, [], ◌∷◌, take, slice_get, Option, Some, None, refl, sym, ap, ◌∙◌, subst, arith, bytes_eq, inl, inr}
use Rattle.std.specs.List.{list_any}
use Rattle.std.proofs.lemmas.Bool.{cases_Bool}
use Rattle.std.proofs.lemmas.Slice.Eq.{bytes_eq-Decides}
use Rattle.hw_lemmas.proofs.Truths.{was_not, neither as first_false}
use Rattle.hw_port.specs.declared.fault.Path.{Path}
use Rattle.hw_port.specs.declared.fault.PortFault.{PortFault}
use Rattle.hw_port.specs.declared.fault.PortWord.TheVariants.{Name, Repeat}
use Rattle.hw_port.specs.Faults.{unless, each}
use Rattle.hw_port.specs.Rules.{is_name, among, new_name}
use Rattle.hw_port.specs.Kept.{Differ}
use Rattle.hw_port.proofs.Keeping.{neither, unless_none}

-- a name without a fault isn't that of an earlier item
pub used_not : (path : Path) (used : Bool) (text : List ℕ) → new_name path used text ≡ None → used ≡ false
unfolding new_name
used_not path used text e = was_not used (unless_none path Repeat (not used) (neither (unless path Name (is_name text)) (unless path Repeat (not used)) e).1)

-- the fault of the item at a place, where none has one
pub at_place : {A : Type 0} (rule : ℕ → A → Option PortFault) (from : ℕ) (xs : List A) (k place : ℕ) (x : A) → place ≡ from + k → each rule from xs ≡ None → slice_get xs k ≡ Some x → rule place x ≡ None
at_place rule from [] k place x at e get = absurd cc
at_place rule from (y ∷ ys) zero place x at e get =
    let here : place ≡ from = omega (arith, at) in
    let same : y ≡ x = cc in
    subst (λ n. rule n x ≡ None) (sym here) (subst (λ z. rule from z ≡ None) same (neither (rule from y) (each rule (from + 1) ys) e).0)
at_place rule from (y ∷ ys) (suc k) place x at e get = at_place rule (from + 1) ys k place x (omega (arith, at)) (neither (rule from y) (each rule (from + 1) ys) e).1 get

-- an earlier item hasn't the name
other_name : {A : Type 0} (named : A → List ℕ) (name : List ℕ) (xs : List A) (j i : ℕ) (x : A) → list_any (λ z. bytes_eq (named z) name) (take j xs) ≡ false → i < j → slice_get xs i ≡ Some x → bytes_eq (named x) name ≡ false
other_name named name [] j i x e lt get = absurd cc
other_name named name (y ∷ ys) zero i x e lt get = absurd (omega (arith, lt))
other_name named name (y ∷ ys) (suc j) zero x e lt get =
    let same : y ≡ x = cc in
    subst (λ z. bytes_eq (named z) name ≡ false) same (first_false (bytes_eq (named y) name) _ e).0
other_name named name (y ∷ ys) (suc j) (suc i) x e lt get = other_name named name ys j i x (first_false (bytes_eq (named y) name) _ e).1 (omega (arith, lt)) get

differs : (a b : List ℕ) → bytes_eq a b ≡ false → a ≢ b
differs a b e same =
    let equal : bytes_eq a b ≡ true = (bytes_eq-Decides a b).1 same in
    absurd cc

-- where no item has the name of an earlier one, all names differ
pub differ_by : {A : Type 0} (named : A → List ℕ) (xs : List A) → ((j : ℕ) (y : A) → slice_get xs j ≡ Some y → among named (named y) (take j xs) ≡ false) → Differ named xs
differ_by named xs fresh i j x y lt at_i at_j = differs (named x) (named y) (other_name named (named y) xs j i x (fresh j y at_j) lt at_i)

-- and the other way round
none_before : {A : Type 0} (named : A → List ℕ) (name : List ℕ) (xs : List A) (j : ℕ) → ((i : ℕ) (x : A) → i < j → slice_get xs i ≡ Some x → named x ≢ name) → list_any (λ z. bytes_eq (named z) name) (take j xs) ≡ false
none_before named name [] zero h = refl
none_before named name [] (suc j) h = refl
none_before named name (y ∷ ys) zero h = refl
none_before named name (y ∷ ys) (suc j) h =
    let first : bytes_eq (named y) name ≡ false = unequal (named y) name (h 0 y (omega arith) refl) in
    let rest = none_before named name ys j (λ i x lt at. h (suc i) x (omega (arith, lt)) at) in
    ap (λ b. b || list_any (λ z. bytes_eq (named z) name) (take j ys)) first ∙ rest
  where
    unequal : (a b : List ℕ) → a ≢ b → bytes_eq a b ≡ false
    unequal a b ne = elim (cases_Bool (bytes_eq a b)) [
      | inl equal ↦ absurd (ne ((bytes_eq-Decides a b).0 equal))
      | inr other ↦ other
    ]

pub fresh_by : {A : Type 0} (named : A → List ℕ) (xs : List A) → Differ named xs → (j : ℕ) (y : A) → slice_get xs j ≡ Some y → among named (named y) (take j xs) ≡ false
fresh_by named xs differ j y at = none_before named (named y) xs j (λ i x lt at_i. differ i j x y lt at_i at)
