-- Numbers and clauses of a problem that a text may have.
use Rattle.std.proofs.Common.{◌≡◌, ◌+◌, ◌-◌, ◌^◌, ◌≤◌, ◌<◌, ◌&&◌, not, cond, nat_lt, nat_le, ℕ, suc, Bool, true, false, List, [], ◌∷◌, length, slice_index, Option, Some, None, All, refl, ◌∙◌, subst, arith}
use Rattle.std.proofs.lemmas.Bool.{and_parts, lt-ltb, le-leb, ltb-true}
use Rattle.std.proofs.lemmas.List.Elements.{All-head, All-tail}
use Rattle.std.proofs.lemmas.List.Folds.{list_all-append}
use Rattle.std.specs.List.{list_all, flat_map}
use Rattle.hw_model.specs.declared.lit.Lit.{Lit}
use Rattle.hw_model.specs.declared.lit.Lit.TheVariants.{AtOrAfter, Before, First, NotFirst}
use Rattle.hw_model.specs.declared.shape.Shape.{Shape}
use Rattle.hw_model.specs.Limits.{IsFlat}
use Rattle.hw_model.specs.Lits.{BadLit, lit_fits, keeps_form, first_bad, first_bad_from}
use Rattle.hw_model.specs.Problem.{Problem, shape_of}
use Rattle.hw_model_laws.proofs.Horizon.{few_slots}
use Rattle.hw_cert.specs.Fits.{ascends}
use Rattle.hw_cert.specs.Laws.{lit_numbers, is_small}
use Rattle.hw_cert.proofs.WordBytes.{both_on}

pub small : (n : ℕ) → n < 2 ^ 32 → is_small n ≡ true
small n lt = le-leb n (2 ^ 32 - 1) (omega (arith, lt))

pub all_small : (ns : List ℕ) → All (λ n. n < 2 ^ 32) ns → list_all is_small ns ≡ true
all_small [] all = refl
all_small (n ∷ ns) all = both_on (is_small n) (list_all is_small ns) (small n (All-head (λ n. n < 2 ^ 32) n ns all)) (all_small ns (All-tail (λ n. n < 2 ^ 32) n ns all))

pub weaker : (P Q : ℕ → Type 0) (ns : List ℕ) → ((n : ℕ) → P n → Q n) → All P ns → All Q ns
weaker P Q ns f all = λ k d lt. f _ (all k d lt)

pub two_on : (x y : ℕ) → x < 2 ^ 32 → y < 2 ^ 32 → list_all is_small (x ∷ y ∷ []) ≡ true
two_on x y p q = both_on (is_small x) (is_small y && true) (small x p) (both_on (is_small y) true (small y q) refl)

good_parts : (a b : Bool) (x y : BadLit) (more : Option BadLit) → cond (not a) (Some x) (cond (not b) (Some y) more) ≡ None → (a ≡ true) × (more ≡ None)
good_parts true true x y more e = (refl, e)
good_parts true false x y more e = absurd cc
good_parts false b x y more e = absurd cc

lit_small : (shape : Shape) (lit : Lit) → shape.ships ≤ 40 → shape.slots ≤ 513 → lit_fits shape lit ≡ true → list_all is_small (lit_numbers lit) ≡ true
lit_small shape (AtOrAfter ship slot) ships slots e =
    let p = and_parts (nat_lt ship shape.ships) (nat_le 1 slot && nat_lt slot shape.slots) e in
    let q = and_parts (nat_le 1 slot) (nat_lt slot shape.slots) p.1 in
    two_on ship slot (omega (arith, ltb-true ship shape.ships p.0, ships)) (omega (arith, ltb-true slot shape.slots q.1, slots))
lit_small shape (Before ship slot) ships slots e =
    let p = and_parts (nat_lt ship shape.ships) (nat_le 1 slot && nat_lt slot shape.slots) e in
    let q = and_parts (nat_le 1 slot) (nat_lt slot shape.slots) p.1 in
    two_on ship slot (omega (arith, ltb-true ship shape.ships p.0, ships)) (omega (arith, ltb-true slot shape.slots q.1, slots))
lit_small shape (First v w) ships slots e =
    let p = and_parts (nat_lt v w) (nat_lt w shape.ships) e in
    two_on v w (omega (arith, ltb-true v w p.0, ltb-true w shape.ships p.1, ships)) (omega (arith, ltb-true w shape.ships p.1, ships))
lit_small shape (NotFirst v w) ships slots e =
    let p = and_parts (nat_lt v w) (nat_lt w shape.ships) e in
    two_on v w (omega (arith, ltb-true v w p.0, ltb-true w shape.ships p.1, ships)) (omega (arith, ltb-true w shape.ships p.1, ships))

lits_small : (shape : Shape) (place : ℕ) (before : Option Lit) (clause : List Lit) → shape.ships ≤ 40 → shape.slots ≤ 513 → first_bad_from shape place before clause ≡ None → list_all is_small (flat_map lit_numbers clause) ≡ true
lits_small shape place before [] ships slots e = refl
lits_small shape place before (lit ∷ clause) ships slots e =
    let good = good_parts (lit_fits shape lit) (keeps_form before lit) _ _ _ e in
    list_all-append is_small (lit_numbers lit) (flat_map lit_numbers clause) ∙ both_on (list_all is_small (lit_numbers lit)) (list_all is_small (flat_map lit_numbers clause)) (lit_small shape lit ships slots good.0) (lits_small shape (place + 1) (Some lit) clause ships slots good.1)

pub clause_small : (f : Problem) (clause : List Lit) → IsFlat f → first_bad (shape_of f) clause ≡ None → list_all is_small (flat_map lit_numbers clause) ≡ true
clause_small f clause flat is = lits_small (shape_of f) 0 None clause flat.few_ships (few_slots f flat) is

-- numbers that ascend are seen to
pub ascending : (before : ℕ) (ids : List ℕ) → (0 < length ids → before < slice_index ids 0) → ((k : ℕ) → k + 1 < length ids → slice_index ids k < slice_index ids (k + 1)) → ascends before ids ≡ true
ascending before [] first up = refl
ascending before (n ∷ ns) first up = both_on (nat_lt before n) (ascends n ns) (lt-ltb before n (first (omega arith))) (ascending n ns (λ some. up 0 (omega (arith, some))) (λ k lt. shifted k (omega (arith, lt))))
  where
    shifted : (k : ℕ) → suc k + 1 < length (n ∷ ns) → slice_index ns k < slice_index ns (k + 1)
    shifted k lt = let e : suc k + 1 ≡ suc (k + 1) = omega arith in subst (λ m. slice_index ns k < slice_index (n ∷ ns) m) e (up (suc k) lt)
