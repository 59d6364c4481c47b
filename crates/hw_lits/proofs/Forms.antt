-- A test of literals from the left, and normal clauses of a wider shape.
use Rattle.std.proofs.Common.{◌≡◌, ℕ, ◌+◌, ◌<◌, ◌≤◌, Bool, true, false, cond, not, nat_lt, nat_le, List, [], ◌∷◌, Option, Some, None, length, drop, get_or, refl, sym, ap, ◌∙◌, subst, arith, suc, add-one, All}
use Rattle.std.proofs.Math.Seq.{drop-cons}
use Rattle.std.proofs.lemmas.Bool.{and_parts, and_from, ltb-true, lt-ltb}
use Rattle.std.proofs.lemmas.List.Elements.{All-nil, All-cons}
use Rattle.hw_model.specs.declared.lit.Lit.{Lit}
use Rattle.hw_model.specs.declared.lit.Lit.TheVariants as lits
use Rattle.hw_model.specs.declared.shape.Shape.{Shape}
use Rattle.hw_model.specs.Lits.{lit_fits, keeps_form, BadLit, first_bad_from, first_bad, IsClause, IsLitOf}
use Rattle.hw_model_laws.proofs.Denials.{lit_of, no_bad}
use Rattle.hw_lits.proofs.Ranks.{rank_after, FitsBefore, after_small, after_more}

-- the literals up to a place were tested, and this one stood before it
pub record IsTested (shape : Shape) (all : List Lit) (place : ℕ) (before : Option Lit) : Type 0 where
  pub rest : first_bad_from shape place before (drop place all) ≡ first_bad shape all
  pub few : place ≤ rank_after before
  pub fits : FitsBefore shape before

pub place_small : (shape : Shape) (all : List Lit) (place : ℕ) (before : Option Lit) → shape.ships ≤ 40 → IsTested shape all place before → place ≤ 860
place_small shape all place before few t = omega (arith, t.few, after_small shape before few t.fits)

-- the list from a place on
pub next_of : (all : List Lit) (place : ℕ) (lit d : Lit) → place < length all → lit ≡ get_or all place d → drop place all ≡ lit ∷ drop (place + 1) all
next_of all place lit d lt e = rw add-one (drop-cons all place d lt ∙ ap (λ l. l ∷ drop (suc place) all) (sym e))

next : (shape : Shape) (all : List Lit) (place : ℕ) (before : Option Lit) (lit d : Lit) → IsTested shape all place before → place < length all → lit ≡ get_or all place d → first_bad_from shape place before (lit ∷ drop (place + 1) all) ≡ first_bad shape all
next shape all place before lit d t lt e = subst (λ rest. first_bad_from shape place before rest ≡ first_bad shape all) (next_of all place lit d lt e) t.rest

by_rest : (a b : Bool) (x y : BadLit) (z : Option BadLit) → a ≡ true → b ≡ true → cond (not a) (Some x) (cond (not b) (Some y) z) ≡ z
by_rest true true x y z e f = refl
by_rest true false x y z e f = absurd cc
by_rest false b x y z e f = absurd cc

pub tested_more : (shape : Shape) (all : List Lit) (place : ℕ) (before : Option Lit) (lit d : Lit) → shape.ships ≤ 40 → IsTested shape all place before → place < length all → lit ≡ get_or all place d → lit_fits shape lit ≡ true → keeps_form before lit ≡ true → IsTested shape all (place + 1) (Some lit)
tested_more shape all place before lit d few t lt e fits keeps = record {
  rest = sym (by_rest (lit_fits shape lit) (keeps_form before lit) _ _ _ fits keeps) ∙ next shape all place before lit d t lt e;
  few = omega (arith, t.few, after_more shape before lit few t.fits fits keeps);
  fits = fits;
}

-- ---- wider shapes

fits_wider : (small wide : Shape) (lit : Lit) → small.ships ≤ wide.ships → small.slots ≤ wide.slots → lit_fits small lit ≡ true → lit_fits wide lit ≡ true
fits_wider small wide (lits.AtOrAfter ship slot) ships slots e =
    let p = and_parts (nat_lt ship small.ships) _ e in
    let q = and_parts (nat_le 1 slot) _ p.1 in
    and_from _ _ (lt-ltb _ _ (omega (arith, ltb-true _ _ p.0))) (and_from _ _ q.0 (lt-ltb _ _ (omega (arith, ltb-true _ _ q.1))))
fits_wider small wide (lits.Before ship slot) ships slots e =
    let p = and_parts (nat_lt ship small.ships) _ e in
    let q = and_parts (nat_le 1 slot) _ p.1 in
    and_from _ _ (lt-ltb _ _ (omega (arith, ltb-true _ _ p.0))) (and_from _ _ q.0 (lt-ltb _ _ (omega (arith, ltb-true _ _ q.1))))
fits_wider small wide (lits.First v w) ships slots e =
    let p = and_parts (nat_lt v w) _ e in
    and_from _ _ p.0 (lt-ltb _ _ (omega (arith, ltb-true _ _ p.1)))
fits_wider small wide (lits.NotFirst v w) ships slots e =
    let p = and_parts (nat_lt v w) _ e in
    and_from _ _ p.0 (lt-ltb _ _ (omega (arith, ltb-true _ _ p.1)))

wider_from : (small wide : Shape) (clause : List Lit) (place : ℕ) (before : Option Lit) → small.ships ≤ wide.ships → small.slots ≤ wide.slots → first_bad_from small place before clause ≡ None → first_bad_from wide place before clause ≡ None
wider_from small wide [] place before ships slots e = refl
wider_from small wide (lit ∷ more) place before ships slots e =
    let good = no_bad (lit_fits small lit) (keeps_form before lit) _ _ _ e in
    by_rest (lit_fits wide lit) (keeps_form before lit) _ _ _ (fits_wider small wide lit ships slots good.0) good.1 ∙ wider_from small wide more (place + 1) (Some lit) ships slots good.2

-- a normal clause of a shape is one of each wider shape
pub clause_wider : (small wide : Shape) (clause : List Lit) → small.ships ≤ wide.ships → small.slots ≤ wide.slots → IsClause small clause → IsClause wide clause
clause_wider small wide clause ships slots e = wider_from small wide clause 0 None ships slots e

pub lits_from : (shape : Shape) (clause : List Lit) (place : ℕ) (before : Option Lit) → first_bad_from shape place before clause ≡ None → All (IsLitOf shape.ships) clause
lits_from shape [] place before e = All-nil (IsLitOf shape.ships)
lits_from shape (lit ∷ more) place before e =
    let good = no_bad (lit_fits shape lit) (keeps_form before lit) _ _ _ e in
    All-cons (IsLitOf shape.ships) lit more (lit_of shape lit good.0) (lits_from shape more (place + 1) (Some lit) good.2)

-- each literal of a normal clause is one of its ships
pub clause_lits : (shape : Shape) (clause : List Lit) → IsClause shape clause → All (IsLitOf shape.ships) clause
clause_lits shape clause e = lits_from shape clause 0 None e
