-- The pass that limits a draft.
use Rattle.std.proofs.Common.{◌≡◌, ◌<◌, ◌∙◌, ℕ, zero, suc, ℤ, Bool, true, false, cond, List, [], ◌∷◌, length, Option, Some, get_or, option_and_then, refl, sym, ap, arith}
use Rattle.std.proofs.lemmas.Bool.Decides.{Decides-int_eq}
use Rattle.hw_port.specs.declared.parts.Pass.{Pass}
use Rattle.hw_port.specs.Whole.{Parts}
use Rattle.hw_tide.specs.Levels.{TideParts}
use Rattle.hw_port_laws.proofs.Drafts.{least_draft_law}
use Rattle.hw_port_model.specs.Drafts.{draft_at}
use Rattle.hw_draft.specs.declared.passage.Passage.{Passage}
use Rattle.hw_draft.specs.Laws.{LeavesJust, SomePassLimits}
use Rattle.hw_draft.specs.Passages.{first_leaving, leaves_just, passage_of, passages}
use Rattle.hw_draft.proofs.Passes.{left_is}

module _ (p : Parts) (h : TideParts) (slot : ℕ) (draft : ℤ) where
  -- what was found is a passage that leaves just this draft
  record Finds (route : List Pass) (found : Option Passage) : Type 0 where
    limit : Passage
    is : found ≡ Some limit
    leaves : LeavesJust p h route slot draft limit

  before : (first : Pass) (more : List Pass) (m : Passage) (l : LeavesJust p h more slot draft m) → (draft_at p h slot first ≡ draft → ⊥) → (i : ℕ) → i < suc l.passed.0 → draft_at p h slot (get_or (first ∷ more) i l.pass) ≡ draft → ⊥
  before first more m l other zero lt e = other e
  before first more m l other (suc i) lt e = l.first i (omega (arith, lt)) e

  after : (first : Pass) (more : List Pass) (found : Option Passage) → (draft_at p h slot first ≡ draft → ⊥) → Finds more found → Finds (first ∷ more) found
  after first more found other f = record {
    limit = f.limit;
    is = f.is;
    leaves = record {
      pass = f.leaves.pass;
      passed = (suc f.leaves.passed.0, omega (arith, f.leaves.passed.1), f.leaves.passed.2);
      is = f.leaves.is;
      leaves = f.leaves.leaves;
      first = before first more f.limit f.leaves other;
    };
  }

  leaves_is : (pass : Pass) → leaves_just draft (passage_of p h slot pass) ≡ true → draft_at p h slot pass ≡ draft
  unfolding leaves_just
  leaves_is pass e = sym (left_is p h slot pass) ∙ (Decides-int_eq (passage_of p h slot pass).left draft).0 e

  is_leaves : (pass : Pass) → draft_at p h slot pass ≡ draft → leaves_just draft (passage_of p h slot pass) ≡ true
  unfolding leaves_just
  is_leaves pass e = (Decides-int_eq (passage_of p h slot pass).left draft).1 (left_is p h slot pass ∙ e)

  no_start : (pass : Pass) (i : ℕ) → i < 0 → draft_at p h slot pass ≡ draft → ⊥
  no_start pass i lt e = absurd (omega (arith, lt))

  finds_by : (b : Bool) (first : Pass) (more : List Pass) → leaves_just draft (passage_of p h slot first) ≡ b → (b ≡ false → Finds more (first_leaving draft (passages p h slot more))) → Finds (first ∷ more) (cond b (Some (passage_of p h slot first)) (first_leaving draft (passages p h slot more)))
  finds_by true first more e rest = record {
    limit = passage_of p h slot first;
    is = refl;
    leaves = record { pass = first; passed = (0, omega arith, refl); is = refl; leaves = leaves_is first e; first = λ i lt. no_start (get_or (first ∷ more) i first) i lt };
  }
  finds_by false first more e rest = after first more (first_leaving draft (passages p h slot more)) (λ same. let yes = is_leaves first same in absurd cc) (rest refl)

  finds_at : (route : List Pass) (pass : Pass) (k : ℕ) → k < length route → get_or route k pass ≡ pass → draft_at p h slot pass ≡ draft → Finds route (first_leaving draft (passages p h slot route))
  finds_at [] pass k lt e d = absurd (omega (arith, lt))
  finds_at (first ∷ more) pass zero lt e d = finds_by (leaves_just draft (passage_of p h slot first)) first more refl (λ no. let yes = is_leaves first (ap (draft_at p h slot) e ∙ d) in absurd cc)
  finds_at (first ∷ more) pass (suc k) lt e d = finds_by (leaves_just draft (passage_of p h slot first)) first more refl (λ no. finds_at more pass k (omega (arith, lt)) e d)

pub limits_law : SomePassLimits
limits_law = λ p h s slot draft a.
    let f = finds_at p h slot draft s.route a.met.0 a.met.1.0 a.met.1.1 a.met.1.2 a.met.2 in
    record {
      limit = f.limit;
      is = ap (option_and_then (λ d. first_leaving d (passages p h slot s.route))) ((least_draft_law p h s slot draft).1 a) ∙ f.is;
      leaves = f.leaves;
    }
