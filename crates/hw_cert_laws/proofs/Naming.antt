-- Hints and the live clauses that they name.
use Rattle.std.proofs.Common.{◌≡◌, ℕ, ◌==◌, Bool, true, false, cond, List, [], ◌∷◌, Option, None, get_or, All, IsSome, refl, subst, inl, inr}
use Rattle.std.proofs.lemmas.Bool.{or_cases, eqb-true, eq-eqb}
use Rattle.std.proofs.lemmas.List.Elements.{All-head, All-tail}
use Rattle.std.proofs.lemmas.List.Folds.{list_any_at}
use Rattle.std.specs.List.{list_any}
use Rattle.hw_model.specs.declared.lit.Lit.{Lit}
use Rattle.hw_model.specs.Problem.{Problem}
use Rattle.hw_cert_lines.specs.declared.line.Line.{Line}
use Rattle.hw_cert_lines.specs.declared.line.Line.TheVariants as lines
use Rattle.hw_cert_lines.specs.Lines.{clause_at, deletes, live}
use Rattle.hw_cert_lines.specs.Valid.{ValidAfter}
use Rattle.hw_cert_laws.specs.Renewing.{has_hint}

-- what holds of each number holds of one that is among them
pub from_among : (P : ℕ → Type 0) (ids : List ℕ) (id : ℕ) → list_any (λ hint. hint == id) ids ≡ true → All P ids → P id
from_among P [] id e all = absurd cc
from_among P (k ∷ ids) id e all = elim (or_cases _ _ e) [
  | inl here ↦ subst P (eqb-true k id here) (All-head P k ids all)
  | inr later ↦ from_among P ids id later (All-tail P k ids all)
]

pub among_all : (ids : List ℕ) → All (λ id. list_any (λ hint. hint == id) ids ≡ true) ids
among_all ids = λ k d lt. list_any_at (λ hint. hint == get_or ids k d) ids k d lt (eq-eqb _ _ refl)

-- a live number is that of its clause
pub some_live : (before : List Line) (id : ℕ) → IsSome (live before id) → live before id ≡ clause_at before id
some_live before id some = either (list_any (deletes id) before) (clause_at before id) some
  where
    either : (b : Bool) (o : Option (List Lit)) → IsSome (cond b None o) → cond b None o ≡ o
    either true o some = absurd cc
    either false o some = refl

-- the hints of a valid line are live
pub hints_live : (f : Problem) (before : List Line) (line : Line) → ValidAfter f before line → (id : ℕ) → has_hint id line ≡ true → IsSome (live before id)
hints_live f before (lines.Table table) valid id e = absurd cc
hints_live f before (lines.Explain n clause) valid id e = absurd cc
hints_live f before (lines.Order v w x clause) valid id e = absurd cc
hints_live f before (lines.Goal clause) valid id e = absurd cc
hints_live f before (lines.Lemma clause hints) valid id e = from_among (λ id. IsSome (live before id)) hints id e valid.claim.0
hints_live f before (lines.Delete ids) valid id e = absurd cc
hints_live f before (lines.Toll toll) valid id e = absurd cc
hints_live f before (lines.Tariff tariff) valid id e = absurd cc
hints_live f before (lines.Priced clause) valid id e = absurd cc
hints_live f before (lines.Bound bound) valid id e = absurd cc
