-- Lines one after another: their clauses, their lemmas, and numbers that are live.
use Rattle.std.proofs.Common.{◌≡◌, ℕ, zero, suc, ◌<◌, ◌≤◌, Bool, true, false, cond, List, [], ◌∷◌, ◌++◌, None, IsSome, is_some, length, take, drop, sym, ap, subst, arith, length-append, append_assoc, append-nil}
use Rattle.std.specs.List.{cons_option, list_any}
use Rattle.std.proofs.lemmas.List.{take-append-drop}
use Rattle.std.proofs.lemmas.List.Elements.{filter_map-append}
use Rattle.hw_model.specs.Problem.{Problem}
use Rattle.hw_cert_lines.specs.declared.line.Line.{Line}
use Rattle.hw_cert_lines.specs.Lines.{clause_of, clauses_of, clause_count, clause_at, deletes, live}
use Rattle.hw_cert_lines.specs.Lemmas.{lemma_of, lemmas_of}
use Rattle.hw_cert_lines.specs.Valid.{ValidAfter, ValidFrom}

-- no clause has the number 0
pub live_above : (before : List Line) (id : ℕ) → IsSome (live before id) → 0 < id
live_above before zero some = absurd (none (list_any (deletes 0) before) some)
  where
    none : (b : Bool) → is_some (cond b None (clause_at before 0)) ≡ true → ⊥
    none true e = cc
    none false e = cc
live_above before (suc n) some = omega arith

pub valid_push : (f : Problem) (more before : List Line) (line : Line) → ValidFrom f before more → ValidAfter f (before ++ more) line → ValidFrom f before (more ++ line ∷ [])
valid_push f [] before line valid after = (subst (λ all. ValidAfter f all line) (append-nil before) after, tt)
valid_push f (first ∷ more) before line valid after = (valid.0, valid_push f more (before ++ first ∷ []) line valid.1 (subst (λ all. ValidAfter f all line) (sym (append_assoc before (first ∷ []) more)) after))

pub lemmas_push : (before : List Line) (line : Line) → lemmas_of (before ++ line ∷ []) ≡ lemmas_of before ++ cons_option (lemma_of line) []
lemmas_push before line = filter_map-append lemma_of before (line ∷ [])

pub count_front : (all : List Line) (n : ℕ) → clause_count (take n all) ≤ clause_count all
count_front all n = omega (arith, ap clause_count (take-append-drop n all), ap length (filter_map-append clause_of (take n all) (drop n all)), length-append (clauses_of (take n all)) (clauses_of (drop n all)))
