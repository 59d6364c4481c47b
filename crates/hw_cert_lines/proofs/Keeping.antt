-- What is kept of lines, one line after another.
use Rattle.std.proofs.Common.{◌≡◌, ℕ, Bool, true, false, cond, List, [], ◌∷◌, ◌++◌, Option, Some, None, map, filter, filter_map, find, is_some, is_none, refl, sym, ap, ◌∙◌, inl, inr, arith}
use Rattle.std.proofs.lemmas.Bool.{cases_lt}
use Rattle.std.specs.List.{cons_option, list_any, range_with_len}
use Rattle.hw_model.specs.declared.lit.Lit.{Lit}
use Rattle.hw_model.specs.Problem.{Problem}
use Rattle.hw_cert_lines.specs.declared.line.Line.{Line}
use Rattle.hw_cert_lines.specs.declared.line.Line.TheVariants as lines
use Rattle.hw_cert_lines.specs.Lines.{clause_count, deletes, live, live_numbers, DeletesEarlier, best_of}
use Rattle.hw_cert_lines.specs.Valid.{Valid, hinted, verdict, verdict_by}
use Rattle.hw_cert_lines.specs.Kept.{NumberedClause, clause_under, with_number, kept_of, kept_after}
use Rattle.hw_cert_lines.specs.Refusals.{first_dead, named}
use Rattle.hw_cert_lines.proofs.Pushed.{live_past}
use Rattle.hw_cert_lines.proofs.Closed.{closed_from}
use Rattle.hw_cert_lines.proofs.Numbers.{numbered, unfound, unfound_past, found}
use Rattle.hw_cert_lines.proofs.KeptAfter.{clause_kept, table_kept, delete_kept, toll_kept, tariff_kept, bound_kept}

at_zero : (all : List Line) → live all 0 ≡ None
at_zero all = either (list_any (deletes 0) all) None refl
  where
    either : (b : Bool) (o : Option (List Lit)) → o ≡ None → cond b None o ≡ None
    either true o e = refl
    either false o e = e

pub kept_live : (f : Problem) (all : List Line) (id : ℕ) → clause_under (kept_of f all).live id ≡ live all id
kept_live f all id = elim (cases_lt 0 id) [
  | inr le ↦
      let is : id ≡ 0 = omega (arith, le) in
      unfound (live all) id 1 (clause_count all) (omega (arith, is)) ∙ sym (ap (live all) is ∙ at_zero all)
  | inl lt ↦ elim (cases_lt (clause_count all) id) [
    | inr le ↦ found (live all) id 1 (clause_count all) (omega (arith, lt)) (omega (arith, le))
    | inl past ↦ unfound_past (live all) id 1 (clause_count all) (omega (arith, past)) ∙ sym (live_past all id past)
  ]
]

-- ---- hints and numbers to be deleted

find_same : (p q : ℕ → Bool) (xs : List ℕ) → ((x : ℕ) → p x ≡ q x) → find p xs ≡ find q xs
find_same p q [] e = refl
find_same p q (x ∷ xs) e = ap (λ b. cond b (Some x) (find p xs)) (e x) ∙ ap (λ o. cond (q x) (Some x) o) (find_same p q xs e)

filter_map_same : {Y : Type 0} (g h : ℕ → Option Y) (xs : List ℕ) → ((x : ℕ) → g x ≡ h x) → filter_map g xs ≡ filter_map h xs
filter_map_same g h [] e = refl
filter_map_same g h (x ∷ xs) e = ap (λ o. cons_option o (filter_map g xs)) (e x) ∙ ap (λ ys. cons_option (h x) ys) (filter_map_same g h xs e)

pub same_dead : (f : Problem) (before : List Line) (ids : List ℕ) → first_dead (kept_of f before).live ids ≡ find (λ id. is_none (live before id)) ids
same_dead f before ids = find_same _ _ ids (λ id. ap is_none (kept_live f before id))

pub same_named : (f : Problem) (before : List Line) (ids : List ℕ) → named (kept_of f before).live ids ≡ hinted before ids
same_named f before ids = filter_map_same (clause_under (kept_of f before).live) (live before) ids (λ id. kept_live f before id)

-- ---- the numbers

numbers_of : (g : ℕ → Option (List Lit)) (ids : List ℕ) → map (λ (one : NumberedClause). one.id) (numbered g ids) ≡ filter (λ id. is_some (g id)) ids
numbers_of g [] = refl
numbers_of g (id ∷ ids) = by (g id) (numbers_of g ids)
  where
    by : (o : Option (List Lit)) → map (λ (one : NumberedClause). one.id) (numbered g ids) ≡ filter (λ id. is_some (g id)) ids → map (λ (one : NumberedClause). one.id) (cons_option (with_number id o) (numbered g ids)) ≡ cond (is_some o) (id ∷ filter (λ id. is_some (g id)) ids) (filter (λ id. is_some (g id)) ids)
    by None rest = rest
    by (Some lits) rest = ap (λ xs. id ∷ xs) rest

pub kept_numbers : (f : Problem) (all : List Line) → map (λ one. one.id) (kept_of f all).live ≡ live_numbers all
kept_numbers f all = numbers_of (live all) (range_with_len 1 (clause_count all))

-- ---- one more line

pub kept_pushed : (f : Problem) (before : List Line) (line : Line) → DeletesEarlier before → kept_of f (before ++ line ∷ []) ≡ kept_after f (kept_of f before) line
kept_pushed f before (lines.Table table) earlier = table_kept f before table
kept_pushed f before (lines.Explain n clause) earlier = clause_kept f before (lines.Explain n clause) clause earlier refl
kept_pushed f before (lines.Order v w x clause) earlier = clause_kept f before (lines.Order v w x clause) clause earlier refl
kept_pushed f before (lines.Goal clause) earlier = clause_kept f before (lines.Goal clause) clause earlier refl
kept_pushed f before (lines.Lemma clause hints) earlier = clause_kept f before (lines.Lemma clause hints) clause earlier refl
kept_pushed f before (lines.Delete ids) earlier = delete_kept f before ids
kept_pushed f before (lines.Toll toll) earlier = toll_kept f before (lines.Toll toll) toll refl
kept_pushed f before (lines.Tariff tariff) earlier = tariff_kept f before tariff
kept_pushed f before (lines.Priced clause) earlier = clause_kept f before (lines.Priced clause) clause earlier refl
kept_pushed f before (lines.Bound bound) earlier = bound_kept f before bound

-- ---- the verdict

pub kept_verdict : (f : Problem) (all : List Line) → Valid f all → verdict f all ≡ verdict_by (kept_of f all).closed (kept_of f all).best
kept_verdict f all valid = ap (λ b. verdict_by b (best_of f all)) (closed_from f all [] valid refl)
