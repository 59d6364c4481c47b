-- Valid lines delete only numbers that clause lines have.
use Rattle.std.proofs.Common.{◌≡◌, ℕ, ◌<◌, ◌≤◌, ◌==◌, Bool, true, false, ◌||◌, List, [], ◌∷◌, ◌++◌, Option, Some, None, length, All, IsSome, refl, sym, ap, ◌∙◌, subst, inl, inr, arith, length-append, append_assoc, append-nil}
use Rattle.std.proofs.lemmas.Bool.{cases_lt, ne_eqb}
use Rattle.std.proofs.lemmas.List.Elements.{All-nil, All-cons, All-head, All-tail}
use Rattle.std.proofs.lemmas.List.Folds.{list_any-append}
use Rattle.std.specs.List.{cons_option, list_any}
use Rattle.hw_model.specs.declared.lit.Lit.{Lit}
use Rattle.hw_model.specs.Problem.{Problem}
use Rattle.hw_cert_lines.specs.declared.line.Line.{Line}
use Rattle.hw_cert_lines.specs.declared.line.Line.TheVariants as lines
use Rattle.hw_cert_lines.specs.Lines.{clause_of, clauses_of, clause_count, live, deletes, DeletesEarlier}
use Rattle.hw_cert_lines.specs.Valid.{ValidAfter, ValidFrom, Valid}
use Rattle.hw_cert_lines.proofs.Pushed.{clauses_push, live_past}

-- a live number is one of a clause line
pub live_in : (before : List Line) (id : ℕ) → IsSome (live before id) → id ≤ clause_count before
live_in before id some = elim (cases_lt (clause_count before) id) [
  | inl lt ↦ absurd (none_some (live before id) (live_past before id lt) some)
  | inr le ↦ le
]
  where
    none_some : (o : Option (List Lit)) → o ≡ None → IsSome o → ⊥
    none_some None e h = cc
    none_some (Some x) e h = cc

both_false : (a b : Bool) → a ≡ false → b ≡ false → (a || (b || false)) ≡ false
both_false true b x y = absurd cc
both_false false b x y = ap (λ b. b || false) y

pub count_more : (before : List Line) (line : Line) → clause_count before ≤ clause_count (before ++ line ∷ [])
count_more before line = omega (arith, ap length (clauses_push before line), length-append (clauses_of before) (cons_option (clause_of line) []))

none_of : (ids : List ℕ) (most id : ℕ) → most < id → All (λ k. k ≤ most) ids → list_any (λ other. other == id) ids ≡ false
none_of [] most id lt all = refl
none_of (k ∷ ids) most id lt all =
    let here : k ≤ most = All-head (λ k. k ≤ most) k ids all in
    either (k == id) (list_any (λ other. other == id) ids) (ne_eqb k id (λ e. omega (arith, e, here, lt))) (none_of ids most id lt (All-tail (λ k. k ≤ most) k ids all))
  where
    either : (a b : Bool) → a ≡ false → b ≡ false → (a || b) ≡ false
    either true b x y = absurd cc
    either false b x y = y

all_in : (before : List Line) (ids : List ℕ) → All (λ id. IsSome (live before id)) ids → All (λ k. k ≤ clause_count before) ids
all_in before [] all = All-nil (λ k. k ≤ clause_count before)
all_in before (id ∷ ids) all = All-cons (λ k. k ≤ clause_count before) id ids (live_in before id (All-head (λ id. IsSome (live before id)) id ids all)) (all_in before ids (All-tail (λ id. IsSome (live before id)) id ids all))

not_deleted : (f : Problem) (before : List Line) (line : Line) (id : ℕ) → ValidAfter f before line → clause_count before < id → deletes id line ≡ false
not_deleted f before (lines.Table table) id valid lt = refl
not_deleted f before (lines.Explain n clause) id valid lt = refl
not_deleted f before (lines.Order v w x clause) id valid lt = refl
not_deleted f before (lines.Goal clause) id valid lt = refl
not_deleted f before (lines.Lemma clause hints) id valid lt = refl
not_deleted f before (lines.Toll toll) id valid lt = refl
not_deleted f before (lines.Tariff tariff) id valid lt = refl
not_deleted f before (lines.Priced clause) id valid lt = refl
not_deleted f before (lines.Bound bound) id valid lt = refl
not_deleted f before (lines.Delete ids) id valid lt = none_of ids (clause_count before) id lt (all_in before ids valid.claim)

pub earlier_more : (f : Problem) (before : List Line) (line : Line) → ValidAfter f before line → DeletesEarlier before → DeletesEarlier (before ++ line ∷ [])
earlier_more f before line valid earlier = λ id lt.
    let past : clause_count before < id = omega (arith, lt, count_more before line) in
    list_any-append (deletes id) before (line ∷ []) ∙ both_false _ _ (earlier id past) (not_deleted f before line id valid past)

earlier_from : (f : Problem) (more before : List Line) → ValidFrom f before more → DeletesEarlier before → DeletesEarlier (before ++ more)
earlier_from f [] before valid earlier = subst DeletesEarlier (sym (append-nil before)) earlier
earlier_from f (line ∷ more) before valid earlier = subst DeletesEarlier (append_assoc before (line ∷ []) more) (earlier_from f more (before ++ line ∷ []) valid.1 (earlier_more f before line valid.0 earlier))

pub valid_deletes : (f : Problem) (all : List Line) → Valid f all → DeletesEarlier all
valid_deletes f all valid = earlier_from f all [] valid (λ id lt. refl)
