-- What two lists of lines have in common, and what both say of live clauses.
use Rattle.std.proofs.Common.{◌≡◌, ℕ, zero, suc, ◌<◌, ◌==◌, true, false, ◌||◌, cond, List, [], ◌∷◌, ◌++◌, None, slice_get, All, IsSome, refl, sym, ap, ◌∙◌, subst, append-nil}
use Rattle.std.proofs.lemmas.Bool.{or_from, ne_eqb}
use Rattle.std.proofs.lemmas.List.Elements.{All-head, All-tail, All-weaker}
use Rattle.std.proofs.lemmas.List.Folds.{list_any-append, list_any_none}
use Rattle.std.specs.List.{cons_option, list_any}
use Rattle.hw_cert_lines.specs.declared.line.Line.{Line}
use Rattle.hw_cert_lines.specs.declared.line.Line.TheVariants as lines
use Rattle.hw_cert_lines.specs.Lines.{clause_of, clauses_of, clause_count, clause_at, deletes, live, table_after, last_table, is_end, is_closed}
use Rattle.hw_cert_lines.specs.Tolled.{toll_of, tolls_of, tariff_after, tariff_of, bound_after, bound_of}
use Rattle.hw_cert_lines.specs.Valid.{hinted}
use Rattle.hw_cert_lines.proofs.Pushed.{last_push, clauses_push, tolls_push, same_tolls, tariff_push, bound_push, or_false}
use Rattle.hw_cert_laws.specs.Renewing.{is_hint_of, deletion}
use Rattle.hw_cert_laws.proofs.Naming.{some_live}

-- ---- what two lists of lines have in common

pub record Same (before made : List Line) : Type 0 where
  pub clauses : clauses_of made ≡ clauses_of before
  pub table : last_table made ≡ last_table before
  pub closed : is_closed made ≡ is_closed before
  pub tolls : tolls_of made ≡ tolls_of before
  pub tariff : tariff_of made ≡ tariff_of before
  pub bound : bound_of made ≡ bound_of before

pub same_itself : (made : List Line) → Same made made
same_itself made = record { clauses = refl; table = refl; closed = refl; tolls = refl; tariff = refl; bound = refl }

pub same_back : (before made : List Line) → Same before made → Same made before
same_back before made same = record { clauses = sym same.clauses; table = sym same.table; closed = sym same.closed; tolls = sym same.tolls; tariff = sym same.tariff; bound = sym same.bound }

pub same_chain : (a b c : List Line) → Same a b → Same b c → Same a c
same_chain a b c first second = record {
  clauses = second.clauses ∙ first.clauses;
  table = second.table ∙ first.table;
  closed = second.closed ∙ first.closed;
  tolls = second.tolls ∙ first.tolls;
  tariff = second.tariff ∙ first.tariff;
  bound = second.bound ∙ first.bound;
}

pub closed_push : (before : List Line) (line : Line) → is_closed (before ++ line ∷ []) ≡ (is_closed before || is_end (clause_of line))
closed_push before line = list_any-append (λ line. is_end (clause_of line)) before (line ∷ []) ∙ ap (λ b. is_closed before || b) (or_false (is_end (clause_of line)))

pub same_push : (before made : List Line) (line : Line) → Same before made → Same (before ++ line ∷ []) (made ++ line ∷ [])
same_push before made line same = record {
  clauses = clauses_push made line ∙ ap (λ clauses. clauses ++ cons_option (clause_of line) []) same.clauses ∙ sym (clauses_push before line);
  table = last_push made line ∙ ap (λ last. table_after last line) same.table ∙ sym (last_push before line);
  closed = closed_push made line ∙ ap (λ b. b || is_end (clause_of line)) same.closed ∙ sym (closed_push before line);
  tolls = tolls_push made line ∙ ap (λ held. held ++ cons_option (toll_of line) []) same.tolls ∙ sym (tolls_push before line);
  tariff = tariff_push made line ∙ ap (λ last. tariff_after last line) same.tariff ∙ sym (tariff_push before line);
  bound = bound_push made line ∙ ap (λ last. bound_after last line) same.bound ∙ sym (bound_push before line);
}

pub same_deleted : (before : List Line) (ids : List ℕ) → Same before (before ++ lines.Delete ids ∷ [])
same_deleted before ids = record {
  clauses = clauses_push before (lines.Delete ids) ∙ append-nil (clauses_of before);
  table = last_push before (lines.Delete ids);
  closed = closed_push before (lines.Delete ids) ∙ or_false (is_closed before);
  tolls = same_tolls before (lines.Delete ids) refl;
  tariff = tariff_push before (lines.Delete ids);
  bound = bound_push before (lines.Delete ids);
}

pub same_deletion : (made : List Line) (ids : List ℕ) → Same made (made ++ deletion ids)
same_deletion made [] = subst (Same made) (sym (append-nil made)) (same_itself made)
same_deletion made (id ∷ ids) = same_deleted made (id ∷ ids)

-- ---- lines that don't delete a number

abbrev pub Spares : List Line → ℕ → Type 0
Spares made id = list_any (deletes id) made ≡ false

pub spares_more : (made more : List Line) (id : ℕ) → Spares made id → Spares more id → Spares (made ++ more) id
spares_more made more id a b = list_any-append (deletes id) made more ∙ or_from _ _ a b

none_is : (ids : List ℕ) (id : ℕ) → All (λ k. k ≡ id → ⊥) ids → list_any (λ other. other == id) ids ≡ false
none_is ids id all = list_any_none (λ other. other == id) ids (All-weaker (λ k. k ≡ id → ⊥) (λ k. (k == id) ≡ false) (λ k ne. ne_eqb k id ne) ids all)

pub spares_deletion : (ids : List ℕ) (id : ℕ) → All (λ k. k ≡ id → ⊥) ids → Spares (deletion ids) id
spares_deletion [] id all = refl
spares_deletion (k ∷ ids) id all = or_from _ _ (none_is (k ∷ ids) id all) refl

-- the new lines have what the old ones so far have, and delete no number that is named later or not given yet
pub record Keeps (before made later : List Line) : Type 0 where
  pub same : Same before made
  pub named : (id : ℕ) → is_hint_of later id ≡ true → Spares made id
  pub fresh : (id : ℕ) → clause_count before < id → Spares made id

-- ---- live clauses

pub at_same : (before made : List Line) (id : ℕ) → clauses_of made ≡ clauses_of before → clause_at made id ≡ clause_at before id
at_same before made zero e = refl
at_same before made (suc n) e = ap (λ clauses. slice_get clauses n) e

pub spared_live : (made : List Line) (id : ℕ) → Spares made id → live made id ≡ clause_at made id
spared_live made id e = ap (λ b. cond b None (clause_at made id)) e

pub same_live : (before made : List Line) (id : ℕ) → Same before made → Spares made id → IsSome (live before id) → live made id ≡ live before id
same_live before made id same spares some = spared_live made id spares ∙ at_same before made id same.clauses ∙ sym (some_live before id some)

pub hinted_same : (before made : List Line) (hints : List ℕ) → All (λ id. live made id ≡ live before id) hints → hinted made hints ≡ hinted before hints
hinted_same before made [] all = refl
hinted_same before made (id ∷ hints) all =
    ap (λ o. cons_option o (hinted made hints)) (All-head (λ id. live made id ≡ live before id) id hints all)
    ∙ ap (cons_option (live before id)) (hinted_same before made hints (All-tail (λ id. live made id ≡ live before id) id hints all))
