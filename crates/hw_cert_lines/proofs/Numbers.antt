-- The clauses that are kept under numbers.
use Rattle.std.proofs.Common.{◌≡◌, ℕ, zero, suc, ◌+◌, ◌<◌, ◌≤◌, ◌==◌, true, false, cond, List, [], ◌∷◌, ◌++◌, Option, Some, None, filter_map, find, option_map, refl, sym, ap, ◌∙◌, inl, inr, arith}
use Rattle.std.proofs.lemmas.Bool.{cases_lt, ne_eqb, eq-eqb, eqb-true, cases_Bool}
use Rattle.std.specs.List.{cons_option, range_with_len}
use Rattle.hw_model.specs.declared.lit.Lit.{Lit}
use Rattle.hw_cert_lines.specs.Kept.{NumberedClause, clause_under, with_number}

-- ---- clauses by number

-- the clauses that a function gives the numbers from one on
abbrev pub numbered : (ℕ → Option (List Lit)) → List ℕ → List NumberedClause
numbered g ids = filter_map (λ id. with_number id (g id)) ids

pub numbered_same : (g h : ℕ → Option (List Lit)) (a n : ℕ) → ((id : ℕ) → a ≤ id → id < a + n → g id ≡ h id) → numbered g (range_with_len a n) ≡ numbered h (range_with_len a n)
numbered_same g h a zero e = refl
numbered_same g h a (suc n) e =
    ap (λ o. cons_option (with_number a o) (numbered g (range_with_len (a + 1) n))) (e a (omega arith) (omega arith))
    ∙ ap (cons_option (with_number a (h a))) (numbered_same g h (a + 1) n (λ id le lt. e id (omega (arith, le)) (omega (arith, lt))))

pub range_more : (a n : ℕ) → range_with_len a (n + 1) ≡ range_with_len a n ++ (a + n) ∷ []
range_more a zero = ap (λ k. k ∷ []) (plus_none a)
  where
    plus_none : (a : ℕ) → a ≡ a + 0
    plus_none a = omega arith
range_more a (suc n) = ap (range_with_len a) (on n) ∙ ap (λ xs. a ∷ xs) (range_more (a + 1) n ∙ ap (λ k. range_with_len (a + 1) n ++ k ∷ []) (moved a n))
  where
    on : (n : ℕ) → suc n + 1 ≡ suc (n + 1)
    on n = omega arith

    moved : (a n : ℕ) → a + 1 + n ≡ a + suc n
    moved a n = omega arith

-- none is found under a smaller number
pub unfound : (g : ℕ → Option (List Lit)) (id a n : ℕ) → id < a → clause_under (numbered g (range_with_len a n)) id ≡ None
unfound g id a zero lt = refl
unfound g id a (suc n) lt = skips (g a) (ne_eqb a id (λ e. omega (arith, e, lt))) ∙ unfound g id (a + 1) n (omega (arith, lt))
  where
    skips : (o : Option (List Lit)) → (a == id) ≡ false → clause_under (cons_option (with_number a o) (numbered g (range_with_len (a + 1) n))) id ≡ clause_under (numbered g (range_with_len (a + 1) n)) id
    skips None e = refl
    skips (Some lits) e = ap (λ b. option_map (λ (one : NumberedClause). one.clause) (cond b (Some (record { id = a; clause = lits })) (find (λ (one : NumberedClause). one.id == id) (numbered g (range_with_len (a + 1) n))))) e

-- nor under a greater one
pub unfound_past : (g : ℕ → Option (List Lit)) (id a n : ℕ) → a + n ≤ id → clause_under (numbered g (range_with_len a n)) id ≡ None
unfound_past g id a zero le = refl
unfound_past g id a (suc n) le = skips (g a) (ne_eqb a id (λ e. omega (arith, e, le))) ∙ unfound_past g id (a + 1) n (omega (arith, le))
  where
    skips : (o : Option (List Lit)) → (a == id) ≡ false → clause_under (cons_option (with_number a o) (numbered g (range_with_len (a + 1) n))) id ≡ clause_under (numbered g (range_with_len (a + 1) n)) id
    skips None e = refl
    skips (Some lits) e = ap (λ b. option_map (λ (one : NumberedClause). one.clause) (cond b (Some (record { id = a; clause = lits })) (find (λ (one : NumberedClause). one.id == id) (numbered g (range_with_len (a + 1) n))))) e

-- the clause found under a number of the range
pub found : (g : ℕ → Option (List Lit)) (id a n : ℕ) → a ≤ id → id < a + n → clause_under (numbered g (range_with_len a n)) id ≡ g id
found g id a zero le lt = absurd (omega (arith, le, lt))
found g id a (suc n) le lt = elim (cases_Bool (a == id)) [
  | inl same ↦
      let is : a ≡ id = eqb-true a id same in
      here id a n is same (g a) refl
  | inr other ↦ skipped a (g a) other ∙ found g id (a + 1) n (past a (λ e. absurd (let both = eq-eqb a id e in cc)) le) (omega (arith, lt))
]
  where
    past : (a : ℕ) → (a ≡ id → ⊥) → a ≤ id → a + 1 ≤ id
    past a ne le = elim (cases_lt a id) [
      | inl lt ↦ omega (arith, lt)
      | inr ge ↦ absurd (ne (omega (arith, ge, le)))
    ]

    skipped : (a : ℕ) (o : Option (List Lit)) → (a == id) ≡ false → clause_under (cons_option (with_number a o) (numbered g (range_with_len (a + 1) n))) id ≡ clause_under (numbered g (range_with_len (a + 1) n)) id
    skipped a None e = refl
    skipped a (Some lits) e = ap (λ b. option_map (λ (one : NumberedClause). one.clause) (cond b (Some (record { id = a; clause = lits })) (find (λ (one : NumberedClause). one.id == id) (numbered g (range_with_len (a + 1) n))))) e

    here : (id a n : ℕ) → a ≡ id → (a == id) ≡ true → (o : Option (List Lit)) → g a ≡ o → clause_under (cons_option (with_number a o) (numbered g (range_with_len (a + 1) n))) id ≡ g id
    here id a n is same (Some lits) e = ap (λ b. option_map (λ (one : NumberedClause). one.clause) (cond b (Some (record { id = a; clause = lits })) (find (λ (one : NumberedClause). one.id == id) (numbered g (range_with_len (a + 1) n))))) same ∙ sym e ∙ ap g is
    here id a n is same None e = unfound g id (a + 1) n (omega (arith, is)) ∙ sym e ∙ ap g is
