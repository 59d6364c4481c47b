-- What valid lines prove.
use Rattle.std.proofs.Common.{◌≡◌, ℕ, ◌≤◌, Bool, true, false, List, [], ◌∷◌, ◌++◌, Option, Some, None, fold, option_and_then, All, IfSome, IsSomeAnd, IsTrue, refl, sym, subst, inl, inr, append_assoc, append-nil}
use Rattle.std.proofs.lemmas.Bool.{lt-ltb, cases_lt}
use Rattle.std.proofs.lemmas.List.Elements.{All-nil, All-head, All-tail}
use Rattle.std.specs.List.{cons_option}
use Rattle.hw_model.specs.declared.lit.Lit.{Lit}
use Rattle.hw_model.specs.Problem.{Problem, shape_of}
use Rattle.hw_model.specs.Limits.{IsFlat}
use Rattle.hw_model.specs.Timetables.{Permits, cargo, beats, IsBest, NonePermitted}
use Rattle.hw_model.specs.Lits.{clause_holds, IsClause}
use Rattle.hw_model_laws.proofs.Cargoes.{has_cargo}
use Rattle.hw_cert_lines.specs.declared.check.Verdict.TheVariants.{Optimal, Infeasible}
use Rattle.hw_cert_lines.specs.declared.line.Line.{Line}
use Rattle.hw_cert_lines.specs.Lines.{clause_of, clauses_of, last_table, best_of, is_end, ends}
use Rattle.hw_cert_lines.specs.Tolled.{tolls_of}
use Rattle.hw_cert_lines.specs.Valid.{LineFits, ValidFrom, Valid, verdict_by, verdict}
use Rattle.hw_cert_lines.proofs.Priced.{AreTolls, no_tolls, tolls_more}
use Rattle.hw_cert_laws.proofs.Saying.{Says, says_more}

says_from : (f : Problem) (more before : List Line) → IsFlat f → All (LineFits f) more → ValidFrom f before more → AreTolls f (tolls_of before) → Says f before → Says f (before ++ more)
says_from f [] before flat fits valid are says = subst (Says f) (sym (append-nil before)) says
says_from f (line ∷ more) before flat fits valid are says =
    let step = says_more f before line flat (All-head (LineFits f) line more fits) valid.0 are.each says in
    subst (Says f) (append_assoc before (line ∷ []) more) (says_from f more (before ++ line ∷ []) flat (All-tail (LineFits f) line more fits) valid.1 (tolls_more f before line valid.0 are) step)

pub says_all : (f : Problem) (all : List Line) → IsFlat f → All (LineFits f) all → Valid f all → Says f all
says_all f all flat fits valid = says_from f all [] flat fits valid (no_tolls f) (record {
  all_true = λ table c permits e above. All-nil (λ clause. IsTrue (clause_holds table clause));
  clauses = All-nil (IsClause (shape_of f));
  permitted = tt;
})

-- what holds of every clause holds of the one without literals, where the lines end with it
end_of : (P : List Lit → Type 0) (o : Option (List Lit)) (more : List (List Lit)) → is_end o ≡ true → All P (cons_option o more) → P []
end_of P None more e all = absurd cc
end_of P (Some []) more e all = All-head P [] more all
end_of P (Some (lit ∷ rest)) more e all = absurd cc

rest_of : (P : List Lit → Type 0) (o : Option (List Lit)) (more : List (List Lit)) → All P (cons_option o more) → All P more
rest_of P None more all = all
rest_of P (Some x) more all = All-tail P x more all

at_end : (P : List Lit → Type 0) (all : List Line) (last : Bool) → fold (λ last line. is_end (clause_of line)) last all ≡ true → (last ≡ true → P []) → All P (clauses_of all) → P []
at_end P [] last e h all = h e
at_end P (line ∷ more) last e h all = at_end P more (is_end (clause_of line)) e (λ d. end_of P (clause_of line) (clauses_of more) d all) (rest_of P (clause_of line) (clauses_of more) all)

-- where the lines end with a clause without literals, nothing permitted beats the best
none_above : (f : Problem) (all : List Line) (table : List ℕ) (c : ℕ) → Says f all → ends all ≡ true → Permits f table → cargo f table ≡ Some c → IsTrue (beats c (best_of f all)) → ⊥
none_above f all table c says e permits worth above =
    let empty : clause_holds table [] ≡ true = at_end (λ clause. IsTrue (clause_holds table clause)) all false e (λ d. absurd (never d)) (says.all_true table c permits worth above) in
    absurd (never empty)
  where
    never : false ≡ true → ⊥
    never e = cc

optimal_parts : (b : Bool) (best : Option ℕ) (c : ℕ) → verdict_by b best ≡ Optimal c → (b ≡ true) × (best ≡ Some c)
optimal_parts true None c e = absurd cc
optimal_parts true (Some d) c e = (refl, cc)
optimal_parts false best c e = absurd cc

infeasible_parts : (b : Bool) (best : Option ℕ) → verdict_by b best ≡ Infeasible → (b ≡ true) × (best ≡ None)
infeasible_parts true None e = (refl, refl)
infeasible_parts true (Some d) e = absurd cc
infeasible_parts false best e = absurd cc

best_table : (f : Problem) (o : Option (List ℕ)) (c : ℕ) → IfSome o (Permits f) → option_and_then (cargo f) o ≡ Some c → ((other : List ℕ) (d : ℕ) → Permits f other → cargo f other ≡ Some d → d ≤ c) → IsSomeAnd o (λ table. IsBest f table c)
best_table f None c permits e most = absurd cc
best_table f (Some table) c permits e most = record { permitted = permits; worth = e; greatest = most }

pub optimal : (f : Problem) (all : List Line) (c : ℕ) → IsFlat f → All (LineFits f) all → Valid f all → verdict f all ≡ Optimal c → IsSomeAnd (last_table all) (λ table. IsBest f table c)
optimal f all c flat fits valid e =
    let says = says_all f all flat fits valid in
    let parts = optimal_parts (ends all) (best_of f all) c e in
    best_table f (last_table all) c says.permitted parts.1 (λ other d permits worth. elim (cases_lt c d) [
      | inl lt ↦ absurd (none_above f all other d says parts.0 permits worth (subst (λ o. IsTrue (beats d o)) (sym parts.1) (lt-ltb _ _ lt)))
      | inr le ↦ le
    ])

pub infeasible : (f : Problem) (all : List Line) → IsFlat f → All (LineFits f) all → Valid f all → verdict f all ≡ Infeasible → NonePermitted f
infeasible f all flat fits valid e =
    let says = says_all f all flat fits valid in
    let parts = infeasible_parts (ends all) (best_of f all) e in
    λ table permits.
    let c = has_cargo f table permits in
    none_above f all table c.0 says parts.0 permits c.1 (subst (λ o. IsTrue (beats c.0 o)) (sym parts.1) refl)
