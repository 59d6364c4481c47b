-- A clause holds since its denial is refuted: by a source, by prices or by a replay.
use Rattle.std.proofs.Common.{◌≡◌, ℕ, zero, suc, ◌<◌, ◌≤◌, true, List, [], ◌∷◌, Option, Some, None, All, IfSome, IsSomeAnd, IsTrue, sym, subst, arith, inl, inr}
use Rattle.std.proofs.lemmas.Bool.{ltb-true, cases_Bool, cond_both}
use Rattle.std.proofs.lemmas.List.Elements.{All-nil, All-cons, All-weaker}
use Rattle.std.specs.List.{cons_option, list_any}
use Rattle.hw_model.specs.declared.lit.Lit.{Lit}
use Rattle.hw_model.specs.declared.source.Source.{Source}
use Rattle.hw_model.specs.Problem.{Problem, shape_of}
use Rattle.hw_model.specs.Limits.{IsFlat}
use Rattle.hw_model.specs.Timetables.{Permits, cargo, beats}
use Rattle.hw_model.specs.Lits.{clause_holds, IsClause, IsLitOf}
use Rattle.hw_model.specs.Refuting.{Refutes, IsSourceOf}
use Rattle.hw_model.specs.Replay.{replay, conflict}
use Rattle.hw_model_laws.proofs.Counting.{at_place}
use Rattle.hw_model_laws.proofs.Denials.{denied_law}
use Rattle.hw_model_laws.proofs.Sound.{sound}
use Rattle.hw_model_laws.proofs.Replayed.{no_conflict_inside}
use Rattle.hw_lits.proofs.Forms.{lits_from}
use Rattle.hw_price_laws.specs.declared.tariff.Tariff.{Tariff}
use Rattle.hw_price_laws.specs.declared.toll.Toll.{Toll}
use Rattle.hw_price_laws.specs.Prices.{PricesRefute}
use Rattle.hw_price_laws.specs.Tolls.{IsToll}
use Rattle.hw_price_laws.proofs.Sound.{most_cargo}
use Rattle.hw_cert_lines.specs.declared.line.Line.{Line}
use Rattle.hw_cert_lines.specs.Lines.{clauses_of, live, clause_at, deletes}
use Rattle.hw_cert_lines.specs.Valid.{denied_room, hinted}
use Rattle.hw_cert_laws.proofs.Denied.{denied_full, denied_ships}

-- ---- a clause that holds since its denial is refuted

not_above : (c : ℕ) (best : Option ℕ) → IsTrue (beats c best) → IsSomeAnd best (λ b. c ≤ b) → ⊥
not_above c None e h = absurd h
not_above c (Some b) e h =
    let lt : b < c = ltb-true _ _ e in
    let le : c ≤ b = h in
    omega (arith, lt, le)

pub by_source : (f : Problem) (source : Source) (best : Option ℕ) (clause : List Lit) (table : List ℕ) (c : ℕ) → IsFlat f → IsSourceOf f source → IsClause (shape_of f) clause → Refutes f source best (denied_room f clause) → Permits f table → cargo f table ≡ Some c → IsTrue (beats c best) → clause_holds table clause ≡ true
by_source f source best clause table c flat of is refutes permits e above = elim (cases_Bool (clause_holds table clause)) [
  | inl holds ↦ holds
  | inr fails ↦
      let inside = (denied_law f clause table is permits.listed).1 fails in
      let full = denied_full (shape_of f) clause in
      absurd (not_above c best above (sound f source best (denied_room f clause) table c flat.each_rule (denied_ships (shape_of f) clause) (full.each_ship) of refutes inside permits e))
]

pub by_prices : (f : Problem) (tolls : List Toll) (tariff : Tariff) (best : Option ℕ) (clause : List Lit) (table : List ℕ) (c : ℕ) → IsFlat f → All (IsToll f) tolls → IsClause (shape_of f) clause → PricesRefute f tolls tariff best (denied_room f clause) → Permits f table → cargo f table ≡ Some c → IsTrue (beats c best) → clause_holds table clause ≡ true
by_prices f tolls tariff best clause table c flat all is refuted permits e above = elim (cases_Bool (clause_holds table clause)) [
  | inl holds ↦ holds
  | inr fails ↦
      let inside = (denied_law f clause table is permits.listed).1 fails in
      absurd (not_above c best above (most_cargo f tolls tariff best (denied_room f clause) table c flat all (denied_ships (shape_of f) clause) refuted inside permits e))
]

-- what holds of every clause holds of a live one
live_one : (P : List Lit → Type 0) (before : List Line) (id : ℕ) → All P (clauses_of before) → IfSome (live before id) P
live_one P before id all = cond_both (list_any (deletes id) before) None (clause_at before id) (λ o. IfSome o P) (λ e. tt) (λ e. at_number P before id all)
  where
    at_number : (P : List Lit → Type 0) (before : List Line) (id : ℕ) → All P (clauses_of before) → IfSome (clause_at before id) P
    at_number P before zero all = tt
    at_number P before (suc n) all = at_place P (clauses_of before) n all

pub add_some : (P : List Lit → Type 0) (o : Option (List Lit)) (more : List (List Lit)) → IfSome o P → All P more → All P (cons_option o more)
add_some P None more h all = all
add_some P (Some x) more h all = All-cons P x more h all

pub all_hinted : (P : List Lit → Type 0) (before : List Line) (hints : List ℕ) → All P (clauses_of before) → All P (hinted before hints)
all_hinted P before [] all = All-nil P
all_hinted P before (id ∷ hints) all = add_some P (live before id) (hinted before hints) (live_one P before id all) (all_hinted P before hints all)

pub by_replay : (f : Problem) (before : List Line) (clause : List Lit) (hints : List ℕ) (table : List ℕ) → IsClause (shape_of f) clause → All (IsClause (shape_of f)) (clauses_of before) → replay (denied_room f clause) (hinted before hints) ≡ conflict → Permits f table → All (λ clause. IsTrue (clause_holds table clause)) (clauses_of before) → clause_holds table clause ≡ true
by_replay f before clause hints table is clauses ends permits all = elim (cases_Bool (clause_holds table clause)) [
  | inl holds ↦ holds
  | inr fails ↦
      let inside = (denied_law f clause table is permits.listed).1 fails in
      let lits : All (All (IsLitOf f.ships)) (hinted before hints) = all_hinted (All (IsLitOf f.ships)) before hints (All-weaker (IsClause (shape_of f)) (All (IsLitOf f.ships)) (λ clause e. lits_from (shape_of f) clause 0 None e) (clauses_of before) clauses) in
      let lits' : All (All (IsLitOf (denied_room f clause).ships)) (hinted before hints) = subst (λ n. All (All (IsLitOf n)) (hinted before hints)) (sym (denied_ships (shape_of f) clause)) lits in
      absurd (no_conflict_inside table (hinted before hints) (denied_room f clause) 0 (denied_full (shape_of f) clause) lits' inside (all_hinted (λ clause. IsTrue (clause_holds table clause)) before hints all) ends)
]
