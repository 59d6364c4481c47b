-- What a search holds is true of each permitted timetable that beats its best.
use Rattle.std.proofs.Common.{◌≡◌, ℕ, true, List, [], ◌∷◌, ◌++◌, Option, Some, None, map, filter_map, option_and_then, All, IfSome, IsSome, IsTrue, refl, sym, ap, ◌∙◌, subst, inl, inr}
use Rattle.std.proofs.lemmas.Bool.{lt-ltb, cases_Bool, cases_lt}
use Rattle.std.proofs.lemmas.List.Elements.{All-nil, All-cons, All-append, All-weaker, All-head, All-tail, All-contains}
use Rattle.hw_model.specs.declared.lit.Lit.{Lit}
use Rattle.hw_model.specs.Problem.{shape_of}
use Rattle.hw_model.specs.Timetables.{Permits, cargo, beats}
use Rattle.hw_model.specs.Lits.{clause_holds, IsClause}
use Rattle.hw_model.specs.Replay.{replay, conflict}
use Rattle.hw_model.specs.Lits.{IsLitOf}
use Rattle.hw_model_laws.proofs.Denials.{denied_law}
use Rattle.hw_model_laws.proofs.Replayed.{no_conflict_inside}
use Rattle.hw_model_laws.proofs.Cargoes.{has_cargo}
use Rattle.hw_lits.proofs.Forms.{lits_from}
use Rattle.hw_cert_lines.specs.Valid.{denied_room}
use Rattle.hw_cert_laws.proofs.Denied.{denied_full, denied_ships}
use Rattle.hw_cert_laws.proofs.Steps.{by_source, add_some}
use Rattle.hw_trail_laws.specs.declared.event.Why.{Why}
use Rattle.hw_trail_laws.specs.declared.event.Why.TheVariants as whys
use Rattle.hw_trail_laws.specs.Trails.{reason_clause}
use Rattle.hw_trail_laws.specs.Learning.{reason_at, chain_of, Learns}
use Rattle.hw_trail_laws.proofs.Learnt.{reason_is, reason_fits}
use Rattle.hw_search_laws.specs.declared.outcome.Settled.{Settled}
use Rattle.hw_search_laws.specs.declared.outcome.Settled.TheVariants.{Conflict}
use Rattle.hw_cert.specs.Logs.{LogModel}
use Rattle.hw_store.specs.declared.store.Stored.{Stored}
use Rattle.hw_search_laws.specs.Searches.{SearchModel, IsReason, IsSearch, OfBetter, lemmas_in, best_cargo, why_at}
use Rattle.hw_search_laws.specs.Settling.{IsConflict, Settles}
use Rattle.hw_search_laws.specs.Turns.{DoesEnd, at_conflict, at_lemma}
use Rattle.hw_search_laws.specs.Laws.{NothingBetter, EndedMeans}
use Rattle.hw_search_laws.proofs.Lines.{if_some, of_some}
use Rattle.hw_search_laws.proofs.Citing.{why_reason, why_inside, reason_why}
use Rattle.hw_search_laws.proofs.Holds.{trail_clause, trail_denied}

-- ---- reasons and conflicts

stored_all : (P : List Lit → Type 0) (stored : List Stored) → All P (map (λ (one : Stored). one.clause) stored) → All (λ (one : Stored). P one.clause) stored
stored_all P [] all = All-nil (λ (one : Stored). P one.clause)
stored_all P (x ∷ xs) all =
    let more = map (λ (one : Stored). one.clause) xs in
    All-cons (λ (one : Stored). P one.clause) x xs (All-head P x.clause more all) (stored_all P xs (All-tail P x.clause more all))

-- a clause that may be a reason or a conflict is true
pub why_true : (s : SearchModel) → IsSearch s → (why : Why) → IsClause (shape_of s.problem) (reason_clause why) → IsReason s why → OfBetter s (λ table. IsTrue (clause_holds table (reason_clause why)))
why_true s is (whys.Lemma number clause) fits holds table c permits worth above = All-contains (λ (one : Stored). IsTrue (clause_holds table one.clause)) s.stored (record { number = number; clause = clause }) (stored_all (λ clause. IsTrue (clause_holds table clause)) s.stored (is.sound table c permits worth above)) holds
why_true s is (whys.Source source clause) fits holds table c permits worth above = by_source s.problem source (best_cargo s) clause table c is.flat holds.0 fits holds.1 permits worth above
why_true s is (whys.Priced clause) fits holds table c permits worth above = holds table c permits worth above

-- what holds of each clause that may be a reason holds of the reason of each event
each_reason : (s : SearchModel) → IsSearch s → (P : List Lit → Type 0) → ((why : Why) → IsClause (shape_of s.problem) (reason_clause why) → IsReason s why → P (reason_clause why)) → (place : ℕ) → IfSome (reason_at s.trail place) P
each_reason s is P h place = if_some (reason_at s.trail place) P (λ clause e.
    let w = reason_why s.trail place (subst IsSome (sym e) refl) in
    let lt = why_inside s.trail place w.0 w.1 in
    let r : reason_at s.trail place ≡ Some (reason_clause w.0) = why_reason s.trail place w.0 w.1 in
    let fits : IsClause (shape_of s.problem) (reason_clause w.0) = trail_clause s is.same_ships is.same_slots (reason_clause w.0) (reason_fits s.trail is.trail place lt (reason_clause w.0) (sym (reason_is s.trail place lt) ∙ r)) in
    subst P (same (reason_clause w.0) clause (sym r ∙ e)) (h w.0 fits (of_some (why_at s.trail place) (IsReason s) w.0 w.1 (is.reasons place))))
  where
    same : (a b : List Lit) → Some a ≡ Some b → a ≡ b
    same a b e = cc

all_filtered : (P : List Lit → Type 0) (g : ℕ → Option (List Lit)) (places : List ℕ) → ((place : ℕ) → IfSome (g place) P) → All P (filter_map g places)
all_filtered P g [] h = All-nil P
all_filtered P g (place ∷ places) h = add_some P (g place) (filter_map g places) (h place) (all_filtered P g places h)

-- and of the reasons at places with a conflict after them
all_chain : (s : SearchModel) → IsSearch s → (P : List Lit → Type 0) → ((why : Why) → IsClause (shape_of s.problem) (reason_clause why) → IsReason s why → P (reason_clause why)) → (places : List ℕ) (clause : List Lit) → P clause → All P (chain_of s.trail places clause)
all_chain s is P h places clause p = All-append P (filter_map (reason_at s.trail) places) (clause ∷ []) (all_filtered P (reason_at s.trail) places (each_reason s is P h)) (All-cons P clause [] p (All-nil P))

-- ---- what is learnt from a conflict is true

pub lemma_true : (s : SearchModel) → IsSearch s → (why : Why) (lemma : List Lit) (back : ℕ) (places : List ℕ) → IsConflict s why → Learns s.trail (reason_clause why) lemma back places → OfBetter s (λ table. IsTrue (clause_holds table lemma))
lemma_true s is why lemma back places k learns table c permits worth above = elim (cases_Bool (clause_holds table lemma)) [
  | inl holds ↦ holds
  | inr fails ↦
      let f = s.problem in
      let chain = chain_of s.trail places (reason_clause why) in
      let fits : IsClause (shape_of f) lemma = trail_clause s is.same_ships is.same_slots lemma learns.fits in
      let inside = (denied_law f lemma table fits permits.listed).1 fails in
      let lits : All (All (IsLitOf f.ships)) chain = All-weaker (IsClause (shape_of f)) (All (IsLitOf f.ships)) (λ clause e. lits_from (shape_of f) clause 0 None e) chain (all_chain s is (IsClause (shape_of f)) (λ why fits holds. fits) places (reason_clause why) k.fits) in
      let lits' : All (All (IsLitOf (denied_room f lemma).ships)) chain = subst (λ n. All (All (IsLitOf n)) chain) (sym (denied_ships (shape_of f) lemma)) lits in
      let trues : All (λ clause. IsTrue (clause_holds table clause)) chain = all_chain s is (λ clause. IsTrue (clause_holds table clause)) (λ why fits holds. why_true s is why fits holds table c permits worth above) places (reason_clause why) (why_true s is why k.fits k.holds table c permits worth above) in
      let ends : replay (denied_room f lemma) chain ≡ conflict = subst (λ r. replay r chain ≡ conflict) (trail_denied s is.same_ships is.same_slots lemma) learns.replays in
      absurd (no_conflict_inside table chain (denied_room f lemma) 0 (denied_full (shape_of f) lemma) lits' inside trues ends)
]

-- ---- a better best, and one more lemma

pub pushed_true : (s : SearchModel) (lemma : List Lit) → OfBetter s (λ table. All (λ clause. IsTrue (clause_holds table clause)) (lemmas_in s)) → OfBetter s (λ table. IsTrue (clause_holds table lemma)) → OfBetter s (λ table. All (λ clause. IsTrue (clause_holds table clause)) (lemmas_in s ++ lemma ∷ []))
pushed_true s lemma all one table c permits worth above = All-append (λ clause. IsTrue (clause_holds table clause)) (lemmas_in s) (lemma ∷ []) (all table c permits worth above) (All-cons (λ clause. IsTrue (clause_holds table clause)) lemma [] (one table c permits worth above) (All-nil (λ clause. IsTrue (clause_holds table clause))))

-- ---- where a turn ended, nothing permitted beats the best

pub never : (table : List ℕ) → clause_holds table [] ≡ true → ⊥
never table e = cc

implied_none : (s mid : SearchModel) (settled : Settled) → Settles s mid settled → OfBetter mid (λ table. ⊥) → NothingBetter s
implied_none s mid settled m h = subst (λ (x : SearchModel). OfBetter x (λ table. ⊥) → NothingBetter s) (sym m.implies.only) (λ g. g) h

pub nothing_better : (s after : SearchModel) (old new : LogModel) → DoesEnd s after old new → NothingBetter s
nothing_better s after old new (at_conflict e) =
    implied_none s e.mid (Conflict e.why) e.settles (λ table c permits worth above. never table (subst (λ xs. clause_holds table xs ≡ true) e.none (why_true e.mid e.settles.kept e.why e.settles.ends.fits e.settles.ends.holds table c permits worth above)))
nothing_better s after old new (at_lemma e) =
    implied_none s e.mid (Conflict e.why) e.analysed.settles (λ table c permits worth above. never table (lemma_true e.mid e.analysed.settles.kept e.why [] e.back e.places e.analysed.settles.ends e.analysed.learns table c permits worth above))

pub ended_by : (s : SearchModel) → IsSearch s → NothingBetter s → EndedMeans s
ended_by s is none =
    record {
      nothing_better = none;
      optimal = λ table c e worth. record {
        permitted = of_some s.best (Permits s.problem) table e is.permitted;
        worth = worth;
        greatest = λ other d permits value. elim (cases_lt c d) [
          | inl lt ↦ absurd (none other d permits value (subst (λ o. IsTrue (beats d o)) (sym (ap (option_and_then (cargo s.problem)) e ∙ worth)) (lt-ltb _ _ lt)))
          | inr le ↦ le
        ];
      };
      infeasible = λ e table permits.
          let c = has_cargo s.problem table permits in
          none table c.0 permits c.1 (subst (λ o. IsTrue (beats c.0 o)) (sym (ap (option_and_then (cargo s.problem)) e)) refl);
    }

pub ended : (s after : SearchModel) (old new : LogModel) → IsSearch s → DoesEnd s after old new → EndedMeans s
ended s after old new is does = ended_by s is (nothing_better s after old new does)
