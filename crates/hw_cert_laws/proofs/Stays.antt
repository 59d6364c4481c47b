-- A line that stays is valid after the new lines.
use Rattle.std.proofs.Common.{◌≡◌, ℕ, ◌+◌, ◌^◌, ◌<◌, ◌≤◌, ◌==◌, true, List, [], ◌∷◌, ◌++◌, Option, length, option_and_then, All, IsSome, IfSome, IsSomeAnd, refl, sym, ap, ◌∙◌, subst, arith}
use Rattle.std.proofs.lemmas.Bool.{or_left, or_right}
use Rattle.std.specs.List.{list_any}
use Rattle.hw_model.specs.declared.lit.Lit.{Lit}
use Rattle.hw_model.specs.Problem.{Problem}
use Rattle.hw_model.specs.Timetables.{cargo}
use Rattle.hw_model.specs.Replay.{replay}
use Rattle.hw_price_laws.specs.declared.tariff.Tariff.{Tariff}
use Rattle.hw_price_laws.specs.declared.toll.Toll.{Toll}
use Rattle.hw_price_laws.specs.Prices.{PricesRefute, PricesBound}
use Rattle.hw_cert_lines.specs.declared.line.Line.{Line}
use Rattle.hw_cert_lines.specs.declared.line.Line.TheVariants as lines
use Rattle.hw_cert_lines.specs.Lines.{clause_of, live, best_of}
use Rattle.hw_price_laws.specs.declared.tariff.Due.{Due}
use Rattle.hw_cert_lines.specs.Tolled.{tolls_of, tariff_of, bound_of}
use Rattle.hw_cert_lines.specs.Valid.{ValidAfter, Holds, denied_room}
use Rattle.hw_cert_lines.proofs.Deleted.{count_more}
use Rattle.hw_cert_laws.specs.Renewing.{undeleting}
use Rattle.hw_cert_laws.proofs.Naming.{among_all}
use Rattle.hw_cert_laws.proofs.Alike.{Same, same_push, Spares, spares_more, Keeps, same_live, hinted_same}

-- ---- a line that stays

pub best_same : (f : Problem) (before made : List Line) → Same before made → best_of f made ≡ best_of f before
best_same f before made same = ap (option_and_then (cargo f)) same.table

lemma_holds : (f : Problem) (before made later : List Line) (clause : List Lit) (hints : List ℕ) → Keeps before made (lines.Lemma clause hints ∷ later) → Holds f before (lines.Lemma clause hints) → Holds f made (lines.Lemma clause hints)
lemma_holds f before made later clause hints keeps claim =
    let named : All (λ id. list_any (λ hint. hint == id) hints ≡ true) hints = among_all hints in
    let alike : All (λ id. live made id ≡ live before id) hints = λ k d lt. same_live before made _ keeps.same (keeps.named _ (or_left _ _ (named k d lt))) (claim.0 k d lt) in
    (λ k d lt. subst IsSome (sym (alike k d lt)) (claim.0 k d lt), ap (replay (denied_room f clause)) (hinted_same before made hints alike) ∙ claim.1)

-- what is said of the tolls, the tariff, the best and the bound
alike : (f : Problem) (before made : List Line) (P : List Toll → Option Tariff → Option ℕ → Option ℕ → Type 0) → Same before made → P (tolls_of before) (tariff_of before) (best_of f before) (bound_of before) → P (tolls_of made) (tariff_of made) (best_of f made) (bound_of made)
alike f before made P same h =
    subst (λ held. P held (tariff_of made) (best_of f made) (bound_of made)) (sym same.tolls)
    (subst (λ tariff. P (tolls_of before) tariff (best_of f made) (bound_of made)) (sym same.tariff)
    (subst (λ best. P (tolls_of before) (tariff_of before) best (bound_of made)) (sym (best_same f before made same))
    (subst (λ bound. P (tolls_of before) (tariff_of before) (best_of f before) bound) (sym same.bound) h)))

-- what a line claims holds after the new lines too, unless it is a deletion
still_holds : (f : Problem) (before made later : List Line) (line : Line) → undeleting line ≡ line ∷ [] → Keeps before made (line ∷ later) → Holds f before line → Holds f made line
still_holds f before made later (lines.Table table) stays keeps claim = (claim.0, rw (best_same f before made keeps.same) claim.1)
still_holds f before made later (lines.Explain n clause) stays keeps claim = rw (best_same f before made keeps.same) claim
still_holds f before made later (lines.Order v w x clause) stays keeps claim = claim
still_holds f before made later (lines.Goal clause) stays keeps claim = rw (best_same f before made keeps.same) claim
still_holds f before made later (lines.Lemma clause hints) stays keeps claim = lemma_holds f before made later clause hints keeps claim
still_holds f before made later (lines.Delete ids) stays keeps claim = absurd cc
still_holds f before made later (lines.Toll toll) stays keeps claim = (subst (λ held. length held < 10_000) (sym keeps.same.tolls) claim.0, claim.1)
still_holds f before made later (lines.Tariff tariff) stays keeps claim = subst (λ held. All (λ (due : Due). due.toll ≤ length held) tariff.dues) (sym keeps.same.tolls) claim
still_holds f before made later (lines.Priced clause) stays keeps claim =
    alike f before made (λ held tariff best bound. IsSomeAnd tariff (λ prices. PricesRefute f held prices best (denied_room f clause))) keeps.same claim
still_holds f before made later (lines.Bound most) stays keeps claim =
    alike f before made (λ held tariff best bound. IsSomeAnd tariff (λ prices. (1 ≤ prices.scale) × PricesBound f held prices most) × IfSome bound (λ last. most < last)) keeps.same claim

pub still_valid : (f : Problem) (before made later : List Line) (line : Line) → undeleting line ≡ line ∷ [] → Keeps before made (line ∷ later) → ValidAfter f before line → ValidAfter f made line
still_valid f before made later line stays keeps valid = record {
  goes_on = keeps.same.closed ∙ valid.goes_on;
  numbered = subst (λ n. IfSome (clause_of line) (λ clause. n + 1 < 2 ^ 32)) (sym (ap length keeps.same.clauses)) valid.numbered;
  claim = still_holds f before made later line stays keeps valid.claim;
}

pub spares_line : (line : Line) (id : ℕ) → undeleting line ≡ line ∷ [] → Spares (line ∷ []) id
spares_line (lines.Table table) id stays = refl
spares_line (lines.Explain n clause) id stays = refl
spares_line (lines.Order v w x clause) id stays = refl
spares_line (lines.Goal clause) id stays = refl
spares_line (lines.Lemma clause hints) id stays = refl
spares_line (lines.Delete ids) id stays = absurd cc
spares_line (lines.Toll toll) id stays = refl
spares_line (lines.Tariff tariff) id stays = refl
spares_line (lines.Priced clause) id stays = refl
spares_line (lines.Bound bound) id stays = refl

pub keeps_push : (before made later : List Line) (line : Line) → undeleting line ≡ line ∷ [] → Keeps before made later → Keeps (before ++ line ∷ []) (made ++ line ∷ []) later
keeps_push before made later line stays keeps = record {
  same = same_push before made line keeps.same;
  named = λ id e. spares_more made (line ∷ []) id (keeps.named id e) (spares_line line id stays);
  fresh = λ id lt. spares_more made (line ∷ []) id (keeps.fresh id (omega (arith, lt, count_more before line))) (spares_line line id stays);
}

-- fewer lines are to come
pub keeps_fewer : (before made later : List Line) (line : Line) → Keeps before made (line ∷ later) → Keeps before made later
keeps_fewer before made later line keeps = record {
  same = keeps.same;
  named = λ id e. keeps.named id (or_right _ _ e);
  fresh = keeps.fresh;
}
