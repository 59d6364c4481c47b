-- A search without advice implies nothing by prices.
use Rattle.std.proofs.Common.{◌≡◌, ℕ, ◌+◌, Bool, true, false, cond, List, [], ◌∷◌, ◌++◌, Option, Some, None, IsSomeAnd, refl, ap, ◌∙◌}
use Rattle.hw_model.specs.declared.lit.Lit.{Lit}
use Rattle.hw_trail_laws.specs.declared.event.Why.{Why}
use Rattle.hw_trail_laws.specs.Trails.{decided}
use Rattle.hw_cert.specs.Logs.{LogModel}
use Rattle.hw_search_laws.specs.declared.outcome.Turn.{Turn}
use Rattle.hw_search_laws.specs.declared.outcome.Turn.TheVariants as turns
use Rattle.hw_search_laws.specs.Branches.{branch_literal}
use Rattle.hw_search_laws.specs.Searches.{SearchModel, room_in}
use Rattle.hw_search_laws.specs.Settling.{Implies}
use Rattle.hw_search_laws.specs.Turns.{cited, cite_conflict, with_lemma, to_level, restart_is_due, gone_back, is_last, DoesDecide, TurnDoes}
use Rattle.hw_search_laws.proofs.Stops.{numbers_kept}

gone_priced : (u : SearchModel) (back : ℕ) → (gone_back u back).priced ≡ u.priced
gone_priced u back = by (restart_is_due u)
  where
    by : (b : Bool) → (cond b (record (to_level u 0) { restarts = u.restarts + 1; since = 0 }) (record (to_level u back) { since = u.since + 1 })).priced ≡ u.priced
    by true = refl
    by false = refl

implied_priced : (s mid : SearchModel) → Implies s mid → mid.priced ≡ s.priced
implied_priced s mid h = ap (λ (x : SearchModel). x.priced) h.only

learnt_priced : (s mid : SearchModel) (why : Why) (lemma : List Lit) (back : ℕ) (places : List ℕ) → Implies s mid → (gone_back (with_lemma (cite_conflict (cited mid places) why).search lemma) back).priced ≡ s.priced
learnt_priced s mid why lemma back places h =
    let c = cite_conflict (cited mid places) why in
    gone_priced (with_lemma c.search lemma) back ∙ ap (λ (x : SearchModel). x.priced) (numbers_kept mid why places).same ∙ implied_priced s mid h

decide_priced : (s u : SearchModel) (old new : LogModel) → DoesDecide s u old new → u.priced ≡ s.priced
decide_priced s u old new h = by (branch_literal h.mid.branching h.mid.problem (room_in h.mid)) h.decides
  where
    by : (o : Option Lit) → IsSomeAnd o (λ lit. u ≡ record h.mid { trail = decided h.mid.trail lit; written = h.mid.written ++ None ∷ [] }) → u.priced ≡ s.priced
    by None d = absurd d
    by (Some lit) d = ap (λ (x : SearchModel). x.priced) d ∙ implied_priced s h.mid h.settles.implies

-- a turn that isn't the last one
pub same_priced : (turn : Turn) (s u : SearchModel) (old new : LogModel) → is_last turn ≡ false → TurnDoes s old turn u new → u.priced ≡ s.priced
same_priced turns.Decided s u old new last h = decide_priced s u old new h
same_priced turns.Better s u old new last h = ap (λ (x : SearchModel). x.priced) h.better ∙ implied_priced s h.mid h.settles.implies
same_priced turns.Lemma s u old new last h = ap (λ (x : SearchModel). x.priced) h.search ∙ learnt_priced s h.mid h.why h.lemma h.back h.places h.analysed.settles.implies
same_priced turns.Ended s u old new last h = absurd cc
same_priced turns.NoMemory s u old new last h = absurd cc
same_priced turns.LogFailed s u old new last h = absurd cc
