-- A turn finds at most one lemma.
use Rattle.std.proofs.Common.{◌≡◌, ℕ, ◌+◌, ◌≤◌, Bool, true, false, cond, List, [], ◌∷◌, ◌++◌, Option, Some, None, IsSomeAnd, refl, ap, ◌∙◌, arith}
use Rattle.hw_model.specs.declared.lit.Lit.{Lit}
use Rattle.hw_trail_laws.specs.declared.event.Why.{Why}
use Rattle.hw_trail_laws.specs.Trails.{decided}
use Rattle.hw_cert.specs.Logs.{LogModel}
use Rattle.hw_search_laws.specs.declared.outcome.Turn.{Turn}
use Rattle.hw_search_laws.specs.declared.outcome.Turn.TheVariants as turns
use Rattle.hw_search_laws.specs.Branches.{branch_literal}
use Rattle.hw_search_laws.specs.Searches.{SearchModel, room_in}
use Rattle.hw_search_laws.specs.Settling.{Implies}
use Rattle.hw_search_laws.specs.Turns.{cited, cite_conflict, with_lemma, to_level, restart_is_due, gone_back, TurnStops, DoesDecide, TurnDoes}
use Rattle.hw_search_laws.specs.Turns.TurnStops.{before_lemma, past_lemma}
use Rattle.hw_search_laws.specs.Turns.DoesEnd.{at_conflict, at_lemma}
use Rattle.hw_search_laws.proofs.Stops.{numbers_kept}

pub gone_lemmas : (u : SearchModel) (back : ℕ) → (gone_back u back).lemmas ≡ u.lemmas
gone_lemmas u back = by (restart_is_due u)
  where
    by : (b : Bool) → (cond b (record (to_level u 0) { restarts = u.restarts + 1; since = 0 }) (record (to_level u back) { since = u.since + 1 })).lemmas ≡ u.lemmas
    by true = refl
    by false = refl

pub implied_lemmas : (s mid : SearchModel) → Implies s mid → mid.lemmas ≡ s.lemmas
implied_lemmas s mid h = ap (λ (x : SearchModel). x.lemmas) h.only

-- the lemma of a conflict is one more
learnt_lemmas : (s mid : SearchModel) (why : Why) (lemma : List Lit) (back : ℕ) (places : List ℕ) → Implies s mid → (gone_back (with_lemma (cite_conflict (cited mid places) why).search lemma) back).lemmas ≡ s.lemmas + 1
learnt_lemmas s mid why lemma back places h =
    let c = cite_conflict (cited mid places) why in
    gone_lemmas (with_lemma c.search lemma) back ∙ ap (λ n. n + 1) (ap (λ (x : SearchModel). x.lemmas) (numbers_kept mid why places).same ∙ implied_lemmas s mid h)

pub decide_lemmas : (s u : SearchModel) (old new : LogModel) → DoesDecide s u old new → u.lemmas ≡ s.lemmas
decide_lemmas s u old new h = by (branch_literal h.mid.branching h.mid.problem (room_in h.mid)) h.decides
  where
    by : (o : Option Lit) → IsSomeAnd o (λ lit. u ≡ record h.mid { trail = decided h.mid.trail lit; written = h.mid.written ++ None ∷ [] }) → u.lemmas ≡ s.lemmas
    by None d = absurd d
    by (Some lit) d = ap (λ (x : SearchModel). x.lemmas) d ∙ implied_lemmas s h.mid h.settles.implies

stop_lemmas : (turn : Turn) (s u : SearchModel) (old new : LogModel) → TurnStops turn s u old new → u.lemmas ≤ s.lemmas + 1
stop_lemmas turn s u old new (before_lemma h) = omega (arith, h.lemmas)
stop_lemmas turn s u old new (past_lemma h) = omega (arith, ap (λ (x : SearchModel). x.lemmas) h.search, learnt_lemmas s h.mid h.why h.lemma h.back h.places h.analysed.settles.implies)

pub few_lemmas : (turn : Turn) (s u : SearchModel) (old new : LogModel) → TurnDoes s old turn u new → u.lemmas ≤ s.lemmas + 1
few_lemmas turns.Decided s u old new h = omega (arith, decide_lemmas s u old new h)
few_lemmas turns.Better s u old new h = omega (arith, ap (λ (x : SearchModel). x.lemmas) h.better, implied_lemmas s h.mid h.settles.implies)
few_lemmas turns.Lemma s u old new h = omega (arith, ap (λ (x : SearchModel). x.lemmas) h.search, learnt_lemmas s h.mid h.why h.lemma h.back h.places h.analysed.settles.implies)
few_lemmas turns.Ended s u old new (at_conflict h) = omega (arith, h.lemmas)
few_lemmas turns.Ended s u old new (at_lemma h) = omega (arith, h.lemmas)
few_lemmas turns.NoMemory s u old new h = stop_lemmas turns.NoMemory s u old new h.stops
few_lemmas turns.LogFailed s u old new h = stop_lemmas turns.LogFailed s u old new h.stops
