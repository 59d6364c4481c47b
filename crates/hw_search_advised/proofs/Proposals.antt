-- A timetable that an adviser proposed.
use Rattle.std.proofs.Common.{◌≡◌, ℕ, ◌≤◌, true, List, [], ◌∷◌, ◌++◌, Some, refl, sym, ap, ◌∙◌, subst, arith}
use Rattle.hw_model.specs.Problem.{Problem}
use Rattle.hw_model.specs.Timetables.{Permits}
use Rattle.hw_cert_lines.specs.declared.line.Line.TheVariants as lines
use Rattle.hw_cert.specs.Logs.{LogTold, LogModel, WhereTold}
use Rattle.hw_search_laws.specs.declared.outcome.Turn.{Turn}
use Rattle.hw_search_laws.specs.declared.outcome.Turn.TheVariants as turns
use Rattle.hw_search_laws.specs.Advised.{HeedWrites, StopsBound, IsCutOff}
use Rattle.hw_search_laws.specs.Living.{FewLive}
use Rattle.hw_search_laws.specs.Offers.{IsBetter, TakesOffer, LeavesOffer, LosesOffer, OfferMeets}
use Rattle.hw_search_laws.specs.Proposing.{TakesProposal, ProposeMeets}
use Rattle.hw_search_laws.specs.Searches.{SearchModel, IsSearch, LogFits}
use Rattle.hw_search_laws.specs.Turns.{WritesWell, FailsAt}
use Rattle.hw_search_laws.proofs.Goods.{well_good}
use Rattle.hw_search_laws.proofs.Keeps.{better_search}
use Rattle.hw_search_laws.proofs.Told.{told_and, where_so}
use Rattle.hw_search_laws.proofs.Tolled.{few_fitting}
use Rattle.hw_search_laws.proofs.Heeded.{heeds_none}
use Rattle.hw_search.specs.Faults.{TurnKeepsFaults}
use Rattle.hw_search_advised.specs.Proposing.{ProposeKeepsFaults, proposed_by}
use Rattle.hw_search.proofs.Advice.{same_heeds, no_more}
use Rattle.hw_search_ledger.proofs.Handed.{grown_with, grows_by}

-- ---- it was taken

table_heeds : (s u : SearchModel) (row : List ℕ) (was now : LogTold) → u ≡ record s { best = Some row } → IsSearch u → (now.lines ≡ was.lines ++ lines.Table row ∷ []) × WritesWell s.problem was.lines (lines.Table row ∷ []) → LogFits now u → HeedWrites s u was now
table_heeds s u row was now takes is h fit =
    let few : FewLive s.problem now.lines = subst (λ (f : Problem). FewLive f now.lines) (ap (λ (x : SearchModel). x.problem) takes) (few_fitting u now.lines is fit.fits fit.live_kept) in
    record {
      more = lines.Table row ∷ [];
      lines = h.0;
      good = well_good s.problem was.lines (lines.Table row ∷ []) h.1;
      no_lemma = refl;
      few_live = (subst (FewLive s.problem) h.0 few, tt);
      fits = fit;
    }

taken : (s u : SearchModel) (row : List ℕ) (old new : LogModel) → IsSearch s → Permits s.problem row → IsBetter s row → new.faults ≡ old.faults → TakesOffer s row u old new → TakesProposal s u old new
taken s u row old new is permits better faults t = record {
  table = row;
  permitted = permits;
  better = better;
  takes = t.better;
  kept = after;
  same_faults = faults;
  writes = told_and old new (λ was now. (now.lines ≡ was.lines ++ lines.Table row ∷ []) × WritesWell s.problem was.lines (lines.Table row ∷ [])) (λ was now. (now.lines ≡ was.lines ++ lines.Table row ∷ []) × HeedWrites s u was now) (λ now. LogFits now u) t.written t.fits (λ was now h fit. (h.0, table_heeds s u row was now t.better after h fit));
}
  where
    after : IsSearch u
    after = subst IsSearch (sym t.better) (better_search s row better.0 is permits better.1 better.2)

-- ---- it wasn't

left : (s u : SearchModel) (old new : LogModel) → IsSearch s → WhereTold old (λ told. LogFits told s) → new.faults ≡ old.faults → LeavesOffer s u old new → StopsBound s old turns.NoMemory u new
left s u old new is fits faults l = record {
  mid = s;
  then = new;
  heeds = same_heeds s old new is faults (grown_with old new (λ was now. now ≡ was) (HeedWrites s s) (λ told. LogFits told s) (λ was now fit e. no_more s was now fit (ap (λ (t : LogTold). t.lines) e, ap (λ (t : LogTold). t.remainder) e ∙ fit.no_remainder)) fits l.no_line);
  stopped = record { over = l.over; later = omega arith; cause = refl };
}

lost : (s u : SearchModel) (row : List ℕ) (old new : LogModel) → IsSearch s → WhereTold old (λ told. LogFits told s) → old.faults ≤ new.faults → LosesOffer s row u old new → StopsBound s old turns.LogFailed u new
lost s u row old new is fits later l = record {
  mid = s;
  then = old;
  heeds = heeds_none s old is fits;
  stopped = record {
    over = l.over;
    later = later;
    cause = (l.cause, where_so new (FailsAt s.problem) (IsCutOff s.problem) l.failed (λ now h. (h.0, h.2, h.3, h.4, h.5)), grows_by old new _ (λ was now. now.lines ≡ was.lines) (λ was now h. h.0) l.begun);
  };
}

-- ---- each answer of an offer

pub offered : (turn : Turn) (s u : SearchModel) (row : List ℕ) (old new : LogModel) → IsSearch s → Permits s.problem row → IsBetter s row → WhereTold old (λ told. LogFits told s) → OfferMeets s row old turn u new → TurnKeepsFaults turn old new → ProposeMeets s old (proposed_by turn) u new
offered turns.Decided s u row old new is permits better fits o k = absurd o.does
offered turns.Better s u row old new is permits better fits o k = taken s u row old new is permits better k o.does
offered turns.Lemma s u row old new is permits better fits o k = absurd o.does
offered turns.Ended s u row old new is permits better fits o k = absurd o.does
offered turns.NoMemory s u row old new is permits better fits o k = left s u old new is fits k o.does
offered turns.LogFailed s u row old new is permits better fits o k = lost s u row old new is fits o.later o.does

pub offer_keeps : (turn : Turn) (old new : LogModel) → TurnKeepsFaults turn old new → ProposeKeepsFaults (proposed_by turn) old new
offer_keeps turns.Decided old new k = k
offer_keeps turns.Better old new k = k
offer_keeps turns.Lemma old new k = k
offer_keeps turns.Ended old new k = k
offer_keeps turns.NoMemory old new k = k
offer_keeps turns.LogFailed old new k = tt

-- memory ran out before there was one
pub none_proposed : (s u : SearchModel) (log : LogModel) → IsSearch s → WhereTold log (λ told. LogFits told s) → u ≡ record s { over = true } → StopsBound s log turns.NoMemory u log
none_proposed s u log is fits e = record { mid = s; then = log; heeds = heeds_none s log is fits; stopped = record { over = e; later = omega arith; cause = refl } }
