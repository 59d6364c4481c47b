-- What an offered timetable meets.
use Rattle.std.proofs.Common.{◌≡◌, ℕ, zero, suc, ◌≤◌, true, List, [], ◌∷◌, ◌++◌, Some, refl, sym, ap, ◌∙◌, subst, arith, append-nil}
use Rattle.hw_model.specs.Timetables.{Permits}
use Rattle.hw_cert_lines.specs.declared.line.Line.{Line}
use Rattle.hw_cert_lines.specs.declared.line.Line.TheVariants as lines
use Rattle.hw_cert_lines.specs.Valid.{ValidAfter}
use Rattle.hw_cert_lines.specs.Lemmas.{LeanAfter}
use Rattle.hw_cert.specs.declared.log.LogStop.{LogStop}
use Rattle.hw_cert.specs.declared.log.LogStop.TheVariants as stops
use Rattle.hw_cert.specs.Logs.{LogTold, LogModel, WhereTold, IsBegunLine}
use Rattle.hw_search_laws.specs.declared.outcome.Turn.{Turn}
use Rattle.hw_search_laws.specs.declared.outcome.Turn.TheVariants as turns
use Rattle.hw_search_laws.specs.Searches.{SearchModel, IsSearch, FitsOpen, LiveKept, LogFits}
use Rattle.hw_search_laws.specs.Turns.{WritesWell, FailsAt}
use Rattle.hw_search_laws.specs.Offers.{IsBetter, OfferMeets}
use Rattle.hw_search_laws.proofs.Told.{grown}
use Rattle.hw_search_laws.proofs.Turned.{table}
use Rattle.hw_search_ledger.specs.Handing.{TakesAll, StopsAfter, StopsWithin}
use Rattle.hw_search.specs.Turning.{turn_of}
use Rattle.hw_search_ledger.proofs.Handed.{grown_with, grows_by}
use Rattle.hw_search.proofs.Answering.{one_well}

-- the same offer in the words of a call
pub offered : (s : SearchModel) (row : List ℕ) (old new : LogModel) (turn turn' : Turn) (after after' : SearchModel) → turn' ≡ turn → after' ≡ after → OfferMeets s row old turn after new → OfferMeets s row old turn' after' new
offered s row old new turn turn' after after' e f t = subst (λ x. OfferMeets s row old x after' new) (sym e) (subst (λ x. OfferMeets s row old turn x new) (sym f) t)

pub offer_taken : (s : SearchModel) (row : List ℕ) (old new : LogModel) → IsSearch s → Permits s.problem row → IsBetter s row → WhereTold old (λ told. LogFits told s) → TakesAll (lines.Table row ∷ []) old new → OfferMeets s row old turns.Better (record s { best = Some row }) new
offer_taken s row old new is permits better fits t =
    let after : SearchModel = record s { best = Some row } in
    let R : LogTold → LogTold → Type 0 = λ was now. (now.lines ≡ was.lines ++ lines.Table row ∷ []) × (now.remainder ≡ []) in
    record {
      later = omega (arith, t.faults);
      does = record {
        better = refl;
        written = grown_with old new R (λ was now. (now.lines ≡ was.lines ++ lines.Table row ∷ []) × WritesWell s.problem was.lines (lines.Table row ∷ [])) (λ told. LogFits told s) (λ was now fit h. (h.0, one_well s.problem was.lines (lines.Table row) (table s was.lines row better.0 is fit.fits permits better.1 better.2).0 refl)) fits t.told;
        fits = grown old new R (λ told. LogFits told s) (λ told. LogFits told after) t.told (λ was now fit h.
            let g = (table s was.lines row better.0 is fit.fits permits better.1 better.2).1 in
            record { no_remainder = h.1; fits = subst (λ xs. FitsOpen xs after) (sym h.0) g.opened; live_kept = subst (λ xs. LiveKept xs after) (sym h.0) (g.kept fit.live_kept) }) fits;
      };
    }

begun : (row : List ℕ) (count : ℕ) (was now : LogTold) → count ≤ 0 → StopsAfter stops.Failed (lines.Table row ∷ []) count was now → (now.lines ≡ was.lines) × IsBegunLine (lines.Table row) now.remainder
begun row zero was now le h = (h.lines ∙ append-nil was.lines, h.remainder)
begun row (suc n) was now le h = absurd (omega (arith, le))

nothing : (row : List ℕ) (count : ℕ) (was now : LogTold) → count ≤ 0 → StopsAfter stops.NoMemory (lines.Table row ∷ []) count was now → (now.lines ≡ was.lines) × (now.remainder ≡ [])
nothing row zero was now le h = (h.lines ∙ append-nil was.lines, h.remainder)
nothing row (suc n) was now le h = absurd (omega (arith, le))

same_told : (a b : LogTold) → a.lines ≡ b.lines → a.remainder ≡ b.remainder → a ≡ b
same_told a b e f =
    let first : a ≡ record a { lines = b.lines } = ap (λ (xs : List Line). record a { lines = xs }) e in
    let second : record a { lines = b.lines } ≡ b = ap (λ (xs : List ℕ). record b { remainder = xs }) f in
    first ∙ second

pub offer_stopped : (s : SearchModel) (row : List ℕ) (stop : LogStop) (old new : LogModel) → IsSearch s → Permits s.problem row → IsBetter s row → WhereTold old (λ told. LogFits told s) → StopsWithin stop (lines.Table row ∷ []) 0 old new → OfferMeets s row old (turn_of stop) (record s { over = true }) new
offer_stopped s row stops.Failed old new is permits better fits t =
    let R : LogTold → LogTold → Type 0 = λ was now. (count : ℕ) × (count ≤ 0) × StopsAfter stops.Failed (lines.Table row ∷ []) count was now in
    record {
      later = t.later;
      does = record {
        over = refl;
        cause = t.cause;
        failed = grown old new R (λ told. LogFits told s) (FailsAt s.problem) t.told (λ was now fit h.
            let b = begun row h.0 was now h.1 h.2 in
            let good = (table s was.lines row better.0 is fit.fits permits better.1 better.2).0 in
            (lines.Table row, refl, good.fits, subst (λ xs. ValidAfter s.problem xs (lines.Table row)) (sym b.0) good.valid, subst (λ xs. LeanAfter s.problem xs (lines.Table row)) (sym b.0) good.lean, b.1)) fits;
        begun = grows_by old new R (λ was now. (now.lines ≡ was.lines) × IsBegunLine (lines.Table row) now.remainder) (λ was now h. begun row h.0 was now h.1 h.2) t.told;
      };
    }
offer_stopped s row stops.NoMemory old new is permits better fits t =
    let R : LogTold → LogTold → Type 0 = λ was now. (count : ℕ) × (count ≤ 0) × StopsAfter stops.NoMemory (lines.Table row ∷ []) count was now in
    record {
      later = t.later;
      does = record {
        over = refl;
        no_line = grown_with old new R (λ was now. now ≡ was) (λ told. LogFits told s) (λ was now fit h. let n = nothing row h.0 was now h.1 h.2 in same_told now was n.0 (n.1 ∙ sym fit.no_remainder)) fits t.told;
      };
    }
