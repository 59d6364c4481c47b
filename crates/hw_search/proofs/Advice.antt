-- What is heeded line by line, and where that stops.
use Rattle.std.proofs.Common.{◌≡◌, ℕ, zero, suc, ◌≤◌, List, [], ◌∷◌, ◌++◌, Some, All, IsSome, refl, sym, ap, ◌∙◌, subst, arith, append-nil}
use Rattle.std.specs.Prelude.{AllPairs}
use Rattle.std.specs.List.{cons_option}
use Rattle.std.proofs.lemmas.List.Elements.{All-nil, All-push}
use Rattle.hw_model.specs.declared.lit.Lit.{Lit}
use Rattle.hw_model.specs.Rooms.{RoomWithin}
use Rattle.hw_price_laws.specs.declared.toll.Toll.{Toll}
use Rattle.hw_cert_lines.specs.declared.line.Line.{Line}
use Rattle.hw_cert_lines.specs.declared.line.Line.TheVariants as lines
use Rattle.hw_cert_lines.specs.Valid.{LineFits, ValidAfter, denied_room}
use Rattle.hw_cert_lines.specs.Lemmas.{LeanAfter, IsNew}
use Rattle.hw_trail_laws.specs.declared.event.Event.{Event}
use Rattle.hw_trail_laws.specs.declared.event.Why.TheVariants as whys
use Rattle.hw_cert.specs.declared.log.LogStop.{LogStop}
use Rattle.hw_cert.specs.declared.log.LogStop.TheVariants as stops
use Rattle.hw_cert.specs.Logs.{LogTold, LogModel, WhereTold, Grows, IsBegunLine}
use Rattle.hw_search_laws.specs.Prices.{PriceModel}
use Rattle.hw_search_laws.specs.Searches.{SearchModel, IsSearch, FitsOpen, LiveKept, LogFits}
use Rattle.hw_search_laws.specs.Settling.{with_events}
use Rattle.hw_search_laws.specs.Laws.{PriceLine, PriceMeets}
use Rattle.hw_search_laws.specs.Advised.{HeedWrites, Heeds, IsCutOff, with_priced}
use Rattle.hw_search_laws.proofs.Heeded.{heeds_none}
use Rattle.hw_search_laws.proofs.Lines.{same_lemmas}
use Rattle.hw_search_laws.proofs.Told.{grown}
use Rattle.hw_search_ledger.specs.Handing.{TakesAll, StopsAfter, StopsWithin}
use Rattle.hw_search.specs.Pricing.{HeedStops}
use Rattle.hw_search_ledger.proofs.Handed.{grown_with, grows_by}

-- ---- a line that was taken

-- what a line about prices does after any lines that fit
abbrev pub LineMeets : SearchModel → SearchModel → Line → Type 0
LineMeets s after line = (before : List Line) → FitsOpen before s → PriceMeets s before line after

pub one_writes : (s after : SearchModel) (line : Line) (was now : LogTold) → LogFits was s → PriceMeets s was.lines line after → (now.lines ≡ was.lines ++ line ∷ []) × (now.remainder ≡ []) → HeedWrites s after was now
one_writes s after line was now fit m h = record {
  more = line ∷ [];
  lines = h.0;
  good = record {
    fit = All-push (LineFits s.problem) [] line (All-nil (LineFits s.problem)) m.good.fits;
    valid = (m.good.valid, tt);
    lean = (m.good.lean, tt);
    new = λ old. subst (AllPairs (λ earlier later. RoomWithin (denied_room s.problem later) (denied_room s.problem earlier) → ⊥)) (sym (same_lemmas was.lines line m.no_lemma)) old;
  };
  no_lemma = ap (λ o. cons_option o []) m.no_lemma;
  few_live = m.few_live fit.live_kept;
  fits = record { no_remainder = h.1; fits = subst (λ xs. FitsOpen xs after) (sym h.0) m.fits.opened; live_kept = subst (λ xs. LiveKept xs after) (sym h.0) (m.fits.kept fit.live_kept) };
}

-- the same search but for these
abbrev SameBut : SearchModel → SearchModel → Type 0
SameBut s after = after ≡ record s { trail = after.trail; written = after.written; prices = after.prices; clause_lines = after.clause_lines; priced = after.priced }

line_heeds : (s after : SearchModel) (line : Line) (more : List Event) (tolls : List Toll) (old new : LogModel) → IsSearch after → All (λ event. IsSome event.why) more → after.trail ≡ (with_events s more).trail → after.prices.tolls ≡ s.prices.tolls ++ tolls → after.prices.bound ≡ s.prices.bound → SameBut s after
    → LineMeets s after line → WhereTold old (λ told. LogFits told s) → TakesAll (line ∷ []) old new → Heeds s after old new
line_heeds s after line more tolls old new is implied trail declared bound same meets fits t = record {
  more = more;
  implied = implied;
  trail = trail;
  tolls = tolls;
  declared = declared;
  same_bound = bound;
  same = same;
  kept = is;
  same_faults = t.faults;
  writes = grown_with old new (λ was now. (now.lines ≡ was.lines ++ line ∷ []) × (now.remainder ≡ [])) (HeedWrites s after) (λ told. LogFits told s) (λ was now fit h. one_writes s after line was now fit (meets was.lines fit.fits) h) fits t.told;
}

same_trail : (s : SearchModel) → s.trail ≡ (with_events s []).trail
same_trail s = ap (λ es. record { ships = s.trail.ships; slots = s.trail.slots; events = es; level = s.trail.level }) (sym (append-nil s.trail.events))

-- a line that changes prices alone
pub prices_heeded : (s : SearchModel) (prices : PriceModel) (tolls : List Toll) (line : Line) (old new : LogModel) → IsSearch (record s { prices = prices }) → prices.tolls ≡ s.prices.tolls ++ tolls → prices.bound ≡ s.prices.bound
    → LineMeets s (record s { prices = prices }) line → WhereTold old (λ told. LogFits told s) → TakesAll (line ∷ []) old new → Heeds s (record s { prices = prices }) old new
prices_heeded s prices tolls line old new is declared bound meets fits t =
    line_heeds s (record s { prices = prices }) line [] tolls old new is (All-nil (λ (event : Event). IsSome event.why)) (same_trail s) declared bound refl meets fits t

-- a literal that a clause of prices implied
pub priced_heeded : (s : SearchModel) (lit : Lit) (clause : List Lit) (old new : LogModel) → IsSearch (with_priced s lit clause) → LineMeets s (with_priced s lit clause) (lines.Priced clause) → WhereTold old (λ told. LogFits told s) → TakesAll (lines.Priced clause ∷ []) old new → Heeds s (with_priced s lit clause) old new
priced_heeded s lit clause old new is meets fits t =
    let event : Event = record { lit = lit; level = s.trail.level; why = Some (whys.Priced clause) } in
    line_heeds s (with_priced s lit clause) (lines.Priced clause) (event ∷ []) [] old new is (All-push (λ (event : Event). IsSome event.why) [] event (All-nil (λ (event : Event). IsSome event.why)) refl) refl (sym (append-nil s.prices.tolls)) refl refl meets fits t

-- ---- a line that wasn't taken

begun : (line : Line) (count : ℕ) (was now : LogTold) → count ≤ 0 → StopsAfter stops.Failed (line ∷ []) count was now → (now.lines ≡ was.lines) × IsBegunLine line now.remainder
begun line zero was now le h = (h.lines ∙ append-nil was.lines, h.remainder)
begun line (suc n) was now le h = absurd (omega (arith, le))

nothing : (line : Line) (count : ℕ) (was now : LogTold) → count ≤ 0 → StopsAfter stops.NoMemory (line ∷ []) count was now → (now.lines ≡ was.lines) × (now.remainder ≡ [])
nothing line zero was now le h = (h.lines ∙ append-nil was.lines, h.remainder)
nothing line (suc n) was now le h = absurd (omega (arith, le))

-- nothing was written, and what follows still fits
pub no_more : (s : SearchModel) (was now : LogTold) → LogFits was s → (now.lines ≡ was.lines) × (now.remainder ≡ []) → HeedWrites s s was now
no_more s was now fit n = record {
  more = [];
  lines = n.0 ∙ sym (append-nil was.lines);
  good = record { fit = All-nil (LineFits s.problem); valid = tt; lean = tt; new = λ old. subst (IsNew s.problem) (sym (append-nil was.lines)) old };
  no_lemma = refl;
  few_live = tt;
  fits = record { no_remainder = n.1; fits = subst (λ xs. FitsOpen xs s) (sym n.0) fit.fits; live_kept = subst (λ xs. LiveKept xs s) (sym n.0) fit.live_kept };
}

-- nothing was heeded
pub same_heeds : (s : SearchModel) (old new : LogModel) → IsSearch s → new.faults ≡ old.faults → Grows old new (HeedWrites s s) → Heeds s s old new
same_heeds s old new is faults writes = record {
  more = [];
  implied = All-nil (λ (event : Event). IsSome event.why);
  trail = same_trail s;
  tolls = [];
  declared = sym (append-nil s.prices.tolls);
  same_bound = refl;
  same = refl;
  kept = is;
  same_faults = faults;
  writes = writes;
}

pub line_stops : (s : SearchModel) (line : Line) (stop : LogStop) (old new : LogModel) → IsSearch s → WhereTold old (λ told. LogFits told s) → ((before : List Line) → FitsOpen before s → PriceLine s.problem before line) → StopsWithin stop (line ∷ []) 0 old new → HeedStops s s old stop new
line_stops s line stops.Failed old new is fits good t =
    let R : LogTold → LogTold → Type 0 = λ was now. (count : ℕ) × (count ≤ 0) × StopsAfter stops.Failed (line ∷ []) count was now in
    record {
      then = old;
      heeds = heeds_none s old is fits;
      later = t.later;
      cause = (
        t.cause,
        grown old new R (λ told. LogFits told s) (IsCutOff s.problem) t.told (λ was now fit h.
            let b = begun line h.0 was now h.1 h.2 in
            let g = good was.lines fit.fits in
            (line, g.fits, subst (λ xs. ValidAfter s.problem xs line) (sym b.0) g.valid, subst (λ xs. LeanAfter s.problem xs line) (sym b.0) g.lean, b.1)) fits,
        grows_by old new R (λ was now. now.lines ≡ was.lines) (λ was now h. (begun line h.0 was now h.1 h.2).0) t.told,
      );
    }
line_stops s line stops.NoMemory old new is fits good t =
    let R : LogTold → LogTold → Type 0 = λ was now. (count : ℕ) × (count ≤ 0) × StopsAfter stops.NoMemory (line ∷ []) count was now in
    record {
      then = new;
      heeds = same_heeds s old new is t.cause (grown_with old new R (HeedWrites s s) (λ told. LogFits told s) (λ was now fit h. no_more s was now fit (nothing line h.0 was now h.1 h.2)) fits t.told);
      later = omega arith;
      cause = refl;
    }

-- memory ran out before a line
pub memory_stops : (s : SearchModel) (log : LogModel) → IsSearch s → WhereTold log (λ told. LogFits told s) → HeedStops s s log stops.NoMemory log
memory_stops s log is fits = record { then = log; heeds = heeds_none s log is fits; later = omega arith; cause = refl }
