-- A search that its own bound closes.
use Rattle.std.proofs.Common.{◌≡◌, ◌≤◌, false, List, [], ◌∷◌, ◌++◌, Some, None, refl, sym, ap, subst}
use Rattle.std.specs.Prelude.{AllPairs, IfErr, OnOk, Result, Ok, Err}
use Rattle.std.proofs.lemmas.List.Elements.{All-nil, All-push}
use Rattle.hw_model.specs.declared.lit.Lit.{Lit}
use Rattle.hw_model.specs.Rooms.{RoomWithin}
use Rattle.hw_price_laws.specs.declared.tariff.Tariff.{Tariff}
use Rattle.hw_cert_lines.specs.declared.line.Line.TheVariants as lines
use Rattle.hw_cert_lines.specs.Valid.{LineFits, denied_room}
use Rattle.hw_cert.specs.declared.log.LogStop.{LogStop}
use Rattle.hw_cert.specs.Logs.{LogModel, WhereTold, Grows}
use Rattle.hw_search_laws.specs.Closing.{IsReached, WritesLast}
use Rattle.hw_cert_lines.specs.Lines.{last_priced}
use Rattle.hw_search_laws.specs.Prices.{bound_tariff, older_or, with_tariff}
use Rattle.hw_search_laws.specs.Searches.{SearchModel, IsSearch, LogFits, PricesShow}
use Rattle.hw_search_laws.proofs.Closings.{reached_shown, last_good}
use Rattle.hw_search_laws.proofs.Lines.{same_lemmas}
use Rattle.hw_search_advised.specs.Closing.{LastMeets}
use Rattle.hw_search_ledger.specs.Handing.{TakesAll, StopsWithin, Hands}
use Rattle.hw_search.specs.Pricing.{HeedStops, HeedMeets, with_other_prices}
use Rattle.hw_search.proofs.Advice.{line_stops}
use Rattle.hw_search_ledger.proofs.Handed.{grown_with}

-- ---- the tariff that shows the last bound

-- it is in force
pub none_older : (s : SearchModel) → IsSearch s → IsReached s → s.prices.older ≡ None → PricesShow s []
none_older s is reached none = reached_shown s is reached (sym (ap (λ o. older_or o s.prices.tariff) none))

-- it comes into force
now_older : (s u : SearchModel) (tariff : Tariff) → IsSearch u → IsReached s → s.prices.older ≡ Some tariff → u ≡ with_other_prices s (with_tariff s.prices tariff) → PricesShow u []
now_older s u tariff is reached older e =
    let v : SearchModel = with_other_prices s (with_tariff s.prices tariff) in
    let shown : Some tariff ≡ bound_tariff (with_tariff s.prices tariff) = sym (ap (λ o. older_or (older_or o s.prices.tariff) (Some tariff)) older) in
    subst (λ (x : SearchModel). PricesShow x []) (sym e) (reached_shown v (subst IsSearch e is) reached shown)

pub older_meets : {A : Type 0} (s u : SearchModel) (tariff : Tariff) (old log : LogModel) (result : Result A LogStop) → IsReached s → s.prices.older ≡ Some tariff → OnOk result (u ≡ with_other_prices s (with_tariff s.prices tariff)) → HeedMeets s u old log result → OnOk result (PricesShow u [])
older_meets s u tariff old log (Ok done) reached older e h = now_older s u tariff h.kept reached older e
older_meets s u tariff old log (Err stop) reached older e h = tt

-- ---- the last line

last_written : (s : SearchModel) (old log : LogModel) → IsSearch s → s.over ≡ false → s.lemmas ≤ 100000 → PricesShow s [] → WhereTold old (λ told. LogFits told s) → TakesAll (last_priced ∷ []) old log → (log.faults ≡ old.faults) × Grows old log (WritesLast s.problem)
last_written s old log is going few shown fits t = (
  t.faults,
  grown_with old log (λ was now. (now.lines ≡ was.lines ++ last_priced ∷ []) × (now.remainder ≡ [])) (WritesLast s.problem) (λ told. LogFits told s) (λ was now fit h.
      let m = last_good s is going few shown was.lines fit.fits in
      record {
        lines = h.0;
        no_remainder = h.1;
        good = record {
          fit = All-push (LineFits s.problem) [] last_priced (All-nil (LineFits s.problem)) m.0.fits;
          valid = (m.0.valid, tt);
          lean = (m.0.lean, tt);
          new = λ old. subst (AllPairs (λ earlier later. RoomWithin (denied_room s.problem later) (denied_room s.problem earlier) → ⊥)) (sym (same_lemmas was.lines last_priced refl)) old;
        };
        few_live = m.1 fit.live_kept;
      }) fits t.told,
)

last_stops : (s : SearchModel) (stop : LogStop) (old log : LogModel) → IsSearch s → s.over ≡ false → s.lemmas ≤ 100000 → PricesShow s [] → WhereTold old (λ told. LogFits told s) → StopsWithin stop (last_priced ∷ []) 0 old log → HeedStops s s old stop log
last_stops s stop old log is going few shown fits t = line_stops s last_priced stop old log is fits (λ before fit. (last_good s is going few shown before fit).0) t

-- whichever it is
pub last_meets : {A : Type 0} (s : SearchModel) (clause : List Lit) (result : Result A LogStop) (old log : LogModel) → IsSearch s → s.over ≡ false → s.lemmas ≤ 100000 → PricesShow s [] → WhereTold old (λ told. LogFits told s) → clause ≡ [] → Hands (lines.Priced clause ∷ []) old log result → IfErr result (λ stop. StopsWithin stop (lines.Priced clause ∷ []) 0 old log) → LastMeets s old log result
last_meets s clause (Ok done) old log is going few shown fits none hands stops = last_written s old log is going few shown fits (subst (λ (xs : List Lit). TakesAll (lines.Priced xs ∷ []) old log) none hands)
last_meets s clause (Err stop) old log is going few shown fits none hands stops = last_stops s stop old log is going few shown fits (subst (λ (xs : List Lit). StopsWithin stop (lines.Priced xs ∷ []) 0 old log) none stops)
