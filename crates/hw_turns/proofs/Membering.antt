-- What a searcher's own lines are after an offer, and after its turn.
use Rattle.std.proofs.Common.{◌≡◌, ℕ, zero, suc, ◌+◌, ◌-◌, ◌*◌, ◌<◌, ◌≤◌, Bool, true, false, List, [], ◌∷◌, ◌++◌, Option, Some, None, length, take, option_and_then, IfSome, IsTrue, refl, sym, ap, ◌∙◌, subst, arith, length-append}
use Rattle.std.proofs.lemmas.Bool.{ltb-true}
use Rattle.std.proofs.lemmas.List.{length-take}
use Rattle.std.proofs.lemmas.List.Elements.{All-append, filter_map-append}
use Rattle.hw_model.specs.Problem.{Problem}
use Rattle.hw_model.specs.Timetables.{Permits, cargo, beats}
use Rattle.hw_desk.specs.State.{Rose}
use Rattle.hw_cert_lines.specs.declared.line.Line.{Line}
use Rattle.hw_cert_lines.specs.declared.line.Line.TheVariants as lines
use Rattle.hw_cert_lines.specs.Tolled.{is_plain}
use Rattle.hw_cert_lines.specs.Lines.{clause_of, clauses_of, clause_count, is_closed}
use Rattle.hw_cert_lines.specs.Valid.{LineFits}
use Rattle.hw_cert_lines.specs.Lemmas.{lemmas_of}
use Rattle.hw_cert_lines.proofs.Pushed.{table_added}
use Rattle.hw_trail_laws.specs.Trails.{most_events}
use Rattle.hw_cert.specs.Logs.{LogTold, memory_log}
use Rattle.hw_search_laws.specs.declared.outcome.Turn.{Turn}
use Rattle.hw_search_laws.specs.declared.outcome.Turn.TheVariants as turns
use Rattle.hw_search_laws.specs.Searches.{SearchModel, IsSearch, LogFits, best_cargo}
use Rattle.hw_search_laws.specs.Turns.{WritesWell, TurnMeets, FitsAfter, lines_of_turn, is_last}
use Rattle.hw_search_laws.specs.Offers.{IsBetter, OfferMeets}
use Rattle.hw_search_laws.proofs.Turned.{table}
use Rattle.hw_search.specs.Going.{cargo_rank, most_cargo, turns_left}
use Rattle.hw_search.proofs.Answering.{tells}
use Rattle.hw_search_laws.proofs.OneLemma.{few_lemmas}
use Rattle.hw_search_laws.proofs.Heeded.{valid_append, lean_append}
use Rattle.hw_search.proofs.Counting.{nearer}
use Rattle.hw_search.proofs.Plain.{plain_tariff}
use Rattle.hw_turns.specs.Crewing.{OwnWell}
use Rattle.hw_turns.specs.Members.{Working, Caught, TurnsOwn, UnlessStopped}
use Rattle.hw_turns.proofs.Unpriced.{same_priced}

-- a log in memory with these lines
abbrev pub own_told : List Line → LogTold
own_told own = record { lines = own; remainder = [] }

-- ---- lines after lines

pub take_here : (xs ys : List Line) → take (length xs) (xs ++ ys) ≡ xs
take_here [] [] = refl
take_here [] (y ∷ ys) = refl
take_here (x ∷ xs) ys = ap (λ zs. x ∷ zs) (take_here xs ys)

own_more : (f : Problem) (own more own' : List Line) → own' ≡ own ++ more → OwnWell f own → WritesWell f own more → OwnWell f own'
own_more f own more own' e w m = subst (OwnWell f) (sym e) (record {
  plain = All-append (λ line. is_plain line ≡ true) own more w.plain (m.plain (plain_tariff own w.plain));
  fit = All-append (LineFits f) own more w.fit m.fit;
  valid = valid_append f [] own more w.valid m.valid;
  lean = lean_append f [] own more w.lean m.lean;
  new = m.new w.new;
})

-- ---- a table was offered

rank_le : (c : ℕ) (b : Option ℕ) → IsTrue (beats c b) → cargo_rank b ≤ c + 1
rank_le c None h = omega arith
rank_le c (Some x) h = let lt : x < c = ltb-true x c h in omega (arith, lt)

pub caught_offer : (f : Problem) (s : SearchModel) (row : List ℕ) (own : List Line) (u : SearchModel) (own' : List Line) → Working f s own → Permits s.problem row → IsBetter s row → OfferMeets s row (memory_log own) turns.Better u (memory_log own') → Caught f s own u own'
caught_offer f s row own u own' w permits better t =
    let does = t.does in
    let e : own' ≡ own ++ lines.Table row ∷ [] = does.written.0 in
    let well : WritesWell f own (lines.Table row ∷ []) = subst (λ p. WritesWell p own (lines.Table row ∷ [])) w.same_problem does.written.1 in
    let after : SearchModel = record s { best = Some row } in
    let kept : IsSearch after = (table s own row better.0 w.kept w.fits.fits permits better.1 better.2).2 in
    let high : cargo_rank (best_cargo s) ≤ better.0 + 1 = rank_le better.0 (best_cargo s) better.2 in
    let made : cargo_rank (cargo s.problem row) ≡ better.0 + 1 = ap cargo_rank better.1 in
    record {
      working = record {
        same_problem = ap (λ (x : SearchModel). x.problem) does.better ∙ w.same_problem;
        kept = subst IsSearch (sym does.better) kept;
        going = ap (λ (x : SearchModel). x.over) does.better ∙ w.going;
        unpriced = ap (λ (x : SearchModel). x.priced) does.better ∙ w.unpriced;
        fits = does.fits;
        well = own_more f own (lines.Table row ∷ []) own' e w.well well;
      };
      front = ap (take (length own)) e ∙ take_here own (lines.Table row ∷ []);
      count = ap clause_count e ∙ (table_added f own row).count;
      lemmas = ap (λ (x : SearchModel). x.lemmas) does.better;
      nearer = λ budget. subst (λ (x : SearchModel). turns_left budget x ≤ turns_left budget s) (sym does.better) (less (most_cargo s.problem) (cargo_rank (cargo s.problem row)) (cargo_rank (best_cargo s)) ((budget - s.lemmas) * (most_events s.problem.ships s.problem.slots + 1) + (most_events s.problem.ships s.problem.slots - length s.trail.events)) (omega (arith, high, made)));
    }
  where
    less : (m now before x : ℕ) → before ≤ now → (m + 1 - now) + x ≤ (m + 1 - before) + x
    less m now before x le = omega (arith, le)

-- ---- the search's turn

few_of : (f : Problem) (turn : Turn) → lines_of_turn f turn ≤ most_events f.ships f.slots + 2
few_of f turns.Decided = omega arith
few_of f turns.Better = omega arith
few_of f turns.Lemma = omega arith
few_of f turns.Ended = omega arith
few_of f turns.NoMemory = omega arith
few_of f turns.LogFailed = omega arith

-- the turn wasn't stopped
abbrev pub is_stopped : Turn → Bool
is_stopped turns.Decided = false
is_stopped turns.Better = false
is_stopped turns.Lemma = false
is_stopped turns.Ended = false
is_stopped turns.NoMemory = true
is_stopped turns.LogFailed = true

fits_by : (turn : Turn) (u : SearchModel) (own' : List Line) → is_last turn ≡ false → FitsAfter turn u (memory_log own') → LogFits (own_told own') u
fits_by turns.Decided u own' e h = h
fits_by turns.Better u own' e h = h
fits_by turns.Lemma u own' e h = h
fits_by turns.Ended u own' e h = absurd cc
fits_by turns.NoMemory u own' e h = absurd cc
fits_by turns.LogFailed u own' e h = absurd cc

closed_by : (turn : Turn) (u : SearchModel) (own' : List Line) → is_stopped turn ≡ false → FitsAfter turn u (memory_log own') → is_closed own' ≡ is_last turn
closed_by turns.Decided u own' e h = h.fits.none_empty
closed_by turns.Better u own' e h = h.fits.none_empty
closed_by turns.Lemma u own' e h = h.fits.none_empty
closed_by turns.Ended u own' e h = h.1
closed_by turns.NoMemory u own' e h = absurd cc
closed_by turns.LogFailed u own' e h = absurd cc

turns_own : (f : Problem) (s : SearchModel) (own : List Line) (turn : Turn) (u : SearchModel) (own' : List Line) → is_stopped turn ≡ false → Working f s own → IsSearch u → TurnMeets s (memory_log own) turn u (memory_log own') → TurnsOwn f s own turn u own'
turns_own f s own turn u own' going w is t =
    let more = t.writes.more in
    let e : own' ≡ own ++ more = t.writes.lines in
    let well : WritesWell f own more = subst (λ p. WritesWell p own more) w.same_problem t.writes.well in
    let made = own_more f own more own' e w.well well in
    let few : clause_count more ≤ most_events f.ships f.slots + 2 = subst (λ (p : Problem). clause_count more ≤ most_events p.ships p.slots + 2) w.same_problem (omega (arith, t.writes.few, few_of s.problem turn)) in
    let mine : length (lemmas_of own) ≡ s.lemmas = (tells s (own_told own) (sym (w.kept.counted w.going)) w.fits).lemmas in
    let step : u.lemmas ≤ s.lemmas + 1 = few_lemmas turn s u (memory_log own) (memory_log own') t.does in
    let his : length (lemmas_of own') ≡ u.lemmas = t.lemmas in
    record {
      well = made;
      front = ap (take (length own)) e ∙ take_here own more;
      few = omega (arith, ap clause_count e, ap length (filter_map-append clause_of own more), length-append (clauses_of own) (clauses_of more), few);
      few_lemmas = omega (arith, mine, step, his);
      closed = closed_by turn u own' going t.fits;
      working = λ last. record { same_problem = t.same_problem ∙ w.same_problem; kept = is; going = t.over ∙ last; unpriced = same_priced turn s u (memory_log own) (memory_log own') last t.does ∙ w.unpriced; fits = fits_by turn u own' last t.fits; well = made };
      nearer = λ budget last lt. nearer turn budget s u (memory_log own) (memory_log own') last lt t.same_problem t.does;
    }

-- a log in memory has no faults
never_rose : Rose 0 0 → ⊥
never_rose h = absurd (omega (arith, h))

pub turns_by : (f : Problem) (s : SearchModel) (own : List Line) (turn : Turn) (u : SearchModel) (own' : List Line) → Working f s own → IsSearch u → TurnMeets s (memory_log own) turn u (memory_log own') → UnlessStopped turn (TurnsOwn f s own turn u own')
turns_by f s own turns.Decided u own' w is t = turns_own f s own turns.Decided u own' refl w is t
turns_by f s own turns.Better u own' w is t = turns_own f s own turns.Better u own' refl w is t
turns_by f s own turns.Lemma u own' w is t = turns_own f s own turns.Lemma u own' refl w is t
turns_by f s own turns.Ended u own' w is t = turns_own f s own turns.Ended u own' refl w is t
turns_by f s own turns.NoMemory u own' w is t = tt
turns_by f s own turns.LogFailed u own' w is t = never_rose t.does.cause

-- ---- in the words of the calls

pub of_best : (o : Option (List ℕ)) (row : List ℕ) (f p : Problem) → o ≡ Some row → p ≡ f → IfSome o (Permits f) → Permits p row
of_best None row f p e same h = absurd cc
of_best (Some x) row f p e same h = subst (λ q. Permits q row) (sym same) (subst (Permits f) (let is : x ≡ row = cc in is) h)

pub better_of : (f : Problem) (s : SearchModel) (row : List ℕ) (o : Option (List ℕ)) → s.problem ≡ f → o ≡ s.best → ((c : ℕ) × (cargo f row ≡ Some c) × IsTrue (beats c (option_and_then (cargo f) o))) → IsBetter s row
better_of f s row o same e h = (h.0, subst (λ p. cargo p row ≡ Some h.0) (sym same) h.1, subst (λ x. IsTrue (beats h.0 (option_and_then (cargo s.problem) x))) e (subst (λ p. IsTrue (beats h.0 (option_and_then (cargo p) o))) (sym same) h.2))

-- ---- an offer, and then the turn

take_take : (n m : ℕ) (xs : List Line) → n ≤ m → take n (take m xs) ≡ take n xs
take_take zero m xs le = take_zero (take m xs) ∙ sym (take_zero xs)
  where
    take_zero : (xs : List Line) → take 0 xs ≡ []
    take_zero [] = refl
    take_zero (x ∷ xs) = refl
take_take (suc n) zero xs le = absurd (omega (arith, le))
take_take (suc n) (suc m) [] le = refl
take_take (suc n) (suc m) (x ∷ xs) le = ap (λ ys. x ∷ ys) (take_take n m xs (omega (arith, le)))

front_long : (own own' : List Line) → take (length own) own' ≡ own → length own ≤ length own'
front_long own own' e = omega (arith, ap length e, length-take (length own) own')

pub front_on : (own own1 own2 : List Line) → take (length own) own1 ≡ own → take (length own1) own2 ≡ own1 → take (length own) own2 ≡ own
front_on own own1 own2 e f = sym (take_take (length own) (length own1) own2 (front_long own own1 e)) ∙ ap (take (length own)) f ∙ e

pub own_lemmas : (f : Problem) (s : SearchModel) (own : List Line) → Working f s own → length (lemmas_of own) ≡ s.lemmas
own_lemmas f s own w = (tells s (own_told own) (sym (w.kept.counted w.going)) w.fits).lemmas

turns_from : (f : Problem) (s : SearchModel) (own : List Line) (s1 : SearchModel) (own1 : List Line) (turn : Turn) (u : SearchModel) (own2 : List Line) → Working f s own → Caught f s own s1 own1 → TurnsOwn f s1 own1 turn u own2 → TurnsOwn f s own turn u own2
turns_from f s own s1 own1 turn u own2 w c t = record {
  well = t.well;
  front = front_on own own1 own2 c.front t.front;
  few = omega (arith, t.few, c.count);
  few_lemmas = omega (arith, t.few_lemmas, own_lemmas f s own w, own_lemmas f s1 own1 c.working, c.lemmas);
  closed = t.closed;
  working = t.working;
  nearer = λ budget last lt. let near : turns_left budget u < turns_left budget s1 = t.nearer budget last (omega (arith, c.lemmas, lt)) in omega (arith, near, c.nearer budget);
}

pub turns_on : (f : Problem) (s : SearchModel) (own : List Line) (s1 : SearchModel) (own1 : List Line) (turn : Turn) (u : SearchModel) (own2 : List Line) → Working f s own → Caught f s own s1 own1 → UnlessStopped turn (TurnsOwn f s1 own1 turn u own2) → UnlessStopped turn (TurnsOwn f s own turn u own2)
turns_on f s own s1 own1 turns.Decided u own2 w c t = turns_from f s own s1 own1 turns.Decided u own2 w c t
turns_on f s own s1 own1 turns.Better u own2 w c t = turns_from f s own s1 own1 turns.Better u own2 w c t
turns_on f s own s1 own1 turns.Lemma u own2 w c t = turns_from f s own s1 own1 turns.Lemma u own2 w c t
turns_on f s own s1 own1 turns.Ended u own2 w c t = turns_from f s own s1 own1 turns.Ended u own2 w c t
turns_on f s own s1 own1 turns.NoMemory u own2 w c t = tt
turns_on f s own s1 own1 turns.LogFailed u own2 w c t = t
