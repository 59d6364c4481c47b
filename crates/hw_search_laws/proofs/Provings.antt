-- What a whole solution with advice meets.
use Rattle.std.proofs.Common.{◌≡◌, ℕ, ◌+◌, ◌<◌, ◌≤◌, true, false, List, [], ◌∷◌, ◌++◌, Option, Some, None, IfSome, length, refl, sym, ap, ◌∙◌, subst, arith, append-nil}
use Rattle.std.proofs.lemmas.List.Elements.{filter_map-append}
use Rattle.hw_model.specs.Problem.{Problem}
use Rattle.hw_model.specs.Limits.{IsFlat}
use Rattle.hw_model.specs.Timetables.{Permits, cargo}
use Rattle.hw_model.specs.Rooms.{room_count}
use Rattle.hw_desk.specs.State.{Rose}
use Rattle.hw_cert_lines.specs.declared.line.Line.{Line}
use Rattle.hw_cert_lines.specs.declared.line.Line.TheVariants as lines
use Rattle.hw_cert_lines.specs.Lines.{last_table, is_closed, ends, last_priced}
use Rattle.hw_cert_lines.specs.Tolled.{bound_of}
use Rattle.hw_cert_lines.specs.Lemmas.{lemma_of, lemmas_of}
use Rattle.hw_cert_lines.proofs.Closed.{closed_from}
use Rattle.hw_cert_lines.proofs.Pushed.{last_push}
use Rattle.hw_cert.specs.Logs.{LogTold, LogModel, WhereTold, Grows, IsEmpty, IsWhole}
use Rattle.hw_search_laws.specs.declared.outcome.Branching.{Branching}
use Rattle.hw_search_laws.specs.declared.outcome.Turn.{Turn}
use Rattle.hw_search_laws.specs.declared.outcome.Turn.TheVariants as turns
use Rattle.hw_search_laws.specs.declared.outcome.Solved.{Solved}
use Rattle.hw_search_laws.specs.declared.outcome.Solved.TheVariants as answers
use Rattle.hw_search_laws.specs.Living.{FewLiveFrom}
use Rattle.hw_search_laws.specs.Prices.{PriceModel}
use Rattle.hw_cert_laws.specs.Laws.{IsBound}
use Rattle.hw_search_laws.specs.Searches.{SearchModel, IsSearch, LogFits, new_search, best_cargo}
use Rattle.hw_search_laws.specs.Turns.{TurnMeets, TurnWrites, FitsAfter, FailsNext, is_last}
use Rattle.hw_search_laws.specs.Solving.{AnswerTells, AnswerMeans, is_proved, may_be_spent}
use Rattle.hw_search_laws.specs.Advised.{WritesGood, HeedWrites, Heeds, Lowers, Prefers, IsCutOff, StopsBy, AdviceStopped, StopsBound, FollowsAdvice, AdvisedMeets}
use Rattle.hw_search_laws.specs.Advised.FollowsAdvice.{by_turn, by_preference, by_stop}
use Rattle.hw_search_laws.specs.Closing.{IsReached, WritesLast, Closes}
use Rattle.hw_search_laws.specs.Proposing.{TakesProposal}
use Rattle.hw_search_laws.specs.Proving.{WrittenGood, ProveWrites, IsAbove, ProveMeets, ProvedSoFar, Proving, IsEndOf}
use Rattle.hw_search_laws.specs.Laws.{EndedMeans, ProvingGoesOn, ProvingEnds}
use Rattle.hw_search_laws.proofs.Backs.{decided_open, decided_live}
use Rattle.hw_search_laws.proofs.Bounds.{few_stored}
use Rattle.hw_search_laws.proofs.Closings.{not_reached, last_closes, last_means}
use Rattle.hw_search_laws.proofs.Lines.{same_lemmas, clause_told}
use Rattle.hw_search_laws.proofs.Priced.{priced_is}
use Rattle.hw_search_laws.proofs.Boundless.{last_bound}
use Rattle.hw_search_laws.proofs.Goods.{good_more, no_line, well_good}
use Rattle.hw_search_laws.proofs.OneLemma.{few_lemmas}
use Rattle.hw_search_laws.proofs.Told.{told_same, told_on, told_and, told_both, told_so, where_and, where_so, where_grown}
use Rattle.hw_search_laws.proofs.Trues.{ended as ended_means, ended_by}
use Rattle.hw_search_laws.proofs.Turned.{starts}

-- ---- a solution begins

begins : (f : Problem) (budget : ℕ) (branching : Branching) (log : LogModel) → IsFlat f → IsEmpty log → Proving f budget (new_search f branching) log log
begins f budget branching log flat empty = record {
  same_problem = refl;
  going = refl;
  within = omega arith;
  later = omega arith;
  told = told_same log (λ told. (told.lines ≡ []) × (told.remainder ≡ [])) (λ was now. ProvedSoFar f (new_search f branching) now) empty (λ now e. record {
    fits = (starts f branching now flat e.0 e.1).1;
    good = subst (WrittenGood f) (sym e.0) (no_line f);
    lemmas = ap (λ xs. length (lemmas_of xs)) e.0;
  });
}

to_fit : (f : Problem) (budget : ℕ) (s : SearchModel) (old now : LogModel) → Proving f budget s old now → WhereTold now (λ told. LogFits told s)
to_fit f budget s old now g = where_grown old now (λ was here. ProvedSoFar f s here) (λ told. LogFits told s) g.told (λ was now h. h.fits)

-- ---- it goes on with advice

heeded_lines : (f : Problem) (s u : SearchModel) (here now : LogTold) → s.problem ≡ f → u.lemmas ≡ s.lemmas → ProvedSoFar f s here → HeedWrites s u here now → ProvedSoFar f u now
heeded_lines f s u here now same lemmas h w =
    let good : WritesGood f here.lines w.more = subst (λ (p : Problem). WritesGood p here.lines w.more) same w.good in
    let few : FewLiveFrom f here.lines w.more = subst (λ (p : Problem). FewLiveFrom p here.lines w.more) same w.few_live in
    let e : lemmas_of now.lines ≡ lemmas_of here.lines = ap lemmas_of w.lines ∙ filter_map-append lemma_of here.lines w.more ∙ ap (λ xs. lemmas_of here.lines ++ xs) w.no_lemma ∙ append-nil (lemmas_of here.lines) in
    record {
      fits = w.fits;
      good = subst (WrittenGood f) (sym w.lines) (good_more f here.lines w.more h.good good few);
      lemmas = ap length e ∙ h.lemmas ∙ sym lemmas;
    }

heeded : (f : Problem) (budget : ℕ) (s u : SearchModel) (old here now : LogModel) → Proving f budget s old here → Heeds s u here now → Proving f budget u old now
heeded f budget s u old here now g h = record {
  same_problem = ap (λ (x : SearchModel). x.problem) h.same ∙ g.same_problem;
  going = ap (λ (x : SearchModel). x.over) h.same ∙ g.going;
  within = omega (arith, ap (λ (x : SearchModel). x.lemmas) h.same, g.within);
  later = omega (arith, g.later, h.same_faults);
  told = told_on old here now (λ was told. ProvedSoFar f s told) (HeedWrites s u) (λ was told. ProvedSoFar f u told) g.told h.writes (λ was mid told a w. heeded_lines f s u mid told g.same_problem (ap (λ (x : SearchModel). x.lemmas) h.same) a w);
}

-- a lower bound
lowered : (f : Problem) (budget : ℕ) (s u : SearchModel) (old here now : LogModel) → Proving f budget s old here → Lowers s u here now → Proving f budget u old now
lowered f budget s u old here now g l =
    let m : Proving f budget l.mid old l.then = heeded f budget s l.mid old here l.then g l.heeds in
    record {
      same_problem = ap (λ (x : SearchModel). x.problem) l.after_is ∙ m.same_problem;
      going = ap (λ (x : SearchModel). x.over) l.after_is ∙ m.going;
      within = omega (arith, ap (λ (x : SearchModel). x.lemmas) l.after_is, m.within);
      later = omega (arith, m.later, l.line.same_faults);
      told = told_on old l.then now (λ was told. ProvedSoFar f l.mid told) (λ was told. (told.lines ≡ was.lines ++ lines.Bound l.bound ∷ []) × HeedWrites l.mid u was told) (λ was told. ProvedSoFar f u told) m.told l.line.writes (λ was mid told a w.
          heeded_lines f l.mid u mid told m.same_problem (ap (λ (x : SearchModel). x.lemmas) l.after_is) a w.1);
    }

-- a better timetable that was proposed
proposed : (f : Problem) (budget : ℕ) (s u : SearchModel) (old here now : LogModel) → Proving f budget s old here → TakesProposal s u here now → Proving f budget u old now
proposed f budget s u old here now g t = record {
  same_problem = ap (λ (x : SearchModel). x.problem) t.takes ∙ g.same_problem;
  going = ap (λ (x : SearchModel). x.over) t.takes ∙ g.going;
  within = omega (arith, ap (λ (x : SearchModel). x.lemmas) t.takes, g.within);
  later = omega (arith, g.later, t.same_faults);
  told = told_on old here now (λ was told. ProvedSoFar f s told) (λ was told. (told.lines ≡ was.lines ++ lines.Table t.table ∷ []) × HeedWrites s u was told) (λ was told. ProvedSoFar f u told) g.told t.writes (λ was mid told a w.
      heeded_lines f s u mid told g.same_problem (ap (λ (x : SearchModel). x.lemmas) t.takes) a w.1);
}

same : (f : Problem) (budget : ℕ) (s u : SearchModel) (old here now : LogModel) → Proving f budget s old here → u ≡ s → now ≡ here → Proving f budget u old now
same f budget s u old here now g e l = subst (λ (x : SearchModel). Proving f budget x old now) (sym e) (subst (Proving f budget s old) (sym l) g)

-- ---- it goes on with a turn

written_more : (f : Problem) (s : SearchModel) (turn : Turn) (here now : LogTold) → s.problem ≡ f → ProvedSoFar f s here → TurnWrites s.problem turn here now → WrittenGood f now.lines
written_more f s turn here now same h w =
    let v : TurnWrites f turn here now = subst (λ (p : Problem). TurnWrites p turn here now) same w in
    subst (WrittenGood f) (sym v.lines) (good_more f here.lines v.more h.good (well_good f here.lines v.more v.well) v.few_live)

turned : (f : Problem) (budget : ℕ) (s u : SearchModel) (turn : Turn) (old here now : LogModel) → Proving f budget s old here → s.lemmas < budget → is_last turn ≡ false → TurnMeets s here turn u now → Proving f budget u old now
turned f budget s u turn old here now g lt last t = record {
  same_problem = t.same_problem ∙ g.same_problem;
  going = t.over ∙ last;
  within = omega (arith, few_lemmas turn s u here now t.does, lt);
  later = omega (arith, g.later, t.later);
  told = told_and old now (λ was told. WrittenGood f told.lines) (λ was told. ProvedSoFar f u told) (λ told. LogFits told u × (length (lemmas_of told.lines) ≡ u.lemmas))
      (told_on old here now (λ was mid. ProvedSoFar f s mid) (TurnWrites s.problem turn) (λ was told. WrittenGood f told.lines) g.told t.writes (λ was mid told h w. written_more f s turn mid told g.same_problem h w))
      (where_and now (λ told. LogFits told u) (λ told. length (lemmas_of told.lines) ≡ u.lemmas) (λ told. LogFits told u × (length (lemmas_of told.lines) ≡ u.lemmas)) (fits_by turn last t.fits) t.lemmas (λ told a b. (a, b)))
      (λ was told w h. record { fits = h.0; good = w; lemmas = h.1 });
}
  where
    fits_by : (turn : Turn) → is_last turn ≡ false → FitsAfter turn u now → WhereTold now (λ told. LogFits told u)
    fits_by turns.Decided e h = h
    fits_by turns.Better e h = h
    fits_by turns.Lemma e h = h
    fits_by turns.Ended e h = absurd cc
    fits_by turns.NoMemory e h = absurd cc
    fits_by turns.LogFailed e h = absurd cc

-- with a decision that was preferred
preferred : (f : Problem) (budget : ℕ) (s u : SearchModel) (turn : Turn) (old here now : LogModel) → Proving f budget s old here → Prefers s here turn u now → Proving f budget u old now
preferred f budget s u turn old here now g p =
    let q : Proving f budget s old now = subst (Proving f budget s old) (sym p.same_log) g in
    let lemmas : u.lemmas ≡ s.lemmas = ap (λ (x : SearchModel). x.lemmas) p.decides in
    record {
      same_problem = ap (λ (x : SearchModel). x.problem) p.decides ∙ g.same_problem;
      going = ap (λ (x : SearchModel). x.over) p.decides ∙ g.going;
      within = omega (arith, lemmas, g.within);
      later = q.later;
      told = told_so old now (λ was told. ProvedSoFar f s told) (λ was told. ProvedSoFar f u told) q.told (λ was told h. record {
        fits = subst (LogFits told) (sym p.decides) (record {
          no_remainder = h.fits.no_remainder;
          fits = decided_open told.lines s (record { lit = p.lit; level = s.trail.level + 1; why = None }) h.fits.fits;
          live_kept = decided_live told.lines s (record { lit = p.lit; level = s.trail.level + 1; why = None }) h.fits.live_kept;
        });
        good = h.good;
        lemmas = h.lemmas ∙ sym lemmas;
      });
    }

-- advice does not stop a turn that goes on
pub no_stop : (f : Problem) (turn : Turn) (old new : LogModel) → is_last turn ≡ false → StopsBy f turn old new → ⊥
no_stop f turns.Decided old new e h = h
no_stop f turns.Better old new e h = h
no_stop f turns.Lemma old new e h = h
no_stop f turns.Ended old new e h = h
no_stop f turns.NoMemory old new e h = absurd cc
no_stop f turns.LogFailed old new e h = absurd cc

goes_on : (f : Problem) (budget : ℕ) (s u : SearchModel) (turn : Turn) (old here now : LogModel) → Proving f budget s old here → s.lemmas < budget → is_last turn ≡ false → AdvisedMeets s here turn u now → Proving f budget u old now
goes_on f budget s u turn old here now g lt last a = by a.follows
  where
    m : Proving f budget a.mid old a.then
    m = heeded f budget s a.mid old here a.then g a.heeds

    by : FollowsAdvice a.mid a.then turn u now → Proving f budget u old now
    by (by_turn t) = turned f budget a.mid u turn old a.then now m (omega (arith, lt, ap (λ (x : SearchModel). x.lemmas) a.heeds.same)) last t
    by (by_preference p) = preferred f budget a.mid u turn old a.then now m p
    by (by_stop x) = absurd (no_stop a.mid.problem turn a.then now last x.cause)

-- ---- the last lines

-- the last line has no literals exactly where some line has none
closed_ends : (f : Problem) (all : List Line) → WrittenGood f all → ends all ≡ is_closed all
closed_ends f all w = closed_from f all [] w.valid refl

prove_writes : (f : Problem) (budget : ℕ) (answer : Solved) (bound : Option ℕ) (before now : ℕ) (all : List Line) → WrittenGood f all → is_closed all ≡ is_proved answer → AnswerTells f budget answer all → bound_of all ≡ bound → length (lemmas_of all) ≤ budget → ((Rose before now → ⊥) → length (lemmas_of all) ≡ budget → is_closed all ≡ false → may_be_spent answer ≡ true) → ProveWrites f budget answer bound before now all
prove_writes f budget answer bound before now all w closed tells last few spent = record {
  good = w;
  proved_just = sym (closed_ends f all w ∙ closed);
  tells = tells;
  last_bound = last;
  lemmas = few;
  spent = spent;
}

-- memory ran out before a search began
no_search : (f : Problem) (budget : ℕ) (log : LogModel) → IsEmpty log → ProveMeets f budget log (answers.NoMemory None) None log
no_search f budget log empty = record {
  later = omega arith;
  writes = told_same log (λ told. (told.lines ≡ []) × (told.remainder ≡ [])) (λ was now. ProveWrites f budget (answers.NoMemory None) None log.faults log.faults now.lines) empty (λ now e.
      subst (ProveWrites f budget (answers.NoMemory None) None log.faults log.faults) (sym e.0) (prove_writes f budget (answers.NoMemory None) None log.faults log.faults [] (no_line f) refl refl refl (omega arith) (λ a b c. refl)));
  permitted = tt;
  worth = tt;
  means = tt;
  bounded = tt;
  above = tt;
  ends = where_so log (λ told. (told.lines ≡ []) × (told.remainder ≡ [])) (λ told. told.remainder ≡ []) empty (λ told e. e.1);
}

-- ---- where it rests

above : (f : Problem) (s : SearchModel) → IsSearch s → s.problem ≡ f → IfSome s.prices.bound (IsBound f)
above f s is same = subst (λ (p : Problem). IfSome s.prices.bound (IsBound p)) same is.prices.bound

allowed : (f : Problem) (s : SearchModel) → IsSearch s → s.problem ≡ f → IfSome s.best (Permits f)
allowed f s is same = subst (λ (p : Problem). IfSome s.best (Permits p)) same is.permitted

whole : (f : Problem) (budget : ℕ) (s : SearchModel) (old now : LogModel) → Proving f budget s old now → IsWhole now
whole f budget s old now g = where_so now (λ told. LogFits told s) (λ told. told.remainder ≡ []) (to_fit f budget s old now g) (λ told h. h.no_remainder)

-- the budget is spent
spent : (f : Problem) (budget : ℕ) (s : SearchModel) (old now : LogModel) → IsSearch s → Proving f budget s old now → budget ≤ s.lemmas → (IsReached s → ⊥) → ProveMeets f budget old (answers.Unfinished s.best) s.prices.bound now
spent f budget s old now is g le under = record {
  later = g.later;
  writes = told_so old now (λ was told. ProvedSoFar f s told) (λ was told. ProveWrites f budget (answers.Unfinished s.best) s.prices.bound old.faults now.faults told.lines) g.told (λ was told h.
      let fit = h.fits.fits in
      prove_writes f budget (answers.Unfinished s.best) s.prices.bound old.faults now.faults told.lines h.good fit.none_empty (fit.best, omega (arith, h.lemmas, g.within, le), fit.none_empty) fit.prices.bound (omega (arith, h.lemmas, g.within)) (λ a b d. refl));
  permitted = allowed f s is g.same_problem;
  worth = tt;
  means = subst (λ (p : Problem). budget ≤ room_count p) g.same_problem (omega (arith, few_stored s is, is.counted g.going, le));
  bounded = above f s is g.same_problem;
  above = subst (λ (p : Problem). IsAbove p (answers.Unfinished s.best) s.prices.bound) g.same_problem (not_reached s.prices.bound (best_cargo s) under);
  ends = whole f budget s old now g;
}

-- memory ran out between lines
rests : (f : Problem) (budget : ℕ) (s : SearchModel) (old now : LogModel) → IsSearch s → Proving f budget s old now → ProveMeets f budget old (answers.NoMemory s.best) s.prices.bound now
rests f budget s old now is g = record {
  later = g.later;
  writes = told_so old now (λ was told. ProvedSoFar f s told) (λ was told. ProveWrites f budget (answers.NoMemory s.best) s.prices.bound old.faults now.faults told.lines) g.told (λ was told h.
      let fit = h.fits.fits in
      prove_writes f budget (answers.NoMemory s.best) s.prices.bound old.faults now.faults told.lines h.good fit.none_empty fit.best fit.prices.bound (omega (arith, h.lemmas, g.within)) (λ a b d. refl));
  permitted = allowed f s is g.same_problem;
  worth = tt;
  means = tt;
  bounded = above f s is g.same_problem;
  above = tt;
  ends = whole f budget s old now g;
}

-- ---- advice stopped

pub rose_on : (a b c : ℕ) → a ≤ b → Rose b c → Rose a c
rose_on a b c le h = omega (arith, le, h)

advice_stopped : (f : Problem) (budget : ℕ) (s u : SearchModel) (old here now : LogModel) → IsSearch s → Proving f budget s old here → AdviceStopped s here turns.NoMemory u now → ProveMeets f budget old (answers.NoMemory u.best) u.prices.bound now
advice_stopped f budget s u old here now is g x =
    subst (λ (log : LogModel). ProveMeets f budget old (answers.NoMemory u.best) u.prices.bound log) (sym x.cause)
    (subst (λ (y : SearchModel). ProveMeets f budget old (answers.NoMemory y.best) y.prices.bound here) (sym x.over) (rests f budget s old here is g))

advice_failed : (f : Problem) (budget : ℕ) (s u : SearchModel) (old here now : LogModel) → IsSearch s → Proving f budget s old here → AdviceStopped s here turns.LogFailed u now → ProveMeets f budget old answers.LogFailed u.prices.bound now
advice_failed f budget s u old here now is g x =
    let rose : Rose old.faults now.faults = rose_on old.faults here.faults now.faults g.later x.cause.0 in
    let prices : u.prices ≡ s.prices = ap (λ (y : SearchModel). y.prices) x.over in
    subst (λ (p : PriceModel). ProveMeets f budget old answers.LogFailed p.bound now) (sym prices) (record {
      later = omega (arith, g.later, x.later);
      writes = told_on old here now (λ was mid. ProvedSoFar f s mid) (λ mid told. told.lines ≡ mid.lines) (λ was told. ProveWrites f budget answers.LogFailed s.prices.bound old.faults now.faults told.lines) g.told x.cause.2 (λ was mid told h e.
          subst (ProveWrites f budget answers.LogFailed s.prices.bound old.faults now.faults) (sym e)
          (prove_writes f budget answers.LogFailed s.prices.bound old.faults now.faults mid.lines h.good h.fits.fits.none_empty tt h.fits.fits.prices.bound (omega (arith, h.lemmas, g.within)) (λ a b d. absurd (a rose))));
      permitted = tt;
      worth = tt;
      means = tt;
      bounded = above f s is g.same_problem;
      above = tt;
      ends = (rose, subst (λ (p : Problem). WhereTold now (IsCutOff p)) g.same_problem x.cause.1);
    })

-- ---- the last turn

-- what a turn that was the last one leaves
record Closed (f : Problem) (u : SearchModel) (now : LogTold) : Type 0 where
  pub good : WrittenGood f now.lines
  pub best : last_table now.lines ≡ u.best
  pub lemmas : length (lemmas_of now.lines) ≡ u.lemmas
  pub bound : bound_of now.lines ≡ u.prices.bound

closes : (f : Problem) (budget : ℕ) (s u : SearchModel) (turn : Turn) (old here now : LogModel) → Proving f budget s old here → is_last turn ≡ true → TurnMeets s here turn u now → Grows old now (λ was told. Closed f u told)
closes f budget s u turn old here now g last t =
    told_and old now (λ was told. WrittenGood f told.lines × (bound_of told.lines ≡ u.prices.bound)) (λ was told. Closed f u told) (λ told. (last_table told.lines ≡ u.best) × (length (lemmas_of told.lines) ≡ u.lemmas))
    (told_on old here now (λ was mid. ProvedSoFar f s mid) (λ mid told. TurnWrites s.problem turn mid told × (bound_of told.lines ≡ bound_of mid.lines)) (λ was told. WrittenGood f told.lines × (bound_of told.lines ≡ u.prices.bound)) g.told
    (told_both here now (TurnWrites s.problem turn) (λ mid told. bound_of told.lines ≡ bound_of mid.lines) (λ mid told. TurnWrites s.problem turn mid told × (bound_of told.lines ≡ bound_of mid.lines)) t.writes (last_bound turn s u here now last t.does) (λ mid told a b. (a, b)))
    (λ was mid told h w. (written_more f s turn mid told g.same_problem h w.0, w.1 ∙ h.fits.fits.prices.bound ∙ ap (λ (p : PriceModel). p.bound) (sym t.same_prices))))
    (where_and now (λ told. last_table told.lines ≡ u.best) (λ told. length (lemmas_of told.lines) ≡ u.lemmas) (λ told. (last_table told.lines ≡ u.best) × (length (lemmas_of told.lines) ≡ u.lemmas)) t.best t.lemmas (λ told a b. (a, b)))
    (λ was told w h. record { good = w.0; best = h.0; lemmas = h.1; bound = w.1 })

-- after the turn the bound is as before it
above_after : (f : Problem) (s u : SearchModel) → IsSearch s → s.problem ≡ f → u.prices ≡ s.prices → IfSome u.prices.bound (IsBound f)
above_after f s u is same prices = subst (λ (p : PriceModel). IfSome p.bound (IsBound f)) (sym prices) (above f s is same)

-- memory ran out in a turn
turn_stopped : (f : Problem) (budget : ℕ) (s u : SearchModel) (old here now : LogModel) → IsSearch s → Proving f budget s old here → s.lemmas < budget → TurnMeets s here turns.NoMemory u now → ProveMeets f budget old (answers.NoMemory u.best) u.prices.bound now
turn_stopped f budget s u old here now is g lt t =
    let few = few_lemmas turns.NoMemory s u here now t.does in
    record {
      later = omega (arith, g.later, t.later);
      writes = told_and old now (λ was told. Closed f u told) (λ was told. ProveWrites f budget (answers.NoMemory u.best) u.prices.bound old.faults now.faults told.lines) (λ told. (told.remainder ≡ []) × (is_closed told.lines ≡ false)) (closes f budget s u turns.NoMemory old here now g refl t) t.fits (λ was told c h.
          prove_writes f budget (answers.NoMemory u.best) u.prices.bound old.faults now.faults told.lines c.good h.1 c.best c.bound (omega (arith, c.lemmas, few, lt)) (λ a b d. refl));
      permitted = subst (λ o. IfSome o (Permits f)) (sym (t.best_stays refl)) (allowed f s is g.same_problem);
      worth = tt;
      means = tt;
      bounded = above_after f s u is g.same_problem t.same_prices;
      above = tt;
      ends = where_so now (λ told. (told.remainder ≡ []) × (is_closed told.lines ≡ false)) (λ told. told.remainder ≡ []) t.fits (λ told a. a.0);
    }

-- a log that failed in a turn
cut_off : (f : Problem) (now : LogTold) → FailsNext f now → IsCutOff f now
cut_off f now h = (h.0, h.2, h.3, h.4, h.5)

turn_failed : (f : Problem) (budget : ℕ) (s u : SearchModel) (old here now : LogModel) → IsSearch s → Proving f budget s old here → s.lemmas < budget → TurnMeets s here turns.LogFailed u now → ProveMeets f budget old answers.LogFailed u.prices.bound now
turn_failed f budget s u old here now is g lt t =
    let few = few_lemmas turns.LogFailed s u here now t.does in
    let rose : Rose old.faults now.faults = rose_on old.faults here.faults now.faults g.later t.does.cause in
    record {
      later = omega (arith, g.later, t.later);
      writes = told_and old now (λ was told. Closed f u told) (λ was told. ProveWrites f budget answers.LogFailed u.prices.bound old.faults now.faults told.lines) (λ told. is_closed told.lines ≡ false) (closes f budget s u turns.LogFailed old here now g refl t) t.fits (λ was told c h.
          prove_writes f budget answers.LogFailed u.prices.bound old.faults now.faults told.lines c.good h tt c.bound (omega (arith, c.lemmas, few, lt)) (λ a b d. absurd (a rose)));
      permitted = tt;
      worth = tt;
      means = tt;
      bounded = above_after f s u is g.same_problem t.same_prices;
      above = tt;
      ends = (rose, where_so now (FailsNext f) (IsCutOff f) (subst (λ (p : Problem). WhereTold now (FailsNext p)) g.same_problem t.does.failed) (cut_off f));
    }

-- what a search that ended leaves: nothing beats its best
record EndsWith (f : Problem) (budget : ℕ) (s u : SearchModel) (old now : LogModel) : Type 0 where
  pub kept : IsSearch s
  pub same_problem : s.problem ≡ f
  pub same_best : u.best ≡ s.best
  pub same_prices : u.prices ≡ s.prices
  pub means : EndedMeans s
  pub few : u.lemmas ≤ budget
  pub later : old.faults ≤ now.faults
  pub told : Grows old now (λ was told. Closed f u told × (is_closed told.lines ≡ true))
  pub whole : IsWhole now

search_ended : (f : Problem) (budget : ℕ) (s u : SearchModel) (answer : Solved) (old now : LogModel) → EndsWith f budget s u old now → IsEndOf f u.best answer → ProveMeets f budget old answer u.prices.bound now
search_ended f budget s u answer old now x e = by u.best refl answer e
  where
    writes : (answer : Solved) → is_proved answer ≡ true → ((all : List Line) → last_table all ≡ u.best → AnswerTells f budget answer all) → Grows old now (λ was told. ProveWrites f budget answer u.prices.bound old.faults now.faults told.lines)
    writes answer proved tells = told_so old now (λ was told. Closed f u told × (is_closed told.lines ≡ true)) (λ was told. ProveWrites f budget answer u.prices.bound old.faults now.faults told.lines) x.told (λ was told h.
        prove_writes f budget answer u.prices.bound old.faults now.faults told.lines h.0.good (h.1 ∙ sym proved) (tells told.lines h.0.best) h.0.bound (omega (arith, h.0.lemmas, x.few)) (λ a b d. absurd (let z : true ≡ false = sym h.1 ∙ d in cc)))

    by : (best : Option (List ℕ)) → u.best ≡ best → (answer : Solved) → IsEndOf f best answer → ProveMeets f budget old answer u.prices.bound now
    by None none answer e = subst (λ (a : Solved). ProveMeets f budget old a u.prices.bound now) (sym e) (record {
      later = x.later;
      writes = writes answers.Infeasible refl (λ all h. h ∙ none);
      permitted = tt;
      worth = tt;
      means = subst (λ (p : Problem). AnswerMeans p budget answers.Infeasible) x.same_problem (x.means.infeasible (sym x.same_best ∙ none));
      bounded = above_after f s u x.kept x.same_problem x.same_prices;
      above = tt;
      ends = x.whole;
    })
    by (Some table) some answer e = subst (λ (a : Solved). ProveMeets f budget old a u.prices.bound now) (sym e.1) (record {
      later = x.later;
      writes = writes (answers.Optimal table e.0) refl (λ all h. (h ∙ some, e.2));
      permitted = subst (λ (o : Option (List ℕ)). IfSome o (Permits f)) (sym x.same_best ∙ some) (allowed f s x.kept x.same_problem);
      worth = e.2;
      means = subst (λ (p : Problem). AnswerMeans p budget (answers.Optimal table e.0)) x.same_problem (x.means.optimal table e.0 (sym x.same_best ∙ some) (subst (λ (p : Problem). cargo p table ≡ Some e.0) (sym x.same_problem) e.2));
      bounded = above_after f s u x.kept x.same_problem x.same_prices;
      above = tt;
      ends = x.whole;
    })

-- the search ended in a turn
turn_ended : (f : Problem) (budget : ℕ) (s u : SearchModel) (answer : Solved) (old here now : LogModel) → IsSearch s → Proving f budget s old here → s.lemmas < budget → TurnMeets s here turns.Ended u now → IsEndOf f u.best answer → ProveMeets f budget old answer u.prices.bound now
turn_ended f budget s u answer old here now is g lt t e = search_ended f budget s u answer old now (record {
  kept = is;
  same_problem = g.same_problem;
  same_best = t.best_stays refl;
  same_prices = t.same_prices;
  means = ended_means s u here now is t.does;
  few = omega (arith, few_lemmas turns.Ended s u here now t.does, lt);
  later = omega (arith, g.later, t.later);
  told = told_and old now (λ was told. Closed f u told) (λ was told. Closed f u told × (is_closed told.lines ≡ true)) (λ told. (told.remainder ≡ []) × (is_closed told.lines ≡ true)) (closes f budget s u turns.Ended old here now g refl t) t.fits (λ was told c h. (c, h.1));
  whole = where_so now (λ told. (told.remainder ≡ []) × (is_closed told.lines ≡ true)) (λ told. told.remainder ≡ []) t.fits (λ told a. a.0);
}) e

-- it was closed by its own bound
last_told : (f : Problem) (mid u : SearchModel) (here now : LogTold) → mid.problem ≡ f → u ≡ record mid { over = true } → ProvedSoFar f mid here → WritesLast mid.problem here now → Closed f u now × (is_closed now.lines ≡ true)
last_told f mid u here now same over h w =
    let v : WritesLast f here now = subst (λ (p : Problem). WritesLast p here now) same w in
    let fit = h.fits.fits in (
      record {
        good = subst (WrittenGood f) (sym v.lines) (good_more f here.lines (last_priced ∷ []) h.good v.good v.few_live);
        best = ap last_table v.lines ∙ last_push here.lines last_priced ∙ fit.best ∙ sym (ap (λ (x : SearchModel). x.best) over);
        lemmas = ap (λ xs. length (lemmas_of xs)) v.lines ∙ ap length (same_lemmas here.lines last_priced refl) ∙ h.lemmas ∙ sym (ap (λ (x : SearchModel). x.lemmas) over);
        bound = ap bound_of v.lines ∙ (clause_told here.lines last_priced [] mid.prices (priced_is []) fit.prices).bound ∙ sym (ap (λ (x : SearchModel). x.prices.bound) over);
      },
      ap is_closed v.lines ∙ last_closes f here.lines,
    )

closed_at : (f : Problem) (budget : ℕ) (s u : SearchModel) (answer : Solved) (old here now : LogModel) → Proving f budget s old here → Closes s u here now → IsEndOf f u.best answer → ProveMeets f budget old answer u.prices.bound now
closed_at f budget s u answer old here now g x e =
    let m : Proving f budget x.mid old x.then = heeded f budget s x.mid old here x.then g x.heeds in
    search_ended f budget x.mid u answer old now
    (record {
      kept = x.heeds.kept;
      same_problem = m.same_problem;
      same_best = ap (λ (y : SearchModel). y.best) x.over;
      same_prices = ap (λ (y : SearchModel). y.prices) x.over;
      means = ended_by x.mid x.heeds.kept (last_means x.mid x.heeds.kept x.shown);
      few = omega (arith, m.within, ap (λ (y : SearchModel). y.lemmas) x.over);
      later = omega (arith, m.later, x.same_faults);
      told = told_on old x.then now (λ was told. ProvedSoFar f x.mid told) (WritesLast x.mid.problem) (λ was told. Closed f u told × (is_closed told.lines ≡ true)) m.told x.writes (λ was mid told h w. last_told f x.mid u mid told m.same_problem x.over h w);
      whole = where_grown x.then now (WritesLast x.mid.problem) (λ told. told.remainder ≡ []) x.writes (λ was told w. w.no_remainder);
    })
    e

-- ---- the answers

ends_at : (f : Problem) (budget : ℕ) (s u : SearchModel) (answer : Solved) (old here now : LogModel) → Proving f budget s old here → s.lemmas < budget → AdvisedMeets s here turns.Ended u now → IsEndOf f u.best answer → ProveMeets f budget old answer u.prices.bound now
ends_at f budget s u answer old here now g lt a e = by a.follows
  where
    by : FollowsAdvice a.mid a.then turns.Ended u now → ProveMeets f budget old answer u.prices.bound now
    by (by_turn t) = turn_ended f budget a.mid u answer old a.then now a.heeds.kept (heeded f budget s a.mid old here a.then g a.heeds) (omega (arith, lt, ap (λ (x : SearchModel). x.lemmas) a.heeds.same)) t e
    by (by_preference p) = absurd (no p.answer)
      where
        no : turns.Ended ≡ turns.Decided → ⊥
        no e = cc
    by (by_stop x) = absurd x.cause

stopped : (f : Problem) (budget : ℕ) (s u : SearchModel) (old here now : LogModel) → Proving f budget s old here → s.lemmas < budget → AdvisedMeets s here turns.NoMemory u now → ProveMeets f budget old (answers.NoMemory u.best) u.prices.bound now
stopped f budget s u old here now g lt a = by a.follows
  where
    m : Proving f budget a.mid old a.then
    m = heeded f budget s a.mid old here a.then g a.heeds

    no : turns.NoMemory ≡ turns.Decided → ⊥
    no e = cc

    by : FollowsAdvice a.mid a.then turns.NoMemory u now → ProveMeets f budget old (answers.NoMemory u.best) u.prices.bound now
    by (by_turn t) = turn_stopped f budget a.mid u old a.then now a.heeds.kept m (omega (arith, lt, ap (λ (x : SearchModel). x.lemmas) a.heeds.same)) t
    by (by_preference p) = absurd (no p.answer)
    by (by_stop x) = advice_stopped f budget a.mid u old a.then now a.heeds.kept m x

failed : (f : Problem) (budget : ℕ) (s u : SearchModel) (old here now : LogModel) → Proving f budget s old here → s.lemmas < budget → AdvisedMeets s here turns.LogFailed u now → ProveMeets f budget old answers.LogFailed u.prices.bound now
failed f budget s u old here now g lt a = by a.follows
  where
    m : Proving f budget a.mid old a.then
    m = heeded f budget s a.mid old here a.then g a.heeds

    no : turns.LogFailed ≡ turns.Decided → ⊥
    no e = cc

    by : FollowsAdvice a.mid a.then turns.LogFailed u now → ProveMeets f budget old answers.LogFailed u.prices.bound now
    by (by_turn t) = turn_failed f budget a.mid u old a.then now a.heeds.kept m (omega (arith, lt, ap (λ (x : SearchModel). x.lemmas) a.heeds.same)) t
    by (by_preference p) = absurd (no p.answer)
    by (by_stop x) = advice_failed f budget a.mid u old a.then now a.heeds.kept m x

bound_stopped : (f : Problem) (budget : ℕ) (s u : SearchModel) (old here now : LogModel) → Proving f budget s old here → StopsBound s here turns.NoMemory u now → ProveMeets f budget old (answers.NoMemory u.best) u.prices.bound now
bound_stopped f budget s u old here now g b = advice_stopped f budget b.mid u old b.then now b.heeds.kept (heeded f budget s b.mid old here b.then g b.heeds) b.stopped

bound_failed : (f : Problem) (budget : ℕ) (s u : SearchModel) (old here now : LogModel) → Proving f budget s old here → StopsBound s here turns.LogFailed u now → ProveMeets f budget old answers.LogFailed u.prices.bound now
bound_failed f budget s u old here now g b = advice_failed f budget b.mid u old b.then now b.heeds.kept (heeded f budget s b.mid old here b.then g b.heeds) b.stopped

pub proving : (f : Problem) (budget : ℕ) → ProvingGoesOn f budget × ((s : SearchModel) (old here : LogModel) → IsSearch s → Proving f budget s old here → ProvingEnds f budget s old here)
proving f budget = (
  record {
    no_search = no_search f budget;
    begins = begins f budget;
    turns = λ s after turn old here new g lt last a. goes_on f budget s after turn old here new g lt last a;
    lower = λ s after old here new g l. lowered f budget s after old here new g l;
    proposed = λ s after old here new g t. proposed f budget s after old here new g t;
    same = λ s after old here new g e. same f budget s after old here new g e.0 e.1;
  },
  λ s old here is g. record {
    spent = λ le under. spent f budget s old here is g le under;
    ended = λ after new lt a answer e. ends_at f budget s after answer old here new g lt a e;
    stopped = λ after new lt a. stopped f budget s after old here new g lt a;
    failed = λ after new lt a. failed f budget s after old here new g lt a;
    closed = λ after new x answer e. closed_at f budget s after answer old here new g x e;
    bound_stopped = λ after new b. bound_stopped f budget s after old here new g b;
    bound_failed = λ after new b. bound_failed f budget s after old here new g b;
  },
)
