-- What each answer of a solution meets.
use Rattle.std.proofs.Common.{◌≡◌, ℕ, ◌+◌, ◌<◌, ◌≤◌, true, false, List, [], ◌++◌, Option, Some, None, IfSome, length, refl, sym, ap, ◌∙◌, subst, arith}
use Rattle.std.proofs.lemmas.List.Elements.{All-append, All-nil}
use Rattle.hw_model.specs.Problem.{Problem}
use Rattle.hw_model.specs.Limits.{IsFlat}
use Rattle.hw_model.specs.Timetables.{Permits, cargo}
use Rattle.hw_model.specs.Rooms.{room_count}
use Rattle.hw_desk.specs.State.{Rose}
use Rattle.hw_cert_lines.specs.declared.line.Line.{Line}
use Rattle.hw_cert_lines.specs.Tolled.{is_plain}
use Rattle.hw_cert_lines.specs.Lines.{last_table, is_closed, ends}
use Rattle.hw_cert_lines.specs.Valid.{LineFits}
use Rattle.hw_cert_lines.specs.Lemmas.{lemmas_of}
use Rattle.hw_cert_lines.proofs.Closed.{closed_from}
use Rattle.hw_cert.specs.Logs.{LogTold, LogModel, WhereTold, Grows, IsEmpty, IsWhole}
use Rattle.hw_search_laws.specs.declared.outcome.Branching.TheVariants.{Greatest}
use Rattle.hw_search_laws.specs.declared.outcome.Turn.{Turn}
use Rattle.hw_search_laws.specs.declared.outcome.Turn.TheVariants as turns
use Rattle.hw_search_laws.specs.declared.outcome.Solved.{Solved}
use Rattle.hw_search_laws.specs.declared.outcome.Solved.TheVariants as answers
use Rattle.hw_search_laws.specs.Living.{FewLiveFrom}
use Rattle.hw_search_laws.specs.Proving.{IsEndOf}
use Rattle.hw_search_laws.specs.Searches.{SearchModel, IsSearch, LogFits, new_search}
use Rattle.hw_search_laws.specs.Turns.{TurnMeets, TurnWrites, WritesWell, FitsAfter, FailsNext, FailsAt, is_last}
use Rattle.hw_search_laws.specs.Solving.{SolveMeets, SolveWrites, AnswerTells, AnswerMeans, is_proved, may_be_spent}
use Rattle.hw_search_laws.proofs.Bounds.{few_stored}
use Rattle.hw_search_laws.proofs.Heeded.{valid_append, lean_append}
use Rattle.hw_search_laws.proofs.Living.{throughout, none_live}
use Rattle.hw_search_laws.proofs.OneLemma.{few_lemmas}
use Rattle.hw_search_laws.proofs.Told.{told_same, told_on, told_and, where_and, where_so, where_grown}
use Rattle.hw_search_laws.proofs.Trues.{ended as ended_means}
use Rattle.hw_search_laws.proofs.Turned.{starts}
use Rattle.hw_search_laws.proofs.Provings.{rose_on}
use Rattle.hw_search.specs.Going.{WellWritten, SoFar, Going, Closing}
use Rattle.hw_search.proofs.Plain.{plain_tariff}

-- ---- lines after lines

well_more : (f : Problem) (a b : List Line) → WellWritten f a → WritesWell f a b → FewLiveFrom f a b → WellWritten f (a ++ b)
well_more f a b w m few = record {
  plain = All-append (λ line. is_plain line ≡ true) a b w.plain (m.plain (plain_tariff a w.plain));
  fit = All-append (LineFits f) a b w.fit m.fit;
  valid = valid_append f [] a b w.valid m.valid;
  lean = lean_append f [] a b w.lean m.lean;
  new = m.new w.new;
  few_live = throughout f a b w.few_live few;
}

no_line : (f : Problem) → WellWritten f []
no_line f = record { plain = All-nil (λ line. is_plain line ≡ true); fit = All-nil (LineFits f); valid = tt; lean = tt; new = λ i j d a b. absurd (omega (arith, b)); few_live = none_live f }

-- ---- a solution begins, and goes on

pub begins : (f : Problem) (budget : ℕ) (log : LogModel) → IsFlat f → IsEmpty log → Going f budget (new_search f Greatest) log log
begins f budget log flat empty = record {
  same_problem = refl;
  going = refl;
  within = omega arith;
  later = omega arith;
  told = told_same log (λ told. (told.lines ≡ []) × (told.remainder ≡ [])) (λ was now. SoFar f (new_search f Greatest) now) empty (λ now e. record {
    fits = (starts f Greatest now flat e.0 e.1).1;
    well = subst (WellWritten f) (sym e.0) (no_line f);
    lemmas = ap (λ xs. length (lemmas_of xs)) e.0;
  });
}

pub to_fit : (f : Problem) (budget : ℕ) (s : SearchModel) (old now : LogModel) → Going f budget s old now → WhereTold now (λ told. LogFits told s)
to_fit f budget s old now g = where_grown old now (λ was here. SoFar f s here) (λ told. LogFits told s) g.told (λ was now h. h.fits)

written_more : (f : Problem) (s : SearchModel) (turn : Turn) (here now : LogTold) → s.problem ≡ f → SoFar f s here → TurnWrites s.problem turn here now → WellWritten f now.lines
written_more f s turn here now same h w =
    let v : TurnWrites f turn here now = subst (λ (p : Problem). TurnWrites p turn here now) same w in
    subst (WellWritten f) (sym v.lines) (well_more f here.lines v.more h.well v.well v.few_live)

pub goes_on : (f : Problem) (budget : ℕ) (s u : SearchModel) (turn : Turn) (old here now : LogModel) → Going f budget s old here → s.lemmas < budget → is_last turn ≡ false → TurnMeets s here turn u now → Going f budget u old now
goes_on f budget s u turn old here now g lt last t = record {
  same_problem = t.same_problem ∙ g.same_problem;
  going = t.over ∙ last;
  within = omega (arith, few_lemmas turn s u here now t.does, lt);
  later = omega (arith, g.later, t.later);
  told = told_and old now (λ was told. WellWritten f told.lines) (λ was told. SoFar f u told) (λ told. LogFits told u × (length (lemmas_of told.lines) ≡ u.lemmas))
      (told_on old here now (λ was mid. SoFar f s mid) (TurnWrites s.problem turn) (λ was told. WellWritten f told.lines) g.told t.writes (λ was mid told h w. written_more f s turn mid told g.same_problem h w))
      (where_and now (λ told. LogFits told u) (λ told. length (lemmas_of told.lines) ≡ u.lemmas) (λ told. LogFits told u × (length (lemmas_of told.lines) ≡ u.lemmas)) (fits_by turn last t.fits) t.lemmas (λ told a b. (a, b)))
      (λ was told w h. record { fits = h.0; well = w; lemmas = h.1 });
}
  where
    fits_by : (turn : Turn) → is_last turn ≡ false → FitsAfter turn u now → WhereTold now (λ told. LogFits told u)
    fits_by turns.Decided e h = h
    fits_by turns.Better e h = h
    fits_by turns.Lemma e h = h
    fits_by turns.Ended e h = absurd cc
    fits_by turns.NoMemory e h = absurd cc
    fits_by turns.LogFailed e h = absurd cc

-- ---- the last turn

closes : (f : Problem) (budget : ℕ) (s u : SearchModel) (turn : Turn) (old here now : LogModel) → Going f budget s old here → TurnMeets s here turn u now → Grows old now (λ was told. Closing f u told)
closes f budget s u turn old here now g t =
    told_and old now (λ was told. WellWritten f told.lines) (λ was told. Closing f u told) (λ told. (last_table told.lines ≡ u.best) × (length (lemmas_of told.lines) ≡ u.lemmas))
    (told_on old here now (λ was mid. SoFar f s mid) (TurnWrites s.problem turn) (λ was told. WellWritten f told.lines) g.told t.writes (λ was mid told h w. written_more f s turn mid told g.same_problem h w))
    (where_and now (λ told. last_table told.lines ≡ u.best) (λ told. length (lemmas_of told.lines) ≡ u.lemmas) (λ told. (last_table told.lines ≡ u.best) × (length (lemmas_of told.lines) ≡ u.lemmas)) t.best t.lemmas (λ told a b. (a, b)))
    (λ was told w h. record { well = w; best = h.0; lemmas = h.1 })

-- the last line has no literals exactly where some line has none
closed_ends : (f : Problem) (all : List Line) → WellWritten f all → ends all ≡ is_closed all
closed_ends f all w = closed_from f all [] w.valid refl

solve_writes : (f : Problem) (budget : ℕ) (answer : Solved) (before now : ℕ) (all : List Line) → WellWritten f all → is_closed all ≡ is_proved answer → AnswerTells f budget answer all → length (lemmas_of all) ≤ budget → ((Rose before now → ⊥) → length (lemmas_of all) ≡ budget → is_closed all ≡ false → may_be_spent answer ≡ true) → SolveWrites f budget answer before now all
solve_writes f budget answer before now all w closed tells few spent = record {
  plain = w.plain;
  fit = w.fit;
  valid = w.valid;
  lean = w.lean;
  new = w.new;
  few_live = w.few_live;
  proved_just = sym (closed_ends f all w ∙ closed);
  tells = tells;
  lemmas = few;
  spent = spent;
}

-- memory ran out in a turn
pub stopped : (f : Problem) (budget : ℕ) (s u : SearchModel) (old here now : LogModel) → IsSearch s → Going f budget s old here → s.lemmas < budget → TurnMeets s here turns.NoMemory u now → SolveMeets f budget old (answers.NoMemory u.best) now
stopped f budget s u old here now is g lt t =
    let few = few_lemmas turns.NoMemory s u here now t.does in
    record {
      later = omega (arith, g.later, t.later);
      writes = told_and old now (λ was told. Closing f u told) (λ was told. SolveWrites f budget (answers.NoMemory u.best) old.faults now.faults told.lines) (λ told. (told.remainder ≡ []) × (is_closed told.lines ≡ false)) (closes f budget s u turns.NoMemory old here now g t) t.fits (λ was told c h.
          solve_writes f budget (answers.NoMemory u.best) old.faults now.faults told.lines c.well h.1 c.best (omega (arith, c.lemmas, few, lt)) (λ a b d. refl));
      permitted = subst (λ o. IfSome o (Permits f)) (sym (t.best_stays refl)) (subst (λ (p : Problem). IfSome s.best (Permits p)) g.same_problem is.permitted);
      worth = tt;
      means = tt;
      ends = where_so now (λ told. (told.remainder ≡ []) × (is_closed told.lines ≡ false)) (λ told. told.remainder ≡ []) t.fits (λ told a. a.0);
    }

-- a failed log
pub failed : (f : Problem) (budget : ℕ) (s u : SearchModel) (old here now : LogModel) → Going f budget s old here → s.lemmas < budget → TurnMeets s here turns.LogFailed u now → SolveMeets f budget old answers.LogFailed now
failed f budget s u old here now g lt t =
    let few = few_lemmas turns.LogFailed s u here now t.does in
    let rose : Rose old.faults now.faults = rose_on old.faults here.faults now.faults g.later t.does.cause in
    record {
      later = omega (arith, g.later, t.later);
      writes = told_and old now (λ was told. Closing f u told) (λ was told. SolveWrites f budget answers.LogFailed old.faults now.faults told.lines) (λ told. is_closed told.lines ≡ false) (closes f budget s u turns.LogFailed old here now g t) t.fits (λ was told c h.
          solve_writes f budget answers.LogFailed old.faults now.faults told.lines c.well h tt (omega (arith, c.lemmas, few, lt)) (λ a b d. absurd (a rose)));
      permitted = tt;
      worth = tt;
      means = tt;
      ends = (
        rose,
        subst (λ (p : Problem). WhereTold now (FailsAt p)) g.same_problem (
            where_and now (λ told. WellWritten f told.lines) (FailsNext s.problem) (FailsAt s.problem) (where_grown old now (λ was told. Closing f u told) (λ told. WellWritten f told.lines) (closes f budget s u turns.LogFailed old here now g t) (λ was told c. c.well)) t.does.failed (λ told w n. (n.0, n.1 (plain_tariff told.lines w.plain), n.2, n.3, n.4, n.5))),
      );
    }

-- the budget is spent
pub spent : (f : Problem) (budget : ℕ) (s : SearchModel) (old now : LogModel) → IsSearch s → Going f budget s old now → budget ≤ s.lemmas → SolveMeets f budget old (answers.Unfinished s.best) now
spent f budget s old now is g le = record {
  later = g.later;
  writes = told_and old now (λ was told. SoFar f s told) (λ was told. SolveWrites f budget (answers.Unfinished s.best) old.faults now.faults told.lines) (λ told. LogFits told s) g.told (to_fit f budget s old now g) (λ was told h fit.
      solve_writes f budget (answers.Unfinished s.best) old.faults now.faults told.lines h.well fit.fits.none_empty (fit.fits.best, omega (arith, h.lemmas, g.within, le), fit.fits.none_empty) (omega (arith, h.lemmas, g.within)) (λ a b d. refl));
  permitted = subst (λ (p : Problem). IfSome s.best (Permits p)) g.same_problem is.permitted;
  worth = tt;
  means = subst (λ (p : Problem). budget ≤ room_count p) g.same_problem (omega (arith, few_stored s is, is.counted g.going, le));
  ends = where_so now (λ told. LogFits told s) (λ told. told.remainder ≡ []) (to_fit f budget s old now g) (λ told a. a.no_remainder);
}

-- ---- the search ended

pub ends_at : (f : Problem) (budget : ℕ) (s u : SearchModel) (answer : Solved) (old here now : LogModel) → IsSearch s → Going f budget s old here → s.lemmas < budget → TurnMeets s here turns.Ended u now → IsEndOf f u.best answer → SolveMeets f budget old answer now
ends_at f budget s u answer old here now is g lt t e = by u.best refl answer e
  where
    few : u.lemmas ≤ s.lemmas + 1
    few = few_lemmas turns.Ended s u here now t.does

    writes : (answer : Solved) → is_proved answer ≡ true → ((all : List Line) → last_table all ≡ u.best → AnswerTells f budget answer all) → Grows old now (λ was told. SolveWrites f budget answer old.faults now.faults told.lines)
    writes answer proved tells = told_and old now (λ was told. Closing f u told) (λ was told. SolveWrites f budget answer old.faults now.faults told.lines) (λ told. (told.remainder ≡ []) × (is_closed told.lines ≡ true)) (closes f budget s u turns.Ended old here now g t) t.fits (λ was told c h.
        solve_writes f budget answer old.faults now.faults told.lines c.well (h.1 ∙ sym proved) (tells told.lines c.best) (omega (arith, c.lemmas, few_lemmas turns.Ended s u here now t.does, lt)) (λ a b d. absurd (let z : true ≡ false = sym h.1 ∙ d in cc)))

    whole : IsWhole now
    whole = where_so now (λ told. (told.remainder ≡ []) × (is_closed told.lines ≡ true)) (λ told. told.remainder ≡ []) t.fits (λ told a. a.0)

    by : (best : Option (List ℕ)) → u.best ≡ best → (answer : Solved) → IsEndOf f best answer → SolveMeets f budget old answer now
    by None none answer e = subst (λ (a : Solved). SolveMeets f budget old a now) (sym e) (record {
      later = omega (arith, g.later, t.later);
      writes = writes answers.Infeasible refl (λ all h. h ∙ none);
      permitted = tt;
      worth = tt;
      means = subst (λ (p : Problem). AnswerMeans p budget answers.Infeasible) g.same_problem ((ended_means s u here now is t.does).infeasible (sym (t.best_stays refl) ∙ none));
      ends = whole;
    })
    by (Some table) some answer e = subst (λ (a : Solved). SolveMeets f budget old a now) (sym e.1) (record {
      later = omega (arith, g.later, t.later);
      writes = writes (answers.Optimal table e.0) refl (λ all h. (h ∙ some, e.2));
      permitted = subst (λ (o : Option (List ℕ)). IfSome o (Permits f)) (sym (t.best_stays refl) ∙ some) (subst (λ (p : Problem). IfSome s.best (Permits p)) g.same_problem is.permitted);
      worth = e.2;
      means = subst (λ (p : Problem). AnswerMeans p budget (answers.Optimal table e.0)) g.same_problem ((ended_means s u here now is t.does).optimal table e.0 (sym (t.best_stays refl) ∙ some) (subst (λ (p : Problem). cargo p table ≡ Some e.0) (sym g.same_problem) e.2));
      ends = whole;
    })
