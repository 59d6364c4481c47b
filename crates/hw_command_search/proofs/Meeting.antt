-- What each of the three searches leaves on its log, in one form.
use Rattle.std.proofs.Common.{◌≡◌, ◌≤◌, ◌∙◌, ℕ, Bool, true, false, List, [], ◌∷◌, Option, Some, None, length, refl, sym, ap, subst}
use Rattle.std.proofs.lemmas.List.Elements.{All-head, All-tail}
use Rattle.std.specs.Prelude.{All, IfSome, IsSomeAnd, fold, option_and_then}
use Rattle.hw_model.specs.Problem.{Problem}
use Rattle.hw_model.specs.Timetables.{cargo}
use Rattle.hw_cert_lines.specs.declared.line.Line.{Line}
use Rattle.hw_cert_lines.specs.declared.line.Line.TheVariants as lines
use Rattle.hw_cert_lines.specs.Lemmas.{lemmas_of}
use Rattle.hw_cert_lines.specs.Lines.{best_of, last_table, ends, is_closed}
use Rattle.hw_cert_lines.specs.Tolled.{is_plain, bound_after, bound_of}
use Rattle.hw_cert_lines.specs.Valid.{verdict, verdict_by}
use Rattle.hw_desk.specs.State.{DeskState, Rose}
use Rattle.hw_cert.specs.Logs.{LogTold, LogModel, WhereTold, IsWhole, Grows}
use Rattle.hw_cert.specs.Told.{log_of}
use Rattle.hw_search_laws.specs.declared.outcome.Branching.{Branching}
use Rattle.hw_search_laws.specs.declared.outcome.Solved.{Solved}
use Rattle.hw_search_laws.specs.declared.outcome.Solved.TheVariants as solved
use Rattle.hw_search_laws.specs.Advised.{IsCutOff}
use Rattle.hw_search_laws.specs.Proving.{ProveWrites, ProveMeets}
use Rattle.hw_search_laws.specs.Solving.{SolveWrites, SolveMeets}
use Rattle.hw_search_laws.specs.Turns.{FailsAt}
use Rattle.hw_search.specs.Faults.{SolvedKeepsFaults}
use Rattle.hw_turns.specs.Working.{CrewWrites, CrewMeets}
use Rattle.hw_turns.specs.declared.outcome.Crewed.{Crewed}
use Rattle.hw_turns.specs.declared.outcome.Crewed.TheVariants as crewed
use Rattle.hw_report.specs.declared.report.Head.TheVariants as heads
use Rattle.hw_command_search.specs.Certified.{IsWritten, ShowsHead, IsCutLine}
use Rattle.hw_command_search.specs.Finding.{found_of, found_by_crew}
use Rattle.hw_command_search.specs.Searchers.{Searcher, solving, proving, crewing, searcher_of}
use Rattle.hw_command_search.specs.Searching.{FoundIsTrue, TellsFound, TellsCut, SearchMeets}
use Rattle.hw_command_search.specs.declared.finding.Found.{Found}
use Rattle.hw_command_search.specs.declared.searcher.Search.{Search}

-- ---- plain lines have no bound

plain_after : (last : Option ℕ) (line : Line) → is_plain line ≡ true → bound_after last line ≡ last
plain_after last (lines.Bound bound) e = absurd (cc)
plain_after last line e = refl

plain_fold : (last : Option ℕ) (all : List Line) → All (λ line. is_plain line ≡ true) all → fold bound_after last all ≡ last
plain_fold last [] h = refl
plain_fold last (line ∷ more) h =
    ap (λ (b : Option ℕ). fold bound_after b more) (plain_after last line (All-head (λ line. is_plain line ≡ true) line more h)) ∙ plain_fold last more (All-tail (λ line. is_plain line ≡ true) line more h)

plain_bound : (all : List Line) → All (λ line. is_plain line ≡ true) all → bound_of all ≡ None
plain_bound all h = plain_fold None all h

-- ---- what lines show of an answer

verdict_of : (f : Problem) (all : List Line) (b : Bool) → b ≡ ends all → verdict f all ≡ verdict_by b (best_of f all)
verdict_of f all b e = ap (λ t. verdict_by t (best_of f all)) (sym e)

pub optimal_shows : {f : Problem} {budget : ℕ} {all : List Line} (table : List ℕ) (c : ℕ) (bound : Option ℕ) → last_table all ≡ Some table → cargo f table ≡ Some c → true ≡ ends all → bound_of all ≡ bound → ShowsHead f None budget (heads.Optimal c) (Some table) bound all
optimal_shows {f = f} {all = all} table c bound last worth ended told =
    let best : best_of f all ≡ Some c = ap (option_and_then (cargo f)) last ∙ worth in
    record { last = last; last_bound = told; verdict = verdict_of f all true ended ∙ ap (verdict_by true) best; spent = tt }

pub infeasible_shows : {f : Problem} {budget : ℕ} {all : List Line} (bound : Option ℕ) → last_table all ≡ None → true ≡ ends all → bound_of all ≡ bound → ShowsHead f None budget heads.Infeasible None bound all
infeasible_shows {f = f} {all = all} bound last ended told =
    let best : best_of f all ≡ None = ap (option_and_then (cargo f)) last in
    record { last = last; last_bound = told; verdict = verdict_of f all true ended ∙ ap (verdict_by true) best; spent = tt }

pub unfinished_shows : {f : Problem} {budget : ℕ} {all : List Line} (table : Option (List ℕ)) (bound : Option ℕ) → (last_table all ≡ table) × (length (lemmas_of all) ≡ budget) × (is_closed all ≡ false) → false ≡ ends all → bound_of all ≡ bound → ShowsHead f None budget (heads.Unfinished budget) table bound all
unfinished_shows {f = f} {all = all} table bound tells ended told = record { last = tells.0; last_bound = told; verdict = verdict_of f all false ended; spent = (tells.1, tells.2) }

memory_shows : {f : Problem} {budget : ℕ} {all : List Line} (table : Option (List ℕ)) (bound : Option ℕ) → last_table all ≡ table → false ≡ ends all → bound_of all ≡ bound → ShowsHead f None budget heads.Memory table bound all
memory_shows {f = f} {all = all} table bound last ended told = record { last = last; last_bound = told; verdict = verdict_of f all false ended; spent = tt }

-- ---- what is told of the log

told_both : (A E B : LogTold → Type 0) (old new : Option LogTold) → IfSome new (λ now. IsSomeAnd old (λ was. A now)) → IfSome new E → ((told : LogTold) → A told → E told → B told) → IfSome new B
told_both A E B old None h e k = tt
told_both A E B None (Some now) h e k = absurd h
told_both A E B (Some was) (Some now) h e k = k now h e

-- whole lines show what was found
found_meets : (q : Searcher) (f : Problem) (budget : ℕ) (found : Found) (Wrote : List Line → Type 0) (old new : LogModel) → old.faults ≤ new.faults → new.faults ≡ old.faults → FoundIsTrue q f budget found → Grows old new (λ was now. Wrote now.lines) → IsWhole new → ((all : List Line) → Wrote all → IsWritten q f budget all) → ((all : List Line) → Wrote all → ShowsHead f None budget found.head found.table found.bound all) → SearchMeets q f budget old (Some found) new
found_meets q f budget found Wrote old new later kept is grows whole written shows = record {
  later = later;
  leaves = (kept, is, told_both (λ told. Wrote told.lines) (λ told. told.remainder ≡ []) (TellsFound q f budget found) old.told new.told grows whole (λ told wrote here. record { whole = here; written = written told.lines wrote; shows = shows told.lines wrote }));
}

-- lines, and a part of the next one
cut_meets : (q : Searcher) (f : Problem) (budget : ℕ) (Wrote : List Line → Type 0) (Cut : LogTold → Type 0) (old new : LogModel) → old.faults ≤ new.faults → Grows old new (λ was now. Wrote now.lines) → Rose old.faults new.faults × WhereTold new Cut → ((all : List Line) → Wrote all → IsWritten q f budget all) → ((told : LogTold) → Cut told → IsCutLine q f told) → SearchMeets q f budget old None new
cut_meets q f budget Wrote Cut old new later grows cut written next = record {
  later = later;
  leaves = (cut.0, told_both (λ told. Wrote told.lines) Cut (TellsCut q f budget) old.told new.told grows cut.1 (λ told wrote here. record { written = written told.lines wrote; next = next told here }));
}

plain_cut : (q : Searcher) (f : Problem) → ((line : Line) → is_plain line ≡ true → q.MayWrite line) → (told : LogTold) → FailsAt f told → IsCutLine q f told
plain_cut q f may told h = record { line = h.0; may = may h.0 h.1; fits = h.2; valid = h.3; lean = h.4; part = h.5 }

any_cut : (f : Problem) (told : LogTold) → IsCutOff f told → IsCutLine proving f told
any_cut f told h = record { line = h.0; may = tt; fits = h.1; valid = h.2; lean = h.3; part = h.4 }

-- ---- `solve`

pub solve_written : {f : Problem} {budget b n : ℕ} {all : List Line} (answer : Solved) → SolveWrites f budget answer b n all → IsWritten solving f budget all
solve_written answer w = record { may = w.plain; fit = w.fit; valid = w.valid; lean = w.lean; promised = record { new = w.new; few_live = w.few_live }; few = w.lemmas }

solved_with : {f : Problem} {budget : ℕ} {old new : LogModel} (answer : Solved) (found : Found) → SolveMeets f budget old answer new → new.faults ≡ old.faults → FoundIsTrue solving f budget found → IsWhole new → ((all : List Line) → SolveWrites f budget answer old.faults new.faults all → ShowsHead f None budget found.head found.table found.bound all) → SearchMeets solving f budget old (Some found) new
solved_with {f = f} {budget = budget} {old = old} {new = new} answer found m kept is whole shows = found_meets solving f budget found (SolveWrites f budget answer old.faults new.faults) old new m.later kept is m.writes whole (λ all w. solve_written answer w) shows

pub solve_meets : {f : Problem} {budget : ℕ} {old new : LogModel} (answer : Solved) → SolveMeets f budget old answer new → SolvedKeepsFaults answer old new → SearchMeets solving f budget old (found_of budget answer None) new
solve_meets (solved.Optimal table c) m kept = solved_with (solved.Optimal table c) _ m kept (record { permitted = m.permitted; means = m.means; bounded = tt; above = tt }) m.ends (λ all w. optimal_shows table c None w.tells.0 w.tells.1 w.proved_just (plain_bound all w.plain))
solve_meets solved.Infeasible m kept = solved_with solved.Infeasible _ m kept (record { permitted = tt; means = (m.means, refl); bounded = tt; above = tt }) m.ends (λ all w. infeasible_shows None w.tells w.proved_just (plain_bound all w.plain))
solve_meets (solved.Unfinished table) m kept = solved_with (solved.Unfinished table) _ m kept (record { permitted = m.permitted; means = (refl, m.means); bounded = tt; above = tt }) m.ends (λ all w. unfinished_shows table None w.tells w.proved_just (plain_bound all w.plain))
solve_meets (solved.NoMemory table) m kept = solved_with (solved.NoMemory table) _ m kept (record { permitted = m.permitted; means = tt; bounded = tt; above = tt }) m.ends (λ all w. memory_shows table None w.tells w.proved_just (plain_bound all w.plain))
solve_meets {f = f} {budget = budget} {old = old} {new = new} solved.LogFailed m kept = cut_meets solving f budget (SolveWrites f budget solved.LogFailed old.faults new.faults) (FailsAt f) old new m.later m.writes m.ends (λ all w. solve_written solved.LogFailed w) (plain_cut solving f (λ line e. e))

-- ---- `prove`

prove_written : {f : Problem} {budget b n : ℕ} {bound : Option ℕ} {all : List Line} (answer : Solved) → ProveWrites f budget answer bound b n all → IsWritten proving f budget all
prove_written answer w = record { may = λ k d lt. tt; fit = w.good.fit; valid = w.good.valid; lean = w.good.lean; promised = record { new = w.good.new; few_live = w.good.few_live }; few = w.lemmas }

proved_with : {f : Problem} {budget : ℕ} {bound : Option ℕ} {old new : LogModel} (answer : Solved) (found : Found) → ProveMeets f budget old answer bound new → new.faults ≡ old.faults → FoundIsTrue proving f budget found → IsWhole new → ((all : List Line) → ProveWrites f budget answer bound old.faults new.faults all → ShowsHead f None budget found.head found.table found.bound all) → SearchMeets proving f budget old (Some found) new
proved_with {f = f} {budget = budget} {bound = bound} {old = old} {new = new} answer found m kept is whole shows = found_meets proving f budget found (ProveWrites f budget answer bound old.faults new.faults) old new m.later kept is m.writes whole (λ all w. prove_written answer w) shows

pub prove_meets : {f : Problem} {budget : ℕ} {old new : LogModel} (answer : Solved) (bound : Option ℕ) → ProveMeets f budget old answer bound new → SolvedKeepsFaults answer old new → SearchMeets proving f budget old (found_of budget answer bound) new
prove_meets (solved.Optimal table c) bound m kept = proved_with (solved.Optimal table c) _ m kept (record { permitted = m.permitted; means = m.means; bounded = m.bounded; above = tt }) m.ends (λ all w. optimal_shows table c bound w.tells.0 w.tells.1 w.proved_just w.last_bound)
prove_meets solved.Infeasible bound m kept = proved_with solved.Infeasible _ m kept (record { permitted = tt; means = (m.means, refl); bounded = m.bounded; above = tt }) m.ends (λ all w. infeasible_shows bound w.tells w.proved_just w.last_bound)
prove_meets (solved.Unfinished table) bound m kept = proved_with (solved.Unfinished table) _ m kept (record { permitted = m.permitted; means = (refl, m.means); bounded = m.bounded; above = m.above }) m.ends (λ all w. unfinished_shows table bound w.tells w.proved_just w.last_bound)
prove_meets (solved.NoMemory table) bound m kept = proved_with (solved.NoMemory table) _ m kept (record { permitted = m.permitted; means = tt; bounded = m.bounded; above = tt }) m.ends (λ all w. memory_shows table bound w.tells w.proved_just w.last_bound)
prove_meets {f = f} {budget = budget} {old = old} {new = new} solved.LogFailed bound m kept = cut_meets proving f budget (ProveWrites f budget solved.LogFailed bound old.faults new.faults) (IsCutOff f) old new m.later m.writes m.ends (λ all w. prove_written solved.LogFailed w) (any_cut f)

-- ---- `crew`

crew_written : {f : Problem} {order : List Branching} {budget b n : ℕ} {all : List Line} (answer : Crewed) → CrewWrites f order budget answer b n all → IsWritten (crewing order) f budget all
crew_written answer w = record { may = w.plain; fit = w.fit; valid = w.valid; lean = w.lean; promised = w.new; few = w.lemmas }

crewed_with : {f : Problem} {order : List Branching} {budget : ℕ} {old new : LogModel} (answer : Crewed) (found : Found) → CrewMeets f order budget old answer new → new.faults ≡ old.faults → FoundIsTrue (crewing order) f budget found → IsWhole new → ((all : List Line) → CrewWrites f order budget answer old.faults new.faults all → ShowsHead f None budget found.head found.table found.bound all) → SearchMeets (crewing order) f budget old (Some found) new
crewed_with {f = f} {order = order} {budget = budget} {old = old} {new = new} answer found m kept is whole shows = found_meets (crewing order) f budget found (CrewWrites f order budget answer old.faults new.faults) old new m.later kept is m.writes whole (λ all w. crew_written answer w) shows

pub crew_meets : {f : Problem} {order : List Branching} {budget : ℕ} {old new : LogModel} (answer : Crewed) → CrewMeets f order budget old answer new → SearchMeets (crewing order) f budget old (found_by_crew budget answer) new
crew_meets (crewed.Optimal table c) m = crewed_with (crewed.Optimal table c) _ m m.kept (record { permitted = m.permitted; means = m.means; bounded = tt; above = tt }) m.ends (λ all w. optimal_shows table c None w.tells.0 w.tells.1 w.proved_just (plain_bound all w.plain))
crew_meets crewed.Infeasible m = crewed_with crewed.Infeasible _ m m.kept (record { permitted = tt; means = (m.means, refl); bounded = tt; above = tt }) m.ends (λ all w. infeasible_shows None w.tells w.proved_just (plain_bound all w.plain))
crew_meets (crewed.Spent table) m = crewed_with (crewed.Spent table) _ m m.kept (record { permitted = m.permitted; means = (refl, m.means); bounded = tt; above = tt }) m.ends (λ all w. unfinished_shows table None w.tells w.proved_just (plain_bound all w.plain))
crew_meets (crewed.NoMemory table) m = crewed_with (crewed.NoMemory table) _ m m.kept (record { permitted = m.permitted; means = tt; bounded = tt; above = tt }) m.ends (λ all w. memory_shows table None w.tells w.proved_just (plain_bound all w.plain))
crew_meets {f = f} {order = order} {budget = budget} {old = old} {new = new} crewed.LogFailed m = cut_meets (crewing order) f budget (CrewWrites f order budget crewed.LogFailed old.faults new.faults) (FailsAt f) old new m.later m.writes m.ends (λ all w. crew_written crewed.LogFailed w) (plain_cut (crewing order) f (λ line e. e))

-- ---- the one that is run

pub meets_as : (how other : Search) (f : Problem) (budget : ℕ) (found told : Option Found) (x y : DeskState) → how ≡ other → found ≡ told → SearchMeets (searcher_of other) f budget (log_of (searcher_of other).version x) told (log_of (searcher_of other).version y)
    → SearchMeets (searcher_of how) f budget (log_of (searcher_of how).version x) found (log_of (searcher_of how).version y)
meets_as how other f budget found told x y e k m =
    subst (λ (h : Search). SearchMeets (searcher_of h) f budget (log_of (searcher_of h).version x) found (log_of (searcher_of h).version y)) (sym e)
    (subst (λ (o : Option Found). SearchMeets (searcher_of other) f budget (log_of (searcher_of other).version x) o (log_of (searcher_of other).version y)) (sym k) m)
