-- A demonstration that is solved, checked and sent.
use Rattle.std.proofs.Common.{◌≡◌, ◌<◌, ◌∙◌, ◌++◌, ◌∷◌, ℕ, List, [], Bool, true, false, Option, Some, None, Ok, Err, length, get_or, refl, sym, ap, subst, append_assoc, arith}
use Rattle.std.specs.Prelude.{IfSome, All}
use Rattle.hw_model.specs.Problem.{Problem}
use Rattle.hw_model.specs.Rooms.{room_count}
use Rattle.hw_model.specs.Timetables.{Permits}
use Rattle.hw_desk.specs.State.{DeskState}
use Rattle.hw_cert_lines.specs.declared.check.Verdict.{Verdict}
use Rattle.hw_cert_lines.specs.declared.line.Line.{Line}
use Rattle.hw_cert_lines.specs.Kept.{Kept}
use Rattle.hw_cert_lines.specs.Lemmas.{lemmas_of}
use Rattle.hw_cert_lines.specs.Lines.{best_of}
use Rattle.hw_cert_lines.specs.Refusals.{kept_refusal}
use Rattle.hw_cert_lines.specs.Valid.{LineFits, ValidAfter, ValidFrom, verdict, verdict_by}
use Rattle.hw_cert_lines.specs.Tolled.{is_plain}
use Rattle.hw_cert_laws.proofs.Refused.{plain_judge, from_valid}
use Rattle.hw_check.specs.Follows.{CheckerFollows}
use Rattle.hw_check.specs.States.{CheckState}
use Rattle.hw_cert.specs.declared.version.Version.TheVariants.{Two}
use Rattle.hw_cert.specs.Logs.{memory_log}
use Rattle.hw_cert.specs.Texts.{cert_text}
use Rattle.hw_search_laws.specs.declared.outcome.Solved.{Solved}
use Rattle.hw_search_laws.specs.declared.outcome.Solved.TheVariants.{Optimal, Infeasible, Unfinished, NoMemory, LogFailed}
use Rattle.hw_search_laws.specs.Solving.{SolveMeets, SolveFails}
use Rattle.hw_report.specs.Reports.{demo, no_memory}
use Rattle.hw_report.specs.declared.report.Head.{Head}
use Rattle.hw_report.specs.declared.report.Head.TheVariants as heads
use Rattle.hw_command.specs.Carries.{Carries}
use Rattle.hw_command_search.specs.Demo.{Demonstrates, DemoSays, HeadIsFound, best_in, head_of, demo_task}
use Rattle.hw_command.specs.Ends.{Ends}
use Rattle.hw_command.specs.Sending.{SendsTo}
use Rattle.hw_command.specs.declared.status.Status.{Status}
use Rattle.hw_command.specs.declared.status.Status.TheVariants.{WriteFault}
use Rattle.hw_command.proofs.Begun.{entered_none}
use Rattle.hw_command.proofs.Exits as exits
use Rattle.hw_command_search.specs.Certified.{HeadMeans, head_verdict}
use Rattle.hw_command_search.specs.Searchers.{solving}
use Rattle.hw_command_search.specs.Searching.{SearchMeets}
use Rattle.hw_command_search.specs.declared.finding.Found.{Found}
use Rattle.hw_command_search.proofs.Meeting.{solve_meets}

-- ---- what was solved

-- a log in memory doesn't fail
pub never_failed : {f : Problem} {budget : ℕ} {answer : Solved} {all : List Line} → SolveMeets f budget (memory_log []) answer (memory_log all) → answer ≡ LogFailed → ⊥
never_failed {f = f} {all = all} h e =
    let fails : SolveFails f (memory_log []) (memory_log all) LogFailed = subst (SolveFails f (memory_log []) (memory_log all)) e h.ends in
    let rose = fails.0 in
    absurd (omega arith)

best_by : (b : Bool) (best : Option ℕ) → best_in (verdict_by b best) ≡ best
best_by true None = refl
best_by true (Some c) = refl
best_by false best = refl

best_shown : (f : Problem) (all : List Line) (v : Verdict) → v ≡ verdict f all → best_in v ≡ best_of f all
best_shown f all v is = ap best_in is ∙ best_by _ (best_of f all)

-- what was found, on a log in memory
found : {f : Problem} {budget : ℕ} {all : List Line} (it : Found) (v : Verdict) (count : ℕ) → HeadIsFound it.head → SearchMeets solving f budget (memory_log []) (Some it) (memory_log all) → v ≡ verdict f all → count ≡ length (lemmas_of all) → Demonstrates f budget it.head (best_in v) v count all
found {f = f} {budget = budget} {all = all} it v count is_found m is counted =
    let true_of = m.leaves.1 in
    let told = m.leaves.2 in
    let best = best_shown f all v is in
    record {
      written = told.written;
      permitted = subst (λ (t : Option (List ℕ)). IfSome t (Permits f)) (sym told.shows.last) true_of.permitted;
      found = is_found;
      means = subst (HeadMeans f budget (room_count f) it.head) (sym told.shows.last) true_of.means;
      cargo = best;
      checked = is;
      tells = told.shows.verdict ∙ ap (head_verdict it.head) (sym best);
      spent = told.shows.spent;
      counted = counted;
    }

some_same : (x y : Head) → Some x ≡ Some y → x ≡ y
some_same x y e = cc

-- by its head
demonstrates : {f : Problem} {budget : ℕ} {all : List Line} (answer : Solved) (head : Head) (v : Verdict) (count : ℕ)
    → SolveMeets f budget (memory_log []) answer (memory_log all) → Some head ≡ head_of budget answer → v ≡ verdict f all → count ≡ length (lemmas_of all)
    → Demonstrates f budget head (best_in v) v count all
demonstrates {f = f} {budget = budget} {all = all} (Optimal table c) head v count h e is counted =
    subst (λ (hd : Head). Demonstrates f budget hd (best_in v) v count all) (sym (some_same head (heads.Optimal c) e))
    (found _ v count tt (solve_meets (Optimal table c) h refl) is counted)
demonstrates {f = f} {budget = budget} {all = all} Infeasible head v count h e is counted =
    subst (λ (hd : Head). Demonstrates f budget hd (best_in v) v count all) (sym (some_same head heads.Infeasible e))
    (found _ v count tt (solve_meets Infeasible h refl) is counted)
demonstrates {f = f} {budget = budget} {all = all} (Unfinished table) head v count h e is counted =
    subst (λ (hd : Head). Demonstrates f budget hd (best_in v) v count all) (sym (some_same head (heads.Unfinished budget) e))
    (found _ v count tt (solve_meets (Unfinished table) h refl) is counted)
demonstrates (NoMemory table) head v count h e is counted = absurd (cc)
demonstrates LogFailed head v count h e is counted = absurd (cc)

-- the same of a problem with another name
pub demonstrates_of : {f g : Problem} {budget : ℕ} {all : List Line} (answer : Solved) (head : Head) (best : Option ℕ) (v : Verdict) (count : ℕ)
    → f ≡ g → SolveMeets f budget (memory_log []) answer (memory_log all) → Some head ≡ head_of budget answer → v ≡ verdict f all → best ≡ best_in v → count ≡ length (lemmas_of all)
    → Demonstrates g budget head best v count all
demonstrates_of {f = f} {g = g} {budget = budget} {all = all} answer head best v count same h e is of_verdict counted =
    subst (λ (o : Option ℕ). Demonstrates g budget head o v count all) (sym of_verdict)
    (subst (λ (p : Problem). Demonstrates p budget head (best_in v) v count all) same (demonstrates answer head v count h e is counted))

-- ---- the check

-- lines that were taken, and valid ones after them
pub record Checked (f : Problem) (all : List Line) (left : List Line) (c : CheckState) : Type 0 where
  pub before : List Line
  pub follows : CheckerFollows c before
  pub problem : c.problem ≡ f
  pub valid : ValidFrom f before left
  pub whole : before ++ left ≡ all

pub next_plain : (all : List Line) (i : ℕ) (line : Line) → All (λ l. is_plain l ≡ true) all → i < length all → line ≡ get_or all i line → is_plain line ≡ true
next_plain all i line plain lt is = subst (λ (l : Line). is_plain l ≡ true) (sym is) (plain i line lt)

-- the next line is valid, so a checker takes it
pub can_take : {f : Problem} {all left more : List Line} {c : CheckState} {line : Line} → Checked f all left c → left ≡ line ∷ more → LineFits f line → is_plain line ≡ true → kept_refusal c.problem c.kept line ≡ None
can_take {f = f} {c = c} {line = line} h cut fits plain =
    let valid = subst (ValidFrom f h.before) cut h.valid in
    let fits_there = subst (λ (g : Problem). LineFits g line) (sym h.problem) fits in
    let valid_there = subst (λ (g : Problem). ValidAfter g h.before line) (sym h.problem) valid.0 in
    subst (λ (k : Kept). kept_refusal c.problem k line ≡ None) (sym h.follows.kept) (from_valid c.problem h.before line fits_there (plain_judge c.problem h.before line plain) valid_there)

pub one_taken : {f : Problem} {all left more : List Line} {c d : CheckState} {line : Line} → (h : Checked f all left c) → left ≡ line ∷ more → d.problem ≡ c.problem → CheckerFollows d (h.before ++ line ∷ []) → Checked f all more d
one_taken {f = f} {all = all} {more = more} {line = line} h cut same follows = record {
  before = h.before ++ line ∷ [];
  follows = follows;
  problem = same ∙ h.problem;
  valid = (subst (ValidFrom f h.before) cut h.valid).1;
  whole = append_assoc h.before (line ∷ []) more ∙ (ap (λ (ls : List Line). h.before ++ ls) (sym cut) ∙ h.whole);
}

-- ---- the command

-- memory ran out, and nothing was touched
pub memory_meets : {x end : DeskState} {s : Status} (f : Problem) (budget : ℕ) (proof : List ℕ) → Ends (no_memory ∷ []) x end s → Carries (demo_task f budget proof) x end s
memory_meets {x = x} f budget proof ends = exits.memory_carries [] (λ held feed. ⊥) (DemoSays f budget proof) (Some proof) (entered_none x) tt refl ends

-- the certificate was sent
pub sent_meets : {E : Type 0} {f : Problem} {budget : ℕ} {proof : List ℕ} {x y end : DeskState} {s : Status} {u : Unit} {head : Head} {best : Option ℕ} {v : Verdict} {count : ℕ} {all : List Line} → Demonstrates f budget head best v count all → SendsTo {E = E} proof (cert_text Two all) x y (Ok u) → Ends (demo head best v count ∷ []) y end s → Carries (demo_task f budget proof) x end s
sent_meets {f = f} {budget = budget} {proof = proof} {x = x} {head = head} {best = best} {v = v} {count = count} {all = all} d k ends = exits.sent_carries [] (λ held feed. ⊥) (DemoSays f budget proof) (demo head best v count) refl (λ same. same) (entered_none x) tt refl k (λ made. record { lines = all; demonstrates = d; made = made; holds = k.answer.1 }) ends

-- a make or a write failed
pub broken_meets : {E : Type 0} {f : Problem} {budget : ℕ} {proof : List ℕ} {x y : DeskState} {e : E} {head : Head} {best : Option ℕ} {v : Verdict} {count : ℕ} {all : List Line} → Demonstrates f budget head best v count all → SendsTo proof (cert_text Two all) x y (Err e) → Carries (demo_task f budget proof) x y WriteFault
broken_meets {f = f} {budget = budget} {proof = proof} {x = x} {all = all} d k = exits.broke_carries [] (λ held feed. ⊥) (DemoSays f budget proof) (entered_none x) tt refl k (record { lines = all; written = d.written; part = k.answer.1 }) (refl, refl)
