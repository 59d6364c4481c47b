-- The first of some events, the next one, and those that are left.
use Rattle.std.proofs.Common.{◌≡◌, ℕ, zero, suc, ◌+◌, ◌<◌, List, [], ◌∷◌, length, take, drop, get_or, Option, Some, None, Result, refl, sym, ap, subst, ◌∙◌, arith}
use Rattle.std.proofs.lemmas.List.Sums.{fold_more}
use Rattle.hw_model.specs.Problem.{Problem}
use Rattle.hw_desk.specs.State.{DeskState}
use Rattle.hw_desk.specs.Whole.{SendsText}
use Rattle.hw_desk.specs.declared.desk.Tray.TheVariants as tray
use Rattle.hw_report.specs.Reports.{after as line}
use Rattle.hw_report.specs.Texts.{report_text}
use Rattle.hw_audit.specs.Audits.{Audited, in_state}
use Rattle.hw_audit.specs.Watching.{Watched, refused_event, watched_after, after_all, refused_or, first_refused, broken_now}
use Rattle.hw_audit.specs.declared.event.PortEvent.{PortEvent}
use Rattle.hw_audit.specs.declared.fault.AuditWord.{AuditWord}
use Rattle.hw_audit.proofs.Taken.{none_of_two}
use Rattle.hw_command_audit.specs.AuditPort.{line_after}

none_of_both : (place : ℕ) (o : Option AuditWord) (later : Option (ℕ × AuditWord)) → o ≡ None → later ≡ None → refused_or place o later ≡ None
none_of_both place None later e none = none
none_of_both place (Some word) later e none = absurd cc

-- the first ones of events that are all taken are all taken
pub front_taken : (f : Problem) (fleet place : ℕ) (s : Watched) (events : List PortEvent) (n : ℕ) → first_refused f fleet place s events ≡ None → first_refused f fleet place s (take n events) ≡ None
front_taken f fleet place s [] zero none = refl
front_taken f fleet place s [] (suc n) none = refl
front_taken f fleet place s (event ∷ events) zero none = refl
front_taken f fleet place s (event ∷ events) (suc n) none =
    let two = none_of_two place (refused_event f fleet s event) (first_refused f fleet (place + 1) (watched_after s event) events) none in
    none_of_both place (refused_event f fleet s event) (first_refused f fleet (place + 1) (watched_after s event) (take n events)) two.0 (front_taken f fleet (place + 1) (watched_after s event) events n two.1)

-- each of events that are all taken is taken where it comes
next_taken : (f : Problem) (fleet place : ℕ) (s : Watched) (events : List PortEvent) (k : ℕ) (d : PortEvent) → k < length events → first_refused f fleet place s events ≡ None → refused_event f fleet (after_all s (take k events)) (get_or events k d) ≡ None
next_taken f fleet place s [] k d lt none = absurd (omega (arith, lt))
next_taken f fleet place s (event ∷ events) zero d lt none = (none_of_two place (refused_event f fleet s event) (first_refused f fleet (place + 1) (watched_after s event) events) none).0
next_taken f fleet place s (event ∷ events) (suc k) d lt none =
    next_taken f fleet (place + 1) (watched_after s event) events k d (omega (arith, lt)) (none_of_two place (refused_event f fleet s event) (first_refused f fleet (place + 1) (watched_after s event) events) none).1

-- what is refused of the events that are left after the first ones, the first event of all being line 2
abbrev pub from_here : Problem → ℕ → Watched → List PortEvent → ℕ → Option (ℕ × AuditWord)
from_here f fleet s events k = first_refused f fleet (k + 2) (after_all s (take k events)) (drop k events)

-- ---- a timetable that is watched, after the first ones of its events

-- the next event is taken
pub next_here : (a now : Audited) (events : List PortEvent) (k : ℕ) (d : PortEvent) → now ≡ in_state a (after_all a.state (take k events)) → k < length events → first_refused a.problem a.fleet 2 a.state events ≡ None → refused_event now.problem now.fleet now.state (get_or events k d) ≡ None
next_here a now events k d stands lt none = subst (λ (v : Audited). refused_event v.problem v.fleet v.state (get_or events k d) ≡ None) (sym stands) (next_taken a.problem a.fleet 2 a.state events k d lt none)

-- the state after one more event
after_more : (s : Watched) (events : List PortEvent) (k : ℕ) (d : PortEvent) → k < length events → after_all s (take (k + 1) events) ≡ watched_after (after_all s (take k events)) (get_or events k d)
after_more s events k d lt = fold_more watched_after s events k d lt

pub stands_next : (a now next : Audited) (events : List PortEvent) (k : ℕ) (d : PortEvent) → now ≡ in_state a (after_all a.state (take k events)) → k < length events → next ≡ in_state now (watched_after now.state (get_or events k d)) → next ≡ in_state a (after_all a.state (take (k + 1) events))
stands_next a now next events k d stands lt e =
    e ∙ (ap (λ (v : Audited). in_state v (watched_after v.state (get_or events k d))) stands ∙ ap (in_state a) (sym (after_more a.state events k d lt)))

-- what is broken after it is sent
pub next_line : {E : Type 0} {y z : DeskState} {r : Result Unit E} (a now : Audited) (events : List PortEvent) (k : ℕ) (d : PortEvent) → now ≡ in_state a (after_all a.state (take k events)) → k < length events
    → SendsText tray.Report (report_text (line (k + 1) (broken_now now.problem (watched_after now.state (get_or events k d))))) y z r → SendsText tray.Report (report_text (line_after a.problem a.state events (k + 1))) y z r
next_line {y = y} {z = z} {r = r} a now events k d stands lt h =
    let ev = get_or events k d in
    let there = subst (λ (v : Audited). SendsText tray.Report (report_text (line (k + 1) (broken_now v.problem (watched_after v.state ev)))) y z r) stands h in
    subst (λ (s : Watched). SendsText tray.Report (report_text (line (k + 1) (broken_now a.problem s))) y z r) (sym (after_more a.state events k d lt)) there
