-- The lines of an audit, one for each number of events, and the end.
use Rattle.std.proofs.Common.{◌≡◌, ℕ, zero, suc, ◌+◌, ◌-◌, ◌≤◌, List, [], ◌∷◌, ◌++◌, length, map, append_assoc, Result, Ok, Err, refl, sym, ap, ap₂, subst, ◌∙◌, arith}
use Rattle.std.proofs.lemmas.List.{map-append}
use Rattle.std.proofs.lemmas.List.FromFn.{map-range_with_len_more}
use Rattle.std.specs.List.{range_with_len}
use Rattle.std.specs.Prelude.{is_err, true, false}
use Rattle.hw_model.specs.Problem.{Problem}
use Rattle.hw_desk.specs.Calls.{Sends}
use Rattle.hw_desk.specs.State.{DeskState}
use Rattle.hw_desk.specs.Whole.{SendsText}
use Rattle.hw_desk.specs.declared.desk.Tray.TheVariants as tray
use Rattle.hw_report.specs.Reports.{Report, audit_end}
use Rattle.hw_report.specs.Texts.{report_text}
use Rattle.hw_audit.specs.declared.event.PortEvent.{PortEvent}
use Rattle.hw_audit.specs.Watching.{Watched}
use Rattle.hw_command.specs.Ends.{reports_text, Ends}
use Rattle.hw_command.specs.Statuses.{status_of}
use Rattle.hw_command.specs.Works.{last_report}
use Rattle.hw_command.specs.declared.status.Status.{Status}
use Rattle.hw_command.specs.declared.status.Status.TheVariants.{WriteFault}
use Rattle.hw_command.proofs.Endings.{nothing_sent, sent_more, all_sent, cut_off}
use Rattle.hw_command_audit.specs.AuditPort.{line_after, audit_reports}

-- ---- the list

range_parts : (a b n m i : ℕ) → a + m ≡ b → n ≡ m + i → range_with_len a n ≡ range_with_len a m ++ range_with_len b i
range_parts a b n zero i e g =
    let first : a ≡ b = omega arith in
    let all : n ≡ i = omega arith in
    ap₂ range_with_len first all
range_parts a b n (suc m) i e g =
    let more : n ≡ suc (m + i) = omega arith in
    let next : a + 1 + m ≡ b = omega arith in
    ap (range_with_len a) more ∙ ap (λ (xs : List ℕ). a ∷ xs) (range_parts (a + 1) b (m + i) m i next refl)

-- the lines of the first k events
abbrev pub first_lines : Problem → Watched → List PortEvent → ℕ → List Report
first_lines f s events k = map (line_after f s events) (range_with_len 0 k)

-- the lines of `more` events from the number k on, and the end
abbrev pub later_lines : Problem → Watched → List PortEvent → ℕ → ℕ → List Report
later_lines f s events k more = map (line_after f s events) (range_with_len k more) ++ audit_end ∷ []

-- the lines before one of them, and those after it
pub line_among : (f : Problem) (s : Watched) (events : List PortEvent) (k more : ℕ) → k + more ≡ length events → audit_reports f s events ≡ first_lines f s events k ++ line_after f s events k ∷ later_lines f s events (k + 1) more
line_among f s events k more e =
    let line = line_after f s events in
    let size : length events + 1 ≡ k + suc more = omega (arith, e) in
    let zero_first : 0 + k ≡ k = omega arith in
    let lines : map line (range_with_len 0 (length events + 1)) ≡ map line (range_with_len 0 k) ++ map line (range_with_len k (suc more)) = ap (map line) (range_parts 0 k (length events + 1) k (suc more) zero_first size) ∙ map-append line (range_with_len 0 k) (range_with_len k (suc more)) in
    ap (λ (rs : List Report). rs ++ audit_end ∷ []) lines ∙ append_assoc (map line (range_with_len 0 k)) (map line (range_with_len k (suc more))) (audit_end ∷ [])

-- the line before any event stands first
pub starts : (f : Problem) (s : Watched) (events : List PortEvent) → audit_reports f s events ≡ line_after f s events 0 ∷ later_lines f s events 1 (length events)
starts f s events = let all : 0 + length events ≡ length events = omega arith in line_among f s events 0 (length events) all

-- and the end last
pub ends_last : (r : Report) (rs : List Report) → last_report r (rs ++ audit_end ∷ []) ≡ audit_end
ends_last r [] = refl
ends_last r (next ∷ rs) = ends_last next rs

-- ---- sent one after another

-- the first one was sent
pub first_sent : {E : Type 0} {x y : DeskState} (f : Problem) (s : Watched) (events : List PortEvent) (r : Result Unit E) → is_err r ≡ false → SendsText tray.Report (report_text (line_after f s events 0)) x y r → Sends tray.Report (reports_text (first_lines f s events (0 + 1))) x y × (y.write_faults ≡ x.write_faults)
first_sent {x = x} f s events (Ok u) good k = sent_more [] (line_after f s events 0) (nothing_sent x) refl k
first_sent f s events (Err e) good k = absurd (cc)

-- or a part of it
pub first_cut : {E : Type 0} {x y : DeskState} (f : Problem) (s : Watched) (events : List PortEvent) (r : Result Unit E) → is_err r ≡ true → SendsText tray.Report (report_text (line_after f s events 0)) x y r → Ends (audit_reports f s events) x y WriteFault
first_cut f s events (Ok u) bad k = absurd (cc)
first_cut {x = x} f s events (Err e) bad k = cut_off (audit_reports f s events) [] (line_after f s events 0) (later_lines f s events 1 (length events)) (starts f s events) (nothing_sent x) refl k

-- one more was sent
pub line_sent : {E : Type 0} {x y z : DeskState} (f : Problem) (s : Watched) (events : List PortEvent) (k : ℕ) (r : Result Unit E) → is_err r ≡ false → Sends tray.Report (reports_text (first_lines f s events k)) x y → y.write_faults ≡ x.write_faults → SendsText tray.Report (report_text (line_after f s events k)) y z r
    → Sends tray.Report (reports_text (first_lines f s events (k + 1))) x z × (z.write_faults ≡ x.write_faults)
line_sent {x = x} {z = z} f s events k (Ok u) good h kept more =
    let both = sent_more (first_lines f s events k) (line_after f s events k) h kept more in
    let zero_first : 0 + k ≡ k = omega arith in
    (subst (λ (rs : List Report). Sends tray.Report (reports_text rs) x z) (sym (map-range_with_len_more (line_after f s events) 0 k k zero_first)) both.0, both.1)
line_sent f s events k (Err e) good h kept more = absurd (cc)

-- or a part of it
pub line_cut : {E : Type 0} {x y z : DeskState} (f : Problem) (s : Watched) (events : List PortEvent) (k : ℕ) (r : Result Unit E) → is_err r ≡ true → k ≤ length events → Sends tray.Report (reports_text (first_lines f s events k)) x y → y.write_faults ≡ x.write_faults → SendsText tray.Report (report_text (line_after f s events k)) y z r
    → Ends (audit_reports f s events) x z WriteFault
line_cut f s events k (Ok u) bad le h kept cut = absurd (cc)
line_cut f s events k (Err e) bad le h kept cut =
    let parts : k + (length events - k) ≡ length events = omega (arith, le) in
    cut_off (audit_reports f s events) (first_lines f s events k) (line_after f s events k) (later_lines f s events (k + 1) (length events - k)) (line_among f s events k (length events - k) parts) h kept cut

-- all lines were sent, and then the end
pub end_sent : {E : Type 0} {x y z : DeskState} {u : Unit {0}} {status : Status} (f : Problem) (s : Watched) (events : List PortEvent) (k : ℕ) → k ≡ length events → status ≡ status_of audit_end → Sends tray.Report (reports_text (first_lines f s events (k + 1))) x y → y.write_faults ≡ x.write_faults → SendsText {E = E} tray.Report (report_text audit_end) y z (Ok u)
    → Ends (audit_reports f s events) x z status
end_sent {x = x} {y = y} {z = z} {status = status} f s events k all e h kept more =
    let lines = subst (λ (n : ℕ). Sends tray.Report (reports_text (first_lines f s events (n + 1))) x y) all h in
    let both = sent_more (first_lines f s events (length events + 1)) audit_end lines kept more in
    let start = starts f s events in
    let last = ends_last (line_after f s events 0) (map (line_after f s events) (range_with_len 1 (length events))) in
    subst (λ (rs : List Report). Ends rs x z status) (sym start) (all_sent (line_after f s events 0) (later_lines f s events 1 (length events)) (e ∙ ap status_of (sym last)) (subst (λ (rs : List Report). Sends tray.Report (reports_text rs) x z) start both.0) both.1)

-- or a part of it
pub end_cut : {E : Type 0} {x y z : DeskState} {e : E} (f : Problem) (s : Watched) (events : List PortEvent) (k : ℕ) → k ≡ length events → Sends tray.Report (reports_text (first_lines f s events (k + 1))) x y → y.write_faults ≡ x.write_faults → SendsText tray.Report (report_text audit_end) y z (Err e) → Ends (audit_reports f s events) x z WriteFault
end_cut {x = x} {y = y} f s events k all h kept cut =
    cut_off (audit_reports f s events) (first_lines f s events (length events + 1)) audit_end [] refl (subst (λ (n : ℕ). Sends tray.Report (reports_text (first_lines f s events (n + 1))) x y) all h) kept cut
