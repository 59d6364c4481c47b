-- The bytes decide what is drawn of a clash.
use Rattle.std.proofs.Common.{◌≡◌, ◌∙◌, ℕ, List, Option, Some, Ok, ap, subst, sym}
use Rattle.std.specs.Prelude.{IfSome, Result}
use Rattle.hw_cert_lines.specs.declared.check.Verdict.{Verdict}
use Rattle.hw_report.specs.Reports.{Report, clash_holds, picture}
use Rattle.hw_clash.specs.Clashes.{Clash}
use Rattle.hw_clash.specs.Text.{clash_text}
use Rattle.hw_clash.specs.Wished.{Wished}
use Rattle.hw_subject.specs.Decided.{IsDecided}
use Rattle.hw_subject.specs.Subjects.{Subject, port_of, port_subject, plainly}
use Rattle.hw_subject.proofs.Decided.{subjects_decided_law, told_bytes}
use Rattle.hw_command_clash.specs.Asked.{asked}
use Rattle.hw_command_clash.specs.CheckClash.{ClashChecks}
use Rattle.hw_command_clash.specs.Inputs.{IsClashText}
use Rattle.hw_command_clash.proofs.Decided.{one_clash_report_law}
use Rattle.hw_command_chart.specs.ClashCharts.{ChartsClash, DrawsClash, clash_drawn}
use Rattle.hw_command_chart.specs.ClashLaws.{OneClashChart}

-- the report of `check clash` of the same bytes
abbrev undrawn : Report → Report
undrawn (picture v drawn) = clash_holds
undrawn r = r

checked : (s : Subject) (name cert : List ℕ) (held : List ℕ → Option (List ℕ)) (r : Report) → ChartsClash s name cert held r → ClashChecks s name cert held (undrawn r)
checked s name cert held (picture v drawn) h = h.1.checks
checked s name cert held clash_holds h = absurd h
checked s name cert held r h = h

same_clash : (f : Wished) (bytes : List ℕ) (c d : Clash) → clash_text f bytes ≡ Ok c → clash_text f bytes ≡ Ok d → c ≡ d
same_clash f bytes c d e k = ok_same (sym e ∙ k)
  where
    ok_same : {E : Type 0} {c d : Clash} → ◌≡◌ {A = Result Clash E} (Ok c) (Ok d) → c ≡ d
    ok_same e = cc

read_of : (f : Wished) (clash : Clash) (told : Option (List ℕ)) (bytes : List ℕ) → told ≡ Some bytes → IfSome told (IsClashText f clash) → clash_text f bytes ≡ Ok clash
read_of f clash told bytes e reads = (subst (λ (told : Option (List ℕ)). IfSome told (IsClashText f clash)) e reads).1

same_drawn : (s : Subject) (name cert bytes : List ℕ) (held : List ℕ → Option (List ℕ)) (a b : List ℕ) → IsDecided s held → held name ≡ Some bytes → DrawsClash s name cert held a → DrawsClash s name cert held b → a ≡ b
same_drawn s name cert bytes held a b decided told h g =
    let c = h.checks in
    let d = g.checks in
    let value = decided.one_value c.value d.value c.reads d.reads in
    let first = subst (λ (v : s.Value). clash_text (asked s v) bytes ≡ Ok c.clash) value (read_of (asked s c.value) c.clash (held name) bytes told c.is.reads) in
    let clash = same_clash (asked s d.value) bytes c.clash d.clash first (read_of (asked s d.value) d.clash (held name) bytes told d.is.reads) in
    h.is_picture ∙ ap (λ (v : s.Value). clash_drawn (s.naming v) c.clash) value ∙ ap (λ (clash : Clash). clash_drawn (s.naming d.value) clash) clash ∙ sym g.is_picture

same_report : (s : Subject) (name cert bytes : List ℕ) (held : List ℕ → Option (List ℕ)) (r t : Report) → IsDecided s held → held name ≡ Some bytes → undrawn r ≡ undrawn t → ChartsClash s name cert held r → ChartsClash s name cert held t → r ≡ t
same_report s name cert bytes held (picture v a) (picture w b) decided told e h g = ap (λ (v : Verdict). picture v a) (h.0 ∙ sym g.0) ∙ ap (λ drawn. picture w drawn) (same_drawn s name cert bytes held a b decided told h.1 g.1)
same_report s name cert bytes held (picture v a) t decided told e h g = absurd (subst (λ (r : Report). ChartsClash s name cert held r) (sym e) g)
same_report s name cert bytes held r (picture w b) decided told e h g = absurd (subst (λ (r : Report). ChartsClash s name cert held r) e h)
same_report s name cert bytes held r t decided told e h g = e

pub one_clash_chart_law : OneClashChart
one_clash_chart_law instance tides name cert held r t all given certified h g =
    let s = port_subject instance tides in
    let bytes = told_bytes (held name) given in
    same_report s name cert bytes.0 held r t (subjects_decided_law (plainly (port_of instance tides)) held all) bytes.1
    (one_clash_report_law (plainly (port_of instance tides)) name cert held (undrawn r) (undrawn t) all given certified (checked s name cert held r h) (checked s name cert held t g)) h g
