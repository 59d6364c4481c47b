-- A split of a subject, made by the best that a certificate knows.
use Rattle.std.proofs.Common.{◌≡◌, ◌++◌, ◌∙◌, ℕ, false, List, [], ◌∷◌, Some, None, Result, Ok, Err, cond, refl, subst, sym, arith}
use Rattle.std.specs.Prelude.{◌≤◌, ◌<◌, IfOk, count_by, length}
use Rattle.std.proofs.lemmas.List.Sums.{sum_by-cons}
use Rattle.hw_model.specs.Problem.{Problem, shape_of}
use Rattle.hw_model.specs.declared.shape.Shape.{Shape}
use Rattle.hw_desk.specs.State.{DeskState}
use Rattle.hw_desk.specs.declared.desk.DeskFailed.{DeskFailed}
use Rattle.hw_desk.specs.declared.desk.Feed.TheVariants.{Certificate}
use Rattle.hw_desk.specs.declared.desk.Tray.TheVariants as tray
use Rattle.hw_cert.specs.declared.version.Version.TheVariants.{Three}
use Rattle.hw_cert.proofs.Answered.{told_map}
use Rattle.hw_report.specs.Reports.{Report, parts_told, refused, too_long}
use Rattle.hw_command.specs.Carries.{Carries}
use Rattle.hw_command.specs.Certificates.{report_of_check}
use Rattle.hw_command.specs.Ends.{Ends}
use Rattle.hw_command.specs.Readings.{KeepsNone, ReadsCert}
use Rattle.hw_command.specs.Sending.{SendsTo}
use Rattle.hw_command.specs.declared.cert.ReadCert.{ReadCert}
use Rattle.hw_command.specs.declared.outcome.CertOutcome.{CertOutcome}
use Rattle.hw_command.specs.declared.outcome.CertStop.{CertStop}
use Rattle.hw_command.specs.declared.status.Status.{Status}
use Rattle.hw_command.specs.declared.status.Status.TheVariants.{WriteFault}
use Rattle.hw_split_text.specs.declared.node.Node.{Node}
use Rattle.hw_split_text.specs.declared.node.Node.TheVariants.{Fork, Part}
use Rattle.hw_model.specs.declared.lit.Lit.TheVariants.{AtOrAfter, Before}
use Rattle.hw_split_text.specs.Splits.{Branch, Completes, is_part}
use Rattle.hw_split_text.specs.Text.{split_of, split_text}
use Rattle.hw_split_text.specs.Written.{written_split}
use Rattle.hw_split_choice.specs.Chosen.{IsChosen}
use Rattle.hw_split_choice.specs.declared.chosen.ChosenSplit.{ChosenSplit}
use Rattle.hw_split_text.proofs.Covering.{parts_counted}
use Rattle.hw_subject.specs.Meanings.{judged}
use Rattle.hw_subject.specs.Reading.{ReadsSubject, StopsAtSubject, naming_of, searched_in}
use Rattle.hw_subject.specs.Subjects.{Subject, Topic, topic_subject}
use Rattle.hw_subject.specs.declared.subject.Given.{Given}
use Rattle.hw_subject.proofs.CertTasks as tasks
use Rattle.hw_subject.proofs.Certified.{modelled}
use Rattle.hw_subject.proofs.Certless.{IsCertless, certless}
use Rattle.hw_command_split.specs.MadeSplits.{IsChosenBy, IsMadeSplit, IsUndivided, SendsSizes, SendsSplit, SplitsTo}
use Rattle.hw_command.specs.Starting.{shows_nothing}
use Rattle.hw_command_split.specs.Splitting.{MakesSplit, SplitSays, split_task}
use Rattle.hw_command.specs.declared.ending.Ending.{Ending}
use Rattle.hw_command.specs.declared.ending.Ending.TheVariants as outcomes
use Rattle.hw_command_split.specs.declared.splitting.Sizes.{Sizes}
use Rattle.hw_command.proofs.Started.{starts_on}
use Rattle.hw_subject.proofs.Started.{starts}
use Rattle.hw_model_laws.proofs.Denying.{shape_fits}
use Rattle.hw_split_text.proofs.Spelled.{one_text}

-- what comes of what was read is what comes of the judged problem
of_judged : (s : Subject) (start proof : List ℕ) (parts : ℕ) (y z : DeskState) (end : Ending Sizes) {x : DeskState} {given : Given} → (h : ReadsSubject s x y given) → SplitsTo (searched_in given.flat given.repair) start parts proof y z end → SplitsTo (judged s h.value) start parts proof y z end
of_judged s start proof parts y z end h k = subst (λ (f : Problem). SplitsTo f start parts proof y z end) h.searched k

-- ---- the inputs give nothing

refuses_says : (s : Subject) (parts : ℕ) (start proof : List ℕ) (x y : DeskState) (r : Report) → IsCertless s → s.Refuses x.held r → SplitSays s parts start proof x y (Some r)
refuses_says s parts start proof x y (parts_told count tolls) h k = absurd (h.silent x.held _ k refl)
refuses_says s parts start proof x y (refused number word hint) h k = absurd (h.refused x.held number word hint k)
refuses_says s parts start proof x y (too_long Certificate) h k = absurd (h.long x.held k)
refuses_says s parts start proof x y r h k = k

pub subject_stops : (topic : Topic) (parts : ℕ) (start proof : List ℕ) {x y z : DeskState} {r : Report} {e : Status} → StopsAtSubject (topic_subject topic) x y r → Ends (r ∷ []) y z e → Carries (split_task (topic_subject topic) parts start proof) x z e
subject_stops topic parts start proof {x = x} {y = y} {r = r} h ends = tasks.subject_stops topic start (Some proof) (SplitSays (topic_subject topic) parts start proof) (refuses_says (topic_subject topic) parts start proof x y r (certless topic)) h ends

-- ---- the split was sent

abbrev makes : (topic : Topic) {parts : ℕ} {start proof : List ℕ} {x y z : DeskState} {given : Given} {sent : Result Unit DeskFailed} (nodes : List Node) → (h : ReadsSubject (topic_subject topic) x y given) → SendsSplit (judged (topic_subject topic) h.value) start parts proof y z nodes sent → MakesSplit (topic_subject topic) parts start x.held
makes topic {parts = parts} nodes h k = record {
  starts = starts topic h k.knows;
  nodes = nodes;
  is = k.made.is;
  few = subst (λ (n : ℕ). n ≤ parts) (sym (parts_counted (shape_of (judged (topic_subject topic) h.value)) nodes k.made.is)) k.made.few;
  undivided = λ closed. parts_counted (shape_of (judged (topic_subject topic) h.value)) nodes k.made.is ∙ k.undivided closed;
}

written : (topic : Topic) {parts : ℕ} {x y : DeskState} {given : Given} {nodes : List Node} (text : List ℕ) → (h : ReadsSubject (topic_subject topic) x y given) → IsMadeSplit (judged (topic_subject topic) h.value) parts nodes text → text ≡ written_split nodes
written topic {nodes = nodes} text h made = one_text (shape_of (judged (topic_subject topic) h.value)) nodes text (shape_fits (judged (topic_subject topic) h.value) (modelled topic h).limits) made.reads

-- ---- by what comes of the certificate

pub stopped_carries : (topic : Topic) {parts : ℕ} {start proof : List ℕ} {x y end : DeskState} {given : Given} {e : Status} (z : DeskState) (stopped : Result CertOutcome CertStop) → ReadsSubject (topic_subject topic) x y given → SplitsTo (searched_in given.flat given.repair) start parts proof y z (outcomes.Stopped stopped) → Ends (report_of_check (naming_of given.named) None None stopped ∷ []) z end e → Carries (split_task (topic_subject topic) parts start proof) x end e
stopped_carries topic {parts = parts} {start = start} {proof = proof} {given = given} z stopped h k ends = tasks.stopped_carries topic (SplitSays (topic_subject topic) parts start proof) (naming_of given.named) stopped (λ number word hint refused. refused) (λ long. long) h k ends

pub sent_carries : (topic : Topic) {parts : ℕ} {start proof : List ℕ} {x y end : DeskState} {given : Given} {e : Status} (z : DeskState) (sizes : Sizes) → ReadsSubject (topic_subject topic) x y given → SplitsTo (searched_in given.flat given.repair) start parts proof y z (outcomes.Sent sizes) → Ends (parts_told sizes.parts sizes.tolls ∷ []) z end e → Carries (split_task (topic_subject topic) parts start proof) x end e
sent_carries topic {parts = parts} {start = start} {proof = proof} {y = y} z sizes h sent ends =
    let s = topic_subject topic in
    let there = of_judged s start proof parts y z (outcomes.Sent sizes) h sent in
    let k = there.2 in
    tasks.sent_carries topic (SplitSays s parts start proof) (parts_told sizes.parts sizes.tolls) refl (λ same. same) h k.knows.reads k.sends
    (λ made. record {
      makes = makes topic there.0 h k;
      counted = there.1 ∙ sym (parts_counted (shape_of (judged s h.value)) there.0 k.made.is);
      made = made;
      text = told_map (z.trays tray.Proof).sent (λ bytes same. same ∙ written topic k.text h k.made) k.sends.answer.1;
    })
    ends

pub broke_carries : (topic : Topic) {parts : ℕ} {start proof : List ℕ} {x y : DeskState} {given : Given} (z : DeskState) → ReadsSubject (topic_subject topic) x y given → SplitsTo (searched_in given.flat given.repair) start parts proof y z outcomes.WriteFailed → Carries (split_task (topic_subject topic) parts start proof) x z WriteFault
broke_carries topic {parts = parts} {start = start} {proof = proof} {y = y} z h sent =
    let s = topic_subject topic in
    let there = (of_judged s start proof parts y z outcomes.WriteFailed h sent).1 in
    let k = there.2 in
    tasks.broke_carries topic (SplitSays s parts start proof) h k.knows.reads k.sends (record { makes = makes topic there.0 h k; cut = rw (sym (written topic k.text h k.made)) k.sends.answer.1 })

-- ---- what was kept of the certificate

-- a split that was chosen
pub made_split : {f : Problem} {parts : ℕ} {c : ChosenSplit} → IsChosen f parts c → IsMadeSplit f parts c.split c.text.items
made_split h = record { reads = h.text; is = h.is; few = h.few }

-- where a branch waits, there is a part
some_part : (shape : Shape) (branch : Branch) (waiting : List Branch) (nodes : List Node) → Completes shape (branch ∷ waiting) nodes → 1 ≤ count_by is_part nodes
some_part shape branch waiting [] c = absurd (cc)
some_part shape branch waiting (Fork ship slot ∷ nodes) c =
    let later = some_part shape (branch ++ Before ship slot ∷ []) ((branch ++ AtOrAfter ship slot ∷ []) ∷ waiting) nodes c.1 in
    omega (arith, later, sum_by-cons (λ (node : Node). cond (is_part node) 1 0) (Fork ship slot) nodes)
some_part shape branch waiting (Part ∷ nodes) c = omega (arith, sum_by-cons (λ (node : Node). cond (is_part node) 1 0) Part nodes)

-- one part is as few as any
pub one_chosen : {E : Type 0} (f : Problem) {parts : ℕ} (outcome : CertOutcome) (r : Result ChosenSplit E) → 1 ≤ parts → IfOk r (IsChosen f 1) → IfOk r (IsChosenBy f outcome parts)
one_chosen f outcome (Ok c) some h =
    let least = some_part (shape_of f) [] [] c.split h.is in
    record {
      chosen = record { text = h.text; is = h.is; few = omega (arith, h.few, some) };
      undivided = λ closed. omega (arith, h.few, least);
    }
one_chosen f outcome (Err stop) some h = h

-- its text isn't empty
pub text_some : (shape : Shape) (text : List ℕ) (nodes : List Node) → split_text shape text ≡ Ok nodes → 0 < length text
unfolding split_of
text_some shape [] nodes e = absurd (cc)
text_some shape (byte ∷ more) nodes e = omega arith

pub sends_split : {f : Problem} {start proof text : List ℕ} {parts : ℕ} {x y z : DeskState} {nodes : List Node} {sent : Result Unit DeskFailed} (read : ReadCert (Unit {0})) → ReadsCert Three KeepsNone f start x y (Ok read) → shows_nothing read.outcome ≡ false → IsMadeSplit f parts nodes text → IsUndivided read.outcome nodes → SendsTo proof text y z sent → SendsSplit f start parts proof x z nodes sent
sends_split {text = text} {y = y} {nodes = nodes} read h e is one sends = record { mid = y; knows = starts_on read h e; text = text; made = is; undivided = subst (λ (o : CertOutcome). IsUndivided o nodes) (starts_on read h e).outcome one; sends = sends }

-- of no size that is told
pub sizes_broke : {f : Problem} {start proof : List ℕ} {parts : ℕ} {x z : DeskState} {nodes : List Node} → SendsSplit f start parts proof x z nodes (Err (record {})) → (sizes : Sizes) × SendsSizes f start parts proof x z sizes (Err (record {}))
sizes_broke {nodes = nodes} h = (record { parts = count_by is_part nodes; tolls = 0 }, (nodes, refl, h))
