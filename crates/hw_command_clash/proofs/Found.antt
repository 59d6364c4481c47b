-- What a search for a clash of any subject says.
use Rattle.std.proofs.Common.{◌≡◌, ℕ, zero, suc, List, [], ◌∷◌, Option, Some, None, append-nil, refl, sym, subst}
use Rattle.hw_desk.specs.State.{DeskState}
use Rattle.hw_cert_lines.specs.declared.line.Line.{Line}
use Rattle.hw_clash.specs.declared.clashing.Clashed.{Clashed}
use Rattle.hw_clash.specs.declared.clashing.Clashed.TheVariants as answers
use Rattle.hw_clash.specs.Outcomes.{IsClashFound, ClashMeets}
use Rattle.hw_clash.specs.Text.{clash_by}
use Rattle.hw_clash.specs.Wished.{Wished, IsWished}
use Rattle.hw_report.specs.Reports.{Report, clashed, met, spent_step}
use Rattle.hw_command.specs.Carries.{Carries}
use Rattle.hw_command.specs.Ends.{Ends}
use Rattle.hw_command.specs.Works.{of_answer, speaks, ReadCauseOf}
use Rattle.hw_command.specs.declared.status.Status.{Status}
use Rattle.hw_command.proofs.Stops.{stops_carries}
use Rattle.hw_subject.specs.Reading.{ReadsSubject, StopsAtSubject, plan_in}
use Rattle.hw_subject.specs.Subjects.{Origin, flat_text, port_of, origin_subject, repaired_by, Topic, topic_subject}
use Rattle.hw_subject.specs.declared.subject.Given.{Given}
use Rattle.hw_subject.proofs.Readings.{give_before}
use Rattle.hw_command_clash.specs.Clashes.{ClashesSubject, ClashSays, clash_task}
use Rattle.hw_command_clash.specs.Found.{Found, a_clash, a_table, a_step, IsFound, IsClashTold, lines_found, report_found, SendsBoth, SendsFound}
use Rattle.hw_command_clash.specs.PortWords.{FoundOf}
use Rattle.hw_command_clash.specs.Asked.{asked, asked_by}
use Rattle.hw_command_clash.proofs.Printed.{reads_back}
use Rattle.hw_command.proofs.Exits.{memory_carries}
use Rattle.hw_command_clash.proofs.Sent.{sent_carries}
use Rattle.hw_command_clash.proofs.Sources.{asked_fits, is_asked, none_of, permits_of}
use Rattle.hw_command_clash.proofs.Worded.{clash_in}

-- no subject is refused by a report on what was found
unclashed : (origin : Origin) (plan : Option (List ℕ)) (held : List ℕ → Option (List ℕ)) (kept : List ℕ) (drops : List (List ℕ)) → (repaired_by (origin_subject origin) plan).Refuses held (clashed kept drops) → ⊥
unclashed (flat_text name) None held kept drops h = h
unclashed (flat_text name) (Some plan) held kept drops h = h
unclashed (port_of instance table) None held kept drops h = h
unclashed (port_of instance table) (Some plan) held kept drops h = h

unmet : (origin : Origin) (plan : Option (List ℕ)) (held : List ℕ → Option (List ℕ)) (table : List ℕ) → (repaired_by (origin_subject origin) plan).Refuses held (met table) → ⊥
unmet (flat_text name) None held table h = h
unmet (flat_text name) (Some plan) held table h = h
unmet (port_of instance tides) None held table h = h
unmet (port_of instance tides) (Some plan) held table h = h

unspent : (origin : Origin) (plan : Option (List ℕ)) (held : List ℕ → Option (List ℕ)) (budget step : ℕ) → (repaired_by (origin_subject origin) plan).Refuses held (spent_step budget step) → ⊥
unspent (flat_text name) None held budget step h = h
unspent (flat_text name) (Some plan) held budget step h = h
unspent (port_of instance table) None held budget step h = h
unspent (port_of instance table) (Some plan) held budget step h = h

refused_says : (topic : Topic) (budget : ℕ) (proof : List ℕ) (x y : DeskState) (r : Report) → (topic_subject topic).Refuses x.held r → ClashSays (topic_subject topic) budget proof x y (Some r)
refused_says topic budget proof x y (clashed kept drops) h = absurd (unclashed topic.origin topic.plan x.held kept drops h)
refused_says topic budget proof x y (met table) h = absurd (unmet topic.origin topic.plan x.held table h)
refused_says topic budget proof x y (spent_step spent step) h = absurd (unspent topic.origin topic.plan x.held spent step h)
refused_says topic budget proof x y r h = h

-- the inputs give no value
pub clash_stops : {x y z : DeskState} {r : Report} {s : Status} (topic : Topic) (budget : ℕ) (proof : List ℕ) → StopsAtSubject (topic_subject topic) x y r → Ends (r ∷ []) y z s → Carries (clash_task (topic_subject topic) budget proof) x z s
clash_stops {x = x} {y = y} {r = r} topic budget proof h ends = stops_carries (clash_task (topic_subject topic) budget proof) [] h (sym (append-nil _)) (λ feed given. given) (refused_says topic budget proof x y r) ends

-- ---- what was found

-- a clash that was found, and its printed text
told : (f : Wished) (kept : List ℕ) (drops : List (List ℕ)) (all : List Line) → IsWished f → IsClashFound f kept drops all → IsClashTold f kept drops all
told f kept drops all fits found = record { found = found; back = reads_back f kept drops all fits found }

-- what it says of the subject
means : (topic : Topic) (held : List ℕ → Option (List ℕ)) (v : (topic_subject topic).Value) (budget : ℕ) (found : Found) (all : List Line) → (topic_subject topic).Reads held v → IsFound (asked (topic_subject topic) v) budget found all → FoundOf (topic_subject topic) v found
means topic held v budget (a_clash kept drops) all reads shown = (
  none_of topic held v reads shown.found.none,
  clash_in topic held v (clash_by kept drops) reads (record { some = shown.found.irreducible.some; numbered = shown.found.irreducible.numbered; ascending = shown.found.irreducible.ascending; drops = shown.found.met }) shown.found.irreducible.clash,
)
means topic held v budget (a_table table) all reads shown = permits_of topic held v table reads shown.permitted
means topic held v budget (a_step zero) all reads shown = tt
means topic held v budget (a_step (suc n)) all reads shown = none_of topic held v reads shown.later

-- ---- what was sent

-- what was found was sent, or a part of its certificate
sent : {given : Given} {proof : List ℕ} {budget : ℕ} {x y end : DeskState} {s : Status} (topic : Topic) (found : Found) (all : List Line) (r : Report) → speaks r ≡ of_answer → ((mid : DeskState) → mid.read_faults ≡ x.read_faults → ReadCauseOf x mid r) → ((mid : DeskState) → ClashesSubject (topic_subject topic) budget proof x mid found → ClashSays (topic_subject topic) budget proof x mid (Some r))
    → (h : ReadsSubject (topic_subject topic) x y given) → IsFound (asked (topic_subject topic) h.value) budget found all → SendsBoth all r proof y end s → Carries (clash_task (topic_subject topic) budget proof) x end s
sent {proof = proof} {budget = budget} {x = x} topic found all r answer cause says h shown k =
    let s = topic_subject topic in
    sent_carries s.inputs s.Gives (ClashSays s budget proof) all r answer cause h.entered (give_before (s.Gives x.held) s.inputs h.give) h.read_faults
    (λ mid made holds. says mid (record { value = h.value; reads = h.reads; means = means topic x.held h.value budget found all h.reads shown; shows = record { lines = all; shown = shown; made = made; holds = holds } }))
    (λ mid cut. record { value = h.value; reads = h.reads; shows = record { found = found; lines = all; shown = shown; cut = cut } })
    k

-- the search has an answer
answered : {given : Given} {proof : List ℕ} {budget : ℕ} {x y end : DeskState} {s : Status} (topic : Topic) (answer : Clashed) → (h : ReadsSubject (topic_subject topic) x y given) → ClashMeets (asked (topic_subject topic) h.value) budget answer → SendsFound (lines_found answer) (report_found budget answer) proof y end s → Carries (clash_task (topic_subject topic) budget proof) x end s
answered {x = x} topic (answers.Clash kept drops proof) h m k = sent topic (a_clash kept.items drops.items) proof (clashed kept.items drops.items) refl (λ mid e. e) (λ mid c. c) h (told (asked (topic_subject topic) h.value) kept.items drops.items proof (asked_fits topic x.held h.value h.reads) m) k
answered topic (answers.Met table proof) h m k = sent topic (a_table table) proof (met table) refl (λ mid e. e) (λ mid c. c) h m k
answered {budget = budget} topic (answers.Spent step proof) h m k = sent topic (a_step step) proof (spent_step budget step) refl (λ mid e. e) (λ mid c. (refl, c)) h m k
answered {proof = proof} {budget = budget} {x = x} topic answers.NoMemory h m k =
    let s = topic_subject topic in
    memory_carries s.inputs s.Gives (ClashSays s budget proof) (Some proof) h.entered (give_before (s.Gives x.held) s.inputs h.give) h.read_faults k

pub clash_meets : {given : Given} {proof : List ℕ} {budget : ℕ} {x y end : DeskState} {s : Status} (topic : Topic) (answer : Clashed) → ReadsSubject (topic_subject topic) x y given → ClashMeets (asked_by given.flat (plan_in given.repair)) budget answer → SendsFound (lines_found answer) (report_found budget answer) proof y end s → Carries (clash_task (topic_subject topic) budget proof) x end s
clash_meets {budget = budget} topic answer h m k = answered topic answer h (subst (λ (f : Wished). ClashMeets f budget answer) (is_asked {s = topic_subject topic} h) m) k
