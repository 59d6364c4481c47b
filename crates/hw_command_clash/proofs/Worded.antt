-- A clash of a subject by whose names it is reported.
use Rattle.std.proofs.Common.{ℕ, List, [], Option, Some, None, subst, arith}
use Rattle.hw_model.specs.Problem.{Problem}
use Rattle.hw_model.specs.Timetables.{NonePermitted}
use Rattle.hw_audit.specs.Laws.{fewer_tugs}
use Rattle.hw_audit.proofs.Ports.{lessened_port, port_kept}
use Rattle.hw_clash.specs.Clashes.{Clash}
use Rattle.hw_clash.specs.Parts.{part}
use Rattle.hw_clash.specs.Read.{SaysClash}
use Rattle.hw_clash.specs.Wished.{with_wishes}
use Rattle.hw_subject.specs.Subjects.{Origin, flat_text, port_of, origin_subject, repaired_by, Topic, topic_subject}
use Rattle.hw_command_clash.specs.Asked.{asked, names_left, wishes_in}
use Rattle.hw_command_clash.specs.PortWords.{ClashIn, DropsIn}
use Rattle.hw_command_clash.proofs.PortMeans.{port_clash, port_drops}

drops_by : (origin : Origin) (plan : Option (List ℕ)) (held : List ℕ → Option (List ℕ)) (v : (repaired_by (origin_subject origin) plan).Value) (clash : Clash) → (repaired_by (origin_subject origin) plan).Reads held v
    → SaysClash (asked (repaired_by (origin_subject origin) plan) v) clash → DropsIn (names_left (repaired_by (origin_subject origin) plan) v) (wishes_in ((repaired_by (origin_subject origin) plan).plan v)) clash.kept clash.drops
drops_by (flat_text name) None held v clash reads says = tt
drops_by (flat_text name) (Some plan) held v clash reads says = tt
drops_by (port_of instance table) None held v clash reads says = port_drops v.port v.tide [] clash reads.kept (omega arith) says
drops_by (port_of instance table) (Some plan) held v clash reads says =
    let w = v.plan.withdrawn in
    port_drops (fewer_tugs w v.value.port) v.value.tide v.plan.wishes clash (port_kept v.value.port w reads.reads.kept) (omega (arith, reads.planned.fits.each_ship)) (subst (λ (f : Problem). SaysClash (with_wishes f v.plan.wishes) clash) (lessened_port v.value.port v.value.tide w) says)

clash_by_plan : (origin : Origin) (plan : Option (List ℕ)) (held : List ℕ → Option (List ℕ)) (v : (repaired_by (origin_subject origin) plan).Value) (clash : Clash) → (repaired_by (origin_subject origin) plan).Reads held v
    → SaysClash (asked (repaired_by (origin_subject origin) plan) v) clash → NonePermitted (part (asked (repaired_by (origin_subject origin) plan) v) clash.kept) → ClashIn (names_left (repaired_by (origin_subject origin) plan) v) (wishes_in ((repaired_by (origin_subject origin) plan).plan v)) clash.kept clash.drops
clash_by_plan (flat_text name) None held v clash reads says none = tt
clash_by_plan (flat_text name) (Some plan) held v clash reads says none = tt
clash_by_plan (port_of instance table) None held v clash reads says none = port_clash v.port v.tide [] clash reads.kept (omega arith) says none
clash_by_plan (port_of instance table) (Some plan) held v clash reads says none =
    let w = v.plan.withdrawn in
    let same = lessened_port v.value.port v.value.tide w in
    port_clash (fewer_tugs w v.value.port) v.value.tide v.plan.wishes clash (port_kept v.value.port w reads.reads.kept) (omega (arith, reads.planned.fits.each_ship)) (subst (λ (f : Problem). SaysClash (with_wishes f v.plan.wishes) clash) same says)
    (subst (λ (f : Problem). NonePermitted (part (with_wishes f v.plan.wishes) clash.kept)) same none)

pub drops_in : (topic : Topic) (held : List ℕ → Option (List ℕ)) (v : (topic_subject topic).Value) (clash : Clash) → (topic_subject topic).Reads held v → SaysClash (asked (topic_subject topic) v) clash → DropsIn (names_left (topic_subject topic) v) (wishes_in ((topic_subject topic).plan v)) clash.kept clash.drops
drops_in topic held v clash reads says = drops_by topic.origin topic.plan held v clash reads says

pub clash_in : (topic : Topic) (held : List ℕ → Option (List ℕ)) (v : (topic_subject topic).Value) (clash : Clash) → (topic_subject topic).Reads held v → SaysClash (asked (topic_subject topic) v) clash → NonePermitted (part (asked (topic_subject topic) v) clash.kept) → ClashIn (names_left (topic_subject topic) v) (wishes_in ((topic_subject topic).plan v)) clash.kept clash.drops
clash_in topic held v clash reads says none = clash_by_plan topic.origin topic.plan held v clash reads says none
