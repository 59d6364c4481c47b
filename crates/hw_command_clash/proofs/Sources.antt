-- The problem of a subject with the wishes of its plan: its limits, and what it permits.
use Rattle.std.proofs.Common.{◌≡◌, ◌↔◌, ◌∙◌, ℕ, List, Option, Some, None, IsTrue, get_or, sym, ap, subst, arith}
use Rattle.std.specs.Prelude.{IfSome}
use Rattle.std.proofs.lemmas.List.Elements.{All-from_get_or}
use Rattle.hw_model.specs.Limits.{IsFlat}
use Rattle.hw_model.specs.Problem.{Problem}
use Rattle.hw_model.specs.Timetables.{Permits, NonePermitted}
use Rattle.hw_desk.specs.State.{DeskState}
use Rattle.hw_plan_texts.proofs.Fleets.{lessened_fits}
use Rattle.hw_repair.specs.Wishes.{PlanParts, PlanFits}
use Rattle.hw_repair.proofs.Repairs.{repaired_permits}
use Rattle.hw_clash.specs.Parts.{part}
use Rattle.hw_clash.specs.Wished.{Wished, IsWished, PermitsWished, NoneWished, wished_holds}
use Rattle.hw_clash.proofs.Parts.{part_permits, holds_all}
use Rattle.hw_clash.proofs.Wishes.{wishes_mean}
use Rattle.hw_subject.specs.Meanings.{IsModelled, NoneOf, repaired_problem}
use Rattle.hw_subject.specs.Reading.{ReadsSubject, plan_in, searched_in}
use Rattle.hw_subject.specs.Subjects.{Subject, Planned, ReadsPlanned, Origin, flat_text, port_of, origin_subject, flat_subject, plainly, port_subject, repair_of, repaired_by, Topic, topic_subject}
use Rattle.hw_subject.specs.declared.subject.Given.{Given}
use Rattle.hw_subject.proofs.Modelled.{subjects_modelled_law}
use Rattle.hw_command_clash.specs.Asked.{asked, asked_by}

-- ---- what was read

pub is_asked : {s : Subject} {x y : DeskState} {given : Given} → (h : ReadsSubject s x y given) → asked_by given.flat (plan_in given.repair) ≡ asked s h.value
is_asked {s = s} {given = given} h =
    ap (λ (f : Problem). asked_by f (plan_in given.repair)) h.problem ∙ ap (λ (plan : Option PlanParts). asked_by (s.problem h.value) plan) h.plan

-- ---- limits

planned_fits : (s : Subject) (name : List ℕ) (held : List ℕ → Option (List ℕ)) (v : Planned s) → ReadsPlanned s name held v → IsFlat (s.problem v.value) → IsWished (asked (repair_of s name) v)
planned_fits s name held v reads flat = record { limits = lessened_fits (s.problem v.value) v.plan.withdrawn flat; few_wishes = omega (arith, reads.planned.fits.each_ship, flat.few_ships) }

fits_by : (origin : Origin) (plan : Option (List ℕ)) (held : List ℕ → Option (List ℕ)) (v : (repaired_by (origin_subject origin) plan).Value) → (repaired_by (origin_subject origin) plan).Reads held v → IsWished (asked (repaired_by (origin_subject origin) plan) v)
fits_by (flat_text name) None held v reads = record { limits = (subjects_modelled_law (plainly (flat_text name)) held v reads).limits; few_wishes = omega arith }
fits_by (port_of instance table) None held v reads = record { limits = (subjects_modelled_law (plainly (port_of instance table)) held v reads).limits; few_wishes = omega arith }
fits_by (flat_text name) (Some plan) held v reads = planned_fits (flat_subject name) plan held v reads (subjects_modelled_law (plainly (flat_text name)) held v.value reads.reads).limits
fits_by (port_of instance table) (Some plan) held v reads = planned_fits (port_subject instance table) plan held v reads (subjects_modelled_law (plainly (port_of instance table)) held v.value reads.reads).limits

pub asked_fits : (topic : Topic) (held : List ℕ → Option (List ℕ)) (v : (topic_subject topic).Value) → (topic_subject topic).Reads held v → IsWished (asked (topic_subject topic) v)
asked_fits topic held v reads = fits_by topic.origin topic.plan held v reads

-- ---- what is permitted

permits_by : (f : Problem) (plan : Option PlanParts) (table : List ℕ) → IfSome plan (PlanFits f) → (Permits (repaired_problem f plan) table ↔ PermitsWished (asked_by f plan) table)
permits_by f None table fits = ((wishes_mean.none f table).1, (wishes_mean.none f table).0)
permits_by f (Some plan) table fits = (
  λ permits. (wishes_mean.plan f plan table fits).1 ((repaired_permits f plan table fits).0 permits),
  λ permits. (repaired_permits f plan table fits).1 ((wishes_mean.plan f plan table fits).0 permits),
)

asked_permits : (s : Subject) (v : s.Value) (table : List ℕ) → IsModelled s v → (s.Permits v table ↔ PermitsWished (asked s v) table)
asked_permits s v table m =
    let by = permits_by (s.problem v) (s.plan v) table m.fits in (
      λ permits. by.0 ((m.permitted table).0 permits),
      λ permits. (m.permitted table).1 (by.1 permits),
    )

pub permits_of : (topic : Topic) (held : List ℕ → Option (List ℕ)) (v : (topic_subject topic).Value) (table : List ℕ) → (topic_subject topic).Reads held v → PermitsWished (asked (topic_subject topic) v) table → (topic_subject topic).Permits v table
permits_of topic held v table reads permits = (asked_permits (topic_subject topic) v table (subjects_modelled_law topic held v reads)).1 permits

pub none_of : (topic : Topic) (held : List ℕ → Option (List ℕ)) (v : (topic_subject topic).Value) → (topic_subject topic).Reads held v → NoneWished (asked (topic_subject topic) v) → NoneOf (topic_subject topic) v
none_of topic held v reads none = λ table permits. none table ((asked_permits (topic_subject topic) v table (subjects_modelled_law topic held v reads)).0 permits)

-- a part permits what all restrictions permit
pub none_whole : (f : Wished) (kept : List ℕ) → NonePermitted (part f kept) → NoneWished f
none_whole f kept none = λ table permits. none table ((part_permits f kept table).1 (record {
  listed = permits.permitted.listed;
  holds = All-from_get_or (λ n. IsTrue (wished_holds f table n)) kept 0 (λ i lt. holds_all f table (get_or kept i 0) permits);
}))

-- ---- what is searched

pub fits_in : (topic : Topic) {x y : DeskState} {given : Given} → ReadsSubject (topic_subject topic) x y given → IsWished (asked_by given.flat (plan_in given.repair))
fits_in topic {x = x} h = subst IsWished (sym (is_asked {s = topic_subject topic} h)) (asked_fits topic x.held h.value h.reads)

pub searched_is : {s : Subject} {x y : DeskState} {given : Given} → (h : ReadsSubject s x y given) → searched_in given.flat given.repair ≡ repaired_problem given.flat (plan_in given.repair)
searched_is {s = s} {given = given} h =
    h.searched ∙ sym (ap (λ (f : Problem). repaired_problem f (plan_in given.repair)) h.problem ∙ ap (λ (plan : Option PlanParts). repaired_problem (s.problem h.value) plan) h.plan)
