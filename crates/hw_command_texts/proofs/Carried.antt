-- The text of what was read is the report.
use Rattle.std.proofs.Common.{◌≡◌, ◌∙◌, ℕ, List, [], ◌∷◌, Option, None, Result, Ok, Err, append-nil, ap, refl, subst, sym}
use Rattle.std.specs.Prelude.{IfOk, Vec}
use Rattle.std.specs.declared.alloc.Global.{Global}
use Rattle.hw_model.specs.declared.memory.NoMemory.{NoMemory}
use Rattle.hw_model.specs.Problem.{Problem}
use Rattle.hw_desk.specs.State.{DeskState}
use Rattle.hw_port.specs.Whole.{Parts}
use Rattle.hw_tide.specs.Levels.{TideParts}
use Rattle.hw_flat.specs.TextWritten.{problem_text}
use Rattle.hw_report.specs.Reports.{Report, whole_text, no_memory}
use Rattle.hw_command.specs.Carries.{Carries}
use Rattle.hw_command.specs.Ends.{Ends}
use Rattle.hw_command.specs.PortInputs.{ReadsPortProblem}
use Rattle.hw_command.specs.Scope.{Entered, GiveBefore}
use Rattle.hw_command.specs.declared.status.Status.{Status}
use Rattle.hw_command.proofs.Begun.{answers, wants_memory}
use Rattle.hw_command.proofs.PortForms.{port_given}
use Rattle.hw_command.proofs.Stops.{stops_carries}
use Rattle.hw_subject.specs.Reading.{ReadsSubject, StopsAtSubject}
use Rattle.hw_subject.specs.Subjects.{Subject, Harbour, Origin, origin_subject, plainly, port_subject}
use Rattle.hw_subject.specs.declared.subject.Given.{Given}
use Rattle.hw_subject.proofs.Certless.{certless}
use Rattle.hw_subject.proofs.Readings.{give_before}
use Rattle.hw_command_texts.specs.Listed.{text_report}
use Rattle.hw_command_texts.specs.Listings.{Lists, flat_text_of, listing_task, port_task}

refused_says : (origin : Origin) (text : (origin_subject origin).Value → List ℕ) (held : List ℕ → Option (List ℕ)) (r : Report) → (origin_subject origin).Refuses held r → Lists (origin_subject origin) text held r
refused_says origin text held (whole_text listed) h = absurd ((certless (plainly origin)).silent held (whole_text listed) h refl)
refused_says origin text held r h = h

-- the inputs give no value
pub listing_stops : {x y z : DeskState} {r : Report} {s : Status} (origin : Origin) (text : (origin_subject origin).Value → List ℕ) → StopsAtSubject (origin_subject origin) x y r → Ends (r ∷ []) y z s → Carries (listing_task (origin_subject origin) text) x z s
listing_stops {x = x} {r = r} origin text h ends = stops_carries (listing_task (origin_subject origin) text) [] h (sym (append-nil (origin_subject origin).inputs)) (λ feed given. given) (refused_says origin text x.held r) ends

-- a text of what was read is sent
read_sent : {x y z : DeskState} {s : Status} (subject : Subject) (text : subject.Value → List ℕ) (value : subject.Value) → subject.Reads x.held value → Entered subject.inputs x y → GiveBefore (subject.Gives x.held) subject.inputs → y.read_faults ≡ x.read_faults → Ends (whole_text (text value) ∷ []) y z s → Carries (listing_task subject text) x z s
read_sent {y = y} subject text value reads entered give kept ends = record {
  mid = y;
  reports = whole_text (text value) ∷ [];
  works = answers None (whole_text (text value)) refl entered give kept;
  says = λ own. record { value = value; reads = reads; is_text = refl };
  ends = ends;
}

-- one of the problem
pub problem_sent : {x y z : DeskState} {given : Given} {s : Status} (subject : Subject) (text : Problem → List ℕ) → ReadsSubject subject x y given → Ends (whole_text (text given.flat) ∷ []) y z s → Carries (listing_task subject (λ v. text (subject.problem v))) x z s
problem_sent {x = x} {y = y} {z = z} {s = s} subject text h ends = read_sent subject (λ v. text (subject.problem v)) h.value h.reads h.entered (give_before (subject.Gives x.held) subject.inputs h.give) h.read_faults (subst (λ (f : Problem). Ends (whole_text (text f) ∷ []) y z s) h.problem ends)

-- one of a port
pub port_sent : {x y z : DeskState} {s : Status} {p : Parts} {t : TideParts} {f : Problem} (instance table : List ℕ) (text : Harbour → List ℕ) → ReadsPortProblem instance table x y p t f → Ends (whole_text (text (record { port = p; tide = t })) ∷ []) y z s → Carries (port_task instance table text) x z s
port_sent {p = p} {t = t} instance table text h ends = read_sent (port_subject instance table) text (record { port = p; tide = t }) h.port h.entered (port_given h, tt) h.read_faults ends

-- one that was made in memory, or memory ran out for it
pub held_sent : {x y z : DeskState} {s : Status} {p : Parts} {t : TideParts} {f : Problem} (instance table : List ℕ) (text : Harbour → List ℕ) (held : Result (Vec ℕ Global) NoMemory) → ReadsPortProblem instance table x y p t f → IfOk held (λ made. made.items ≡ text (record { port = p; tide = t })) → Ends (text_report held ∷ []) y z s → Carries (port_task instance table text) x z s
held_sent {y = y} {z = z} {s = s} instance table text (Ok made) h is ends = port_sent instance table text h (subst (λ (bytes : List ℕ). Ends (whole_text bytes ∷ []) y z s) is ends)
held_sent {y = y} instance table text (Err stop) h is ends = record {
  mid = y;
  reports = no_memory ∷ [];
  works = wants_memory None (port_subject instance table).inputs [] refl h.entered (port_given h, tt) h.read_faults;
  says = λ own. absurd (cc);
  ends = ends;
}

-- the flat text of the problem that was read
pub flat_made : {instance table : List ℕ} {x y : DeskState} {p : Parts} {t : TideParts} {f : Problem} (held : Result (Vec ℕ Global) NoMemory) → ReadsPortProblem instance table x y p t f → IfOk held (λ made. made.items ≡ problem_text f) → IfOk held (λ made. made.items ≡ flat_text_of (record { port = p; tide = t }))
flat_made (Ok made) h is = is ∙ ap problem_text h.problem
flat_made (Err stop) h is = tt
