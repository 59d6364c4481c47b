-- Commands whose report is a text that is a function of what is read.
use Rattle.std.specs.Prelude.{◌≡◌, ℕ, List, Option, None, Some}
use Rattle.hw_desk.specs.State.{DeskState}
use Rattle.hw_model.specs.Problem.{Problem}
use Rattle.hw_flat.specs.TextWritten.{problem_text}
use Rattle.hw_port_model.specs.Flattened.{flattened}
use Rattle.hw_port_windows.specs.Windows.{windows_text}
use Rattle.hw_port_named.specs.Lines.{explained}
use Rattle.hw_flat_programme.specs.Texts.{lp_text, opb_text}
use Rattle.hw_flat_programme.specs.declared.format.Format.{Format}
use Rattle.hw_flat_programme.specs.declared.format.Format.TheVariants.{Lp, Opb}
use Rattle.hw_report.specs.Reports.{Report, whole_text}
use Rattle.hw_command.specs.Carries.{Task, one_report}
use Rattle.hw_subject.specs.Subjects.{Subject, Harbour, port_subject}

-- the text of what is read of the inputs, each where it is told
pub record IsListed (s : Subject) (text : s.Value → List ℕ) (held : List ℕ → Option (List ℕ)) (listed : List ℕ) : Type 0 where
  pub value : s.Value
  pub reads : s.Reads held value
  pub is_text : listed ≡ text value

-- what a report says of the inputs, each as far as it is told: the text of what they give, or why they give nothing
abbrev pub Lists : (s : Subject) → (s.Value → List ℕ) → (List ℕ → Option (List ℕ)) → Report → Type 0
Lists s text held (whole_text listed) = IsListed s text held listed
Lists s text held r = s.Refuses held r

abbrev pub ListSays : (s : Subject) → (s.Value → List ℕ) → DeskState → Option Report → Type 0
ListSays s text old None = ⊥
ListSays s text old (Some r) = Lists s text old.held r

abbrev pub listing_task : (s : Subject) → (s.Value → List ℕ) → Task
listing_task s text = record {
  inputs = s.inputs;
  Gives = s.Gives;
  proof = None;
  Says = one_report (λ old new. ListSays s text old);
}

-- ---- of a port

abbrev pub port_task : List ℕ → List ℕ → (Harbour → List ℕ) → Task
port_task instance table text = listing_task (port_subject instance table) text

-- when each ship may sail, and why not
abbrev pub windows_of : Harbour → List ℕ
windows_of v = windows_text v.port v.tide

abbrev pub windows_task : List ℕ → List ℕ → Task
windows_task instance table = port_task instance table windows_of

-- its restrictions in its own words, by their numbers in its flat problem
abbrev pub restriction_words : Harbour → List ℕ
restriction_words v = explained v.port

abbrev pub explain_port_task : List ℕ → List ℕ → Task
explain_port_task instance table = port_task instance table restriction_words

-- its flat text
abbrev pub flat_text_of : Harbour → List ℕ
flat_text_of v = problem_text (flattened v.port v.tide)

abbrev pub flatten_task : List ℕ → List ℕ → Task
flatten_task instance table = port_task instance table flat_text_of

-- ---- of a flat text or a port

-- the linear programme of the problem
abbrev pub programme_text : Format → Problem → List ℕ
programme_text Lp f = lp_text f
programme_text Opb f = opb_text f

abbrev pub model_task : Subject → Format → Task
model_task s format = listing_task s (λ v. programme_text format (s.problem v))
