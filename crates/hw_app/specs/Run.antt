-- What a run does, by its words.
use Rattle.std.specs.Prelude.{ℕ, List, [], ◌∷◌, Result, Ok, Err}
use Rattle.hw_flat.specs.Demonstration.{demonstration}
use Rattle.hw_desk.specs.State.{DeskState}
use Rattle.hw_cert.specs.declared.version.Version.TheVariants.{Two, Three}
use Rattle.hw_report.specs.Reports.{bad_words}
use Rattle.hw_command.specs.Carries.{Task, Carries}
use Rattle.hw_command.specs.Ends.{Ends}
use Rattle.hw_command.specs.declared.status.Status.{Status}
use Rattle.hw_subject.specs.Subjects.{origin_subject, repair_of, topic_subject}
use Rattle.hw_command_search.specs.Searchers.{searcher_of}
use Rattle.hw_command_split.specs.Joining.{join_task}
use Rattle.hw_command_split.specs.Parting.{part_task}
use Rattle.hw_command_split.specs.Splitting.{split_task}
use Rattle.hw_command_search.specs.Resumes.{resume_task}
use Rattle.hw_command_search.specs.Searches.{search_task}
use Rattle.hw_subject.specs.Checks.{check_task}
use Rattle.hw_command_check.specs.Renews.{renew_task}
use Rattle.hw_command_chart.specs.Charts.{chart_task}
use Rattle.hw_command_texts.specs.Explains.{explain_repair_task}
use Rattle.hw_command_clash.specs.Clashes.{clash_task}
use Rattle.hw_command_clash.specs.CheckClash.{check_clash_task}
use Rattle.hw_command_chart.specs.ClashCharts.{chart_clash_task}
use Rattle.hw_command_texts.specs.Listings.{explain_port_task, flatten_task, model_task, windows_task}
use Rattle.hw_command_texts.specs.Lints.{lint_task}
use Rattle.hw_command_texts.specs.Tables.{table_task}
use Rattle.hw_command_audit.specs.AuditPort.{audit_port_task}
use Rattle.hw_command_audit.specs.CarryPort.{carry_port_task}
use Rattle.hw_command_search.specs.Demo.{demo_task}
use Rattle.hw_app.specs.Commands.{Command, search, resume, split, part, join, check, verify, renew, chart, chart_clash, table, explain_repair, clash, check_clash, explain, windows, lint, model, audit, carry, flatten, demo, command_of}

-- what a command has to do
abbrev pub task_of : Command → Task
task_of (search topic how budget proof) = search_task (topic_subject topic) (searcher_of how) budget proof
task_of (resume topic cert budget proof) = resume_task (topic_subject topic) cert budget proof
task_of (split topic parts start made) = split_task (topic_subject topic) parts start made
task_of (part topic tree number start budget proof) = part_task (topic_subject topic) tree number start budget proof
task_of (join topic tree certs proof) = join_task (topic_subject topic) tree certs proof
task_of (check topic cert) = check_task (topic_subject topic) Two cert
task_of (verify topic cert) = check_task (topic_subject topic) Three cert
task_of (renew topic cert proof) = renew_task (topic_subject topic) cert proof
task_of (chart topic cert) = chart_task (topic_subject topic) cert
task_of (chart_clash instance tides text cert) = chart_clash_task instance tides text cert
task_of (table topic cert) = table_task (topic_subject topic) cert
task_of (explain_repair origin plan cert) = explain_repair_task (repair_of (origin_subject origin) plan) cert
task_of (clash topic budget proof) = clash_task (topic_subject topic) budget proof
task_of (check_clash topic text cert) = check_clash_task (topic_subject topic) text cert
task_of (explain instance tides) = explain_port_task instance tides
task_of (windows instance tides) = windows_task instance tides
task_of (lint instance tides) = lint_task instance tides
task_of (model origin format) = model_task (origin_subject origin) format
task_of (audit instance tides plan events) = audit_port_task instance tides plan events
task_of (carry instance tides plan events) = carry_port_task instance tides plan events
task_of (flatten instance tides) = flatten_task instance tides
task_of (demo number ships slots budget proof) = demo_task (demonstration number ships slots) budget proof

-- a command is carried out; of words that are no command the place of the first bad one is reported, and nothing is begun or made
abbrev pub CommandMeets : Result Command ℕ → DeskState → DeskState → Status → Type 0
CommandMeets (Err place) old new s = Ends (bad_words place ∷ []) old new s
CommandMeets (Ok command) old new s = Carries (task_of command) old new s

abbrev pub RunMeets : List (List ℕ) → DeskState → DeskState → Status → Type 0
RunMeets words old new s = CommandMeets (command_of words) old new s
