-- A command, with its names and numbers.
use Rattle.std.specs.Prelude.{ℕ, ◌≤◌, List, ◌∷◌, Option, Some, None, Result, Ok, Err, ⊤}
use Rattle.hw_desk.specs.declared.desk.Feed.TheVariants as feed
use Rattle.hw_flat_programme.specs.declared.format.Format.{Format}
use Rattle.hw_flat_programme.specs.declared.format.Format.TheVariants.{Lp, Opb}
use Rattle.hw_search_laws.specs.declared.limits.TheConstants.{MOST_BUDGET}
use Rattle.hw_split_choice.specs.declared.chosen.TheConstants.{MOST_PARTS}
use Rattle.hw_subject.specs.Subjects.{Origin, Topic, flat_text, port_of, origin_seen, plainly, topic_seen}
use Rattle.hw_command_search.specs.Orders.{order_in}
use Rattle.hw_command_search.specs.declared.searcher.Search.{Search}
use Rattle.hw_command_search.specs.declared.searcher.Search.TheVariants.{Solve, Prove, Crew}
use Rattle.hw_command_search.specs.Demo.{CanDraw}
use Rattle.hw_app.specs.Forms.{form_of_words, name_in_words, number_in_words, word_in, wanted_words}
use Rattle.hw_app.specs.declared.command.Command.{Command as Told}
use Rattle.hw_app.specs.declared.command.Command.TheVariants as told
use Rattle.hw_app.specs.declared.form.Form.{Form}
use Rattle.hw_app.specs.declared.wanted.Keyword.TheVariants as key
use Rattle.hw_app.specs.declared.wanted.Quantity.TheVariants as counts
use Rattle.hw_app.specs.declared.wanted.Value.TheVariants.{Certificates, Input, Order, Proof, SplitMade, Start}
use Rattle.hw_app.specs.declared.wanted.Wanted.{Wanted}
use Rattle.hw_app.specs.declared.wanted.Wanted.TheVariants.{Keyword}

pub data Command : Type 0 where
  -- what is searched and how, the budget, Proof
  search : Topic → Search → ℕ → List ℕ → Command
  -- what is searched, the certificate that is gone on from, the budget, Proof
  resume : Topic → List ℕ → ℕ → List ℕ → Command
  -- what is split, how many parts there are at most, the certificate whose best is known, the split that is made
  split : Topic → ℕ → List ℕ → List ℕ → Command
  -- what is searched, the split, the number of a part, the certificate that is gone on from, the budget, Proof
  part : Topic → List ℕ → ℕ → List ℕ → ℕ → List ℕ → Command
  -- of what certificates are joined, the split, the certificates, Proof
  join : Topic → List ℕ → List ℕ → List ℕ → Command
  -- of what a certificate is checked, the certificate
  check : Topic → List ℕ → Command
  verify : Topic → List ℕ → Command
  -- the same, and Proof
  renew : Topic → List ℕ → List ℕ → Command
  -- of what a plan is drawn, the certificate
  chart : Topic → List ℕ → Command
  -- the instance, the tide table, the clash, the certificate
  chart_clash : List ℕ → List ℕ → List ℕ → List ℕ → Command
  -- of what a plan is put into a table, the certificate
  table : Topic → List ℕ → Command
  -- of what a repair is told, the plan, the certificate
  explain_repair : Origin → List ℕ → List ℕ → Command
  -- what is searched, the budget, Proof
  clash : Topic → ℕ → List ℕ → Command
  -- of what a clash is checked, the clash, the certificate
  check_clash : Topic → List ℕ → List ℕ → Command
  -- the instance, the tide table
  explain : List ℕ → List ℕ → Command
  windows : List ℕ → List ℕ → Command
  lint : List ℕ → List ℕ → Command
  -- what is written as a linear programme, and in which format
  model : Origin → Format → Command
  -- the instance, the tide table, the plan, the events
  audit : List ℕ → List ℕ → List ℕ → List ℕ → Command
  carry : List ℕ → List ℕ → List ℕ → List ℕ → Command
  -- the instance, the tide table
  flatten : List ℕ → List ℕ → Command
  -- the number, the ships and the slots of a demonstration, the budget, Proof
  demo : ℕ → ℕ → ℕ → ℕ → List ℕ → Command

-- ---- by the words

abbrev pub origin_by : Option (List ℕ) → List ℕ → List ℕ → Origin
origin_by (Some name) instance tides = flat_text name
origin_by None instance tides = port_of instance tides

-- a flat text, where the form asks for one, or a port
abbrev pub origin_in : Form → List (List ℕ) → Origin
origin_in form words = origin_by (word_in form words (Input feed.Flat)) (name_in_words form words (Input feed.Instance)) (name_in_words form words (Input feed.Tides))

-- the same, or the repair of its plan, where the form asks for one
abbrev pub topic_in : Form → List (List ℕ) → Topic
topic_in form words = record { origin = origin_in form words; plan = word_in form words (Input feed.Plan) }

abbrev pub search_in : Form → List (List ℕ) → Search → Command
search_in form words how = search (topic_in form words) how (number_in_words form words counts.Budget) (name_in_words form words Proof)

abbrev pub part_in : Form → List (List ℕ) → Command
part_in form words = part (topic_in form words) (name_in_words form words (Input feed.Split)) (number_in_words form words counts.Part) (name_in_words form words Start) (number_in_words form words counts.Budget) (name_in_words form words Proof)

-- the command of a form, by its keywords
abbrev pub command_by : List Wanted → Form → List (List ℕ) → Command
command_by (Keyword key.Solve ∷ more) form words = search_in form words Solve
command_by (Keyword key.Repair ∷ more) form words = search_in form words Solve
command_by (Keyword key.Prove ∷ more) form words = search_in form words (Prove (number_in_words form words counts.Seed))
command_by (Keyword key.Crew ∷ more) form words = search_in form words (Crew (order_in (name_in_words form words Order)))
command_by (Keyword key.Resume ∷ more) form words = resume (topic_in form words) (name_in_words form words (Input feed.Certificate)) (number_in_words form words counts.Budget) (name_in_words form words Proof)
command_by (Keyword key.Split ∷ more) form words = split (topic_in form words) (number_in_words form words counts.Parts) (name_in_words form words Start) (name_in_words form words SplitMade)
command_by (Keyword key.Part ∷ more) form words = part_in form words
command_by (Keyword key.Join ∷ more) form words = join (topic_in form words) (name_in_words form words (Input feed.Split)) (name_in_words form words Certificates) (name_in_words form words Proof)
command_by (Keyword key.Check ∷ Keyword key.Clash ∷ Keyword key.Repair ∷ more) form words = check_clash (topic_in form words) (name_in_words form words (Input feed.Clash)) (name_in_words form words (Input feed.Certificate))
command_by (Keyword key.Check ∷ Keyword key.Clash ∷ more) form words = check_clash (plainly (origin_in form words)) (name_in_words form words (Input feed.Plan)) (name_in_words form words (Input feed.Certificate))
command_by (Keyword key.Check ∷ more) form words = check (topic_in form words) (name_in_words form words (Input feed.Certificate))
command_by (Keyword key.Verify ∷ more) form words = verify (topic_in form words) (name_in_words form words (Input feed.Certificate))
command_by (Keyword key.Renew ∷ more) form words = renew (topic_in form words) (name_in_words form words (Input feed.Certificate)) (name_in_words form words Proof)
command_by (Keyword key.Chart ∷ Keyword key.Clash ∷ more) form words = chart_clash (name_in_words form words (Input feed.Instance)) (name_in_words form words (Input feed.Tides)) (name_in_words form words (Input feed.Clash)) (name_in_words form words (Input feed.Certificate))
command_by (Keyword key.Chart ∷ more) form words = chart (topic_in form words) (name_in_words form words (Input feed.Certificate))
command_by (Keyword key.Table ∷ more) form words = table (topic_in form words) (name_in_words form words (Input feed.Certificate))
command_by (Keyword key.Clash ∷ more) form words = clash (topic_in form words) (number_in_words form words counts.Budget) (name_in_words form words Proof)
command_by (Keyword key.Explain ∷ Keyword key.Repair ∷ more) form words = explain_repair (origin_in form words) (name_in_words form words (Input feed.Plan)) (name_in_words form words (Input feed.Certificate))
command_by (Keyword key.Explain ∷ more) form words = explain (name_in_words form words (Input feed.Instance)) (name_in_words form words (Input feed.Tides))
command_by (Keyword key.Windows ∷ more) form words = windows (name_in_words form words (Input feed.Instance)) (name_in_words form words (Input feed.Tides))
command_by (Keyword key.Lint ∷ more) form words = lint (name_in_words form words (Input feed.Instance)) (name_in_words form words (Input feed.Tides))
command_by (Keyword key.Model ∷ more) form words = model (origin_in form words) Lp
command_by (Keyword key.Opb ∷ more) form words = model (origin_in form words) Opb
command_by (Keyword key.Audit ∷ more) form words = audit (name_in_words form words (Input feed.Instance)) (name_in_words form words (Input feed.Tides)) (name_in_words form words (Input feed.Plan)) (name_in_words form words (Input feed.Events))
command_by (Keyword key.Carry ∷ more) form words = carry (name_in_words form words (Input feed.Instance)) (name_in_words form words (Input feed.Tides)) (name_in_words form words (Input feed.Plan)) (name_in_words form words (Input feed.Events))
command_by (Keyword key.Flatten ∷ more) form words = flatten (name_in_words form words (Input feed.Instance)) (name_in_words form words (Input feed.Tides))
command_by wanted form words = demo (number_in_words form words counts.Demonstration) (number_in_words form words counts.Ships) (number_in_words form words counts.Slots) (number_in_words form words counts.Budget) (name_in_words form words Proof)

-- the command of a form that the words are of
abbrev pub command_in : Form → List (List ℕ) → Command
command_in form words = command_by (wanted_words form) form words

abbrev pub command_or_place : Result Form ℕ → List (List ℕ) → Result Command ℕ
command_or_place (Ok form) words = Ok (command_in form words)
command_or_place (Err place) words = Err place

-- the command that the words are, or the place of the first bad one
abbrev pub command_of : List (List ℕ) → Result Command ℕ
command_of words = command_or_place (form_of_words words) words

-- the numbers of a command are within their limits
abbrev pub IsBudget : ℕ → Type 0
IsBudget budget = (1 ≤ budget) × (budget ≤ MOST_BUDGET)

abbrev pub IsPartCount : ℕ → Type 0
IsPartCount parts = (1 ≤ parts) × (parts ≤ MOST_PARTS)

abbrev pub KeepsLimits : Command → Type 0
KeepsLimits (search topic how budget proof) = IsBudget budget
KeepsLimits (resume topic cert budget proof) = IsBudget budget
KeepsLimits (split topic parts start made) = IsPartCount parts
KeepsLimits (part topic tree number start budget proof) = IsBudget budget
KeepsLimits (clash topic budget proof) = IsBudget budget
KeepsLimits (demo number ships slots budget proof) = CanDraw ships slots × IsBudget budget
KeepsLimits command = ⊤

-- ---- without where its names lie

abbrev pub command_seen : Told → Command
command_seen (told.Search subject how budget proof) = search (topic_seen subject) how budget proof.now
command_seen (told.Resume subject cert budget proof) = resume (topic_seen subject) cert.now budget proof.now
command_seen (told.Split subject words parts) = split (topic_seen subject) parts words.start.now words.split.now
command_seen (told.Part subject words budget) = part (topic_seen subject) words.split.now words.number words.start.now budget words.proof.now
command_seen (told.Join subject tree certs proof) = join (topic_seen subject) tree.now certs.now proof.now
command_seen (told.Check subject cert) = check (topic_seen subject) cert.now
command_seen (told.Verify subject cert) = verify (topic_seen subject) cert.now
command_seen (told.Renew subject cert proof) = renew (topic_seen subject) cert.now proof.now
command_seen (told.Chart subject cert) = chart (topic_seen subject) cert.now
command_seen (told.ChartClash port text cert) = chart_clash port.instance.now port.tides.now text.now cert.now
command_seen (told.Table subject cert) = table (topic_seen subject) cert.now
command_seen (told.ExplainRepair source plan cert) = explain_repair (origin_seen source) plan.now cert.now
command_seen (told.Clash subject budget proof) = clash (topic_seen subject) budget proof.now
command_seen (told.CheckClash subject text cert) = check_clash (topic_seen subject) text.now cert.now
command_seen (told.Explain port) = explain port.instance.now port.tides.now
command_seen (told.Windows port) = windows port.instance.now port.tides.now
command_seen (told.Lint port) = lint port.instance.now port.tides.now
command_seen (told.Model source format) = model (origin_seen source) format
command_seen (told.Audit port plan events) = audit port.instance.now port.tides.now plan.now events.now
command_seen (told.Carry port plan events) = carry port.instance.now port.tides.now plan.now events.now
command_seen (told.Flatten port) = flatten port.instance.now port.tides.now
command_seen (told.Demo draw budget proof) = demo draw.number draw.ships draw.slots budget proof.now

abbrev pub read_seen : Result Told ℕ → Result Command ℕ
read_seen (Ok command) = Ok (command_seen command)
read_seen (Err place) = Err place
