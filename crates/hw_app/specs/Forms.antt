-- The forms of a command, as data. A form is what each of its words has to be.
use Rattle.std.specs.Prelude.{ℕ, ◌+◌, ◌==◌, ◌&&◌, List, [], ◌∷◌, Bool, true, false, length, max, nat_lt, Result, Ok, Err, Option, Some, None, is_some, unwrap_or, codes, bytes_eq, if◌then◌else◌}
use Rattle.hw_desk.specs.State.{same_feed}
use Rattle.hw_desk.specs.declared.desk.Feed.TheVariants as feed
use Rattle.hw_text.specs.Numbers.{number_from_to}
use Rattle.hw_search_laws.specs.declared.limits.TheConstants.{MOST_BUDGET}
use Rattle.hw_split_choice.specs.declared.chosen.TheConstants.{MOST_PARTS}
use Rattle.hw_command_search.specs.Orders.{order_read}
use Rattle.hw_command_search.specs.Demo.{most_ships, most_slots}
use Rattle.hw_app.specs.declared.form.Form.{Form}
use Rattle.hw_app.specs.declared.form.Form.TheVariants.{SolveFlat, SolvePort, ProveFlat, ProvePort, ProveFlatSeed, ProvePortSeed, ResumeFlat, ResumePort, SplitFlat, SplitPort, PartFlat, PartPort, JoinFlat, JoinPort, CheckFlat, CheckPort, VerifyFlat, VerifyPort, ChartFlat, ChartPort, ChartRepairFlat, ChartRepairPort, ChartClashPort, TablePort, TableRepairPort, RenewFlat, RenewPort, CrewFlat, CrewPort, RepairFlat, RepairPort, ProveRepairFlat, ProveRepairPort, ProveRepairFlatSeed, ProveRepairPortSeed, CheckRepair, CheckRepairPort, VerifyRepairFlat, VerifyRepairPort, ExplainRepairFlat, ExplainRepairPort, ClashFlat, ClashPort, ClashRepairFlat, ClashRepairPort, CheckClash, CheckClashPort, CheckClashRepairFlat, CheckClashRepairPort, ExplainPort, WindowsPort, Lint, ModelFlat, ModelPort, OpbFlat, OpbPort, AuditPort, CarryPort, Flatten, Demo}
use Rattle.hw_app.specs.declared.wanted.Keyword.{Keyword as KeywordOf}
use Rattle.hw_app.specs.declared.wanted.Keyword.TheVariants as key
use Rattle.hw_app.specs.declared.wanted.Quantity.{Quantity}
use Rattle.hw_app.specs.declared.wanted.Quantity.TheVariants as counts
use Rattle.hw_app.specs.declared.wanted.Value.{Value as ValueOf}
use Rattle.hw_app.specs.declared.wanted.Value.TheVariants.{Input, Start, Certificates, SplitMade, Proof, Order, Number}
use Rattle.hw_app.specs.declared.wanted.Wanted.{Wanted}
use Rattle.hw_app.specs.declared.wanted.Wanted.TheVariants.{Keyword, Value}

abbrev pub keyword_text : KeywordOf → List ℕ
keyword_text key.Solve = codes "solve"
keyword_text key.Prove = codes "prove"
keyword_text key.Resume = codes "resume"
keyword_text key.Split = codes "split"
keyword_text key.Part = codes "part"
keyword_text key.Join = codes "join"
keyword_text key.Check = codes "check"
keyword_text key.Verify = codes "verify"
keyword_text key.Chart = codes "chart"
keyword_text key.Table = codes "table"
keyword_text key.Renew = codes "renew"
keyword_text key.Crew = codes "crew"
keyword_text key.Repair = codes "repair"
keyword_text key.Clash = codes "clash"
keyword_text key.Explain = codes "explain"
keyword_text key.Windows = codes "windows"
keyword_text key.Lint = codes "lint"
keyword_text key.Model = codes "model"
keyword_text key.Opb = codes "opb"
keyword_text key.Audit = codes "audit"
keyword_text key.Carry = codes "carry"
keyword_text key.Flat = codes "flat"
keyword_text key.Port = codes "port"
keyword_text key.Flatten = codes "flatten"
keyword_text key.Demo = codes "demo"

-- the forms that there are
abbrev pub forms : List Form
forms = SolveFlat ∷ SolvePort ∷ ProveFlat ∷ ProvePort ∷ ProveFlatSeed ∷ ProvePortSeed ∷ ResumeFlat ∷ ResumePort ∷ SplitFlat ∷ SplitPort ∷ PartFlat ∷ PartPort ∷ JoinFlat ∷ JoinPort ∷ CheckFlat ∷ CheckPort ∷ VerifyFlat ∷ VerifyPort ∷ ChartFlat ∷ ChartPort ∷ ChartRepairFlat ∷ ChartRepairPort ∷ ChartClashPort ∷ TablePort ∷ TableRepairPort ∷ RenewFlat ∷ RenewPort ∷ CrewFlat ∷ CrewPort ∷ RepairFlat ∷ RepairPort ∷ ProveRepairFlat ∷ ProveRepairPort ∷ ProveRepairFlatSeed ∷ ProveRepairPortSeed ∷ CheckRepair ∷ CheckRepairPort ∷ VerifyRepairFlat ∷ VerifyRepairPort ∷ ExplainRepairFlat ∷ ExplainRepairPort ∷ ClashFlat ∷ ClashPort ∷ ClashRepairFlat ∷ ClashRepairPort ∷ CheckClash ∷ CheckClashPort ∷ CheckClashRepairFlat ∷ CheckClashRepairPort ∷ ExplainPort ∷ WindowsPort ∷ Lint ∷ ModelFlat ∷ ModelPort ∷ OpbFlat ∷ OpbPort ∷ AuditPort ∷ CarryPort ∷ Flatten ∷ Demo ∷ []

-- the limits of a number
abbrev pub least_of : Quantity → ℕ
least_of counts.Demonstration = 0
least_of counts.Ships = 1
least_of counts.Slots = 1
least_of counts.Budget = 1
least_of counts.Seed = 0
least_of counts.Parts = 1
least_of counts.Part = 1

abbrev pub most_of : Quantity → ℕ
most_of counts.Demonstration = 4_294_967_295
most_of counts.Ships = most_ships
most_of counts.Slots = most_slots
most_of counts.Budget = MOST_BUDGET
most_of counts.Seed = 4_294_967_295
most_of counts.Parts = MOST_PARTS
most_of counts.Part = 4_294_967_295

-- what the words of a form have to be
abbrev pub wanted_words : Form → List Wanted
wanted_words SolveFlat = Keyword key.Solve ∷ Keyword key.Flat ∷ Value (Input feed.Flat) ∷ Value (Number counts.Budget) ∷ Value Proof ∷ []
wanted_words SolvePort = Keyword key.Solve ∷ Keyword key.Port ∷ Value (Input feed.Instance) ∷ Value (Input feed.Tides) ∷ Value (Number counts.Budget) ∷ Value Proof ∷ []
wanted_words ProveFlat = Keyword key.Prove ∷ Keyword key.Flat ∷ Value (Input feed.Flat) ∷ Value (Number counts.Budget) ∷ Value Proof ∷ []
wanted_words ProvePort = Keyword key.Prove ∷ Keyword key.Port ∷ Value (Input feed.Instance) ∷ Value (Input feed.Tides) ∷ Value (Number counts.Budget) ∷ Value Proof ∷ []
wanted_words ProveFlatSeed = Keyword key.Prove ∷ Keyword key.Flat ∷ Value (Input feed.Flat) ∷ Value (Number counts.Budget) ∷ Value Proof ∷ Value (Number counts.Seed) ∷ []
wanted_words ProvePortSeed = Keyword key.Prove ∷ Keyword key.Port ∷ Value (Input feed.Instance) ∷ Value (Input feed.Tides) ∷ Value (Number counts.Budget) ∷ Value Proof ∷ Value (Number counts.Seed) ∷ []
wanted_words ResumeFlat = Keyword key.Resume ∷ Keyword key.Flat ∷ Value (Input feed.Flat) ∷ Value (Input feed.Certificate) ∷ Value (Number counts.Budget) ∷ Value Proof ∷ []
wanted_words ResumePort = Keyword key.Resume ∷ Keyword key.Port ∷ Value (Input feed.Instance) ∷ Value (Input feed.Tides) ∷ Value (Input feed.Certificate) ∷ Value (Number counts.Budget) ∷ Value Proof ∷ []
wanted_words SplitFlat = Keyword key.Split ∷ Keyword key.Flat ∷ Value (Input feed.Flat) ∷ Value (Number counts.Parts) ∷ Value Start ∷ Value SplitMade ∷ []
wanted_words SplitPort = Keyword key.Split ∷ Keyword key.Port ∷ Value (Input feed.Instance) ∷ Value (Input feed.Tides) ∷ Value (Number counts.Parts) ∷ Value Start ∷ Value SplitMade ∷ []
wanted_words PartFlat = Keyword key.Part ∷ Keyword key.Flat ∷ Value (Input feed.Flat) ∷ Value (Input feed.Split) ∷ Value (Number counts.Part) ∷ Value Start ∷ Value (Number counts.Budget) ∷ Value Proof ∷ []
wanted_words PartPort = Keyword key.Part ∷ Keyword key.Port ∷ Value (Input feed.Instance) ∷ Value (Input feed.Tides) ∷ Value (Input feed.Split) ∷ Value (Number counts.Part) ∷ Value Start ∷ Value (Number counts.Budget) ∷ Value Proof ∷ []
wanted_words JoinFlat = Keyword key.Join ∷ Keyword key.Flat ∷ Value (Input feed.Flat) ∷ Value (Input feed.Split) ∷ Value Certificates ∷ Value Proof ∷ []
wanted_words JoinPort = Keyword key.Join ∷ Keyword key.Port ∷ Value (Input feed.Instance) ∷ Value (Input feed.Tides) ∷ Value (Input feed.Split) ∷ Value Certificates ∷ Value Proof ∷ []
wanted_words CheckFlat = Keyword key.Check ∷ Keyword key.Flat ∷ Value (Input feed.Flat) ∷ Value (Input feed.Certificate) ∷ []
wanted_words CheckPort = Keyword key.Check ∷ Keyword key.Port ∷ Value (Input feed.Instance) ∷ Value (Input feed.Tides) ∷ Value (Input feed.Certificate) ∷ []
wanted_words VerifyFlat = Keyword key.Verify ∷ Keyword key.Flat ∷ Value (Input feed.Flat) ∷ Value (Input feed.Certificate) ∷ []
wanted_words VerifyPort = Keyword key.Verify ∷ Keyword key.Port ∷ Value (Input feed.Instance) ∷ Value (Input feed.Tides) ∷ Value (Input feed.Certificate) ∷ []
wanted_words ChartFlat = Keyword key.Chart ∷ Keyword key.Flat ∷ Value (Input feed.Flat) ∷ Value (Input feed.Certificate) ∷ []
wanted_words ChartPort = Keyword key.Chart ∷ Keyword key.Port ∷ Value (Input feed.Instance) ∷ Value (Input feed.Tides) ∷ Value (Input feed.Certificate) ∷ []
wanted_words ChartRepairFlat = Keyword key.Chart ∷ Keyword key.Repair ∷ Keyword key.Flat ∷ Value (Input feed.Flat) ∷ Value (Input feed.Plan) ∷ Value (Input feed.Certificate) ∷ []
wanted_words ChartRepairPort = Keyword key.Chart ∷ Keyword key.Repair ∷ Keyword key.Port ∷ Value (Input feed.Instance) ∷ Value (Input feed.Tides) ∷ Value (Input feed.Plan) ∷ Value (Input feed.Certificate) ∷ []
wanted_words ChartClashPort = Keyword key.Chart ∷ Keyword key.Clash ∷ Keyword key.Port ∷ Value (Input feed.Instance) ∷ Value (Input feed.Tides) ∷ Value (Input feed.Clash) ∷ Value (Input feed.Certificate) ∷ []
wanted_words TablePort = Keyword key.Table ∷ Keyword key.Port ∷ Value (Input feed.Instance) ∷ Value (Input feed.Tides) ∷ Value (Input feed.Certificate) ∷ []
wanted_words TableRepairPort = Keyword key.Table ∷ Keyword key.Repair ∷ Keyword key.Port ∷ Value (Input feed.Instance) ∷ Value (Input feed.Tides) ∷ Value (Input feed.Plan) ∷ Value (Input feed.Certificate) ∷ []
wanted_words RenewFlat = Keyword key.Renew ∷ Keyword key.Flat ∷ Value (Input feed.Flat) ∷ Value (Input feed.Certificate) ∷ Value Proof ∷ []
wanted_words RenewPort = Keyword key.Renew ∷ Keyword key.Port ∷ Value (Input feed.Instance) ∷ Value (Input feed.Tides) ∷ Value (Input feed.Certificate) ∷ Value Proof ∷ []
wanted_words CrewFlat = Keyword key.Crew ∷ Keyword key.Flat ∷ Value (Input feed.Flat) ∷ Value Order ∷ Value (Number counts.Budget) ∷ Value Proof ∷ []
wanted_words CrewPort = Keyword key.Crew ∷ Keyword key.Port ∷ Value (Input feed.Instance) ∷ Value (Input feed.Tides) ∷ Value Order ∷ Value (Number counts.Budget) ∷ Value Proof ∷ []
wanted_words RepairFlat = Keyword key.Repair ∷ Keyword key.Flat ∷ Value (Input feed.Flat) ∷ Value (Input feed.Plan) ∷ Value (Number counts.Budget) ∷ Value Proof ∷ []
wanted_words RepairPort = Keyword key.Repair ∷ Keyword key.Port ∷ Value (Input feed.Instance) ∷ Value (Input feed.Tides) ∷ Value (Input feed.Plan) ∷ Value (Number counts.Budget) ∷ Value Proof ∷ []
wanted_words ProveRepairFlat = Keyword key.Prove ∷ Keyword key.Repair ∷ Keyword key.Flat ∷ Value (Input feed.Flat) ∷ Value (Input feed.Plan) ∷ Value (Number counts.Budget) ∷ Value Proof ∷ []
wanted_words ProveRepairPort = Keyword key.Prove ∷ Keyword key.Repair ∷ Keyword key.Port ∷ Value (Input feed.Instance) ∷ Value (Input feed.Tides) ∷ Value (Input feed.Plan) ∷ Value (Number counts.Budget) ∷ Value Proof ∷ []
wanted_words ProveRepairFlatSeed = Keyword key.Prove ∷ Keyword key.Repair ∷ Keyword key.Flat ∷ Value (Input feed.Flat) ∷ Value (Input feed.Plan) ∷ Value (Number counts.Budget) ∷ Value Proof ∷ Value (Number counts.Seed) ∷ []
wanted_words ProveRepairPortSeed = Keyword key.Prove ∷ Keyword key.Repair ∷ Keyword key.Port ∷ Value (Input feed.Instance) ∷ Value (Input feed.Tides) ∷ Value (Input feed.Plan) ∷ Value (Number counts.Budget) ∷ Value Proof ∷ Value (Number counts.Seed) ∷ []
wanted_words CheckRepair = Keyword key.Check ∷ Keyword key.Repair ∷ Value (Input feed.Flat) ∷ Value (Input feed.Plan) ∷ Value (Input feed.Certificate) ∷ []
wanted_words CheckRepairPort = Keyword key.Check ∷ Keyword key.Repair ∷ Keyword key.Port ∷ Value (Input feed.Instance) ∷ Value (Input feed.Tides) ∷ Value (Input feed.Plan) ∷ Value (Input feed.Certificate) ∷ []
wanted_words VerifyRepairFlat = Keyword key.Verify ∷ Keyword key.Repair ∷ Keyword key.Flat ∷ Value (Input feed.Flat) ∷ Value (Input feed.Plan) ∷ Value (Input feed.Certificate) ∷ []
wanted_words VerifyRepairPort = Keyword key.Verify ∷ Keyword key.Repair ∷ Keyword key.Port ∷ Value (Input feed.Instance) ∷ Value (Input feed.Tides) ∷ Value (Input feed.Plan) ∷ Value (Input feed.Certificate) ∷ []
wanted_words ExplainRepairFlat = Keyword key.Explain ∷ Keyword key.Repair ∷ Keyword key.Flat ∷ Value (Input feed.Flat) ∷ Value (Input feed.Plan) ∷ Value (Input feed.Certificate) ∷ []
wanted_words ExplainRepairPort = Keyword key.Explain ∷ Keyword key.Repair ∷ Keyword key.Port ∷ Value (Input feed.Instance) ∷ Value (Input feed.Tides) ∷ Value (Input feed.Plan) ∷ Value (Input feed.Certificate) ∷ []
wanted_words ClashFlat = Keyword key.Clash ∷ Keyword key.Flat ∷ Value (Input feed.Flat) ∷ Value (Number counts.Budget) ∷ Value Proof ∷ []
wanted_words ClashPort = Keyword key.Clash ∷ Keyword key.Port ∷ Value (Input feed.Instance) ∷ Value (Input feed.Tides) ∷ Value (Number counts.Budget) ∷ Value Proof ∷ []
wanted_words ClashRepairFlat = Keyword key.Clash ∷ Keyword key.Repair ∷ Keyword key.Flat ∷ Value (Input feed.Flat) ∷ Value (Input feed.Plan) ∷ Value (Number counts.Budget) ∷ Value Proof ∷ []
wanted_words ClashRepairPort = Keyword key.Clash ∷ Keyword key.Repair ∷ Keyword key.Port ∷ Value (Input feed.Instance) ∷ Value (Input feed.Tides) ∷ Value (Input feed.Plan) ∷ Value (Number counts.Budget) ∷ Value Proof ∷ []
wanted_words CheckClash = Keyword key.Check ∷ Keyword key.Clash ∷ Value (Input feed.Flat) ∷ Value (Input feed.Plan) ∷ Value (Input feed.Certificate) ∷ []
wanted_words CheckClashPort = Keyword key.Check ∷ Keyword key.Clash ∷ Keyword key.Port ∷ Value (Input feed.Instance) ∷ Value (Input feed.Tides) ∷ Value (Input feed.Plan) ∷ Value (Input feed.Certificate) ∷ []
wanted_words CheckClashRepairFlat = Keyword key.Check ∷ Keyword key.Clash ∷ Keyword key.Repair ∷ Keyword key.Flat ∷ Value (Input feed.Flat) ∷ Value (Input feed.Plan) ∷ Value (Input feed.Clash) ∷ Value (Input feed.Certificate) ∷ []
wanted_words CheckClashRepairPort = Keyword key.Check ∷ Keyword key.Clash ∷ Keyword key.Repair ∷ Keyword key.Port ∷ Value (Input feed.Instance) ∷ Value (Input feed.Tides) ∷ Value (Input feed.Plan) ∷ Value (Input feed.Clash) ∷ Value (Input feed.Certificate) ∷ []
wanted_words ExplainPort = Keyword key.Explain ∷ Keyword key.Port ∷ Value (Input feed.Instance) ∷ Value (Input feed.Tides) ∷ []
wanted_words WindowsPort = Keyword key.Windows ∷ Keyword key.Port ∷ Value (Input feed.Instance) ∷ Value (Input feed.Tides) ∷ []
wanted_words Lint = Keyword key.Lint ∷ Value (Input feed.Instance) ∷ Value (Input feed.Tides) ∷ []
wanted_words ModelFlat = Keyword key.Model ∷ Keyword key.Flat ∷ Value (Input feed.Flat) ∷ []
wanted_words ModelPort = Keyword key.Model ∷ Keyword key.Port ∷ Value (Input feed.Instance) ∷ Value (Input feed.Tides) ∷ []
wanted_words OpbFlat = Keyword key.Opb ∷ Keyword key.Flat ∷ Value (Input feed.Flat) ∷ []
wanted_words OpbPort = Keyword key.Opb ∷ Keyword key.Port ∷ Value (Input feed.Instance) ∷ Value (Input feed.Tides) ∷ []
wanted_words AuditPort = Keyword key.Audit ∷ Keyword key.Port ∷ Value (Input feed.Instance) ∷ Value (Input feed.Tides) ∷ Value (Input feed.Plan) ∷ Value (Input feed.Events) ∷ []
wanted_words CarryPort = Keyword key.Carry ∷ Keyword key.Port ∷ Value (Input feed.Instance) ∷ Value (Input feed.Tides) ∷ Value (Input feed.Plan) ∷ Value (Input feed.Events) ∷ []
wanted_words Flatten = Keyword key.Flatten ∷ Value (Input feed.Instance) ∷ Value (Input feed.Tides) ∷ []
wanted_words Demo = Keyword key.Demo ∷ Value (Number counts.Demonstration) ∷ Value (Number counts.Ships) ∷ Value (Number counts.Slots) ∷ Value (Number counts.Budget) ∷ Value Proof ∷ []

-- a name is any word that isn't empty, an order 1 to 64 letters of searchers, and a number one in plain decimal within its limits
abbrev pub is_value : ValueOf → List ℕ → Bool
is_value (Input feed) word = nat_lt 0 (length word)
is_value Start word = nat_lt 0 (length word)
is_value Certificates word = nat_lt 0 (length word)
is_value SplitMade word = nat_lt 0 (length word)
is_value Proof word = nat_lt 0 (length word)
is_value Order word = is_some (order_read word)
is_value (Number quantity) word = is_some (number_from_to (least_of quantity) (most_of quantity) word)

-- a keyword is itself
abbrev pub takes_word : Wanted → List ℕ → Bool
takes_word (Keyword keyword) word = bytes_eq word (keyword_text keyword)
takes_word (Value value) word = is_value value word

-- how many of the words, from the first on, are what is wanted
abbrev pub agreed : List Wanted → List (List ℕ) → ℕ
agreed [] words = 0
agreed (wanted ∷ more) [] = 0
agreed (wanted ∷ more) (word ∷ words) = if takes_word wanted word then agreed more words + 1 else 0

-- the words are what is wanted, one for one
abbrev pub fits : List Wanted → List (List ℕ) → Bool
fits wanted words = (length words == length wanted) && (agreed wanted words == length wanted)

-- the first form that the words are of
abbrev pub first_fitting : List Form → List (List ℕ) → Option Form
first_fitting [] words = None
first_fitting (form ∷ more) words = if fits (wanted_words form) words then Some form else first_fitting more words

-- how many of the words some form goes on with
abbrev pub furthest : List Form → List (List ℕ) → ℕ
furthest [] words = 0
furthest (form ∷ more) words = max (agreed (wanted_words form) words) (furthest more words)

abbrev pub or_place : ℕ → Option Form → Result Form ℕ
or_place place None = Err place
or_place place (Some form) = Ok form

-- the form that the words are of, or the first place at which no form goes on with all the words up to there. Places count from 1; a missing word has the place after the last, and an extra word its own
abbrev pub form_of_words : List (List ℕ) → Result Form ℕ
form_of_words words = or_place (furthest forms words + 1) (first_fitting forms words)

-- ---- the values of a form

abbrev pub same_quantity : Quantity → Quantity → Bool
same_quantity counts.Demonstration counts.Demonstration = true
same_quantity counts.Ships counts.Ships = true
same_quantity counts.Slots counts.Slots = true
same_quantity counts.Budget counts.Budget = true
same_quantity counts.Seed counts.Seed = true
same_quantity counts.Parts counts.Parts = true
same_quantity counts.Part counts.Part = true
same_quantity q r = false

abbrev pub same_value : ValueOf → ValueOf → Bool
same_value (Input f) (Input g) = same_feed f g
same_value Start Start = true
same_value Certificates Certificates = true
same_value SplitMade SplitMade = true
same_value Proof Proof = true
same_value Order Order = true
same_value (Number q) (Number r) = same_quantity q r
same_value v w = false

-- the word that stands where this value is wanted, or none where it isn't
abbrev pub word_where : ValueOf → List Wanted → List (List ℕ) → Option (List ℕ)
word_where value [] words = None
word_where value (wanted ∷ more) [] = None
word_where value (Keyword keyword ∷ more) (word ∷ words) = word_where value more words
word_where value (Value other ∷ more) (word ∷ words) = if same_value other value then Some word else word_where value more words

-- a form's word for a value, or none where it asks for no such value
abbrev pub word_in : Form → List (List ℕ) → ValueOf → Option (List ℕ)
word_in form words value = word_where value (wanted_words form) words

-- the name that it is, which is empty where the form asks for none
abbrev pub name_in_words : Form → List (List ℕ) → ValueOf → List ℕ
name_in_words form words value = unwrap_or (word_in form words value) []

-- the number that it is, or the least of its kind
abbrev pub number_in_words : Form → List (List ℕ) → Quantity → ℕ
number_in_words form words quantity = unwrap_or (number_from_to (least_of quantity) (most_of quantity) (name_in_words form words (Number quantity))) (least_of quantity)
