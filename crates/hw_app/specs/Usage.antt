-- The words of a form as a text for people.
use Rattle.std.specs.Prelude.{ℕ, List, [], ◌∷◌, ◌++◌, codes}
use Rattle.hw_desk.specs.declared.desk.Feed.{Feed}
use Rattle.hw_desk.specs.declared.desk.Feed.TheVariants as feeds
use Rattle.hw_app.specs.Forms.{keyword_text, wanted_words}
use Rattle.hw_app.specs.declared.form.Form.{Form}
use Rattle.hw_app.specs.declared.wanted.Quantity.{Quantity}
use Rattle.hw_app.specs.declared.wanted.Quantity.TheVariants as counts
use Rattle.hw_app.specs.declared.wanted.Value.{Value as ValueOf}
use Rattle.hw_app.specs.declared.wanted.Value.TheVariants.{Input, Start, Certificates, SplitMade, Proof, Order, Number}
use Rattle.hw_app.specs.declared.wanted.Wanted.{Wanted}
use Rattle.hw_app.specs.declared.wanted.Wanted.TheVariants.{Keyword, Value}

abbrev pub input_text : Feed → List ℕ
input_text feeds.Flat = codes "NAME"
input_text feeds.Instance = codes "INSTANCE"
input_text feeds.Tides = codes "TIDES"
input_text feeds.Certificate = codes "CERT"
input_text feeds.Plan = codes "PLAN"
input_text feeds.Events = codes "EVENTS"
input_text feeds.Clash = codes "CLASH"
input_text feeds.Split = codes "SPLIT"

abbrev pub quantity_text : Quantity → List ℕ
quantity_text counts.Demonstration = codes "NUMBER"
quantity_text counts.Ships = codes "SHIPS"
quantity_text counts.Slots = codes "SLOTS"
quantity_text counts.Budget = codes "BUDGET"
quantity_text counts.Seed = codes "SEED"
quantity_text counts.Parts = codes "PARTS"
quantity_text counts.Part = codes "NUMBER"

abbrev pub usage_value_text : ValueOf → List ℕ
usage_value_text (Input feed) = input_text feed
usage_value_text Start = codes "START"
usage_value_text Certificates = codes "CERTS"
usage_value_text SplitMade = codes "SPLIT"
usage_value_text Proof = codes "PROOF"
usage_value_text Order = codes "ORDER"
usage_value_text (Number quantity) = quantity_text quantity

-- a keyword itself, and a name in capitals for each value
abbrev pub wanted_text : Wanted → List ℕ
wanted_text (Keyword keyword) = keyword_text keyword
wanted_text (Value value) = usage_value_text value

-- with a space between two
abbrev pub words_text : List Wanted → List ℕ
words_text [] = []
words_text (last ∷ []) = wanted_text last
words_text (word ∷ next ∷ more) = wanted_text word ++ codes " " ++ words_text (next ∷ more)

abbrev pub usage_text : Form → List ℕ
usage_text form = words_text (wanted_words form)
