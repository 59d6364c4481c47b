-- The first fault of form as a walk finds it: over the table, and over the code's copy of it.
-- It is the first of all faults of the table, which is what the reader promises.
use Rattle.std.specs.Prelude.{◌≡◌, ℕ, ◌+◌, Option, Some, None, Result, Ok, Err, Bool, true, false, ◌||◌, nat_le}
use Rattle.hw_lemmas.specs.Operators.{◌or_else◌}
use Rattle.hw_port.specs.declared.fault.PortFault.{PortFault}
use Rattle.hw_port.specs.Faults.{fault_of}
use Rattle.serde_json.specs.Data.{Data, Items, no_items, item}
use Rattle.serde_json.specs.Find.{get, as_array}
use Rattle.hw_read.specs.declared.fault.ReadFault.{ReadFault}
use Rattle.hw_read.specs.declared.fault.ReadFault.TheVariants as faults
use Rattle.hw_read.specs.declared.stars.Stars.{Stars}
use Rattle.hw_read.specs.declared.table.Version.{Version}
use Rattle.hw_read.specs.declared.table.Version.TheVariants.{First, Second, Third}
use Rattle.hw_read.specs.declared.table.Form.{Form}
use Rattle.hw_read.specs.declared.table.Form.TheVariants.{Number, Text, Truth, List', Object', Member', Stays', Later', End}
use Rattle.hw_read.specs.Places.{path, deeper}
use Rattle.hw_read.specs.Form.{number_form, text_form, truth_form, items_form, object_form, member_form}
use Rattle.hw_read.specs.Table.{Entry, Members, number, text, truth, list, object, no_more, member, entry_place, names_in, port, version_of}
use Rattle.hw_read.specs.Names.{names_of}

-- what a value at a place is tested by
abbrev pub Test : Type 0
Test = Stars → Data → Option PortFault

abbrev pub each_fault : Test → Stars → ℕ → Items → Option PortFault
each_fault test s i no_items = None
each_fault test s i (item d ds) = test (deeper s i) d or_else each_fault test s (i + 1) ds

abbrev pub items_fault : Test → Stars → Result Items PortFault → Option PortFault
items_fault test s (Ok ds) = each_fault test s 0 ds
items_fault test s (Err f) = Some f

abbrev pub member_fault : Test → Stars → Result Data PortFault → Option PortFault
member_fault test s (Ok d) = test s d
member_fault test s (Err f) = Some f

abbrev mutual
  pub entry_fault : Entry → Test
  entry_fault (number n) s d = fault_of (number_form (path n s) d)
  entry_fault (text n) s d = fault_of (text_form (path n s) d)
  entry_fault (truth n) s d = fault_of (truth_form (path n s) d)
  entry_fault (list n p) s d = items_fault (entry_fault p) s (items_form (path n s) d)
  entry_fault (object n ms) s d = fault_of (object_form (path n s) (names_in ms) d) or_else members_fault ms s d

  pub members_fault : Members → Test
  members_fault no_more s d = None
  members_fault (member name p ms) s d = member_fault (entry_fault p) s (member_form (path (entry_place p) s) name d) or_else members_fault ms s d

-- what is said of the second and the third version
abbrev pub where_second : {A : Type 0} → A → Version → A → A
where_second none First x = none
where_second none Second x = x
where_second none Third x = x

-- what is said of the third version, and what of those before
abbrev pub where_third : {A : Type 0} → A → Version → A → A
where_third before First x = before
where_third before Second x = before
where_third before Third x = x

abbrev pub form_fault : Version → Form → Test
form_fault version (Number field) s d = fault_of (number_form (path field s) d)
form_fault version (Text field) s d = fault_of (text_form (path field s) d)
form_fault version (Truth field) s d = fault_of (truth_form (path field s) d)
form_fault version (List' field p inner) s d = items_fault (form_fault version inner) s (items_form (path field s) d)
form_fault version (Object' field names p members) s d = fault_of (object_form (path field s) (names_of version names) d) or_else form_fault version members s d
form_fault version (Member' field name p form q more) s d = member_fault (form_fault version form) s (member_form (path field s) name.now d) or_else form_fault version more s d
form_fault version (Stays' p more) s d = where_second None version (form_fault version more s d)
form_fault version (Later' p more q before) s d = where_third (form_fault version before s d) version (form_fault version more s d)
form_fault version End s d = None

-- ---- lists whose items have more numbers than a path can tell

-- of the items from the i-th on, one has no number below 2^32, or is itself long
abbrev pub each_long : (Data → Bool) → ℕ → Items → Bool
each_long long i no_items = false
each_long long i (item d ds) = nat_le 4294967296 i || (long d || each_long long (i + 1) ds)

abbrev pub items_long : (Data → Bool) → Option Items → Bool
items_long long None = false
items_long long (Some ds) = each_long long 0 ds

abbrev pub member_long : (Data → Bool) → Option Data → Bool
member_long long None = false
member_long long (Some d) = long d

-- a list that the table names has more than 2^32 items
abbrev mutual
  pub entry_long : Entry → Data → Bool
  entry_long (number n) d = false
  entry_long (text n) d = false
  entry_long (truth n) d = false
  entry_long (list n p) d = items_long (entry_long p) (as_array d)
  entry_long (object n ms) d = members_long ms d

  pub members_long : Members → Data → Bool
  members_long no_more d = false
  members_long (member name p ms) d = member_long (entry_long p) (get name d) || members_long ms d

-- a list that the table of an instance's version names has more than 2^32 items
abbrev pub instance_long : Data → Bool
instance_long d = entry_long (port (version_of d)) d

abbrev pub form_long : Version → Form → Data → Bool
form_long version (Number field) d = false
form_long version (Text field) d = false
form_long version (Truth field) d = false
form_long version (List' field p inner) d = items_long (form_long version inner) (as_array d)
form_long version (Object' field names p members) d = form_long version members d
form_long version (Member' field name p form q more) d = member_long (form_long version form) (get name.now d) || form_long version more d
form_long version (Stays' p more) d = where_second false version (form_long version more d)
form_long version (Later' p more q before) d = where_third (form_long version before d) version (form_long version more d)
form_long version End d = false

-- what a walk tells: no fault, where no list is too long; the first fault; or that a list is too long
abbrev pub WalkTells : {A : Type 0} → Bool → Result A ReadFault → Option PortFault → Type 0
WalkTells long (Ok x) fault = (fault ≡ None) × (long ≡ false)
WalkTells long (Err (faults.Field f)) fault = fault ≡ Some f
WalkTells long (Err faults.NotJson) fault = ⊥
WalkTells long (Err faults.NoMemory) fault = long ≡ true
