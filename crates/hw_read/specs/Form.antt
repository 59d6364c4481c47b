-- The forms of single values: what the value is of its kind, or the fault.
use Rattle.std.specs.Prelude.{ℕ, ◌&&◌, ℤ, List, Bool, true, false, Option, Some, None, Result, Ok, Err, is_some, option_and_then}
use Rattle.hw_lemmas.specs.Operators.{◌>>=◌}
use Rattle.hw_lexicon.specs.Words.{find_from}
use Rattle.hw_port.specs.declared.fault.Path.{Path}
use Rattle.hw_port.specs.declared.fault.PortFault.{PortFault}
use Rattle.hw_port.specs.declared.fault.PortWord.{PortWord}
use Rattle.hw_port.specs.declared.fault.PortWord.TheVariants.{Missing, Kind, Other}
use Rattle.serde_json.specs.Data.{Data, Items, Members, no_members, member}
use Rattle.serde_json.specs.Find.{get, as_number, as_i64, as_str, as_bool, as_array, as_object}

-- a fault where there is nothing
abbrev pub formed_value : {A : Type 0} → Path → PortWord → Option A → Result A PortFault
formed_value path word None = Err (record { path = path; word = word })
formed_value path word (Some x) = Ok x

-- a number of 64 bits with a sign, if it is one
abbrev pub whole_number : Data → Option ℤ
whole_number d = option_and_then as_i64 (as_number d)

-- a whole number of 64 bits, or the fault Kind
abbrev pub number_form : Path → Data → Result ℤ PortFault
number_form path d = formed_value path Kind (whole_number d)

-- a text, or the fault Kind
abbrev pub text_form : Path → Data → Result (List ℕ) PortFault
text_form path d = formed_value path Kind (as_str d)

-- a truth value, or the fault Kind
abbrev pub truth_form : Path → Data → Result Bool PortFault
truth_form path d = formed_value path Kind (as_bool d)

-- the items of a list, or the fault Kind
abbrev pub items_form : Path → Data → Result Items PortFault
items_form path d = formed_value path Kind (as_array d)

-- every member is one of these
abbrev pub all_named : List (List ℕ) → Members → Bool
all_named names no_members = true
all_named names (member k d ms) = is_some (find_from 0 k names) && all_named names ms

abbrev pub named_only : Path → Bool → Result Bool PortFault
named_only path true = Ok true
named_only path false = Err (record { path = path; word = Other })

-- an object that has no other members than these; else the fault Kind or Other
abbrev pub object_form : Path → List (List ℕ) → Data → Result Bool PortFault
object_form path names d = formed_value path Kind (as_object d) >>= λ ms. named_only path (all_named names ms)

-- the member of this name, or the fault Missing
abbrev pub member_form : Path → List ℕ → Data → Result Data PortFault
member_form path name d = formed_value path Missing (get name d)
