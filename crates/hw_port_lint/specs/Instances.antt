-- What is told of an instance that is refused.
use Rattle.std.specs.Prelude.{◌≡◌, ℕ, List, [], ◌++◌, Bool, Option, Some, None, codes, option_and_then, nat_eq, if◌then◌else◌}
use Rattle.std.specs.List.{starts_with}
use Rattle.std.specs.Option.{option_map_or}
use Rattle.serde_json.specs.Data.{Data}
use Rattle.serde_json.specs.Find.{at, as_str, get}
use Rattle.hw_port.specs.Places.{text_at}
use Rattle.hw_port.specs.Rules.{is_name}
use Rattle.hw_port.specs.declared.fault.PortFault.{PortFault}
use Rattle.hw_read.specs.Instance.{IsJson}
use Rattle.hw_port_lint.specs.Encodings.{encoding_of, instance_line}
use Rattle.hw_port_lint.specs.Lines.{break_line, item_name_line}
use Rattle.hw_port_lint.specs.declared.instance.Items.{Items}
use Rattle.hw_port_lint.specs.declared.instance.Items.TheVariants.{Ships, Waypoints}

-- no JSON: how the bytes are encoded, and where they break
abbrev pub break_hints : List ℕ → ℕ → ℕ → List ℕ
break_hints bytes line column = instance_line (encoding_of bytes) ++ break_line line column

-- that, with some line and column. Which ones is the reader's word alone
pub record IsBreak (bytes hints : List ℕ) : Type 0 where
  pub line : ℕ
  pub column : ℕ
  pub is_text : hints ≡ break_hints bytes line column

abbrev pub begins : List ℕ → List ℕ → Bool
begins text with = starts_with nat_eq text with

-- the list in whose items a place is
abbrev pub items_at_place : ℕ → Option Items
items_at_place place =
    if begins (text_at place) (codes "ships.") then Some Ships
    else if begins (text_at place) (codes "waypoints.") then Some Waypoints
    else None

abbrev pub list_word : Items → List ℕ
list_word Ships = codes "ships"
list_word Waypoints = codes "waypoints"

abbrev pub kind_of : Items → List ℕ
kind_of Ships = codes "ship"
kind_of Waypoints = codes "waypoint"

-- the item of this number of a list that is a member of a value
abbrev pub item_at : Data → List ℕ → ℕ → Option Data
item_at d list number = option_and_then (at number) (get list d)

-- the text that is a member of a value
abbrev pub text_member : Data → List ℕ → Option (List ℕ)
text_member d member = option_and_then as_str (get member d)

abbrev pub item_name_at : Data → List ℕ → ℕ → Option (List ℕ)
item_name_at d list number = option_and_then (λ item. text_member item (codes "name")) (item_at d list number)

-- the line of a text that is a name
abbrev pub told_name : List ℕ → ℕ → List ℕ → List ℕ
told_name kind number text = if is_name text then item_name_line kind number text else []

abbrev pub item_hint : Data → Items → ℕ → List ℕ
item_hint d items number = option_map_or (told_name (kind_of items) number) (item_name_at d (list_word items) number) []

abbrev pub item_told : Data → Option Items → Option ℕ → List ℕ
item_told d (Some items) (Some number) = item_hint d items number
item_told d (Some items) None = []
item_told d None number = []

-- the name of the ship or of the waypoint in which the fault is, where it has one
abbrev pub field_hint : Data → PortFault → List ℕ
field_hint d fault = item_told d (items_at_place fault.path.field) fault.path.first

-- of the value whose text the bytes are
abbrev pub IsFieldTold : List ℕ → PortFault → List ℕ → Type 0
IsFieldTold bytes fault hints = (d : Data) → IsJson bytes d → hints ≡ field_hint d fault
