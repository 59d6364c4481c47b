-- What an instance's bytes are read as.
use Rattle.std.specs.Prelude.{◌≡◌, ℕ, List, Option, Some, None, Result, Ok, Err}
use Rattle.std.specs.Str as Text
use Rattle.hw_port.specs.declared.fault.PortFault.{PortFault}
use Rattle.hw_port.specs.Whole.{Parts}
use Rattle.hw_port.specs.Meaning.{port_of}
use Rattle.serde_json.specs.Data.{Data}
use Rattle.serde_json.specs.Read.{read}
use Rattle.hw_read.specs.declared.fault.ReadFault.{ReadFault}
use Rattle.hw_read.specs.declared.fault.ReadFault.TheVariants.{NotJson, Field, NoMemory}
use Rattle.hw_read.specs.Table.{instance_faults, first_of}
use Rattle.hw_read.specs.Parts.{port_parts}

-- the first fault of form, else the port of the parts
abbrev pub after_form : Option PortFault → Parts → Result Parts PortFault
after_form None p = port_of p
after_form (Some f) p = Err f

-- the form of the whole value first, by the table of its version; then the meaning
unfoldable pub instance_of : Data → Result Parts PortFault
instance_of d = after_form (first_of (instance_faults d)) (port_parts d)

-- the port, or the fault; memory may run out at any time
abbrev pub PortReadGives : Result Parts ReadFault → Result Parts PortFault → Type 0
PortReadGives (Ok p) read = read ≡ Ok p
PortReadGives (Err (Field f)) read = read ≡ Err f
PortReadGives (Err NotJson) read = ⊥
PortReadGives (Err NoMemory) read = Unit {0}

-- the bytes are the text of this value
abbrev pub IsJson : List ℕ → Data → Type 0
IsJson bytes d = Text.IsUtf8 bytes × (read bytes ≡ Some d)

-- what `read_port` answers: a port exactly where the bytes are a value that is one, a fault exactly where they are a value
-- with that first fault, no JSON exactly where they are no value; memory may run out at any time
abbrev pub PortReads : List ℕ → Result Parts ReadFault → Type 0
PortReads bytes (Ok p) = (d : Data) × IsJson bytes d × (instance_of d ≡ Ok p)
PortReads bytes (Err (Field f)) = (d : Data) × IsJson bytes d × (instance_of d ≡ Err f)
PortReads bytes (Err NotJson) = (d : Data) → IsJson bytes d → ⊥
PortReads bytes (Err NoMemory) = Unit {0}
