-- The fields of a record, as text. A field that isn't known is empty.
use Rattle.std.specs.Prelude.{ℕ, ◌/◌, ◌%◌, ℤ, List, [], ◌∷◌, ◌++◌, Option, Some, None, codes, decimal}
use Rattle.std.specs.Fmt.{signed_decimal}
use Rattle.hw_port_csv.specs.declared.field.Field.{Field}
use Rattle.hw_port_csv.specs.declared.field.Field.TheVariants.{Text, Number, Centimetres, Tonnes}

-- centimetres, which may be below 0
abbrev pub centimetres : Option ℤ → List ℕ
centimetres None = []
centimetres (Some z) = signed_decimal z

-- tenths of a tonne as tonnes, with one digit after the point
abbrev pub tonnes_text : ℕ → List ℕ
tonnes_text tenths = decimal (tenths / 10) ++ (codes "." ++ decimal (tenths % 10))

abbrev pub tonnes : Option ℕ → List ℕ
tonnes None = []
tonnes (Some tenths) = tonnes_text tenths

abbrev pub field_of : Field → List ℕ
field_of (Text text) = text.now
field_of (Number n) = decimal n
field_of (Centimetres o) = centimetres o
field_of (Tonnes o) = tonnes o

abbrev pub fields_of : List Field → List (List ℕ)
fields_of [] = []
fields_of (field ∷ more) = field_of field ∷ fields_of more
