-- The encoding of a file's bytes, and the lines on it.
use Rattle.std.specs.Prelude.{ℕ, ◌==◌, ◌&&◌, ◌||◌, List, [], codes, slice_get, if◌then◌else◌}
use Rattle.std.specs.Option.{option_map_or}
use Rattle.std.specs.Str.{is_utf8}
use Rattle.hw_port_lint.specs.declared.encoding.Encoding.{Encoding}
use Rattle.hw_port_lint.specs.declared.encoding.Encoding.TheVariants.{Plain, Marked, LittleEndian, BigEndian, Other}

-- the byte of a place, or 256 past the end
abbrev pub byte_at : List ℕ → ℕ → ℕ
byte_at bytes place = option_map_or (λ b. b) (slice_get bytes place) 256

-- a byte order mark; or zero bytes where those of UTF-16 stand in ASCII text; or whether the bytes are UTF-8
abbrev pub encoding_of : List ℕ → Encoding
encoding_of bytes =
    if byte_at bytes 0 == 239 && (byte_at bytes 1 == 187 && byte_at bytes 2 == 191) then Marked
    else if byte_at bytes 0 == 255 && byte_at bytes 1 == 254 || byte_at bytes 1 == 0 then LittleEndian
    else if byte_at bytes 0 == 254 && byte_at bytes 1 == 255 || byte_at bytes 0 == 0 then BigEndian
    else if is_utf8 bytes then Plain
    else Other

-- of an instance that is no JSON
abbrev pub instance_line : Encoding → List ℕ
instance_line Plain = []
instance_line Marked = codes "hint instance mark utf-8\n"
instance_line LittleEndian = codes "hint instance utf-16 little endian\n"
instance_line BigEndian = codes "hint instance utf-16 big endian\n"
instance_line Other = codes "hint instance not utf-8\n"

-- of a tide table that is refused, where a mark of UTF-8 is skipped
abbrev pub table_line : Encoding → List ℕ
table_line Plain = []
table_line Marked = []
table_line LittleEndian = codes "hint tides utf-16 little endian\n"
table_line BigEndian = codes "hint tides utf-16 big endian\n"
table_line Other = codes "hint tides not utf-8\n"
