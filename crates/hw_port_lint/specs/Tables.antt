-- What a tide table that is refused looks like.
use Rattle.std.specs.Prelude.{ℕ, ◌&&◌, Bool, List, [], ◌++◌, codes, if◌then◌else◌}
use Rattle.hw_port_lint.specs.Encodings.{encoding_of, table_line}
use Rattle.hw_lemmas.specs.Lists.{has}

-- words that stand where something holds
abbrev pub words_where : Bool → List ℕ → List ℕ
words_where given words = if given then words else []

-- how the table is encoded; whether it has a semicolon (59), a comma (44) beside one, a point (46), a tab (9)
abbrev pub table_hints : List ℕ → List ℕ
table_hints bytes =
    table_line (encoding_of bytes)
    ++ words_where (has bytes 59) (codes "hint tides semicolons\n")
    ++ words_where (has bytes 59 && has bytes 44) (codes "hint tides decimal commas\n")
    ++ words_where (has bytes 46) (codes "hint tides decimal points\n")
    ++ words_where (has bytes 9) (codes "hint tides tabs\n")
