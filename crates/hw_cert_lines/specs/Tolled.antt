-- What lines say of tolls and prices: the tolls that they declare, the prices in force after them, and their last bound.
use Rattle.std.specs.Prelude.{ℕ, Bool, true, false, List, Option, Some, None, filter_map, fold}
use Rattle.hw_price_laws.specs.declared.tariff.Tariff.{Tariff}
use Rattle.hw_price_laws.specs.declared.toll.Toll.{Toll}
use Rattle.hw_cert_lines.specs.declared.line.Line.{Line}
use Rattle.hw_cert_lines.specs.declared.line.Line.TheVariants as lines

-- the line says nothing of tolls or prices
abbrev pub is_plain : Line → Bool
is_plain (lines.Table table) = true
is_plain (lines.Explain n clause) = true
is_plain (lines.Order v w x clause) = true
is_plain (lines.Goal clause) = true
is_plain (lines.Lemma clause hints) = true
is_plain (lines.Delete ids) = true
is_plain (lines.Toll toll) = false
is_plain (lines.Tariff tariff) = false
is_plain (lines.Priced clause) = false
is_plain (lines.Bound bound) = false

-- the toll that a line declares, if it declares one
abbrev pub toll_of : Line → Option Toll
toll_of (lines.Table table) = None
toll_of (lines.Explain n clause) = None
toll_of (lines.Order v w x clause) = None
toll_of (lines.Goal clause) = None
toll_of (lines.Lemma clause hints) = None
toll_of (lines.Delete ids) = None
toll_of (lines.Toll toll) = Some toll
toll_of (lines.Tariff tariff) = None
toll_of (lines.Priced clause) = None
toll_of (lines.Bound bound) = None

-- the tolls that these lines declare, in order
abbrev pub tolls_of : List Line → List Toll
tolls_of all = filter_map toll_of all

-- the tariff in force, by the one before a line
abbrev pub tariff_after : Option Tariff → Line → Option Tariff
tariff_after last (lines.Table table) = last
tariff_after last (lines.Explain n clause) = last
tariff_after last (lines.Order v w x clause) = last
tariff_after last (lines.Goal clause) = last
tariff_after last (lines.Lemma clause hints) = last
tariff_after last (lines.Delete ids) = last
tariff_after last (lines.Toll toll) = last
tariff_after last (lines.Tariff tariff) = Some tariff
tariff_after last (lines.Priced clause) = last
tariff_after last (lines.Bound bound) = last

-- the tariff of the last tariff line, or none
abbrev pub tariff_of : List Line → Option Tariff
tariff_of all = fold tariff_after None all

-- the last bound, by the one before a line
abbrev pub bound_after : Option ℕ → Line → Option ℕ
bound_after last (lines.Table table) = last
bound_after last (lines.Explain n clause) = last
bound_after last (lines.Order v w x clause) = last
bound_after last (lines.Goal clause) = last
bound_after last (lines.Lemma clause hints) = last
bound_after last (lines.Delete ids) = last
bound_after last (lines.Toll toll) = last
bound_after last (lines.Tariff tariff) = last
bound_after last (lines.Priced clause) = last
bound_after last (lines.Bound bound) = Some bound

-- the bound of the last bound line, or none
abbrev pub bound_of : List Line → Option ℕ
bound_of all = fold bound_after None all
