-- What the code's spelling of a line is seen as.
use Rattle.std.specs.Prelude.{ℕ, List, Option, option_map, Vec}
use Rattle.std.specs.declared.alloc.Global.{Global}
use Rattle.hw_model.specs.declared.lit.Lit.{Lit}
use Rattle.hw_price_laws.specs.declared.toll.Block.{Block}
use Rattle.hw_cert_lines.specs.declared.line.Line.{Line}
use Rattle.hw_cert_lines.specs.declared.line.Line.TheVariants as lines
use Rattle.hw_price_laws.specs.declared.tariff.Due.{Due}
use Rattle.hw_cert.specs.declared.spelling.Spelling.{Spelling}
use Rattle.hw_cert.specs.declared.spelling.Spelling.TheVariants as spellings
use Rattle.hw_cert.specs.declared.spelling.FoundLits.{FoundLits}
use Rattle.hw_cert.specs.Spelled.{Lits, narrows_line, tugs_line, tariff_line}

abbrev pub numbers_view : Option (Vec ℕ Global) → Option (List ℕ)
numbers_view o = option_map (λ v. v.items) o

abbrev pub lits_view : Option (Vec Lit Global) → Option (List Lit)
lits_view o = option_map (λ v. v.items) o

abbrev pub blocks_view : Option (Vec Block Global) → Option (List Block)
blocks_view o = option_map (λ v. v.items) o

abbrev pub prices_view : Option (Vec Due Global) → Option (List Due)
prices_view o = option_map (λ v. v.items) o

-- literals, and the words after the `;`, if there is one
abbrev pub lits_found : FoundLits → Lits
lits_found found = record { lits = found.lits.items; remainder = found.remainder }

abbrev pub found_view : Option FoundLits → Option Lits
found_view o = option_map lits_found o

-- the line that is spelled
abbrev pub spelling_view : Spelling → Line
spelling_view (spellings.Table slots) = lines.Table slots.items
spelling_view (spellings.Explain restriction lits) = lines.Explain restriction lits.items
spelling_view (spellings.Order v w x lits) = lines.Order v w x lits.items
spelling_view (spellings.Goal lits) = lines.Goal lits.items
spelling_view (spellings.Lemma lits hints) = lines.Lemma lits.items hints.items
spelling_view (spellings.Delete ids) = lines.Delete ids.items
spelling_view (spellings.Narrows blocks) = narrows_line blocks.items
spelling_view (spellings.Tugs n slot most weights) = tugs_line n slot most weights.items
spelling_view (spellings.Tariff scale prices) = tariff_line scale prices.items
spelling_view (spellings.Priced lits) = lines.Priced lits.items
spelling_view (spellings.Bound bound) = lines.Bound bound
