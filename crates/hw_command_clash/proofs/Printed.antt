-- The printed text of a clash is the one text that reads as it.
use Rattle.std.proofs.Common.{◌≡◌, ◌++◌, ◌∙◌, ℕ, List, [], ◌∷◌, Ok, map, codes, decimal, append-nil, append_assoc, refl, sym, ap}
use Rattle.hw_text.specs.Parts.{spaced, ended_lines}
use Rattle.hw_cert_lines.specs.declared.line.Line.{Line}
use Rattle.hw_clash.specs.Outcomes.{IsClashFound}
use Rattle.hw_clash.specs.Text.{clash_by, clash_text}
use Rattle.hw_clash.specs.Wished.{Wished, IsWished}
use Rattle.hw_clash.specs.Written.{keep_line, drop_line, drop_lines, written_clash}
use Rattle.hw_clash.proofs.Written.{written_reads}
use Rattle.hw_report.specs.Lines.{numbers_text, reported_drop_line as printed_line, reported_drop_lines as printed_lines}
use Rattle.hw_report.specs.Reports.{clashed}
use Rattle.hw_report.specs.Texts.{report_text}

-- a word and numbers, with a space before each of these
spaced_is : (word : List ℕ) (ns : List ℕ) → spaced (word ∷ map decimal ns) ≡ word ++ numbers_text ns
spaced_is word [] = sym (append-nil word)
spaced_is word (n ∷ ns) =
    let rest : spaced (decimal n ∷ map decimal ns) ≡ decimal n ++ numbers_text ns = spaced_is (decimal n) ns in
    ap (λ (text : List ℕ). word ++ 32 ∷ text) (rest ∙ ap (λ (text : List ℕ). text ++ numbers_text ns) (sym (append-nil (decimal n))))

-- a line feed after two texts
ended : (a b rest : List ℕ) → (a ++ b) ++ 10 ∷ rest ≡ (a ++ (b ++ 10 ∷ [])) ++ rest
ended a b rest =
    append_assoc a b (10 ∷ rest)
    ∙ ap (λ (text : List ℕ). a ++ text) (sym (append_assoc b (10 ∷ []) rest))
    ∙ sym (append_assoc a (b ++ 10 ∷ []) rest)

-- a line with its end, and what comes after it
line_is : (id : ℕ) (table rest : List ℕ) → drop_line id table ++ 10 ∷ rest ≡ printed_line id table ++ rest
line_is id table rest =
    ap (λ (text : List ℕ). (codes "drop" ++ 32 ∷ text) ++ 10 ∷ rest) (spaced_is (decimal id) table)
    ∙ ap (λ (text : List ℕ). codes "drop " ++ text) (ended (decimal id) (numbers_text table) rest)

lines_are : (ids : List ℕ) (drops : List (List ℕ)) (rest : List (List ℕ)) → ended_lines (drop_lines ids drops ++ rest) ≡ printed_lines ids drops ++ ended_lines rest
lines_are [] drops rest = refl
lines_are (id ∷ ids) [] rest = refl
lines_are (id ∷ ids) (table ∷ drops) rest =
    ap (λ (text : List ℕ). drop_line id table ++ 10 ∷ text) (lines_are ids drops rest)
    ∙ line_is id table (printed_lines ids drops ++ ended_lines rest)
    ∙ sym (append_assoc (printed_line id table) (printed_lines ids drops) (ended_lines rest))

pub is_written : (kept : List ℕ) (drops : List (List ℕ)) → written_clash (clash_by kept drops) ≡ report_text (clashed kept drops)
is_written kept drops =
    ap (λ (text : List ℕ). codes "clash 1\n" ++ (keep_line kept ++ 10 ∷ text)) (lines_are kept drops (codes "end" ∷ []))
    ∙ ap (λ (text : List ℕ). codes "clash 1\n" ++ (text ++ 10 ∷ (printed_lines kept drops ++ codes "end\n"))) (spaced_is (codes "keep") kept)

-- a clash that was found, printed, reads back
pub reads_back : (f : Wished) (kept : List ℕ) (drops : List (List ℕ)) (all : List Line) → IsWished f → IsClashFound f kept drops all → clash_text f (report_text (clashed kept drops)) ≡ Ok (clash_by kept drops)
reads_back f kept drops all flat found =
    ap (clash_text f) (sym (is_written kept drops))
    ∙ written_reads f (clash_by kept drops) flat (record { some = found.irreducible.some; numbered = found.irreducible.numbered; ascending = found.irreducible.ascending; drops = found.met })
