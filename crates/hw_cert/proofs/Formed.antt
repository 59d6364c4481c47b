-- Lines that are read up to a version have its forms.
use Rattle.std.proofs.Common.{◌≡◌, ◌+◌, ℕ, true, List, [], ◌∷◌, length, Option, Some, None, Result, Ok, Err, refl, sym, ◌∙◌}
use Rattle.std.proofs.lemmas.Bool.{and_parts}
use Rattle.std.specs.List.{list_all}
use Rattle.hw_model.specs.declared.shape.Shape.{Shape}
use Rattle.hw_text.specs.Parts.{parts_of}
use Rattle.hw_cert_lines.specs.declared.line.Line.{Line}
use Rattle.hw_cert_lines.specs.declared.line.Line.TheVariants as lines
use Rattle.hw_cert_lines.specs.Tolled.{is_plain}
use Rattle.hw_cert.specs.declared.stop.FormWord.{FormWord}
use Rattle.hw_cert.specs.declared.version.Version.{Version}
use Rattle.hw_cert.specs.declared.version.Version.TheVariants.{One, Two, Three}
use Rattle.hw_cert.specs.Spelled.{is_within, version_to}
use Rattle.hw_cert.specs.Fits.{line_read}
use Rattle.hw_cert.specs.Stream.{Position, Cut, nothing, whole, unended, long, cut_of, past_line, line_by, line_next, CertLines, onward, lines_from, lines_by, lines_after, cert_stream_to}
use Rattle.hw_cert.specs.Laws.{has_form, PlainForms, ThirdForms, ReadForms, PlainRead}
use Rattle.hw_cert.proofs.WordBytes.{both_on}
use Rattle.hw_cert.proofs.FormBack.{read_text}
use Rattle.hw_cert.proofs.Headers.{header_back}

-- ---- forms of versions

pub third_forms : ThirdForms
third_forms (lines.Table table) = refl
third_forms (lines.Explain n clause) = refl
third_forms (lines.Order v w x clause) = refl
third_forms (lines.Goal clause) = refl
third_forms (lines.Lemma clause hints) = refl
third_forms (lines.Delete ids) = refl
third_forms (lines.Toll toll) = refl
third_forms (lines.Tariff tariff) = refl
third_forms (lines.Priced clause) = refl
third_forms (lines.Bound bound) = refl

two_has : (line : Line) → has_form One line ≡ true → has_form Two line ≡ true
two_has (lines.Table table) h = refl
two_has (lines.Explain n clause) h = refl
two_has (lines.Order v w x clause) h = refl
two_has (lines.Goal clause) h = refl
two_has (lines.Lemma clause hints) h = refl
two_has (lines.Delete ids) h = refl
two_has (lines.Toll toll) h = h
two_has (lines.Tariff tariff) h = h
two_has (lines.Priced clause) h = h
two_has (lines.Bound bound) h = h

-- a later version has the forms of an earlier one
pub later_has : (most version : Version) (line : Line) → is_within most version ≡ true → has_form version line ≡ true → has_form most line ≡ true
later_has One One line within h = h
later_has Two One line within h = two_has line h
later_has Three version line within h = third_forms line
later_has One Two line within h = absurd cc
later_has Two Two line within h = h
later_has One Three line within h = absurd cc
later_has Two Three line within h = absurd cc

pub plain_forms : PlainForms
plain_forms (lines.Table table) = refl
plain_forms (lines.Explain n clause) = refl
plain_forms (lines.Order v w x clause) = refl
plain_forms (lines.Goal clause) = refl
plain_forms (lines.Lemma clause hints) = refl
plain_forms (lines.Delete ids) = refl
plain_forms (lines.Toll toll) = refl
plain_forms (lines.Tariff tariff) = refl
plain_forms (lines.Priced clause) = refl
plain_forms (lines.Bound bound) = refl

-- plain lines have forms of the second version
pub plain_formed : (all : List Line) → list_all is_plain all ≡ true → list_all (has_form Two) all ≡ true
plain_formed [] h = refl
plain_formed (line ∷ all) h =
    let p = and_parts (is_plain line) (list_all is_plain all) h in
    both_on (has_form Two line) (list_all (has_form Two) all) (plain_forms line ∙ p.0) (plain_formed all p.1)

-- all lines have forms of the third version
pub third_formed : (all : List Line) → list_all (has_form Three) all ≡ true
third_formed [] = refl
third_formed (line ∷ all) = both_on (has_form Three line) (list_all (has_form Three) all) (third_forms line) (third_formed all)

formed_plain : (all : List Line) → list_all (has_form Two) all ≡ true → list_all is_plain all ≡ true
formed_plain [] h = refl
formed_plain (line ∷ all) h =
    let p = and_parts (has_form Two line) (list_all (has_form Two) all) h in
    both_on (is_plain line) (list_all is_plain all) (sym (plain_forms line) ∙ p.0) (formed_plain all p.1)

-- a line that is read has a form of each version that its own is within
pub read_formed : (most : Version) (shape : Shape) (version : Version) (bytes : List ℕ) (line : Line) → is_within most version ≡ true → line_read shape version bytes ≡ Ok line → has_form most line ≡ true
read_formed most shape version bytes line within h = later_has most version line within (read_text shape version bytes line h).1.formed

-- ---- the stream

abbrev AreFormed : Version → CertLines → Type 0
AreFormed most read = list_all (has_form most) read.lines ≡ true

by_line : (most : Version) (number : ℕ) (after : Position) (more : List (List ℕ)) (r : Result Line FormWord) (later : CertLines) → ((line : Line) → r ≡ Ok line → has_form most line ≡ true) → AreFormed most later → AreFormed most (onward (line_by number after more r) later)
by_line most number after more (Ok line) later f h = both_on (has_form most line) (list_all (has_form most) later.lines) (f line refl) h
by_line most number after more (Err word) later f h = refl

by_cut : (shape : Shape) (most version : Version) (number taken : ℕ) (cut : Cut) (later : CertLines) → is_within most version ≡ true → AreFormed most later → AreFormed most (onward (line_next shape most version number taken cut) later)
by_cut shape most version number taken nothing later within h = refl
by_cut shape most version number taken (whole line more) later within h = by_line most number (past_line most version number taken line) more (line_read shape version line) later (λ l e. read_formed most shape version line l within e) h
by_cut shape most version number taken unended later within h = refl
by_cut shape most version number taken long later within h = refl

from_formed : (shape : Shape) (most version : Version) (number taken : ℕ) (parts : List (List ℕ)) → is_within most version ≡ true → AreFormed most (lines_from shape most version number taken parts)
from_formed shape most version number taken [] within = refl
from_formed shape most version number taken (line ∷ more) within =
    by_cut shape most version number taken (cut_of taken (line ∷ more)) (lines_from shape most version (number + 1) (taken + length line + 1) more) within
    (from_formed shape most version (number + 1) (taken + length line + 1) more within)

by_header : (shape : Shape) (most : Version) (number taken : ℕ) (line : List ℕ) (more : List (List ℕ)) (v : Option Version) → version_to most line ≡ v → AreFormed most (lines_by shape most number taken line more v)
by_header shape most number taken line more None e = refl
by_header shape most number taken line more (Some version) e = from_formed shape most version (number + 1) (taken + length line + 1) more (header_back most line version e).1

after_formed : (shape : Shape) (most : Version) (number taken : ℕ) (cut : Cut) → AreFormed most (lines_after shape most number taken cut)
after_formed shape most number taken nothing = refl
after_formed shape most number taken (whole line more) = by_header shape most number taken line more (version_to most line) refl
after_formed shape most number taken unended = refl
after_formed shape most number taken long = refl

pub read_forms : ReadForms
read_forms most shape bytes = after_formed shape most 1 0 (cut_of 0 (parts_of 10 bytes))

pub plain_read : PlainRead
plain_read shape bytes = formed_plain (cert_stream_to Two shape bytes).lines (read_forms Two shape bytes)
