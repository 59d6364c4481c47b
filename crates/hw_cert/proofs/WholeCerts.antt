-- Whole certificates: their text, and the stream of their lines.
use Rattle.std.proofs.Common.{◌≡◌, ◌≤◌, ◌+◌, cond, ℕ, true, false, List, [], ◌∷◌, ◌++◌, length, map, Option, Some, None, Result, Ok, Err, refl, ap, ◌∙◌, subst, arith}
use Rattle.std.specs.Prelude.{⊤}
use Rattle.std.specs.List.{list_all, AllByRecursion}
use Rattle.hw_model.specs.declared.shape.Shape.{Shape}
use Rattle.hw_text.specs.Parts.{lacks, parts_of}
use Rattle.hw_text.proofs.Joins.{is_ended_lines, cut_ended}
use Rattle.hw_cert.specs.Texts.{line_words, line_text, certificate_header}
use Rattle.hw_cert.specs.Spelled.{is_within, version_to}
use Rattle.hw_cert.specs.Fits.{line_read}
use Rattle.hw_cert.specs.Certs.{Cert, BadLine, last_read, put_line, part_read, lines_read, with_version, headed, parts_read, cert_read_to}
use Rattle.hw_cert.specs.Stream.{Position, whole, unended, long, line_passes_limit, cut_of, tail_cut, past_line, line_by, line_next, CertEnd, complete, broken, overlong, CertLines, onward, lines_from, lines_by, lines_after, cert_stream_to}
use Rattle.hw_cert.specs.Laws.{IsLine, IsCert, StreamAgrees}
use Rattle.hw_cert_lines.specs.declared.line.Line.{Line}
use Rattle.hw_cert.specs.declared.stop.FormWord.{FormWord}
use Rattle.hw_cert.specs.declared.version.Version.{Version}
use Rattle.hw_cert.specs.declared.version.Version.TheVariants.{One, Two, Three}
use Rattle.hw_cert.proofs.LineBytes.{words_lack}
use Rattle.hw_cert.proofs.WordBytes.{both_on, joined_lacks}
use Rattle.hw_cert.proofs.Written.{text_read}
use Rattle.hw_cert.proofs.FormBack.{read_text}
use Rattle.hw_cert.proofs.Headers.{header_back, header_again}

-- ---- what is written reads back

text_lacks : (shape : Shape) (version : Version) (line : Line) → IsLine shape version line → lacks 10 (line_text line) ≡ true
text_lacks shape version line is = joined_lacks 10 32 (line_words line) refl (words_lack 10 line (omega arith) is.small is.wide)

texts_lack : (shape : Shape) (version : Version) (all : List Line) → AllByRecursion (IsLine shape version) all → list_all (lacks 10) (map line_text all) ≡ true
texts_lack shape version [] h = refl
texts_lack shape version (line ∷ all) h = both_on (lacks 10 (line_text line)) (list_all (lacks 10) (map line_text all)) (text_lacks shape version line h.0) (texts_lack shape version all h.1)

header_lacks : (version : Version) → lacks 10 (certificate_header version) ≡ true
header_lacks One = refl
header_lacks Two = refl
header_lacks Three = refl

-- a line is read, whatever parts follow
one_line : (shape : Shape) (version : Version) (number : ℕ) (text : List ℕ) (line : Line) (parts : List (List ℕ)) (more : Result (List Line) BadLine) → line_read shape version text ≡ Ok line → 1 ≤ length parts → part_read number text parts (line_read shape version text) more ≡ put_line number (Ok line) more
one_line shape version number text line [] more e lt = absurd (omega (arith, lt))
one_line shape version number text line (next ∷ parts) more e lt = ap (λ (r : Result Line FormWord). put_line number r more) e

some_parts : (texts : List (List ℕ)) → 1 ≤ length (texts ++ [] ∷ [])
some_parts [] = omega arith
some_parts (t ∷ texts) = omega arith

lines_again : (shape : Shape) (version : Version) (number : ℕ) (all : List Line) → 1 ≤ shape.ships → AllByRecursion (IsLine shape version) all → lines_read shape version number (map line_text all ++ [] ∷ []) ≡ Ok all
lines_again shape version number [] some h = refl
lines_again shape version number (line ∷ all) some h =
    one_line shape version number (line_text line) line (map line_text all ++ [] ∷ []) (lines_read shape version (number + 1) (map line_text all ++ [] ∷ [])) (text_read shape version line some h.0) (some_parts (map line_text all))
    ∙ ap (put_line number (Ok line)) (lines_again shape version (number + 1) all some h.1)

parts_again : (most : Version) (shape : Shape) (version : Version) (parts : List (List ℕ)) (all : List Line) → is_within most version ≡ true → 1 ≤ length parts → lines_read shape version 2 parts ≡ Ok all → parts_read most shape (certificate_header version ∷ parts) ≡ Ok (record { version = version; lines = all })
parts_again most shape version [] all within lt e = absurd (omega (arith, lt))
parts_again most shape version (next ∷ parts) all within lt e = ap (headed shape (next ∷ parts)) (header_again most (certificate_header version) version refl within) ∙ ap (with_version version) e

pub cert_again : (most : Version) (shape : Shape) (bytes : List ℕ) (version : Version) (all : List Line) → 1 ≤ shape.ships → IsCert most shape bytes version all → cert_read_to most shape bytes ≡ Ok (record { version = version; lines = all })
cert_again most shape bytes version all some is =
    ap (λ (bs : List ℕ). parts_read most shape (parts_of 10 bs)) is.text
    ∙ ap (parts_read most shape) (cut_ended (certificate_header version ∷ map line_text all) (both_on (lacks 10 (certificate_header version)) (list_all (lacks 10) (map line_text all)) (header_lacks version) (texts_lack shape version all is.each)))
    ∙ parts_again most shape version (map line_text all ++ [] ∷ []) all is.within (some_parts (map line_text all)) (lines_again shape version 2 all some is.each)

-- ---- what reads is the text

-- parts that are lines of a version, and an empty rest
pub record AreTexts (shape : Shape) (version : Version) (parts : List (List ℕ)) (all : List Line) : Type 0 where
  pub parts_are : parts ≡ map line_text all ++ [] ∷ []
  pub each : AllByRecursion (IsLine shape version) all

last_back : (shape : Shape) (version : Version) (number : ℕ) (tail : List ℕ) (all : List Line) → last_read number tail ≡ Ok all → AreTexts shape version (tail ∷ []) all
last_back shape version number [] all h =
    let e : [] ≡ all = cc in
    subst (AreTexts shape version ([] ∷ [])) e (record { parts_are = refl; each = tt })
last_back shape version number (b ∷ bs) all h = absurd cc

put_back : (number : ℕ) (r : Result Line FormWord) (more : Result (List Line) BadLine) (all : List Line) → put_line number r more ≡ Ok all → (line : Line) × (rest : List Line) × (r ≡ Ok line) × (more ≡ Ok rest) × (line ∷ rest ≡ all)
put_back number (Err word) more all h = absurd cc
put_back number (Ok line) (Err other) all h = absurd cc
put_back number (Ok line) (Ok rest) all h = (line, rest, refl, refl, cc)

lines_back : (shape : Shape) (version : Version) (number : ℕ) (part : List ℕ) (parts : List (List ℕ)) (all : List Line) → lines_read shape version number (part ∷ parts) ≡ Ok all → AreTexts shape version (part ∷ parts) all
lines_back shape version number tail [] all h = last_back shape version number tail all h
lines_back shape version number part (next ∷ parts) all h =
    let p = put_back number (line_read shape version part) (lines_read shape version (number + 1) (next ∷ parts)) all h in
    let t = read_text shape version part p.0 p.2 in
    let r = lines_back shape version (number + 1) next parts p.1 p.3 in
    subst (AreTexts shape version (part ∷ next ∷ parts)) p.4 (record {
      parts_are = ap (λ (x : List ℕ). x ∷ next ∷ parts) t.0 ∙ ap (λ (xs : List (List ℕ)). line_text p.0 ∷ xs) r.parts_are;
      each = (t.1, r.each);
    })

version_back : (version : Version) (r : Result (List Line) BadLine) (c : Cert) → with_version version r ≡ Ok c → (all : List Line) × (r ≡ Ok all) × (record { version = version; lines = all } ≡ c)
version_back version (Ok all) c h = (all, refl, cc)
version_back version (Err other) c h = absurd cc

headed_back : (shape : Shape) (parts : List (List ℕ)) (o : Option Version) (c : Cert) → headed shape parts o ≡ Ok c → (o ≡ Some c.version) × (lines_read shape c.version 2 parts ≡ Ok c.lines)
headed_back shape parts None c h = absurd cc
headed_back shape parts (Some version) c h =
    let p = version_back version (lines_read shape version 2 parts) c h in
    let P : Cert → Type 0 = λ d. (Some version ≡ Some d.version) × (lines_read shape d.version 2 parts ≡ Ok d.lines) in
    subst P p.2 (refl, p.1)

-- parts that are a certificate of a version within the greatest one
record AreParts (most : Version) (shape : Shape) (parts : List (List ℕ)) (c : Cert) : Type 0 where
  parts_are : parts ≡ (certificate_header c.version ∷ map line_text c.lines) ++ [] ∷ []
  within : is_within most c.version ≡ true
  each : AllByRecursion (IsLine shape c.version) c.lines

parts_back : (most : Version) (shape : Shape) (parts : List (List ℕ)) (c : Cert) → parts_read most shape parts ≡ Ok c → AreParts most shape parts c
parts_back most shape [] c h = absurd cc
parts_back most shape (tail ∷ []) c h = absurd cc
parts_back most shape (header ∷ next ∷ parts) c h =
    let p = headed_back shape (next ∷ parts) (version_to most header) c h in
    let r = lines_back shape c.version 2 next parts c.lines p.1 in
    let t = header_back most header c.version p.0 in
    record {
      parts_are = ap (λ (x : List ℕ). x ∷ next ∷ parts) t.0 ∙ ap (λ (xs : List (List ℕ)). certificate_header c.version ∷ xs) r.parts_are;
      within = t.1;
      each = r.each;
    }

pub cert_back : (most : Version) (shape : Shape) (bytes : List ℕ) (version : Version) (all : List Line) → cert_read_to most shape bytes ≡ Ok (record { version = version; lines = all }) → IsCert most shape bytes version all
cert_back most shape bytes version all h =
    let r = parts_back most shape (parts_of 10 bytes) (record { version = version; lines = all }) h in
    record { text = is_ended_lines (certificate_header version ∷ map line_text all) bytes r.parts_are; within = r.within; each = r.each }

-- ---- the stream

-- how lines agree with what their parts read as
abbrev pub AgreesLines : CertEnd → List Line → Result (List Line) BadLine → Type 0
AgreesLines complete all read = read ≡ Ok all
AgreesLines (broken number word) all read = read ≡ Err (record { number = number; word = word })
AgreesLines overlong all read = ⊤

-- a line put before lines that agree
put_agrees : (number : ℕ) (line : Line) (end : CertEnd) (all : List Line) (read : Result (List Line) BadLine) → AgreesLines end all read → AgreesLines end (line ∷ all) (put_line number (Ok line) read)
put_agrees number line complete all read h = ap (put_line number (Ok line)) h
put_agrees number line (broken n word) all read h = ap (put_line number (Ok line)) h
put_agrees number line overlong all read h = tt

tail_agrees : (shape : Shape) (most version : Version) (number taken : ℕ) (tail : List ℕ) (later : CertLines) → AgreesLines (onward (line_next shape most version number taken (tail_cut taken tail)) later).stop (onward (line_next shape most version number taken (tail_cut taken tail)) later).lines (last_read number tail)
tail_agrees shape most version number taken [] later = refl
tail_agrees shape most version number taken (b ∷ bs) later =
    elim (line_passes_limit taken (length (b ∷ bs)) 0) as (λ p. AgreesLines (onward (line_next shape most version number taken (cond p long unended)) later).stop (onward (line_next shape most version number taken (cond p long unended)) later).lines (last_read number (b ∷ bs))) [
      | true ↦ tt
      | false ↦ refl
    ]

read_agrees : (number : ℕ) (after : Position) (more : List (List ℕ)) (r : Result Line FormWord) (later : CertLines) (read : Result (List Line) BadLine) → AgreesLines later.stop later.lines read → AgreesLines (onward (line_by number after more r) later).stop (onward (line_by number after more r) later).lines (put_line number r read)
read_agrees number after more (Ok line) later read h = put_agrees number line later.stop later.lines read h
read_agrees number after more (Err word) later read h = refl

lines_agree : (shape : Shape) (most version : Version) (number taken : ℕ) (parts : List (List ℕ)) → AgreesLines (lines_from shape most version number taken parts).stop (lines_from shape most version number taken parts).lines (lines_read shape version number parts)
lines_agree shape most version number taken [] = refl
lines_agree shape most version number taken (tail ∷ []) = tail_agrees shape most version number taken tail (lines_from shape most version (number + 1) (taken + length tail + 1) [])
lines_agree shape most version number taken (line ∷ next ∷ more) =
    let later : CertLines = lines_from shape most version (number + 1) (taken + length line + 1) (next ∷ more) in
    elim (line_passes_limit taken (length line) 1) as (λ p. AgreesLines (onward (line_next shape most version number taken (cond p long (whole line (next ∷ more)))) later).stop (onward (line_next shape most version number taken (cond p long (whole line (next ∷ more)))) later).lines (put_line number (line_read shape version line) (lines_read shape version (number + 1) (next ∷ more)))) [
      | true ↦ tt
      | false ↦ read_agrees number (past_line most version number taken line) (next ∷ more) (line_read shape version line) later (lines_read shape version (number + 1) (next ∷ more)) (lines_agree shape most version (number + 1) (taken + length line + 1) (next ∷ more))
    ]

-- the same with the version
version_agrees : (version : Version) (end : CertEnd) (all : List Line) (read : Result (List Line) BadLine) → AgreesLines end all read → StreamAgrees end all (with_version version read)
version_agrees version complete all read h = (version, ap (with_version version) h)
version_agrees version (broken number word) all read h = ap (with_version version) h
version_agrees version overlong all read h = tt

header_agrees : (shape : Shape) (most : Version) (line next : List ℕ) (more : List (List ℕ)) (v : Option Version) → StreamAgrees (lines_by shape most 1 0 line (next ∷ more) v).stop (lines_by shape most 1 0 line (next ∷ more) v).lines (headed shape (next ∷ more) v)
header_agrees shape most line next more None = refl
header_agrees shape most line next more (Some version) = version_agrees version _ _ _ (lines_agree shape most version 2 (0 + length line + 1) (next ∷ more))

first_agrees : (shape : Shape) (most : Version) (parts : List (List ℕ)) → StreamAgrees (lines_after shape most 1 0 (cut_of 0 parts)).stop (lines_after shape most 1 0 (cut_of 0 parts)).lines (parts_read most shape parts)
first_agrees shape most [] = refl
first_agrees shape most ([] ∷ []) = refl
first_agrees shape most ((b ∷ bs) ∷ []) =
    elim (line_passes_limit 0 (length (b ∷ bs)) 0) as (λ p. StreamAgrees (lines_after shape most 1 0 (cond p long unended)).stop (lines_after shape most 1 0 (cond p long unended)).lines (parts_read most shape ((b ∷ bs) ∷ []))) [
      | true ↦ tt
      | false ↦ refl
    ]
first_agrees shape most (line ∷ next ∷ more) =
    elim (line_passes_limit 0 (length line) 1) as (λ p. StreamAgrees (lines_after shape most 1 0 (cond p long (whole line (next ∷ more)))).stop (lines_after shape most 1 0 (cond p long (whole line (next ∷ more)))).lines (headed shape (next ∷ more) (version_to most line))) [
      | true ↦ tt
      | false ↦ header_agrees shape most line next more (version_to most line)
    ]

pub stream_agrees : (most : Version) (shape : Shape) (bytes : List ℕ) → StreamAgrees (cert_stream_to most shape bytes).stop (cert_stream_to most shape bytes).lines (cert_read_to most shape bytes)
stream_agrees most shape bytes = first_agrees shape most (parts_of 10 bytes)
