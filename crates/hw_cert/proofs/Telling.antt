-- What bytes tell when more bytes are put after them.
use Rattle.std.proofs.lemmas.Bool.{and_parts}
use Rattle.std.proofs.Common.{zero, suc, not, ◌≡◌, ◌==◌, ◌≤◌, ◌<◌, cond, ℕ, Bool, true, false, List, [], ◌∷◌, ◌++◌, length, take, Option, Some, None, Result, Ok, Err, refl, sym, ap, ◌∙◌, subst, arith, append-nil, length-append}
use Rattle.std.proofs.lemmas.List.{take-append-le}
use Rattle.std.specs.Prelude.{option_and_then, is_some, IfSome, IsSomeAnd}
use Rattle.std.specs.List.{list_all, onto_first}
use Rattle.std.specs.Io.KnownBytes.{append_known}
use Rattle.hw_text.specs.Parts.{parts_of, lacks}
use Rattle.hw_text.proofs.Joins.{one_part, part_before, cut_joined}
use Rattle.hw_desk.specs.State.{DeskState}
use Rattle.hw_desk.specs.Calls.{Sends, Tells}
use Rattle.hw_desk.specs.Whole.{SendsText}
use Rattle.hw_desk.specs.declared.desk.Tray.TheVariants.{Proof}
use Rattle.hw_price_laws.specs.declared.toll.Toll.TheVariants as tolls
use Rattle.hw_cert_lines.specs.declared.line.Line.{Line}
use Rattle.hw_cert_lines.specs.declared.line.Line.TheVariants as lines
use Rattle.hw_cert.specs.declared.version.Version.{Version}
use Rattle.hw_cert.specs.declared.version.Version.TheVariants.{Three}
use Rattle.hw_cert.specs.declared.log.LogStop.TheVariants.{Failed}
use Rattle.hw_cert.specs.Texts.{line_words, line_text}
use Rattle.hw_cert.specs.Spelled.{spelled, spelled_line}
use Rattle.hw_cert.specs.Laws.{line_numbers, wide_numbers, is_small, is_wide}
use Rattle.hw_cert.specs.Logs.{LogTold, ended_text, IsWhole, TellsLine, TakesLine}
use Rattle.hw_cert.specs.Told.{header_line, without_prefix, line_told, with_line, parts_told, lines_told, bytes_told, is_told, log_of}
use Rattle.hw_cert.proofs.ReadBack.{chained}
use Rattle.hw_cert.proofs.Written.{line_again, word_count}
use Rattle.hw_cert.proofs.LineBytes.{words_lack}
use Rattle.hw_cert.proofs.WordBytes.{both_on, joined_lacks}

-- ---- the parts of bytes with more after them

-- the last part joined with the first of those after it
abbrev seam : List (List ℕ) → List (List ℕ) → List (List ℕ)
seam [] qs = qs
seam (p ∷ []) [] = p ∷ []
seam (p ∷ []) (q ∷ qs) = (p ++ q) ∷ qs
seam (p ∷ r ∷ ps) qs = p ∷ seam (r ∷ ps) qs

-- a list with a first element
record Nonempty (ps : List (List ℕ)) : Type 0 where
  first : List ℕ
  rest : List (List ℕ)
  is : ps ≡ first ∷ rest

nothing : {p : List ℕ} {ps : List (List ℕ)} → [] ≡ p ∷ ps → ⊥
nothing e = cc

cut_some : (b : Bool) (x : ℕ) (ps : List (List ℕ)) → Nonempty ps → Nonempty (cond b ([] ∷ ps) (onto_first x ps))
cut_some true x ps h = record { first = []; rest = ps; is = refl }
cut_some false x ps h = record { first = x ∷ h.first; rest = h.rest; is = ap (onto_first x) h.is }

some_parts : (bs : List ℕ) → Nonempty (parts_of 10 bs)
some_parts [] = record { first = []; rest = []; is = refl }
some_parts (b ∷ bs) = cut_some (b == 10) b (parts_of 10 bs) (some_parts bs)

seam_new : (ps qs : List (List ℕ)) → Nonempty ps → [] ∷ seam ps qs ≡ seam ([] ∷ ps) qs
seam_new [] qs h = absurd (nothing h.is)
seam_new (p ∷ ps) qs h = refl

seam_onto : (x : ℕ) (ps qs : List (List ℕ)) → Nonempty ps → onto_first x (seam ps qs) ≡ seam (onto_first x ps) qs
seam_onto x [] qs h = absurd (nothing h.is)
seam_onto x (p ∷ []) [] h = refl
seam_onto x (p ∷ []) (q ∷ qs) h = refl
seam_onto x (p ∷ r ∷ ps) qs h = refl

seam_cut : (b : Bool) (x : ℕ) (ps qs all : List (List ℕ)) → Nonempty ps → all ≡ seam ps qs → cond b ([] ∷ all) (onto_first x all) ≡ seam (cond b ([] ∷ ps) (onto_first x ps)) qs
seam_cut true x ps qs all h e = ap (λ (t : List (List ℕ)). [] ∷ t) e ∙ seam_new ps qs h
seam_cut false x ps qs all h e = ap (onto_first x) e ∙ seam_onto x ps qs h

seam_nothing : (qs : List (List ℕ)) → Nonempty qs → qs ≡ seam ([] ∷ []) qs
seam_nothing [] h = absurd (nothing h.is)
seam_nothing (q ∷ qs) h = refl

parts_more : (bs more : List ℕ) → parts_of 10 (bs ++ more) ≡ seam (parts_of 10 bs) (parts_of 10 more)
parts_more [] more = seam_nothing (parts_of 10 more) (some_parts more)
parts_more (b ∷ bs) more = seam_cut (b == 10) b (parts_of 10 bs) (parts_of 10 more) (parts_of 10 (bs ++ more)) (some_parts bs) (parts_more bs more)

-- ---- what they tell

pub with_both : (o : Option Line) (t : Option LogTold) (now : LogTold) → with_line o t ≡ Some now → (line : Line) × (later : LogTold) × (o ≡ Some line) × (t ≡ Some later) × (record { lines = line ∷ later.lines; remainder = later.remainder } ≡ now)
with_both None t now e = absurd (cc)
with_both (Some line) None now e = absurd (cc)
with_both (Some line) (Some later) now e = (line, later, refl, refl, cc)

-- lines before what is told
abbrev after_lines : List Line → Option LogTold → Option LogTold
after_lines lines None = None
after_lines lines (Some t) = Some (record { lines = lines ++ t.lines; remainder = t.remainder })

after_none : (o : Option LogTold) → o ≡ after_lines [] o
after_none None = refl
after_none (Some t) = refl

after_one : (line : Line) (all : List Line) (o : Option LogTold) → with_line (Some line) (after_lines all o) ≡ after_lines (line ∷ all) o
after_one line all None = refl
after_one line all (Some t) = refl

-- whole lines are followed by what the bytes after them tell
told_after : (ps qs : List (List ℕ)) (was : LogTold) → Nonempty qs → parts_told ps ≡ Some was → was.remainder ≡ [] → parts_told (seam ps qs) ≡ after_lines was.lines (parts_told qs)
told_after [] qs was h e none = absurd (cc)
told_after (p ∷ []) [] was h e none = absurd (nothing h.is)
told_after (p ∷ []) (q ∷ qs) was h e none =
    let same : record { lines = []; remainder = p } ≡ was = cc in
    let empty : p ≡ [] = ap (λ (t : LogTold). t.remainder) same ∙ none in
    ap (λ (t : List ℕ). parts_told ((t ++ q) ∷ qs)) empty ∙ after_none (parts_told (q ∷ qs)) ∙ ap (λ (t : LogTold). after_lines t.lines (parts_told (q ∷ qs))) same
told_after (p ∷ r ∷ ps) qs was h e none =
    let w = with_both (line_told p) (parts_told (r ∷ ps)) was e in
    let remainder : w.1.remainder ≡ [] = ap (λ (t : LogTold). t.remainder) w.4 ∙ none in
    let later = told_after (r ∷ ps) qs w.1 h w.3 remainder in
    headed p r ps qs w.0 w.2 ∙ ap (with_line (Some w.0)) later ∙ after_one w.0 w.1.lines (parts_told qs) ∙ ap (λ (t : LogTold). after_lines t.lines (parts_told qs)) w.4
  where
    headed : (p r : List ℕ) (ps qs : List (List ℕ)) (line : Line) → line_told p ≡ Some line → parts_told (p ∷ seam (r ∷ ps) qs) ≡ with_line (Some line) (parts_told (seam (r ∷ ps) qs))
    headed p r [] [] line e = ap (λ (o : Option Line). with_line o (parts_told (r ∷ []))) e
    headed p r [] (q ∷ qs) line e = ap (λ (o : Option Line). with_line o (parts_told ((r ++ q) ∷ qs))) e
    headed p r (s ∷ ps) qs line e = ap (λ (o : Option Line). with_line o (parts_told (r ∷ seam (s ∷ ps) qs))) e

-- ---- one line

text_lacks : (line : Line) → list_all is_small (line_numbers line) ≡ true → list_all is_wide (wide_numbers line) ≡ true → lacks 10 (line_text line) ≡ true
text_lacks line small wide = joined_lacks 10 32 (line_words line) refl (words_lack 10 line (omega arith) small wide)

by_words : (line : Line) → list_all is_small (line_numbers line) ≡ true → list_all is_wide (wide_numbers line) ≡ true → spelled Three (line_text line) ≡ spelled_line Three (line_words line)
by_words line small wide = ap (spelled_line Three) (cut_joined 32 (line_words line) (word_count line) (words_lack 32 line (omega arith) small wide))

-- the text of a line is told as that line
told_itself : (line : Line) → list_all is_small (line_numbers line) ≡ true → list_all is_wide (wide_numbers line) ≡ true → line_told (line_text line) ≡ Some line
told_itself (lines.Table []) small wide = refl
told_itself (lines.Table (slot ∷ table)) small wide = by_words (lines.Table (slot ∷ table)) small wide ∙ line_again Three (lines.Table (slot ∷ table)) small wide refl (omega arith)
told_itself (lines.Explain n clause) small wide = by_words (lines.Explain n clause) small wide ∙ line_again Three (lines.Explain n clause) small wide refl tt
told_itself (lines.Order v w x clause) small wide = by_words (lines.Order v w x clause) small wide ∙ line_again Three (lines.Order v w x clause) small wide refl tt
told_itself (lines.Goal []) small wide = refl
told_itself (lines.Goal (lit ∷ clause)) small wide = by_words (lines.Goal (lit ∷ clause)) small wide ∙ line_again Three (lines.Goal (lit ∷ clause)) small wide refl tt
told_itself (lines.Lemma [] hints) small wide = by_words (lines.Lemma [] hints) small wide ∙ line_again Three (lines.Lemma [] hints) small wide refl tt
told_itself (lines.Lemma (lit ∷ clause) hints) small wide = by_words (lines.Lemma (lit ∷ clause) hints) small wide ∙ line_again Three (lines.Lemma (lit ∷ clause) hints) small wide refl tt
told_itself (lines.Delete []) small wide = refl
told_itself (lines.Delete (id ∷ ids)) small wide = by_words (lines.Delete (id ∷ ids)) small wide ∙ line_again Three (lines.Delete (id ∷ ids)) small wide refl (omega arith)
told_itself (lines.Toll (tolls.Narrows [])) small wide = refl
told_itself (lines.Toll (tolls.Narrows (block ∷ blocks))) small wide = by_words (lines.Toll (tolls.Narrows (block ∷ blocks))) small wide ∙ line_again Three (lines.Toll (tolls.Narrows (block ∷ blocks))) small wide refl (omega arith)
told_itself (lines.Toll (tolls.Tugs n slot weights most)) small wide = by_words (lines.Toll (tolls.Tugs n slot weights most)) small wide ∙ line_again Three (lines.Toll (tolls.Tugs n slot weights most)) small wide refl tt
told_itself (lines.Tariff tariff) small wide = by_words (lines.Tariff tariff) small wide ∙ line_again Three (lines.Tariff tariff) small wide refl tt
told_itself (lines.Priced []) small wide = refl
told_itself (lines.Priced (lit ∷ clause)) small wide = by_words (lines.Priced (lit ∷ clause)) small wide ∙ line_again Three (lines.Priced (lit ∷ clause)) small wide refl tt
told_itself (lines.Bound bound) small wide = by_words (lines.Bound bound) small wide ∙ line_again Three (lines.Bound bound) small wide refl tt

whole_told : (line : Line) → list_all is_small (line_numbers line) ≡ true → list_all is_wide (wide_numbers line) ≡ true → lines_told (ended_text line) ≡ Some (record { lines = line ∷ []; remainder = [] })
whole_told line small wide = ap parts_told (part_before 10 (line_text line) [] (text_lacks line small wide)) ∙ ap (λ (o : Option Line). with_line o (Some (record { lines = []; remainder = [] }))) (told_itself line small wide)

-- the end of a text is not in a proper prefix of it
prefix_told : (line : Line) (n : ℕ) → list_all is_small (line_numbers line) ≡ true → list_all is_wide (wide_numbers line) ≡ true → n < length (ended_text line) → lines_told (take n (ended_text line)) ≡ Some (record { lines = []; remainder = take n (ended_text line) })
prefix_told line n small wide lt =
    let short : n ≤ length (line_text line) = omega (arith, lt, length-append (line_text line) (10 ∷ [])) in
    let same : take n (ended_text line) ≡ take n (line_text line) = take-append-le n (line_text line) (10 ∷ []) short in
    ap parts_told (one_part 10 (take n (ended_text line)) (subst (λ (t : List ℕ). lacks 10 t ≡ true) (sym same) (part_lacks n (line_text line) (text_lacks line small wide))))
  where
    part_lacks : (n : ℕ) (bs : List ℕ) → lacks 10 bs ≡ true → lacks 10 (take n bs) ≡ true
    part_lacks zero bs h = refl
    part_lacks (suc n) [] h = refl
    part_lacks (suc n) (b ∷ bs) h = let p = and_parts (not (b == 10)) (lacks 10 bs) h in both_on (not (b == 10)) (lacks 10 (take n bs)) p.0 (part_lacks n bs p.1)

-- ---- one line after whole lines

all_told : (rest more : List ℕ) (was : LogTold) → lines_told rest ≡ Some was → was.remainder ≡ [] → lines_told (rest ++ more) ≡ after_lines was.lines (lines_told more)
all_told rest more was e none = ap parts_told (parts_more rest more) ∙ told_after (parts_of 10 rest) (parts_of 10 more) was (some_parts more) e none

-- what more bytes after whole lines tell
abbrev Steps : (LogTold → LogTold → Type 0) → List ℕ → Type 0
Steps P more = (rest : List ℕ) (was : LogTold) → lines_told rest ≡ Some was → was.remainder ≡ [] → (now : LogTold) × (lines_told (rest ++ more) ≡ Some now) × P was now

one_more : (line : Line) → list_all is_small (line_numbers line) ≡ true → list_all is_wide (wide_numbers line) ≡ true → Steps (TellsLine line (Ok tt)) (ended_text line)
one_more line small wide rest was e none = (record { lines = was.lines ++ line ∷ []; remainder = [] }, all_told rest (ended_text line) was e none ∙ ap (after_lines was.lines) (whole_told line small wide), (refl, refl))

one_begun : (line : Line) (n : ℕ) → list_all is_small (line_numbers line) ≡ true → list_all is_wide (wide_numbers line) ≡ true → n < length (ended_text line) → Steps (TellsLine line (Err Failed)) (take n (ended_text line))
one_begun line n small wide lt rest was e none = (
  record { lines = was.lines ++ []; remainder = take n (ended_text line) },
  all_told rest (take n (ended_text line)) was e none ∙ ap (after_lines was.lines) (prefix_told line n small wide lt),
  (append-nil was.lines, (n, lt, refl)),
)

-- ---- after the header

by_first : (b : Bool) (o q : Option (List ℕ)) (rest new : List ℕ) → (o ≡ Some rest → q ≡ Some new) → cond b o None ≡ Some rest → cond b q None ≡ Some new
by_first true o q rest new f e = f e
by_first false o q rest new f e = absurd (cc)

prefix_more : (ps bs more rest : List ℕ) → without_prefix ps bs ≡ Some rest → without_prefix ps (bs ++ more) ≡ Some (rest ++ more)
prefix_more [] bs more rest e = let same : bs ≡ rest = cc in ap (λ (t : List ℕ). Some (t ++ more)) same
prefix_more (p ∷ ps) [] more rest e = absurd (cc)
prefix_more (p ∷ ps) (b ∷ bs) more rest e = by_first (b == p) (without_prefix ps bs) (without_prefix ps (bs ++ more)) rest (rest ++ more) (prefix_more ps bs more rest) e

pub some_told : (o : Option LogTold) → is_some o ≡ true → (told : LogTold) × (o ≡ Some told)
some_told None e = absurd (cc)
some_told (Some told) e = (told, refl)

-- what is told after more bytes, and that it is told
record Grown (version : Version) (P : LogTold → LogTold → Type 0) (x y : Option (List ℕ)) : Type 0 where
  grows : IfSome (option_and_then (bytes_told version) y) (λ now. IsSomeAnd (option_and_then (bytes_told version) x) (λ was. P was now))
  told : is_told version y ≡ true

grown : (version : Version) (P : LogTold → LogTold → Type 0) (x y : Option (List ℕ)) (more : List ℕ) → Steps P more → is_told version x ≡ true → IfSome (option_and_then (bytes_told version) x) (λ t. t.remainder ≡ []) → Tells y (append_known x more) → Grown version P x y
grown version P x None more f told whole t = record { grows = tt; told = refl }
grown version P None (Some ys) more f told whole t = absurd (cc)
grown version P (Some xs) (Some ys) more f told whole t =
    let same : xs ++ more ≡ ys = cc in
    let b = some_told (bytes_told version xs) told in
    let p = chained lines_told (without_prefix (header_line version) xs) b.0 b.1 in
    let none = subst (λ (o : Option LogTold). IfSome o (λ s. s.remainder ≡ [])) b.1 whole in
    let s = f p.0 b.0 p.2 none in
    let new : bytes_told version ys ≡ Some s.0 = ap (bytes_told version) (sym same) ∙ ap (option_and_then lines_told) (prefix_more (header_line version) xs more p.0 p.1) ∙ s.1 in
    record {
      grows = subst (λ (o : Option LogTold). IfSome o (λ now. IsSomeAnd (bytes_told version xs) (λ was. P was now))) (sym new) (subst (λ (o : Option LogTold). IsSomeAnd o (λ was. P was s.0)) (sym b.1) s.2);
      told = ap is_some new;
    }

-- a line that was sent is a line more
whole_grown : {x y : DeskState} (version : Version) (line : Line) → list_all is_small (line_numbers line) ≡ true → list_all is_wide (wide_numbers line) ≡ true → is_told version (x.trays Proof).sent ≡ true → IsWhole (log_of version x) → Sends Proof (ended_text line) x y → Grown version (TellsLine line (Ok tt)) (x.trays Proof).sent (y.trays Proof).sent
whole_grown {x = x} {y = y} version line small wide told whole h = grown version (TellsLine line (Ok tt)) (x.trays Proof).sent (y.trays Proof).sent (ended_text line) (one_more line small wide) told whole h.sent

pub logged : {E : Type 0} {x y : DeskState} {u : Unit {0}} (version : Version) (line : Line) → list_all is_small (line_numbers line) ≡ true → list_all is_wide (wide_numbers line) ≡ true → is_told version (x.trays Proof).sent ≡ true → IsWhole (log_of version x) → SendsText {E = E} Proof (ended_text line) x y (Ok u) → TakesLine line (log_of version x) (log_of version y) (Ok tt)
logged version line small wide told whole h = record { later = h.only.later; lines = (whole_grown version line small wide told whole h.ok).grows; cause = h.kept }

-- a line that was sent in part follows the lines
part_grown : {x y : DeskState} (version : Version) (line : Line) (n : ℕ) → n < length (ended_text line) → list_all is_small (line_numbers line) ≡ true → list_all is_wide (wide_numbers line) ≡ true → is_told version (x.trays Proof).sent ≡ true → IsWhole (log_of version x) → Sends Proof (take n (ended_text line)) x y → Grown version (TellsLine line (Err Failed)) (x.trays Proof).sent (y.trays Proof).sent
part_grown {x = x} {y = y} version line n lt small wide told whole h = grown version (TellsLine line (Err Failed)) (x.trays Proof).sent (y.trays Proof).sent (take n (ended_text line)) (one_begun line n small wide lt) told whole h.sent

pub log_failed : {E : Type 0} {x y : DeskState} {e : E} (version : Version) (line : Line) → list_all is_small (line_numbers line) ≡ true → list_all is_wide (wide_numbers line) ≡ true → is_told version (x.trays Proof).sent ≡ true → IsWhole (log_of version x) → SendsText {E = E} Proof (ended_text line) x y (Err e) → TakesLine line (log_of version x) (log_of version y) (Err Failed)
log_failed version line small wide told whole h = record { later = h.only.later; lines = (part_grown version line h.err.0 h.err.1 small wide told whole h.err.2).grows; cause = h.cause }

-- whatever of a line was sent, what was sent is still the header, whole lines and bytes after them
pub still_told : {E : Type 0} {x y : DeskState} (version : Version) (line : Line) (r : Result Unit E) → list_all is_small (line_numbers line) ≡ true → list_all is_wide (wide_numbers line) ≡ true → IsWhole (log_of version x) → SendsText Proof (ended_text line) x y r → is_told version (x.trays Proof).sent ≡ true → is_told version (y.trays Proof).sent ≡ true
still_told version line (Ok u) small wide whole h told = (whole_grown version line small wide told whole h.ok).told
still_told version line (Err e) small wide whole h told = (part_grown version line h.err.0 h.err.1 small wide told whole h.err.2).told

-- Proof was made before, whatever of a text was sent
pub made_still : {E : Type 0} {x y : DeskState} {text : List ℕ} (r : Result Unit E) → SendsText Proof text x y r → (x.trays Proof).made ≡ true → (y.trays Proof).made ≡ true
made_still (Ok u) h made = h.ok.made ∙ made
made_still (Err e) h made = h.err.2.made ∙ made
