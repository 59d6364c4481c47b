-- The text of a line reads back as that line.
use Rattle.std.proofs.Common.{◌≡◌, ◌==◌, ◌≤◌, ◌<◌, nat_lt, cond, ℕ, Bool, true, false, List, [], ◌∷◌, ◌++◌, length, map, decimal, Option, Some, None, Ok, refl, sym, ap, ◌∙◌, arith, append-nil}
use Rattle.std.proofs.lemmas.Bool.{and_parts, eqb-true, ltb-true}
use Rattle.std.specs.Prelude.{codes, option_map, option_and_then, bytes_eq}
use Rattle.std.specs.List.{list_all, flat_map}
use Rattle.hw_model.specs.declared.lit.Lit.{Lit}
use Rattle.hw_model.specs.declared.lit.Lit.TheVariants.{AtOrAfter, Before, First, NotFirst}
use Rattle.hw_model.specs.declared.shape.Shape.{Shape}
use Rattle.hw_text.specs.Parts.{parts_of}
use Rattle.hw_text.proofs.Joins.{one_part, part_before, cut_joined}
use Rattle.hw_cert.specs.Texts.{pair_text, lit_text, line_words, line_text}
use Rattle.hw_cert.specs.Spelled.{number_word, both_values, number_pair, lettered, lit_word, Lits, put_lit, lits_of, unparted, only_lits, hinted_form, delete_form, spelled_line, spelled}
use Rattle.hw_cert.specs.Fits.{ascends, word_unless, first_fault, unless_bad, fitted, line_read}
use Rattle.hw_cert.specs.Laws.{lit_numbers, line_numbers, wide_numbers, has_form, is_small, is_wide, IsLine}
use Rattle.hw_cert.specs.Forms.{HasWords}
use Rattle.hw_price_laws.specs.declared.toll.Toll.TheVariants as tolls
use Rattle.hw_cert_lines.specs.declared.line.Line.{Line}
use Rattle.hw_cert_lines.specs.declared.line.Line.TheVariants as lines
use Rattle.hw_cert.specs.declared.stop.FormWord.{FormWord}
use Rattle.hw_cert.specs.declared.stop.FormWord.TheVariants.{Range}
use Rattle.hw_cert.specs.declared.version.Version.{Version}
use Rattle.hw_cert.specs.declared.version.Version.TheVariants.{One, Two, Three}
use Rattle.hw_cert.proofs.NumberText.{number_again, numbers_again, some_again}
use Rattle.hw_cert.proofs.TollAgain.{third_again, priced_third, narrows_again, tugs_again, tariff_again, bound_again}
use Rattle.hw_cert.proofs.LineBytes.{words_lack}
use Rattle.hw_cert.proofs.WordBytes.{number_lacks, two_small, small_parts}

pair_again : (x y : ℕ) → is_small x ≡ true → is_small y ≡ true → number_pair (parts_of 46 (pair_text x y)) ≡ Some (x, y)
pair_again x y p q =
    ap number_pair (part_before 46 (decimal x) (decimal y) (number_lacks 46 x (omega arith) p) ∙ ap (λ (ps : List (List ℕ)). decimal x ∷ ps) (one_part 46 (decimal y) (number_lacks 46 y (omega arith) q)))
    ∙ ap (λ (o : Option ℕ). both_values o (number_word (decimal y))) (number_again x p) ∙ ap (both_values (Some x)) (number_again y q)

lit_again : (lit : Lit) → list_all is_small (lit_numbers lit) ≡ true → lit_word (lit_text lit) ≡ Some lit
lit_again (AtOrAfter ship slot) h = let p = two_small ship slot h in ap (option_and_then (lettered 97)) (pair_again ship slot p.0 p.1)
lit_again (Before ship slot) h = let p = two_small ship slot h in ap (option_and_then (lettered 98)) (pair_again ship slot p.0 p.1)
lit_again (First v w) h = let p = two_small v w h in ap (option_and_then (lettered 102)) (pair_again v w p.0 p.1)
lit_again (NotFirst v w) h = let p = two_small v w h in ap (option_and_then (lettered 110)) (pair_again v w p.0 p.1)

no_semicolon : (lit : Lit) → bytes_eq (lit_text lit) (codes ";") ≡ false
no_semicolon (AtOrAfter ship slot) = refl
no_semicolon (Before ship slot) = refl
no_semicolon (First v w) = refl
no_semicolon (NotFirst v w) = refl

lits_again : (ls : List Lit) (tail : List (List ℕ)) (b : Option (List (List ℕ))) → list_all is_small (flat_map lit_numbers ls) ≡ true → lits_of tail ≡ Some (record { lits = []; remainder = b }) → lits_of (map lit_text ls ++ tail) ≡ Some (record { lits = ls; remainder = b })
lits_again [] tail b h e = e
lits_again (l ∷ ls) tail b h e =
    let p = small_parts (lit_numbers l) (flat_map lit_numbers ls) h in
    ap (λ (t : Bool). cond t (Some (record { lits = []; remainder = Some (map lit_text ls ++ tail) })) (put_lit (lit_word (lit_text l)) (lits_of (map lit_text ls ++ tail)))) (no_semicolon l)
    ∙ ap (λ (o : Option Lit). put_lit o (lits_of (map lit_text ls ++ tail))) (lit_again l p.0)
    ∙ ap (put_lit (Some l)) (lits_again ls tail b p.1 e)

only_again : (ls : List Lit) → list_all is_small (flat_map lit_numbers ls) ≡ true → only_lits (map lit_text ls) ≡ Some ls
only_again ls h = ap (option_and_then (λ (found : Lits). unparted found.lits found.remainder)) (ap lits_of (sym (append-nil (map lit_text ls))) ∙ lits_again ls [] None h refl)

deletes_again : (version : Version) (ids : List ℕ) → has_form version (lines.Delete ids) ≡ true → 0 < length ids → list_all is_small ids ≡ true → delete_form version (map decimal ids) ≡ Some (lines.Delete ids)
deletes_again One ids f lt h = absurd cc
deletes_again Two ids f lt h = ap (option_map lines.Delete) (some_again ids lt h)
deletes_again Three ids f lt h = ap (option_map lines.Delete) (some_again ids lt h)

pub line_again : (version : Version) (line : Line) → list_all is_small (line_numbers line) ≡ true → list_all is_wide (wide_numbers line) ≡ true → has_form version line ≡ true → HasWords line → spelled_line version (line_words line) ≡ Some line
line_again version (lines.Table table) h l f w = ap (option_map lines.Table) (some_again table w h)
line_again version (lines.Explain n clause) h l f w =
    let p = and_parts (is_small n) (list_all is_small (flat_map lit_numbers clause)) h in
    ap (λ (o : Option ℕ). option_map (λ (q : ℕ × List Lit). lines.Explain q.0 q.1) (both_values o (only_lits (map lit_text clause)))) (number_again n p.0)
    ∙ ap (λ (o : Option (List Lit)). option_map (λ (q : ℕ × List Lit). lines.Explain q.0 q.1) (both_values (Some n) o)) (only_again clause p.1)
line_again version (lines.Order v w x clause) h l f t =
    let p = and_parts (is_small v) (list_all is_small (w ∷ x ∷ flat_map lit_numbers clause)) h in
    let q = and_parts (is_small w) (list_all is_small (x ∷ flat_map lit_numbers clause)) p.1 in
    let r = and_parts (is_small x) (list_all is_small (flat_map lit_numbers clause)) q.1 in
    let made : Option (ℕ × (ℕ × (ℕ × List Lit))) → Option Line = option_map (λ s. lines.Order s.0 s.1.0 s.1.1.0 s.1.1.1) in
    ap (λ (o : Option ℕ). made (both_values o (both_values (number_word (decimal w)) (both_values (number_word (decimal x)) (only_lits (map lit_text clause)))))) (number_again v p.0)
    ∙ ap (λ (o : Option ℕ). made (both_values (Some v) (both_values o (both_values (number_word (decimal x)) (only_lits (map lit_text clause)))))) (number_again w q.0)
    ∙ ap (λ (o : Option ℕ). made (both_values (Some v) (both_values (Some w) (both_values o (only_lits (map lit_text clause)))))) (number_again x r.0)
    ∙ ap (λ (o : Option (List Lit)). made (both_values (Some v) (both_values (Some w) (both_values (Some x) o)))) (only_again clause r.1)
line_again version (lines.Goal clause) h l f w = ap (option_map lines.Goal) (only_again clause h)
line_again version (lines.Lemma clause hints) h l f w =
    let p = small_parts (flat_map lit_numbers clause) hints h in
    ap (option_and_then (λ (found : Lits). hinted_form found.lits found.remainder)) (lits_again clause (codes ";" ∷ map decimal hints) (Some (map decimal hints)) p.0 refl)
    ∙ ap (option_map (lines.Lemma clause)) (numbers_again hints p.1)
line_again version (lines.Delete ids) h l f w = deletes_again version ids f w h
line_again version (lines.Toll (tolls.Narrows blocks)) h l f w = narrows_again version blocks h f w
line_again version (lines.Toll (tolls.Tugs n slot weights most)) h l f w = tugs_again version n slot most weights h f
line_again version (lines.Tariff tariff) h l f w = tariff_again version tariff h l f
line_again version (lines.Priced clause) h l f w = third_again version _ (lines.Priced clause) (ap (option_map lines.Priced) (only_again clause h)) (priced_third version clause f)
line_again version (lines.Bound bound) h l f w = bound_again version bound l f

kept : (b : Bool) (word : FormWord) → word_unless word b ≡ None → b ≡ true
kept true word h = refl
kept false word h = absurd cc

has_words : (shape : Shape) (line : Line) → 1 ≤ shape.ships → first_fault shape line ≡ None → HasWords line
has_words shape (lines.Table table) some h =
    let p = and_parts (list_all (λ slot. nat_lt slot shape.slots) table) (length table == shape.ships) (kept _ Range h) in
    let e : length table ≡ shape.ships = eqb-true (length table) shape.ships p.1 in
    omega (arith, e, some)
has_words shape (lines.Explain n clause) some h = tt
has_words shape (lines.Order v w x clause) some h = tt
has_words shape (lines.Goal clause) some h = tt
has_words shape (lines.Lemma clause hints) some h = tt
has_words shape (lines.Delete ids) some h = ltb-true 0 (length ids) (and_parts (nat_lt 0 (length ids)) (ascends 0 ids) (kept _ Range h)).0
has_words shape (lines.Toll (tolls.Narrows blocks)) some h = ltb-true 0 (length blocks) (and_parts (nat_lt 0 (length blocks)) _ (kept _ Range h)).0
has_words shape (lines.Toll (tolls.Tugs n slot weights most)) some h = tt
has_words shape (lines.Tariff tariff) some h = tt
has_words shape (lines.Priced clause) some h = tt
has_words shape (lines.Bound bound) some h = tt

pub word_count : (line : Line) → 1 ≤ length (line_words line)
word_count (lines.Table table) = omega arith
word_count (lines.Explain n clause) = omega arith
word_count (lines.Order v w x clause) = omega arith
word_count (lines.Goal clause) = omega arith
word_count (lines.Lemma clause hints) = omega arith
word_count (lines.Delete ids) = omega arith
word_count (lines.Toll (tolls.Narrows blocks)) = omega arith
word_count (lines.Toll (tolls.Tugs n slot weights most)) = omega arith
word_count (lines.Tariff tariff) = omega arith
word_count (lines.Priced clause) = omega arith
word_count (lines.Bound bound) = omega arith

pub text_spelled : (version : Version) (line : Line) → list_all is_small (line_numbers line) ≡ true → list_all is_wide (wide_numbers line) ≡ true → has_form version line ≡ true → HasWords line → spelled version (line_text line) ≡ Some line
text_spelled version line small wide formed words = ap (spelled_line version) (cut_joined 32 (line_words line) (word_count line) (words_lack 32 line (omega arith) small wide)) ∙ line_again version line small wide formed words

pub text_read : (shape : Shape) (version : Version) (line : Line) → 1 ≤ shape.ships → IsLine shape version line → line_read shape version (line_text line) ≡ Ok line
text_read shape version line some is =
    ap (fitted shape) (text_spelled version line is.small is.wide is.formed (has_words shape line some is.fits))
    ∙ ap (unless_bad line) is.fits
