-- A line that has its form is spelled by its words.
use Rattle.std.proofs.Common.{◌≡◌, cond, ℕ, true, List, [], ◌∷◌, ◌++◌, map, decimal, Option, Some, None, Ok, refl, sym, ap, ◌∙◌, subst, inl, inr}
use Rattle.std.proofs.lemmas.List.Folds.{list_all-append}
use Rattle.std.proofs.lemmas.List.Splits.{join_with_byte-slice_split}
use Rattle.std.proofs.lemmas.Slice.Eq.{bytes_eq-Decides}
use Rattle.std.specs.Prelude.{codes, bytes_eq}
use Rattle.std.specs.List.{list_all, flat_map, join_with_byte}
use Rattle.hw_lemmas.proofs.Truths.{chosen}
use Rattle.hw_model.specs.declared.lit.Lit.{Lit}
use Rattle.hw_model.specs.declared.shape.Shape.{Shape}
use Rattle.hw_text.specs.Parts.{words_of}
use Rattle.hw_cert.specs.Texts.{lit_text, line_text}
use Rattle.hw_cert.specs.Spelled.{number_word, both_values, all_numbers, some_numbers, Lits, lits_of, only_lits, table_form, explain_form, order_form, goal_form, hinted_form, lemma_form, delete_form, narrows_form, tugs_form, tariff_form, priced_form, bound_form, form_of, spelled_line, spelled}
use Rattle.hw_cert.specs.Fits.{line_read}
use Rattle.hw_cert.specs.Laws.{lit_numbers, line_numbers, wide_numbers, has_form, is_small, is_wide, IsLine}
use Rattle.hw_cert_lines.specs.declared.line.Line.{Line}
use Rattle.hw_cert_lines.specs.declared.line.Line.TheVariants as lines
use Rattle.hw_cert.specs.declared.version.Version.{Version}
use Rattle.hw_cert.specs.declared.version.Version.TheVariants.{One, Two, Three}
use Rattle.hw_cert.proofs.WordBytes.{both_on}
use Rattle.hw_cert.proofs.ReadBack.{mapped, chained, paired, number_back, numbers_back, some_back, remainder_words, lits_back}
use Rattle.hw_cert.proofs.Shapes.{fitted_ok}
use Rattle.hw_cert.proofs.Spells.{Spells, only_back}
use Rattle.hw_cert.proofs.TollBack.{narrows_back, tugs_back, tariff_back, priced_back, bound_back}

table_back : (version : Version) (ws : List (List ℕ)) (line : Line) → table_form ws ≡ Some line → Spells version (codes "t") ws line
table_back version ws line h =
    let p = mapped lines.Table (some_numbers ws) line h in
    let r = some_back ws p.0 p.1 in
    subst (Spells version (codes "t") ws) p.2 (record { words_are = ap (λ (vs : List (List ℕ)). codes "t" ∷ vs) r.0; small = r.1; wide = refl; formed = refl })

explain_back : (version : Version) (ws : List (List ℕ)) (line : Line) → explain_form ws ≡ Some line → Spells version (codes "e") ws line
explain_back version [] line h = absurd cc
explain_back version (n ∷ ws) line h =
    let p = mapped (λ (q : ℕ × List Lit). lines.Explain q.0 q.1) (both_values (number_word n) (only_lits ws)) line h in
    let q = paired (number_word n) (only_lits ws) p.0 p.1 in
    let a = number_back n p.0.0 q.0 in
    let r = only_back ws p.0.1 q.1 in
    subst (Spells version (codes "e") (n ∷ ws)) p.2 (record {
      words_are = ap (λ (v : List ℕ). codes "e" ∷ v ∷ ws) a.0 ∙ ap (λ (vs : List (List ℕ)). codes "e" ∷ decimal p.0.0 ∷ vs) r.0;
      small = both_on (is_small p.0.0) (list_all is_small (flat_map lit_numbers p.0.1)) a.1 r.1;
      wide = refl;
      formed = refl;
    })

order_back : (version : Version) (ws : List (List ℕ)) (line : Line) → order_form ws ≡ Some line → Spells version (codes "o") ws line
order_back version [] line h = absurd cc
order_back version (v ∷ []) line h = absurd cc
order_back version (v ∷ w ∷ []) line h = absurd cc
order_back version (v ∷ w ∷ x ∷ ws) line h =
    let p = mapped (λ (s : ℕ × (ℕ × (ℕ × List Lit))). lines.Order s.0 s.1.0 s.1.1.0 s.1.1.1) (both_values (number_word v) (both_values (number_word w) (both_values (number_word x) (only_lits ws)))) line h in
    let a = paired (number_word v) (both_values (number_word w) (both_values (number_word x) (only_lits ws))) p.0 p.1 in
    let b = paired (number_word w) (both_values (number_word x) (only_lits ws)) p.0.1 a.1 in
    let d = paired (number_word x) (only_lits ws) p.0.1.1 b.1 in
    let first = number_back v p.0.0 a.0 in
    let second = number_back w p.0.1.0 b.0 in
    let third = number_back x p.0.1.1.0 d.0 in
    let r = only_back ws p.0.1.1.1 d.1 in
    subst (Spells version (codes "o") (v ∷ w ∷ x ∷ ws)) p.2 (record {
      words_are = ap (λ (y : List ℕ). codes "o" ∷ y ∷ w ∷ x ∷ ws) first.0 ∙ ap (λ (y : List ℕ). codes "o" ∷ decimal p.0.0 ∷ y ∷ x ∷ ws) second.0
          ∙ ap (λ (y : List ℕ). codes "o" ∷ decimal p.0.0 ∷ decimal p.0.1.0 ∷ y ∷ ws) third.0 ∙ ap (λ (vs : List (List ℕ)). codes "o" ∷ decimal p.0.0 ∷ decimal p.0.1.0 ∷ decimal p.0.1.1.0 ∷ vs) r.0;
      small = both_on (is_small p.0.0) _ first.1 (both_on (is_small p.0.1.0) _ second.1 (both_on (is_small p.0.1.1.0) _ third.1 r.1));
      wide = refl;
      formed = refl;
    })

goal_back : (version : Version) (ws : List (List ℕ)) (line : Line) → goal_form ws ≡ Some line → Spells version (codes "g") ws line
goal_back version ws line h =
    let p = mapped lines.Goal (only_lits ws) line h in
    let r = only_back ws p.0 p.1 in
    subst (Spells version (codes "g") ws) p.2 (record { words_are = ap (λ (vs : List (List ℕ)). codes "g" ∷ vs) r.0; small = r.1; wide = refl; formed = refl })

hinted_back : (version : Version) (ls : List Lit) (b : Option (List (List ℕ))) (line : Line) → hinted_form ls b ≡ Some line → list_all is_small (flat_map lit_numbers ls) ≡ true → Spells version (codes "l") (map lit_text ls ++ remainder_words b) line
hinted_back version ls None line h s = absurd cc
hinted_back version ls (Some vs) line h s =
    let p = mapped (lines.Lemma ls) (all_numbers vs) line h in
    let r = numbers_back vs p.0 p.1 in
    subst (Spells version (codes "l") (map lit_text ls ++ codes ";" ∷ vs)) p.2 (record {
      words_are = ap (λ (xs : List (List ℕ)). codes "l" ∷ (map lit_text ls ++ codes ";" ∷ xs)) r.0;
      small = list_all-append is_small (flat_map lit_numbers ls) p.0 ∙ both_on (list_all is_small (flat_map lit_numbers ls)) (list_all is_small p.0) s r.1;
      wide = refl;
      formed = refl;
    })

lemma_back : (version : Version) (ws : List (List ℕ)) (line : Line) → lemma_form ws ≡ Some line → Spells version (codes "l") ws line
lemma_back version ws line h =
    let p = chained (λ (found : Lits). hinted_form found.lits found.remainder) (lits_of ws) line h in
    let r = lits_back ws p.0 p.1 in
    subst (λ (vs : List (List ℕ)). Spells version (codes "l") vs line) (sym r.words) (hinted_back version p.0.lits p.0.remainder line p.2 r.small)

delete_back : (version : Version) (ws : List (List ℕ)) (line : Line) → delete_form version ws ≡ Some line → Spells version (codes "d") ws line
delete_back One ws line h = absurd cc
delete_back Two ws line h =
    let p = mapped lines.Delete (some_numbers ws) line h in
    let r = some_back ws p.0 p.1 in
    subst (Spells Two (codes "d") ws) p.2 (record { words_are = ap (λ (vs : List (List ℕ)). codes "d" ∷ vs) r.0; small = r.1; wide = refl; formed = refl })
delete_back Three ws line h =
    let p = mapped lines.Delete (some_numbers ws) line h in
    let r = some_back ws p.0 p.1 in
    subst (Spells Three (codes "d") ws) p.2 (record { words_are = ap (λ (vs : List (List ℕ)). codes "d" ∷ vs) r.0; small = r.1; wide = refl; formed = refl })

-- one kind of line, or another
either : (version : Version) (kind word : List ℕ) (words : List (List ℕ)) (line : Line) (form other : Option Line) → cond (bytes_eq word kind) form other ≡ Some line → (form ≡ Some line → Spells version word words line) → (other ≡ Some line → Spells version kind words line) → Spells version kind words line
either version kind word words line form other h f g = elim (chosen (bytes_eq word kind) form other (Some line) h) [
  | inl a ↦ subst (λ (k : List ℕ). Spells version k words line) ((bytes_eq-Decides word kind).0 a.0) (f a.1)
  | inr a ↦ g a.1
]

form_back : (version : Version) (kind : List ℕ) (ws : List (List ℕ)) (line : Line) → form_of version kind ws ≡ Some line → Spells version kind ws line
form_back version kind ws line h =
    either version kind (codes "t") ws line (table_form ws) _ h (table_back version ws line) (λ h2.
    either version kind (codes "e") ws line (explain_form ws) _ h2 (explain_back version ws line) (λ h3.
    either version kind (codes "o") ws line (order_form ws) _ h3 (order_back version ws line) (λ h4.
    either version kind (codes "g") ws line (goal_form ws) _ h4 (goal_back version ws line) (λ h5.
    either version kind (codes "l") ws line (lemma_form ws) _ h5 (lemma_back version ws line) (λ h6.
    either version kind (codes "d") ws line (delete_form version ws) _ h6 (delete_back version ws line) (λ h7.
    either version kind (codes "n") ws line (narrows_form version ws) _ h7 (narrows_back version ws line) (λ h8.
    either version kind (codes "u") ws line (tugs_form version ws) _ h8 (tugs_back version ws line) (λ h9.
    either version kind (codes "y") ws line (tariff_form version ws) _ h9 (tariff_back version ws line) (λ h10.
    either version kind (codes "p") ws line (priced_form version ws) _ h10 (priced_back version ws line) (λ h11.
    either version kind (codes "b") ws line (bound_form version ws) None h11 (bound_back version ws line) (λ h12. absurd (nothing line h12))))))))))))
  where
    nothing : (l : Line) → None ≡ Some l → ⊥
    nothing l e = cc

-- a line that its words spell, as a text
pub record SpellsText (version : Version) (bytes : List ℕ) (line : Line) : Type 0 where
  pub text : bytes ≡ line_text line
  pub small : list_all is_small (line_numbers line) ≡ true
  pub wide : list_all is_wide (wide_numbers line) ≡ true
  pub formed : has_form version line ≡ true

pub text_back : (version : Version) (bytes : List ℕ) (line : Line) (ws : List (List ℕ)) → ws ≡ words_of bytes → spelled_line version ws ≡ Some line → SpellsText version bytes line
text_back version bytes line [] e h = absurd cc
text_back version bytes line (kind ∷ ws) e h =
    let r = form_back version kind ws line h in
    record { text = sym (join_with_byte-slice_split 32 bytes) ∙ ap (join_with_byte 32) (sym e ∙ r.words_are); small = r.small; wide = r.wide; formed = r.formed }

-- what reads as a line is its text
pub read_text : (shape : Shape) (version : Version) (bytes : List ℕ) (line : Line) → line_read shape version bytes ≡ Ok line → (bytes ≡ line_text line) × IsLine shape version line
read_text shape version bytes line h =
    let p = fitted_ok shape (spelled version bytes) line h in
    let r = text_back version bytes line (words_of bytes) refl p.0 in
    (r.text, record { fits = p.1; small = r.small; wide = r.wide; formed = r.formed })
