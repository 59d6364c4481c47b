-- Bytes that tell lines are the text of these lines.
use Rattle.std.proofs.Common.{◌≡◌, ◌==◌, cond, ℕ, Bool, true, false, List, [], ◌∷◌, ◌++◌, map, Some, None, refl, sym, ap, ◌∙◌, subst, append_assoc, inl, inr, arith}
use Rattle.std.proofs.lemmas.Bool.{and_parts}
use Rattle.std.proofs.lemmas.List.Splits.{join_with_byte-slice_split}
use Rattle.std.proofs.lemmas.Slice.Eq.{bytes_eq-Decides}
use Rattle.std.specs.Prelude.{bytes_eq, codes}
use Rattle.std.specs.List.{list_all, join_with_byte}
use Rattle.hw_lemmas.proofs.Truths.{chosen}
use Rattle.hw_text.specs.Parts.{parts_of, lacks, ended_lines}
use Rattle.hw_text.proofs.Joins.{parts_lack}
use Rattle.hw_price_laws.specs.declared.toll.Toll.TheVariants.{Narrows}
use Rattle.hw_cert_lines.specs.declared.line.Line.{Line}
use Rattle.hw_cert_lines.specs.declared.line.Line.TheVariants.{Table, Delete, Toll}
use Rattle.hw_cert.specs.declared.version.Version.TheVariants.{Three}
use Rattle.hw_cert.specs.Texts.{line_text, certificate_header}
use Rattle.hw_cert.specs.Spelled.{spelled}
use Rattle.hw_cert.specs.Logs.{LogTold}
use Rattle.hw_cert.specs.Told.{header_line, without_prefix, line_told, parts_told, lines_told, TextTold}
use Rattle.hw_cert.proofs.FormText.{form_read}
use Rattle.hw_cert.proofs.ReadBack.{chained}
use Rattle.hw_cert.proofs.Telling.{with_both}

-- a part that tells a line is its text
told_back : (part : List ℕ) (line : Line) → line_told part ≡ Some line → part ≡ line_text line
told_back part line h = elim (chosen (bytes_eq part (codes "t")) (Some (Table [])) (cond (bytes_eq part (codes "d")) (Some (Delete [])) (cond (bytes_eq part (codes "n")) (Some (Toll (Narrows []))) (spelled Three part))) (Some line) h) [
  | inl a ↦ let e : Table [] ≡ line = cc in (bytes_eq-Decides part (codes "t")).0 a.0 ∙ ap line_text e
  | inr a ↦ elim (chosen (bytes_eq part (codes "d")) (Some (Delete [])) (cond (bytes_eq part (codes "n")) (Some (Toll (Narrows []))) (spelled Three part)) (Some line) a.1) [
    | inl b ↦ let e : Delete [] ≡ line = cc in (bytes_eq-Decides part (codes "d")).0 b.0 ∙ ap line_text e
    | inr b ↦ elim (chosen (bytes_eq part (codes "n")) (Some (Toll (Narrows []))) (spelled Three part) (Some line) b.1) [
      | inl d ↦ let e : Toll (Narrows []) ≡ line = cc in (bytes_eq-Decides part (codes "n")).0 d.0 ∙ ap line_text e
      | inr d ↦ (form_read Three part line d.1).0
    ]
  ]
]

last_inner : {a b : LogTold} → Some a ≡ Some b → a ≡ b
last_inner e = cc

-- parts that tell lines are these lines' texts, and what follows them
joined_told : (parts : List (List ℕ)) (told : LogTold) → parts_told parts ≡ Some told → join_with_byte 10 parts ≡ ended_lines (map line_text told.lines) ++ told.remainder
joined_told [] told e = absurd (cc)
joined_told (tail ∷ []) told e = ap (λ (t : LogTold). ended_lines (map line_text t.lines) ++ t.remainder) (last_inner e)
joined_told (part ∷ next ∷ parts) told e =
    let w = with_both (line_told part) (parts_told (next ∷ parts)) told e in
    let later = joined_told (next ∷ parts) w.1 w.3 in
    ap (λ (p : List ℕ). p ++ 10 ∷ join_with_byte 10 (next ∷ parts)) (told_back part w.0 w.2)
    ∙ ap (λ (rest : List ℕ). line_text w.0 ++ 10 ∷ rest) later
    ∙ sym (append_assoc (line_text w.0) (10 ∷ ended_lines (map line_text w.1.lines)) w.1.remainder)
    ∙ ap (λ (t : LogTold). ended_lines (map line_text t.lines) ++ t.remainder) w.4

-- what follows them has no line feed
last_lacks : (parts : List (List ℕ)) (told : LogTold) → list_all (lacks 10) parts ≡ true → parts_told parts ≡ Some told → lacks 10 told.remainder ≡ true
last_lacks [] told all e = absurd (cc)
last_lacks (tail ∷ []) told all e = subst (λ (t : LogTold). lacks 10 t.remainder ≡ true) (last_inner e) (and_parts (lacks 10 tail) true all).0
last_lacks (part ∷ next ∷ parts) told all e =
    let w = with_both (line_told part) (parts_told (next ∷ parts)) told e in
    subst (λ (t : LogTold). lacks 10 t.remainder ≡ true) w.4 (last_lacks (next ∷ parts) w.1 (and_parts (lacks 10 part) (list_all (lacks 10) (next ∷ parts)) all).1 w.3)

-- what follows a beginning
prefix_is : (ps bs rest : List ℕ) → without_prefix ps bs ≡ Some rest → bs ≡ ps ++ rest
prefix_is [] bs rest e = let same : bs ≡ rest = cc in same
prefix_is (p ∷ ps) [] rest e = absurd (cc)
prefix_is (p ∷ ps) (b ∷ bs) rest e = by (b == p) (λ t. grind (arith, t)) (prefix_is ps bs rest) e
  where
    by : (t : Bool) → (t ≡ true → b ≡ p) → (without_prefix ps bs ≡ Some rest → bs ≡ ps ++ rest) → cond t (without_prefix ps bs) None ≡ Some rest → b ∷ bs ≡ p ∷ (ps ++ rest)
    by true f g h = ap (λ (n : ℕ). n ∷ bs) (f refl) ∙ ap (λ (t : List ℕ). p ∷ t) (g h)
    by false f g h = absurd (cc)

pub text_told : TextTold
text_told version bytes told h =
    let p = chained lines_told (without_prefix (header_line version) bytes) told h in
    record {
      text = prefix_is (header_line version) bytes p.0 p.1
          ∙ ap (λ (rest : List ℕ). header_line version ++ rest) (sym (join_with_byte-slice_split 10 p.0) ∙ joined_told (parts_of 10 p.0) told p.2)
          ∙ append_assoc (certificate_header version) (10 ∷ []) (ended_lines (map line_text told.lines) ++ told.remainder)
          ∙ sym (append_assoc (certificate_header version) (10 ∷ ended_lines (map line_text told.lines)) told.remainder);
      no_end = last_lacks (parts_of 10 p.0) told (parts_lack 10 p.0) p.2;
    }
