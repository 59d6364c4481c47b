-- What reads as a header is its text.
use Rattle.std.proofs.Common.{◌≡◌, cond, ℕ, Bool, true, List, [], ◌∷◌, ◌++◌, Some, None, refl, sym, ap, ◌∙◌, inl, inr}
use Rattle.std.proofs.lemmas.List.Splits.{join_with_byte-slice_split}
use Rattle.std.proofs.lemmas.Slice.Eq.{bytes_eq-Decides}
use Rattle.std.specs.Prelude.{codes, bytes_eq, option_and_then}
use Rattle.std.specs.List.{join_with_byte}
use Rattle.hw_lemmas.proofs.Truths.{chosen}
use Rattle.hw_text.specs.Parts.{words_of}
use Rattle.hw_cert.specs.declared.version.Version.{Version}
use Rattle.hw_cert.specs.declared.version.Version.TheVariants.{One, Two, Three}
use Rattle.hw_cert.specs.Texts.{certificate_header}
use Rattle.hw_cert.specs.Spelled.{version_word, header_words, is_within, kept_to, version_to}
use Rattle.hw_cert.proofs.ReadBack.{chained}

word_back : (word : List ℕ) (version : Version) → version_word word ≡ Some version → codes "cert " ++ word ≡ certificate_header version
word_back word version h = elim (chosen (bytes_eq word (codes "1")) (Some One) (cond (bytes_eq word (codes "2")) (Some Two) (cond (bytes_eq word (codes "3")) (Some Three) None)) (Some version) h) [
  | inl a ↦ let e : One ≡ version = cc in ap (λ (w : List ℕ). codes "cert " ++ w) ((bytes_eq-Decides word (codes "1")).0 a.0) ∙ ap certificate_header e
  | inr a ↦ elim (chosen (bytes_eq word (codes "2")) (Some Two) (cond (bytes_eq word (codes "3")) (Some Three) None) (Some version) a.1) [
    | inl b ↦ let e : Two ≡ version = cc in ap (λ (w : List ℕ). codes "cert " ++ w) ((bytes_eq-Decides word (codes "2")).0 b.0) ∙ ap certificate_header e
    | inr b ↦ elim (chosen (bytes_eq word (codes "3")) (Some Three) None (Some version) b.1) [
      | inl d ↦ let e : Three ≡ version = cc in ap (λ (w : List ℕ). codes "cert " ++ w) ((bytes_eq-Decides word (codes "3")).0 d.0) ∙ ap certificate_header e
      | inr d ↦ absurd (nothing version d.1)
    ]
  ]
]
  where
    nothing : (v : Version) → None ≡ Some v → ⊥
    nothing v e = cc

header_words_back : (ws : List (List ℕ)) (version : Version) → header_words ws ≡ Some version → join_with_byte 32 ws ≡ certificate_header version
header_words_back [] version h = absurd cc
header_words_back (kind ∷ []) version h = absurd cc
header_words_back (kind ∷ word ∷ []) version h = elim (chosen (bytes_eq (codes "cert") kind) (version_word word) None (Some version) h) [
  | inl a ↦ ap (λ (k : List ℕ). k ++ 32 ∷ word) (sym ((bytes_eq-Decides (codes "cert") kind).0 a.0)) ∙ word_back word version a.1
  | inr a ↦ absurd (nothing version a.1)
]
  where
    nothing : (v : Version) → None ≡ Some v → ⊥
    nothing v e = cc
header_words_back (kind ∷ word ∷ other ∷ ws) version h = absurd cc

kept_back : (most named version : Version) → kept_to most named ≡ Some version → (named ≡ version) × (is_within most version ≡ true)
kept_back most named version h = elim (chosen (is_within most named) (Some named) None (Some version) h) [
  | inl a ↦ let e : named ≡ version = cc in (e, ap (is_within most) (sym e) ∙ a.0)
  | inr a ↦ absurd (nothing version a.1)
]
  where
    nothing : (v : Version) → None ≡ Some v → ⊥
    nothing v e = cc

pub header_back : (most : Version) (bytes : List ℕ) (version : Version) → version_to most bytes ≡ Some version → (bytes ≡ certificate_header version) × (is_within most version ≡ true)
header_back most bytes version h =
    let p = chained (kept_to most) (header_words (words_of bytes)) version h in
    let k = kept_back most p.0 version p.2 in
    (sym (join_with_byte-slice_split 32 bytes) ∙ header_words_back (words_of bytes) version (p.1 ∙ ap Some k.0), k.1)

words_again : (version : Version) → header_words (words_of (certificate_header version)) ≡ Some version
words_again One = refl
words_again Two = refl
words_again Three = refl

pub header_again : (most : Version) (bytes : List ℕ) (version : Version) → bytes ≡ certificate_header version → is_within most version ≡ true → version_to most bytes ≡ Some version
header_again most bytes version e within =
    ap (version_to most) e ∙ ap (option_and_then (kept_to most)) (words_again version) ∙ ap (λ (b : Bool). cond b (Some version) None) within
