-- A certificate of the first two versions reads alike, whichever versions may be read.
use Rattle.std.proofs.Common.{◌≡◌, ◌⊎◌, ◌∙◌, ◌+◌, cond, ℕ, Bool, true, false, List, [], ◌∷◌, length, Option, Some, None, option_and_then, Result, Ok, Err, inl, inr, refl, sym, ap}
use Rattle.std.specs.List.{join_with_byte}
use Rattle.std.proofs.lemmas.List.Splits.{join_with_byte-slice_split}
use Rattle.hw_text.specs.Parts.{parts_of, words_of}
use Rattle.hw_model.specs.declared.shape.Shape.{Shape}
use Rattle.hw_cert_lines.specs.declared.line.Line.{Line}
use Rattle.hw_cert.specs.declared.stop.FormWord.{FormWord}
use Rattle.hw_cert.specs.declared.version.Version.{Version}
use Rattle.hw_cert.specs.declared.version.Version.TheVariants.{One, Two, Three}
use Rattle.hw_cert.specs.Spelled.{header_words, kept_to, version_to}
use Rattle.hw_cert.specs.Fits.{line_read}
use Rattle.hw_cert.specs.Stream.{Cut, nothing, whole, unended, long, line_passes_limit, cut_of, tail_cut, past_line, line_by, line_next, CertLines, onward, lines_from, lines_by, lines_after, cert_stream_to, cert_stream}
use Rattle.hw_cert.proofs.Headers.{header_back}
use Rattle.hw_subject.specs.Decided.{NamesThird}

-- ---- after the header

read_same : (a b version : Version) (number taken : ℕ) (line : List ℕ) (more : List (List ℕ)) (r : Result Line FormWord) (s t : CertLines) → s ≡ t → onward (line_by number (past_line a version number taken line) more r) s ≡ onward (line_by number (past_line b version number taken line) more r) t
read_same a b version number taken line more (Ok l) s t e = ap (λ (later : CertLines). record { lines = l ∷ later.lines; stop = later.stop }) e
read_same a b version number taken line more (Err word) s t e = refl

next_same : (shape : Shape) (a b version : Version) (number taken : ℕ) (cut : Cut) (s t : CertLines) → s ≡ t → onward (line_next shape a version number taken cut) s ≡ onward (line_next shape b version number taken cut) t
next_same shape a b version number taken nothing s t e = refl
next_same shape a b version number taken (whole line more) s t e = read_same a b version number taken line more (line_read shape version line) s t e
next_same shape a b version number taken unended s t e = refl
next_same shape a b version number taken long s t e = refl

lines_same : (shape : Shape) (a b version : Version) (number taken : ℕ) (parts : List (List ℕ)) → lines_from shape a version number taken parts ≡ lines_from shape b version number taken parts
lines_same shape a b version number taken [] = refl
lines_same shape a b version number taken (line ∷ more) = next_same shape a b version number taken (cut_of taken (line ∷ more)) _ _ (lines_same shape a b version (number + 1) (taken + length line + 1) more)

-- ---- with the header

-- the third version is named, or the lines after the header are the same
headed : (shape : Shape) (number taken : ℕ) (line : List ℕ) (more : List (List ℕ)) (named : Option Version) → (option_and_then (kept_to Three) named ≡ Some Three) ⊎ (lines_by shape Three number taken line more (option_and_then (kept_to Three) named) ≡ lines_by shape Two number taken line more (option_and_then (kept_to Two) named))
headed shape number taken line more None = inr refl
headed shape number taken line more (Some One) = inr (lines_same shape Three Two One (number + 1) (taken + length line + 1) more)
headed shape number taken line more (Some Two) = inr (lines_same shape Three Two Two (number + 1) (taken + length line + 1) more)
headed shape number taken line more (Some Three) = inl refl

-- a whole line is the first of the parts
whole_first : (taken : ℕ) (parts : List (List ℕ)) (line : List ℕ) (more : List (List ℕ)) → cut_of taken parts ≡ whole line more → (next : List ℕ) × (rest : List (List ℕ)) × (parts ≡ line ∷ next ∷ rest)
whole_first taken [] line more e = absurd (cc)
whole_first taken (tail ∷ []) line more e = absurd (tail_whole taken tail e)
  where
    passed : (b : Bool) → cond b long unended ≡ whole line more → ⊥
    passed true e = absurd (cc)
    passed false e = absurd (cc)

    tail_whole : (taken : ℕ) (tail : List ℕ) → tail_cut taken tail ≡ whole line more → ⊥
    tail_whole taken [] e = absurd (cc)
    tail_whole taken (b ∷ bs) e = passed (line_passes_limit taken (length (b ∷ bs)) 0) e
whole_first taken (first ∷ next ∷ rest) line more e = (next, rest, ap (λ (l : List ℕ). l ∷ next ∷ rest) (by (line_passes_limit taken (length first) 1) e))
  where
    by : (b : Bool) → cond b long (whole first (next ∷ rest)) ≡ whole line more → first ≡ line
    by true e = absurd (cc)
    by false e = cc

third_bytes : (bytes line next : List ℕ) (rest : List (List ℕ)) → parts_of 10 bytes ≡ line ∷ next ∷ rest → version_to Three line ≡ Some Three → NamesThird bytes
third_bytes bytes line next rest parts named = (join_with_byte 10 (next ∷ rest), sym (join_with_byte-slice_split 10 bytes) ∙ ap (join_with_byte 10) parts ∙ ap (λ (l : List ℕ). join_with_byte 10 (l ∷ next ∷ rest)) (header_back Three line Three named).0)

whole_same : (shape : Shape) (bytes line : List ℕ) (more : List (List ℕ)) → cut_of 0 (parts_of 10 bytes) ≡ whole line more → (version_to Three line ≡ Some Three) ⊎ (lines_by shape Three 1 0 line more (version_to Three line) ≡ lines_by shape Two 1 0 line more (version_to Two line))
    → NamesThird bytes ⊎ (lines_after shape Three 1 0 (whole line more) ≡ lines_after shape Two 1 0 (whole line more))
whole_same shape bytes line more e (inl named) =
    let first = whole_first 0 (parts_of 10 bytes) line more e in
    inl (third_bytes bytes line first.0 first.1 first.2 named)
whole_same shape bytes line more e (inr same) = inr same

cut_same : (shape : Shape) (bytes : List ℕ) (cut : Cut) → cut_of 0 (parts_of 10 bytes) ≡ cut → NamesThird bytes ⊎ (lines_after shape Three 1 0 cut ≡ lines_after shape Two 1 0 cut)
cut_same shape bytes nothing e = inr refl
cut_same shape bytes (whole line more) e = whole_same shape bytes line more e (headed shape 1 0 line more (header_words (words_of line)))
cut_same shape bytes unended e = inr refl
cut_same shape bytes long e = inr refl

pub stream_same : (shape : Shape) (bytes : List ℕ) → NamesThird bytes ⊎ (cert_stream_to Three shape bytes ≡ cert_stream shape bytes)
stream_same shape bytes = cut_same shape bytes (cut_of 0 (parts_of 10 bytes)) refl
