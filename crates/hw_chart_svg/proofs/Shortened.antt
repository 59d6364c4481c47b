-- How much of a name is shown, and that the whole of it reads back.
use Rattle.std.proofs.Common.{◌≡◌, ◌≤◌, ◌<◌, ◌+◌, ◌-◌, ◌++◌, ◌∙◌, ℕ, zero, suc, Bool, true, false, nat_eq, nat_lt, if◌then◌else◌, List, [], ◌∷◌, codes, drop, get_or, length, take, refl, ap, sym, arith, append_assoc}
use Rattle.std.specs.List.{list_all, concat}
use Rattle.std.proofs.lemmas.Bool.{both_ways, and_parts, cond_both}
use Rattle.std.proofs.lemmas.List.{append_cancel_left}
use Rattle.std.proofs.lemmas.List.Sums.{sum_by-cons}
use Rattle.hw_chart_svg.specs.Lettering.{line, text_begin}
use Rattle.hw_chart_svg.specs.Marks.{is_word}
use Rattle.hw_chart_svg.specs.Names.{byte_text, escaped}
use Rattle.hw_chart_svg.specs.Shortened.{IsLongestWithin, beginning_within}
use Rattle.hw_chart_svg.specs.Widths.{advance, width_of}
use Rattle.hw_chart_svg.proofs.Words.{name_back, name_is_word}

-- ---- the longest beginning

pub begins : (room : ℕ) (name : List ℕ) → take (length (beginning_within room name)) name ≡ beginning_within room name
begins room [] = refl
begins room (b ∷ bs) = cond_both (nat_lt room (advance b)) _ _ (λ text. take (length text) (b ∷ bs) ≡ text) (λ e. refl) (λ e. ap (λ (l : List ℕ). b ∷ l) (begins (room - advance b) bs))

fits : (room : ℕ) (name : List ℕ) → width_of (beginning_within room name) ≤ room
fits room [] = omega arith
fits room (b ∷ bs) = cond_both (nat_lt room (advance b)) _ _ (λ text. width_of text ≤ room) (λ e. omega arith) (λ e.
    let rest = fits (room - advance b) bs in
    let inside : advance b ≤ room = grind (arith, e) in
    let step : width_of (b ∷ beginning_within (room - advance b) bs) ≡ advance b + width_of (beginning_within (room - advance b) bs) = sum_by-cons advance b (beginning_within (room - advance b) bs) in
    omega (arith, rest, inside, step))

longest : (room : ℕ) (name : List ℕ) (n : ℕ) → n ≤ length name → width_of (take n name) ≤ room → n ≤ length (beginning_within room name)
longest room [] n le small = le
longest room (b ∷ bs) zero le small = omega arith
longest room (b ∷ bs) (suc n) le small =
    let step : width_of (take (suc n) (b ∷ bs)) ≡ advance b + width_of (take n bs) = sum_by-cons advance b (take n bs) in
    cond_both (nat_lt room (advance b)) _ _ (λ text. suc n ≤ length text)
    (λ e.
    let over : room < advance b = grind (arith, e) in
    absurd (omega (arith, over, small, step)))
    (λ e.
    let rest = longest (room - advance b) bs n (omega (arith, le)) (omega (arith, small, step)) in
    omega (arith, rest))

pub longest_within : (room : ℕ) (name : List ℕ) → IsLongestWithin room name
longest_within room name = record { begins = begins room name; fits = fits room name; longest = longest room name }

pub escaped_both : (a b : List ℕ) → escaped (a ++ b) ≡ escaped a ++ escaped b
escaped_both [] b = refl
escaped_both (x ∷ a) b = ap (λ (l : List ℕ). byte_text x ++ l) (escaped_both a b) ∙ sym (append_assoc (byte_text x) (escaped a) (escaped b))

-- ---- the whole name

-- words end where a mark < begins
parted_words : (a b r s : List ℕ) → list_all is_word a ≡ true → list_all is_word b ≡ true → a ++ 60 ∷ r ≡ b ++ 60 ∷ s → (a ≡ b) × (r ≡ s)
parted_words [] [] r s p q e = (refl, ap (drop 1) e)
parted_words [] (d ∷ b) r s p q e = absurd (both_ways (is_word 60) refl (ap is_word (ap (λ (l : List ℕ). get_or l 0 0) e) ∙ (and_parts _ _ q).0))
parted_words (c ∷ a) [] r s p q e = absurd (both_ways (is_word 60) refl (ap is_word (sym (ap (λ (l : List ℕ). get_or l 0 0) e)) ∙ (and_parts _ _ p).0))
parted_words (c ∷ a) (d ∷ b) r s p q e =
    let same : c ≡ d = ap (λ (l : List ℕ). get_or l 0 0) e in
    let rest = parted_words a b r s (and_parts _ _ p).1 (and_parts _ _ q).1 (ap (drop 1) e) in
    (rw (same, rest.0) refl, rest.1)

abbrev either_line : Bool → List ℕ → ℕ → ℕ → List ℕ → List ℕ → List ℕ
either_line b class x y name shown = if b then concat (text_begin class x y ∷ codes "><title>" ∷ escaped name ∷ codes "</title>" ∷ escaped shown ∷ codes "</text>\n" ∷ []) else line class x y (escaped name)

-- a title and the letters of a name begin differently
differ : (name r s : List ℕ) → 60 ∷ (116 ∷ r) ≡ escaped name ++ 60 ∷ (47 ∷ s) → ⊥
differ name r s e =
    let later = (parted_words [] (escaped name) (116 ∷ r) (47 ∷ s) refl (name_is_word name) e).1 in
    let no : ◌≡◌ {A = ℕ} 116 47 = ap (λ (l : List ℕ). get_or l 0 0) later in
    omega (arith, no)

pub name_of_line : (class : List ℕ) (x y : ℕ) (name other shown seen : List ℕ) (b c : Bool) → either_line b class x y name shown ≡ either_line c class x y other seen → name ≡ other
name_of_line class x y name other shown seen true true e =
    name_back name other (parted_words (escaped name) (escaped other) _ _ (name_is_word name) (name_is_word other) (append_cancel_left (codes "><title>") _ _ (append_cancel_left (text_begin class x y) _ _ e))).0
name_of_line class x y name other shown seen true false e = absurd (differ other _ _ (append_cancel_left (codes ">") _ _ (append_cancel_left (text_begin class x y) _ _ e)))
name_of_line class x y name other shown seen false true e = absurd (differ name _ _ (append_cancel_left (codes ">") _ _ (append_cancel_left (text_begin class x y) _ _ (sym e))))
name_of_line class x y name other shown seen false false e =
    name_back name other (parted_words (escaped name) (escaped other) _ _ (name_is_word name) (name_is_word other) (append_cancel_left (codes ">") _ _ (append_cancel_left (text_begin class x y) _ _ e))).0
