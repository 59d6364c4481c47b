-- No byte of a name that is written is a mark of the text around it.
use Rattle.std.proofs.Common.{◌≡◌, ◌<◌, ◌+◌, ◌++◌, ◌∙◌, ℕ, true, false, nat_eq, if◌then◌else◌, List, [], ◌∷◌, length, get_or, length-append, refl, ap, sym, subst, lit<, arith}
use Rattle.std.specs.List.{list_all}
use Rattle.std.proofs.lemmas.Bool.{cond_both, and_from, eqb-true}
use Rattle.std.proofs.lemmas.List.{append_cancel_left}
use Rattle.std.proofs.lemmas.List.Folds.{list_all-append}
use Rattle.hw_chart_svg.specs.Names.{byte_text, escaped}
use Rattle.hw_chart_svg.specs.Marks.{is_word}

-- a byte that is none of the four
plain : (b : ℕ) → nat_eq b 60 ≡ false → nat_eq b 62 ≡ false → nat_eq b 34 ≡ false → nat_eq b 39 ≡ false → list_all is_word (b ∷ []) ≡ true
plain b p q r s = rw (p, q, r, s) refl

byte_is_word : (b : ℕ) → list_all is_word (byte_text b) ≡ true
unfolding byte_text
byte_is_word b =
    let P : List ℕ → Type 0 = λ text. list_all is_word text ≡ true in
    cond_both (nat_eq b 38) _ _ P (λ e. refl) (λ e.
    cond_both (nat_eq b 60) _ _ P (λ e. refl) (λ p.
    cond_both (nat_eq b 62) _ _ P (λ e. refl) (λ q.
    cond_both (nat_eq b 34) _ _ P (λ e. refl) (λ r.
    cond_both (nat_eq b 39) _ _ P (λ e. refl) (λ s. plain b p q r s)))))

pub name_is_word : (name : List ℕ) → list_all is_word (escaped name) ≡ true
name_is_word [] = refl
name_is_word (b ∷ bs) = list_all-append is_word (byte_text b) (escaped bs) ∙ and_from _ _ (byte_is_word b) (name_is_word bs)

-- a name's first byte, read back from its text
first_of : List ℕ → ℕ
first_of text =
    if nat_eq (get_or text 0 0) 38 then (
    if nat_eq (get_or text 1 0) 97 then 38
    else if nat_eq (get_or text 1 0) 108 then 60
    else if nat_eq (get_or text 1 0) 103 then 62
    else if nat_eq (get_or text 1 0) 113 then 34
    else 39)
    else get_or text 0 0

first_is : (b : ℕ) (rest : List ℕ) → first_of (byte_text b ++ rest) ≡ b
unfolding byte_text first_of
first_is b rest =
    let P : List ℕ → Type 0 = λ text. first_of (text ++ rest) ≡ b in
    cond_both (nat_eq b 38) _ _ P (λ e. sym (eqb-true b 38 e)) (λ o.
    cond_both (nat_eq b 60) _ _ P (λ e. sym (eqb-true b 60 e)) (λ p.
    cond_both (nat_eq b 62) _ _ P (λ e. sym (eqb-true b 62 e)) (λ q.
    cond_both (nat_eq b 34) _ _ P (λ e. sym (eqb-true b 34 e)) (λ r.
    cond_both (nat_eq b 39) _ _ P (λ e. sym (eqb-true b 39 e)) (λ s. rw o refl)))))

-- a byte is written in one byte or more
some_byte : (b : ℕ) → 0 < length (byte_text b)
unfolding byte_text
some_byte b =
    let P : List ℕ → Type 0 = λ text. 0 < length text in
    cond_both (nat_eq b 38) _ _ P (λ e. lit< tt) (λ o.
    cond_both (nat_eq b 60) _ _ P (λ e. lit< tt) (λ p.
    cond_both (nat_eq b 62) _ _ P (λ e. lit< tt) (λ q.
    cond_both (nat_eq b 34) _ _ P (λ e. lit< tt) (λ r.
    cond_both (nat_eq b 39) _ _ P (λ e. lit< tt) (λ s. lit< tt)))))

none_is_some : (b : ℕ) (rest : List ℕ) → [] ≡ byte_text b ++ rest → ⊥
none_is_some b rest e =
    let long : 0 ≡ length (byte_text b) + length rest = ap length e ∙ length-append (byte_text b) rest in
    let some = some_byte b in
    omega (arith, long, some)

pub name_back : (name other : List ℕ) → escaped name ≡ escaped other → name ≡ other
name_back [] [] e = refl
name_back [] (c ∷ cs) e = absurd (none_is_some c (escaped cs) e)
name_back (b ∷ bs) [] e = absurd (none_is_some b (escaped bs) (sym e))
name_back (b ∷ bs) (c ∷ cs) e =
    let same : b ≡ c = sym (first_is b (escaped bs)) ∙ ap first_of e ∙ first_is c (escaped cs) in
    let rest_same : byte_text b ++ escaped bs ≡ byte_text b ++ escaped cs = subst (λ (x : ℕ). byte_text b ++ escaped bs ≡ byte_text x ++ escaped cs) (sym same) e in
    let later : bs ≡ cs = name_back bs cs (append_cancel_left (byte_text b) _ _ rest_same) in
    rw (same, later) refl
