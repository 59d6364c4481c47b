-- Texts put together from words and lines.
use Rattle.std.proofs.Common.{◌≡◌, ℕ, suc, List, [], ◌∷◌, ◌++◌, map, take, drop, Option, Result, Ok, Err, OnOk, refl, sym, ap, ◌∙◌, append_assoc, codes}
use Rattle.std.proofs.lemmas.List.{append-nil}
use Rattle.hw_text.specs.Parts.{spaced, ended_lines}
use Rattle.hw_flat.specs.TextWritten.{led, value_text, stay_text, row_text, rows_in}

pub on_ok : {A E : Type 0} (r : Result A E) (P Q : Type 0) → (P → Q) → OnOk r P → OnOk r Q
on_ok (Ok x) P Q f p = f p
on_ok (Err e) P Q f p = p

-- each word but the first follows a space
pub spaced_led : (word : List ℕ) (words : List (List ℕ)) → word ++ led words ≡ spaced (word ∷ words)
spaced_led word [] = append-nil word
spaced_led word (next ∷ words) = ap (λ t. word ++ 32 ∷ t) (spaced_led next words)

pub led-append : (xs ys : List (List ℕ)) → led xs ++ led ys ≡ led (xs ++ ys)
led-append [] ys = refl
led-append (x ∷ xs) ys = append_assoc (32 ∷ x) (led xs) (led ys) ∙ ap (λ t. 32 ∷ x ++ t) (led-append xs ys)

pub ended-append : (xs ys : List (List ℕ)) → ended_lines xs ++ ended_lines ys ≡ ended_lines (xs ++ ys)
ended-append [] ys = refl
ended-append (x ∷ xs) ys = append_assoc x (10 ∷ ended_lines xs) (ended_lines ys) ∙ ap (λ t. x ++ 10 ∷ t) (ended-append xs ys)

-- one more word
pub word_more : (out word : List ℕ) (words : List (List ℕ)) → (out ++ 32 ∷ word) ++ led words ≡ out ++ led (word ∷ words)
word_more out word words = append_assoc out (32 ∷ word) (led words)

-- a key of one letter, a number and more words
pub keyed : (key : ℕ) (out first : List ℕ) (words : List (List ℕ)) → (out ++ key ∷ 32 ∷ first) ++ led words ≡ out ++ spaced ((key ∷ []) ∷ first ∷ words)
keyed key out first words = append_assoc out (key ∷ 32 ∷ first) (led words) ∙ ap (λ t. out ++ key ∷ 32 ∷ t) (spaced_led first words)

-- and words of two kinds
pub keyed_both : (key : ℕ) (out first : List ℕ) (xs ys : List (List ℕ)) → ((out ++ key ∷ 32 ∷ first) ++ led xs) ++ led ys ≡ out ++ spaced ((key ∷ []) ∷ first ∷ (xs ++ ys))
keyed_both key out first xs ys = append_assoc (out ++ key ∷ 32 ∷ first) (led xs) (led ys) ∙ ap (λ t. (out ++ key ∷ 32 ∷ first) ++ t) (led-append xs ys) ∙ keyed key out first (xs ++ ys)

pub keyed_next : (key : ℕ) (out first second : List ℕ) (words : List (List ℕ)) → ((out ++ key ∷ 32 ∷ first) ++ 32 ∷ second) ++ led words ≡ out ++ spaced ((key ∷ []) ∷ first ∷ second ∷ words)
keyed_next key out first second words = word_more (out ++ key ∷ 32 ∷ first) second words ∙ keyed key out first (second ∷ words)

-- the line of a row
pub row_put : (out : List ℕ) (sailing : ℕ) (row : List (Option ℕ)) → (((out ++ 118 ∷ []) ++ led (map value_text (take sailing row))) ++ led (map stay_text (drop sailing row))) ++ 10 ∷ [] ≡ out ++ row_text sailing row ++ 10 ∷ []
row_put out sailing row =
    let xs = map value_text (take sailing row) in
    let ys = map stay_text (drop sailing row) in
    let words : ((out ++ 118 ∷ []) ++ led xs) ++ led ys ≡ out ++ spaced (codes "v" ∷ (xs ++ ys)) =
    append_assoc (out ++ 118 ∷ []) (led xs) (led ys) ∙ ap (λ t. (out ++ 118 ∷ []) ++ t) (led-append xs ys) ∙ append_assoc out (118 ∷ []) (led (xs ++ ys)) ∙ ap (λ t. out ++ t) (spaced_led (118 ∷ []) (xs ++ ys)) in
    ap (λ t. t ++ 10 ∷ []) words

pub line_more : (out line : List ℕ) (lines : List (List ℕ)) → (out ++ line ++ 10 ∷ []) ++ ended_lines lines ≡ out ++ ended_lines (line ∷ lines)
line_more out line lines = append_assoc (out ++ line) (10 ∷ []) (ended_lines lines) ∙ append_assoc out line (10 ∷ ended_lines lines)

-- the lines of the rows
pub rows_more : (out more : List ℕ) (sailing slots left next : ℕ) (values row rest : List (Option ℕ)) (total : List ℕ) → left ≡ suc next → row ≡ take slots values → rest ≡ drop slots values → more ≡ out ++ row_text sailing row ++ 10 ∷ []
    → out ++ ended_lines (map (row_text sailing) (rows_in left slots values)) ≡ total → more ++ ended_lines (map (row_text sailing) (rows_in next slots rest)) ≡ total
rows_more out more sailing slots left next values row rest total k first others grown so_far =
    let one : out ++ ended_lines (map (row_text sailing) (rows_in left slots values)) ≡ more ++ ended_lines (map (row_text sailing) (rows_in next slots rest)) =
    rw (k, grown, first, others) (sym (line_more out (row_text sailing (take slots values)) (map (row_text sailing) (rows_in next slots (drop slots values))))) in
    sym one ∙ so_far

-- the whole text
pub text_put : (out head rows rules : List ℕ) (a b : List ℕ) (rs us : List (List ℕ)) → head ≡ out ++ ended_lines (a ∷ b ∷ []) → rows ≡ head ++ ended_lines rs → rules ≡ rows ++ ended_lines us → rules ++ codes "end\n" ≡ out ++ ended_lines (a ∷ b ∷ (rs ++ us ++ codes "end" ∷ []))
text_put out head rows rules a b rs us p q r =
    let lines : ended_lines (a ∷ b ∷ []) ++ ended_lines rs ++ ended_lines us ++ codes "end\n" ≡ ended_lines (a ∷ b ∷ (rs ++ us ++ codes "end" ∷ [])) =
    ap (λ t. t ++ ended_lines us ++ codes "end\n") (ended-append (a ∷ b ∷ []) rs) ∙ ap (λ t. t ++ codes "end\n") (ended-append (a ∷ b ∷ rs) us) ∙ ended-append (a ∷ b ∷ (rs ++ us)) (codes "end" ∷ []) in
    let joined : rules ++ codes "end\n" ≡ out ++ (ended_lines (a ∷ b ∷ []) ++ ended_lines rs ++ ended_lines us ++ codes "end\n") = rw (r, q, p) (simp append_assoc) in
    joined ∙ ap (λ t. out ++ t) lines
