-- Terms, rows and their texts, one step on.
use Rattle.std.proofs.Common.{◌≡◌, ◌≤◌, ◌<◌, ◌+◌, ◌-◌, ◌++◌, ◌∙◌, ℕ, suc, List, [], ◌∷◌, length, drop, get_or, add-one, ap, refl, sym, arith, append_assoc, length-append}
use Rattle.std.proofs.Math.ListN.{drop_of_length-le}
use Rattle.std.proofs.Math.Seq.{drop-cons}
use Rattle.std.proofs.lemmas.List.{get_or_default}
use Rattle.hw_flat_programme.specs.declared.format.Format.{Format}
use Rattle.hw_flat_programme.specs.declared.format.Mark.{Mark}
use Rattle.hw_flat_programme.specs.Programmes.{Term, Row, weight_of}
use Rattle.hw_flat_programme.specs.Texts.{term_text, terms_text, linear_row_text, rows_text, variables_text, name_text, with_a_term}

pub terms_text-append : (slots : ℕ) (mark : Mark) (a b : List Term) → terms_text slots mark (a ++ b) ≡ terms_text slots mark a ++ terms_text slots mark b
terms_text-append slots mark [] b = refl
terms_text-append slots mark (t ∷ ts) b = ap (λ (text : List ℕ). term_text slots mark t ++ text) (terms_text-append slots mark ts b) ∙ sym (append_assoc (term_text slots mark t) (terms_text slots mark ts) (terms_text slots mark b))

pub rows_text-append : (format : Format) (slots : ℕ) (a b : List Row) → rows_text format slots (a ++ b) ≡ rows_text format slots a ++ rows_text format slots b
rows_text-append format slots [] b = refl
rows_text-append format slots (r ∷ rs) b = ap (λ (text : List ℕ). linear_row_text format slots r ++ text) (rows_text-append format slots rs b) ∙ sym (append_assoc (linear_row_text format slots r) (rows_text format slots rs) (rows_text format slots b))

pub names_text-append : (a b : List Term) → variables_text (a ++ b) ≡ variables_text a ++ variables_text b
names_text-append [] b = refl
names_text-append (t ∷ ts) b = ap (λ (text : List ℕ). name_text t.ship t.slot ++ text) (names_text-append ts b) ∙ sym (append_assoc (name_text t.ship t.slot) (variables_text ts) (variables_text b))

-- ---- lists that go by a number and how many more there are

-- one more step of such a list
abbrev pub Steps : {X : Type 0} → (ℕ → List X) → (ℕ → ℕ → List X) → Type 0
Steps one whole = (k more : ℕ) → whole k (suc more) ≡ one k ++ whole (k + 1) more

pub counted_next : {X : Type 0} (one : ℕ → List X) (whole : ℕ → ℕ → List X) → Steps one whole → (k end : ℕ) → k < end → whole k (end - k) ≡ one k ++ whole (k + 1) (end - (k + 1))
counted_next one whole steps k end lt =
    let e : end - k ≡ suc (end - (k + 1)) = omega (arith, lt) in
    ap (whole k) e ∙ steps k (end - (k + 1))

pub counted_end : {X : Type 0} (whole : ℕ → ℕ → List X) → ((k : ℕ) → whole k 0 ≡ []) → (k end : ℕ) → end ≤ k → whole k (end - k) ≡ []
counted_end whole none k end le =
    let e : end - k ≡ 0 = omega (arith, le) in
    ap (whole k) e ∙ none k

-- ---- lists that go along another list

pub item_next : {X : Type 0} (i : ℕ) (xs : List X) (x : X) → i < length xs → x ≡ get_or xs i x → drop i xs ≡ x ∷ drop (i + 1) xs
item_next i xs x lt e = rw (add-one, drop-cons xs i x lt, ← e) refl

pub item_end : {X : Type 0} (i : ℕ) (xs : List X) → length xs ≤ i → drop i xs ≡ []
item_end i xs le = drop_of_length-le xs le

-- a sum that has terms is shown as it is
pub shown_some : (terms : List Term) → (terms ≡ [] → ⊥) → with_a_term terms ≡ terms
shown_some [] some = absurd (some refl)
shown_some (t ∷ ts) some = refl

-- terms with a weight in all are some
pub heavy_some : (terms : List Term) (bound : ℕ) → bound < weight_of terms → terms ≡ [] → ⊥
heavy_some [] bound lt e = omega (arith, lt)
heavy_some (t ∷ ts) bound lt e = cc

-- ---- the same as texts

pub texts_next : {X : Type 0} (text : List X → List ℕ) → ((a b : List X) → text (a ++ b) ≡ text a ++ text b) → (one : ℕ → List X) (whole : ℕ → ℕ → List X) → Steps one whole → (k end : ℕ) → k < end → text (whole k (end - k)) ≡ text (one k) ++ text (whole (k + 1) (end - (k + 1)))
texts_next text split one whole steps k end lt = ap text (counted_next one whole steps k end lt) ∙ split (one k) (whole (k + 1) (end - (k + 1)))

pub texts_end : {X : Type 0} (text : List X → List ℕ) (whole : ℕ → ℕ → List X) → text [] ≡ [] → ((k : ℕ) → whole k 0 ≡ []) → (k end : ℕ) → end ≤ k → text (whole k (end - k)) ≡ []
texts_end text whole nothing none k end le = ap text (counted_end whole none k end le) ∙ nothing

pub items_next : {X Y : Type 0} (text : List Y → List ℕ) → ((a b : List Y) → text (a ++ b) ≡ text a ++ text b) → (one : X → List Y) (whole : List X → List Y) → ((x : X) (xs : List X) → whole (x ∷ xs) ≡ one x ++ whole xs) → (i : ℕ) (xs : List X) (x : X) → i < length xs → x ≡ get_or xs i x → text (whole (drop i xs)) ≡ text (one x) ++ text (whole (drop (i + 1) xs))
items_next text split one whole steps i xs x lt e = ap (λ ys. text (whole ys)) (item_next i xs x lt e) ∙ ap text (steps x (drop (i + 1) xs)) ∙ split (one x) (whole (drop (i + 1) xs))

pub items_end : {X Y : Type 0} (text : List Y → List ℕ) (whole : List X → List Y) → text (whole []) ≡ [] → (i : ℕ) (xs : List X) → length xs ≤ i → text (whole (drop i xs)) ≡ []
items_end text whole nothing i xs le = ap (λ ys. text (whole ys)) (item_end i xs le) ∙ nothing

pub copies_next : {X Y : Type 0} (text : List Y → List ℕ) → ((a b : List Y) → text (a ++ b) ≡ text a ++ text b) → (one : X → List Y) (whole : List X → List Y) → ((x : X) (xs : List X) → whole (x ∷ xs) ≡ one x ++ whole xs) → (i : ℕ) (xs : List X) (d : X) → i < length xs → text (whole (drop i xs)) ≡ text (one (get_or xs i d)) ++ text (whole (drop (i + 1) xs))
copies_next text split one whole steps i xs d lt = items_next text split one whole steps i xs (get_or xs i d) lt (get_or_default xs i d (get_or xs i d) lt)

-- ---- the same as numbers

pub counts_next : {X : Type 0} (one : ℕ → List X) (whole : ℕ → ℕ → List X) → Steps one whole → (k end : ℕ) → k < end → length (whole k (end - k)) ≡ length (one k) + length (whole (k + 1) (end - (k + 1)))
counts_next one whole steps k end lt = ap length (counted_next one whole steps k end lt) ∙ length-append (one k) (whole (k + 1) (end - (k + 1)))

pub counts_end : {X : Type 0} (whole : ℕ → ℕ → List X) → ((k : ℕ) → whole k 0 ≡ []) → (k end : ℕ) → end ≤ k → length (whole k (end - k)) ≡ 0
counts_end whole none k end le = ap length (counted_end whole none k end le)

pub items_count : {X Y : Type 0} (one : X → List Y) (whole : List X → List Y) → ((x : X) (xs : List X) → whole (x ∷ xs) ≡ one x ++ whole xs) → (i : ℕ) (xs : List X) (x : X) → i < length xs → x ≡ get_or xs i x → length (whole (drop i xs)) ≡ length (one x) + length (whole (drop (i + 1) xs))
items_count one whole steps i xs x lt e = ap (λ ys. length (whole ys)) (item_next i xs x lt e) ∙ ap length (steps x (drop (i + 1) xs)) ∙ length-append (one x) (whole (drop (i + 1) xs))

pub copies_count : {X Y : Type 0} (one : X → List Y) (whole : List X → List Y) → ((x : X) (xs : List X) → whole (x ∷ xs) ≡ one x ++ whole xs) → (i : ℕ) (xs : List X) (d : X) → i < length xs → length (whole (drop i xs)) ≡ length (one (get_or xs i d)) + length (whole (drop (i + 1) xs))
copies_count one whole steps i xs d lt = items_count one whole steps i xs (get_or xs i d) lt (get_or_default xs i d (get_or xs i d) lt)

pub items_counted : {X Y : Type 0} (whole : List X → List Y) → whole [] ≡ [] → (i : ℕ) (xs : List X) → length xs ≤ i → length (whole (drop i xs)) ≡ 0
items_counted whole nothing i xs le = ap (λ ys. length (whole ys)) (item_end i xs le) ∙ ap length nothing
