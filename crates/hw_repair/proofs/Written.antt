-- A plan that is written reads as itself.
use Rattle.std.proofs.Common.{◌≡◌, ◌==◌, ℕ, zero, suc, ◌+◌, ◌-◌, ◌*◌, ◌<◌, ◌≤◌, ◌^◌, cond, nat_lt, Bool, true, false, List, [], ◌∷◌, ◌++◌, map, Some, Ok, All, length, codes, decimal, unwrap_or, refl, sym, ap, ◌∙◌, append_assoc, arith}
use Rattle.std.proofs.lemmas.Bool.{and_from, le-ltb, ne_eqb}
use Rattle.std.proofs.lemmas.List.Elements.{All-head, All-tail}
use Rattle.std.proofs.lemmas.List.Folds.{list_all-append}
use Rattle.std.specs.List.{list_all, list_any, range_with_len}
use Rattle.hw_text.specs.Numbers.{is_digit}
use Rattle.hw_text.specs.Parts.{parts_of, words_of, lacks, spaced, ended_lines}
use Rattle.hw_text.proofs.Joins.{cut_joined, cut_ended}
use Rattle.hw_text.proofs.Signs.{from_to_reads}
use Rattle.hw_text.proofs.Spelled.{reads_back}
use Rattle.hw_flat.proofs.TextLacks.{number_lacks, joined_lacks}
use Rattle.hw_model.specs.Limits.{IsFlat}
use Rattle.hw_model.specs.Problem.{Problem, value_at}
use Rattle.hw_model_laws.proofs.Horizon.{few_slots}
use Rattle.hw_repair.specs.declared.plan.Wish.{Wish}
use Rattle.hw_repair.specs.declared.plan.Wish.TheVariants.{Kept, Planned}
use Rattle.hw_repair.specs.Wishes.{PlanParts, PlanFits, WishFits}
use Rattle.hw_repair.specs.Text.{wish_words, wish_form, rule_has_tugs, withdrawn_words, withdrawn_form, is_large, wish_at, wishes_at, opening_at, withdrawn_at, plan_of}
use Rattle.hw_repair.specs.Written.{wish_text, wishes_text, opening_text, written_plan}
use Rattle.hw_repair.specs.Laws.{WrittenReads}
use Rattle.hw_repair.proofs.Values.{value_repairable}

abbrev Parts : Type 0
Parts = List (List ℕ)

-- ---- the lines of the text

wish_line : Wish → List ℕ
wish_line (Kept slot) = spaced (codes "k" ∷ decimal slot ∷ [])
wish_line (Planned slot from) = spaced (codes "o" ∷ decimal slot ∷ decimal from ∷ [])

withdrawn_line : ℕ → List ℕ
withdrawn_line withdrawn = spaced (codes "w" ∷ decimal withdrawn ∷ [])

head_lines : ℕ → Parts
head_lines zero = codes "plan 1" ∷ []
head_lines (suc n) = codes "plan 2" ∷ withdrawn_line (suc n) ∷ []

plan_lines : ℕ → List Wish → Parts
plan_lines withdrawn wishes = head_lines withdrawn ++ (map wish_line wishes ++ codes "end" ∷ [])

wish_is : (wish : Wish) (rest : List ℕ) → wish_text wish ++ rest ≡ wish_line wish ++ 10 ∷ rest
unfolding wish_line
wish_is (Kept slot) rest = ap (λ (xs : List ℕ). 107 ∷ 32 ∷ xs) (append_assoc (decimal slot) (10 ∷ []) rest)
wish_is (Planned slot from) rest = ap (λ (xs : List ℕ). 111 ∷ 32 ∷ xs)
    (append_assoc (decimal slot) (32 ∷ (decimal from ++ 10 ∷ [])) rest
    ∙ (ap (λ (xs : List ℕ). decimal slot ++ 32 ∷ xs) (append_assoc (decimal from) (10 ∷ []) rest)
    ∙ sym (append_assoc (decimal slot) (32 ∷ decimal from) (10 ∷ rest))))

wishes_are : (wishes : List Wish) → wishes_text wishes ++ codes "end\n" ≡ ended_lines (map wish_line wishes ++ codes "end" ∷ [])
wishes_are [] = refl
wishes_are (wish ∷ wishes) =
    append_assoc (wish_text wish) (wishes_text wishes) (codes "end\n")
    ∙ (wish_is wish (wishes_text wishes ++ codes "end\n")
    ∙ ap (λ (xs : List ℕ). wish_line wish ++ 10 ∷ xs) (wishes_are wishes))

text_is : (withdrawn : ℕ) (wishes : List Wish) → opening_text withdrawn ++ (wishes_text wishes ++ codes "end\n") ≡ ended_lines (plan_lines withdrawn wishes)
unfolding plan_lines head_lines withdrawn_line
text_is zero wishes = ap (λ (xs : List ℕ). codes "plan 1\n" ++ xs) (wishes_are wishes)
text_is (suc n) wishes =
    let some : (suc n == 0) ≡ false = ne_eqb (suc n) 0 (λ e. absurd (omega (arith, e))) in
    ap (λ (b : Bool). cond b (codes "plan 1\n") (codes "plan 2\nw " ++ (decimal (suc n) ++ codes "\n")) ++ (wishes_text wishes ++ codes "end\n")) some
    ∙ ap (λ (xs : List ℕ). codes "plan 2\nw " ++ xs)
    (append_assoc (decimal (suc n)) (10 ∷ []) (wishes_text wishes ++ codes "end\n")
    ∙ ap (λ (xs : List ℕ). decimal (suc n) ++ 10 ∷ xs) (wishes_are wishes))

-- ---- words

one_word_lacks : (c : ℕ) (key : List ℕ) (n : ℕ) → lacks c key ≡ true → is_digit c ≡ false → n < 2 ^ 64 → list_all (lacks c) (key ∷ decimal n ∷ []) ≡ true
one_word_lacks c key n first other small = and_from _ _ first (and_from _ _ (number_lacks c n other small) refl)

two_words_lack : (c : ℕ) (key : List ℕ) (n m : ℕ) → lacks c key ≡ true → is_digit c ≡ false → n < 2 ^ 64 → m < 2 ^ 64 → list_all (lacks c) (key ∷ decimal n ∷ decimal m ∷ []) ≡ true
two_words_lack c key n m first other small too = and_from _ _ first (one_word_lacks c (decimal n) m (number_lacks c n other small) other too)

wish_back : (slots : ℕ) (wish : Wish) → slots ≤ 513 → WishFits slots wish → wish_form slots (wish_line wish) ≡ Some wish
unfolding wish_line
wish_back slots (Kept slot) few fits =
    let words : words_of (wish_line (Kept slot)) ≡ codes "k" ∷ decimal slot ∷ [] = cut_joined 32 (codes "k" ∷ decimal slot ∷ []) (omega arith) (one_word_lacks 32 (codes "k") slot refl refl (omega (arith, fits, few))) in
    let read : wish_words slots (codes "k" ∷ decimal slot ∷ []) ≡ Some (Kept slot) = rw (reads_back (slots - 1) slot (omega (arith, few)) (omega (arith, fits))) refl in
    ap (wish_words slots) words ∙ read
wish_back slots (Planned slot from) few fits =
    let low : slot < slots = fits.0 in
    let low' : from < slots = fits.1 in
    let words : words_of (wish_line (Planned slot from)) ≡ codes "o" ∷ decimal slot ∷ decimal from ∷ [] = cut_joined 32 (codes "o" ∷ decimal slot ∷ decimal from ∷ []) (omega arith) (two_words_lack 32 (codes "o") slot from refl refl (omega (arith, low, few)) (omega (arith, low', few))) in
    let read : wish_words slots (codes "o" ∷ decimal slot ∷ decimal from ∷ []) ≡ Some (Planned slot from) = rw (reads_back (slots - 1) slot (omega (arith, few)) (omega (arith, low)), reads_back (slots - 1) from (omega (arith, few)) (omega (arith, low'))) refl in
    ap (wish_words slots) words ∙ read

withdrawn_back : (f : Problem) (withdrawn : ℕ) → 1 ≤ withdrawn → withdrawn ≤ 1_000 → list_all (rule_has_tugs withdrawn) f.rules ≡ true → withdrawn_form f.rules (withdrawn_line withdrawn) ≡ Some withdrawn
unfolding withdrawn_line
withdrawn_back f withdrawn some few has =
    let words : words_of (withdrawn_line withdrawn) ≡ codes "w" ∷ decimal withdrawn ∷ [] = cut_joined 32 (codes "w" ∷ decimal withdrawn ∷ []) (omega arith) (one_word_lacks 32 (codes "w") withdrawn refl refl (omega (arith, few))) in
    let read : withdrawn_words f.rules (codes "w" ∷ decimal withdrawn ∷ []) ≡ Some withdrawn = rw (from_to_reads 1 1_000 withdrawn (omega arith) some few, has) refl in
    ap (withdrawn_words f.rules) words ∙ read

-- ---- values that can be repaired

none_large : (p : ℕ → Bool) (a n : ℕ) → ((k : ℕ) → p k ≡ false) → list_any p (range_with_len a n) ≡ false
none_large p a zero none = refl
none_large p a (suc n) none = rw (none a, none_large p (a + 1) n none) refl

small : (f : Problem) (plan : PlanParts) (ship : ℕ) → IsFlat f → PlanFits f plan → is_large f ship ≡ false
small f plan ship flat fits = none_large (λ slot. nat_lt 1_000_000_000_000 (unwrap_or (value_at f ship slot) 0 * (f.ships + 1) + 1)) 0 f.slots (λ slot. le-ltb _ _ (value_repairable f plan ship slot flat.few_ships fits))

-- ---- the lines in order

-- a list of lines that is not empty
abbrev Full : Parts → Type 0
Full parts = (x : List ℕ) × (more : Parts) × (parts ≡ x ∷ more)

full_after : (xs parts : Parts) → Full parts → Full (xs ++ parts)
full_after [] parts full = full
full_after (x ∷ xs) parts full = (x, xs ++ parts, refl)

one_back : (f : Problem) (first ship : ℕ) (wish : Wish) (rest : Parts) → Full rest → f.slots ≤ 513 → WishFits f.slots wish → is_large f ship ≡ false → wish_at f first ship (wish_line wish ∷ rest) ≡ Ok (wish, rest)
unfolding wish_at
one_back f first ship wish rest full few fits none = rw (full.2, wish_back f.slots wish few fits, none) refl

wishes_back : (f : Problem) (first ship many : ℕ) (wishes : List Wish) (rest : Parts) → Full rest → f.slots ≤ 513 → length wishes ≡ many → All (WishFits f.slots) wishes → ((ship : ℕ) → is_large f ship ≡ false) → wishes_at f first ship many (map wish_line wishes ++ rest) ≡ Ok (wishes, rest)
unfolding wishes_at
wishes_back f first ship zero [] rest full few size fit none = refl
wishes_back f first ship zero (wish ∷ wishes) rest full few size fit none = absurd (omega (arith, size))
wishes_back f first ship (suc many) [] rest full few size fit none = absurd (omega (arith, size))
wishes_back f first ship (suc many) (wish ∷ wishes) rest full few size fit none =
    rw (
      one_back f first ship wish (map wish_line wishes ++ rest) (full_after (map wish_line wishes) rest full) few (All-head (WishFits f.slots) wish wishes fit) (none ship),
      wishes_back f first (ship + 1) many wishes rest full few (omega (arith, size)) (All-tail (WishFits f.slots) wish wishes fit) none,
    ) refl

lines_back : (f : Problem) (withdrawn : ℕ) (wishes : List Wish) → f.slots ≤ 513 → length wishes ≡ f.ships → All (WishFits f.slots) wishes → ((ship : ℕ) → is_large f ship ≡ false) → withdrawn ≤ 1_000 → list_all (rule_has_tugs withdrawn) f.rules ≡ true
    → plan_of f (head_lines withdrawn ++ (map wish_line wishes ++ codes "end" ∷ [] ∷ [])) ≡ Ok (record { withdrawn = withdrawn; wishes = wishes })
unfolding plan_of opening_at withdrawn_at head_lines
lines_back f zero wishes few size fit none tugs has =
    let tail : Parts = codes "end" ∷ [] ∷ [] in
    let full = full_after (map wish_line wishes) tail (codes "end", [] ∷ [], refl) in
    let read : wishes_at f 2 0 f.ships (full.0 ∷ full.1) ≡ Ok (wishes, tail) = rw (sym full.2) (wishes_back f 2 0 f.ships wishes tail (codes "end", [] ∷ [], refl) few size fit none) in
    rw (full.2, read) refl
lines_back f (suc n) wishes few size fit none tugs has =
    let tail : Parts = codes "end" ∷ [] ∷ [] in
    let full = full_after (map wish_line wishes) tail (codes "end", [] ∷ [], refl) in
    let read : wishes_at f 3 0 f.ships (full.0 ∷ full.1) ≡ Ok (wishes, tail) = rw (sym full.2) (wishes_back f 3 0 f.ships wishes tail (codes "end", [] ∷ [], refl) few size fit none) in
    rw (full.2, withdrawn_back f (suc n) (omega arith) tugs has, read) refl

-- ---- no line has a line feed

wish_lacks : (slots : ℕ) (wish : Wish) → slots ≤ 513 → WishFits slots wish → lacks 10 (wish_line wish) ≡ true
unfolding wish_line
wish_lacks slots (Kept slot) few fits = joined_lacks 10 32 (codes "k" ∷ decimal slot ∷ []) refl (one_word_lacks 10 (codes "k") slot refl refl (omega (arith, fits, few)))
wish_lacks slots (Planned slot from) few fits =
    let low : slot < slots = fits.0 in
    let low' : from < slots = fits.1 in
    joined_lacks 10 32 (codes "o" ∷ decimal slot ∷ decimal from ∷ []) refl (two_words_lack 10 (codes "o") slot from refl refl (omega (arith, low, few)) (omega (arith, low', few)))

wishes_lack : (slots : ℕ) (wishes : List Wish) → slots ≤ 513 → All (WishFits slots) wishes → list_all (lacks 10) (map wish_line wishes) ≡ true
wishes_lack slots [] few fit = refl
wishes_lack slots (wish ∷ wishes) few fit = and_from _ _ (wish_lacks slots wish few (All-head (WishFits slots) wish wishes fit)) (wishes_lack slots wishes few (All-tail (WishFits slots) wish wishes fit))

head_lacks : (withdrawn : ℕ) → withdrawn ≤ 1_000 → list_all (lacks 10) (head_lines withdrawn) ≡ true
unfolding head_lines withdrawn_line
head_lacks zero few = refl
head_lacks (suc n) few = and_from _ _ refl (and_from _ _ (joined_lacks 10 32 (codes "w" ∷ decimal (suc n) ∷ []) refl (one_word_lacks 10 (codes "w") (suc n) refl refl (omega (arith, few)))) refl)

lines_lack : (f : Problem) (plan : PlanParts) → f.slots ≤ 513 → PlanFits f plan → plan.withdrawn ≤ 1_000 → list_all (lacks 10) (plan_lines plan.withdrawn plan.wishes) ≡ true
unfolding plan_lines
lines_lack f plan few fits tugs =
    list_all-append (lacks 10) (head_lines plan.withdrawn) (map wish_line plan.wishes ++ codes "end" ∷ [])
    ∙ and_from _ _ (head_lacks plan.withdrawn tugs) (list_all-append (lacks 10) (map wish_line plan.wishes) (codes "end" ∷ []) ∙ and_from _ _ (wishes_lack f.slots plan.wishes few fits.each_wish) refl)

-- ---- the text

lines_are : (f : Problem) (plan : PlanParts) → f.slots ≤ 513 → PlanFits f plan → plan.withdrawn ≤ 1_000 → parts_of 10 (written_plan plan) ≡ head_lines plan.withdrawn ++ (map wish_line plan.wishes ++ codes "end" ∷ [] ∷ [])
unfolding plan_lines
lines_are f plan few fits tugs =
    ap (parts_of 10) (text_is plan.withdrawn plan.wishes)
    ∙ (cut_ended (plan_lines plan.withdrawn plan.wishes) (lines_lack f plan few fits tugs)
    ∙ (append_assoc (head_lines plan.withdrawn) (map wish_line plan.wishes ++ codes "end" ∷ []) ([] ∷ [])
    ∙ ap (λ (ps : Parts). head_lines plan.withdrawn ++ ps) (append_assoc (map wish_line plan.wishes) (codes "end" ∷ []) ([] ∷ []))))

pub written_reads : WrittenReads
written_reads f plan flat fits tugs has =
    let few = few_slots f flat in
    ap (plan_of f) (lines_are f plan few fits tugs)
    ∙ lines_back f plan.withdrawn plan.wishes few fits.each_ship fits.each_wish (λ ship. small f plan ship flat fits) tugs has
