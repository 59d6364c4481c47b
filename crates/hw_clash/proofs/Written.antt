-- A clash that is written reads as itself.
use Rattle.std.proofs.Common.{◌≡◌, ℕ, zero, suc, ◌+◌, ◌-◌, ◌<◌, ◌≤◌, ◌^◌, true, false, List, [], ◌∷◌, ◌++◌, map, Some, Ok, slice_get, All, length, get_or, codes, decimal, refl, sym, ap, subst, ◌∙◌, append_assoc, arith}
use Rattle.std.proofs.lemmas.Bool.{and_from}
use Rattle.std.proofs.lemmas.List.Elements.{All-head, All-tail, All-from_get_or, All-weaker}
use Rattle.std.proofs.lemmas.List.Folds.{list_all-append}
use Rattle.std.proofs.lemmas.List.Kept.{AllPairs-from_increasing}
use Rattle.std.specs.List.{list_all}
use Rattle.std.specs.List.Sorted.{IsStrictlyIncreasing}
use Rattle.hw_plan_texts.specs.Slots.{slots_form}
use Rattle.hw_text.specs.Numbers.{is_digit}
use Rattle.hw_text.specs.Parts.{parts_of, words_of, lacks}
use Rattle.hw_text.proofs.Joins.{cut_joined, cut_ended}
use Rattle.hw_text.proofs.Signs.{from_to_reads}
use Rattle.hw_text.proofs.Spelled.{reads_back}
use Rattle.hw_flat.proofs.TextLacks.{number_lacks, joined_lacks}
use Rattle.hw_model_laws.proofs.Broken.{from_permits}
use Rattle.hw_model.specs.Problem.{IsTimetable}
use Rattle.hw_model.specs.Timetables.{Permits}
use Rattle.hw_model_laws.proofs.Horizon.{few_slots}
use Rattle.hw_clash.specs.Clashes.{Clash}
use Rattle.hw_clash.specs.Wished.{Wished, IsWished, wished_count}
use Rattle.hw_clash.specs.Parts.{part}
use Rattle.hw_clash.specs.Clashing.{without_number}
use Rattle.hw_clash.specs.Read.{SaysClash}
use Rattle.hw_clash.specs.Text.{ids_from, some_ids, keep_words, keep_form, drop_words, drop_form, keep_at, drop_at, drops_at, clash_of}
use Rattle.hw_clash.specs.Written.{keep_line, drop_line, drop_lines, clash_lines, written_clash}
use Rattle.hw_clash.specs.Laws.{WrittenClashReads}
use Rattle.hw_clash.proofs.Irreducible.{slots_there}

abbrev Small : ℕ → Type 0
Small n = n < 2 ^ 64

-- ---- numbers as words

numbers_lack : (c : ℕ) (ns : List ℕ) → is_digit c ≡ false → All Small ns → list_all (lacks c) (map decimal ns) ≡ true
numbers_lack c [] other small = refl
numbers_lack c (n ∷ ns) other small = and_from _ _ (number_lacks c n other (All-head Small n ns small)) (numbers_lack c ns other (All-tail Small n ns small))

-- a number is read with the others after it
pub ids_back : (least many : ℕ) (ids : List ℕ) → many ≤ 4_080 → All (λ n. least ≤ n) ids → All (λ n. n < many) ids → IsStrictlyIncreasing ids → ids_from least many (map decimal ids) ≡ Some ids
ids_back least many [] few above below increasing = refl
ids_back least many (n ∷ ids) few above below increasing =
    let low : least ≤ n = All-head (λ m. least ≤ m) n ids above in
    let high : n < many = All-head (λ m. m < many) n ids below in
    let later : All (λ m. n + 1 ≤ m) ids = All-from_get_or (λ m. n + 1 ≤ m) ids 0 (λ i lt. let p : n < get_or ids i 0 = AllPairs-from_increasing (n ∷ ids) increasing 0 (suc i) 0 (omega arith) (omega (arith, lt)) in omega (arith, p)) in
    let rising : IsStrictlyIncreasing ids = λ k lt. let e : suc k + 1 ≡ suc (k + 1) = omega arith in subst (λ i. get_or ids k 0 < get_or (n ∷ ids) i 0) e (increasing (suc k) (omega (arith, lt))) in
    rw (from_to_reads least (many - 1) n (omega (arith, few)) low (omega (arith, high)), ids_back (n + 1) many ids few later (All-tail (λ m. m < many) n ids below) rising) refl

slots_back : (slots many : ℕ) (table : List ℕ) → 0 < slots → slots ≤ 513 → length table ≡ many → All (λ slot. slot < slots) table → slots_form slots many (map decimal table) ≡ Some table
slots_back slots zero [] some few size each = refl
slots_back slots zero (slot ∷ table) some few size each = absurd (omega (arith, size))
slots_back slots (suc many) [] some few size each = absurd (omega (arith, size))
slots_back slots (suc many) (slot ∷ table) some few size each =
    let low : slot < slots = All-head (λ s. s < slots) slot table each in
    rw (reads_back (slots - 1) slot (omega (arith, few)) (omega (arith, low)), slots_back slots many table some few (omega (arith, size)) (All-tail (λ s. s < slots) slot table each)) refl

-- ---- lines

keep_words_lack : (c : ℕ) (kept : List ℕ) → lacks c (codes "keep") ≡ true → is_digit c ≡ false → All Small kept → list_all (lacks c) (codes "keep" ∷ map decimal kept) ≡ true
keep_words_lack c kept key other small = and_from _ _ key (numbers_lack c kept other small)

drop_words_lack : (c id : ℕ) (table : List ℕ) → lacks c (codes "drop") ≡ true → is_digit c ≡ false → Small id → All Small table → list_all (lacks c) (codes "drop" ∷ decimal id ∷ map decimal table) ≡ true
drop_words_lack c id table key other small each = and_from _ _ key (and_from _ _ (number_lacks c id other small) (numbers_lack c table other each))

small_below : (most : ℕ) (ns : List ℕ) → most ≤ 4_080 → All (λ n. n < most) ns → All Small ns
small_below most ns few each = All-weaker (λ n. n < most) Small (λ n lt. omega (arith, lt, few)) ns each

some_ids_back : (many : ℕ) (kept : List ℕ) → many ≤ 4_080 → 1 ≤ length kept → All (λ n. n < many) kept → IsStrictlyIncreasing kept → some_ids many (map decimal kept) ≡ Some kept
some_ids_back many [] few some below increasing = absurd (omega (arith, some))
some_ids_back many (n ∷ kept) few some below increasing = ids_back 0 many (n ∷ kept) few (All-from_get_or (λ m. 0 ≤ m) (n ∷ kept) 0 (λ i lt. omega arith)) below increasing

pub few_restrictions : (f : Wished) → IsWished f → wished_count f ≤ 4_080
few_restrictions f flat = omega (arith, flat.limits.few_ships, flat.limits.few_rules, flat.few_wishes)

keep_back : (f : Wished) (clash : Clash) → IsWished f → SaysClash f clash → keep_form f (keep_line clash.kept) ≡ Some clash.kept
keep_back f clash flat says =
    let few = few_restrictions f flat in
    let words : words_of (keep_line clash.kept) ≡ codes "keep" ∷ map decimal clash.kept = cut_joined 32 (codes "keep" ∷ map decimal clash.kept) (omega arith) (keep_words_lack 32 clash.kept refl refl (small_below (wished_count f) clash.kept few says.numbered)) in
    ap (keep_words (wished_count f)) words ∙ some_ids_back (wished_count f) clash.kept few says.some says.numbered says.ascending

drop_back : (f : Wished) (id : ℕ) (table : List ℕ) → IsWished f → id < wished_count f → IsTimetable f.problem table → drop_form f id (drop_line id table) ≡ Some table
drop_back f id table flat lt is =
    let few = few_restrictions f flat in
    let few' = few_slots f.problem flat.limits in
    let words : words_of (drop_line id table) ≡ codes "drop" ∷ decimal id ∷ map decimal table = cut_joined 32 (codes "drop" ∷ decimal id ∷ map decimal table) (omega arith) (drop_words_lack 32 id table refl refl (omega (arith, lt, few)) (small_below f.problem.slots table (omega (arith, few')) is.each_slot)) in
    let read : drop_words f id (codes "drop" ∷ decimal id ∷ map decimal table) ≡ Some table = rw (from_to_reads id id id (omega (arith, lt, few)) (omega arith) (omega arith)) (slots_back f.problem.slots f.problem.ships table (slots_there f flat.limits) few' is.each_ship is.each_slot) in
    ap (drop_words f id) words ∙ read

-- ---- the lines in order

abbrev Parts : Type 0
Parts = List (List ℕ)

-- a list of lines that is not empty
abbrev Full : Parts → Type 0
Full parts = (x : List ℕ) × (more : Parts) × (parts ≡ x ∷ more)

full_after : (xs parts : Parts) → Full parts → Full (xs ++ parts)
full_after [] parts full = full
full_after (x ∷ xs) parts full = (x, xs ++ parts, refl)

-- each timetable is permitted by the part of the kept ones without its own
abbrev MetBy : Wished → List ℕ → List ℕ → List (List ℕ) → Type 0
MetBy f kept ids drops = (place n : ℕ) (table : List ℕ) → slice_get ids place ≡ Some n → slice_get drops place ≡ Some table → Permits (part f (without_number n kept)) table

one_back : (f : Wished) (kept : List ℕ) (number id : ℕ) (table : List ℕ) (rest : Parts) → Full rest → IsWished f → id < wished_count f → Permits (part f (without_number id kept)) table → drop_at f kept number id (drop_line id table ∷ rest) ≡ Ok (table, rest)
unfolding drop_at
one_back f kept number id table rest full flat lt permits =
    let is : IsTimetable f.problem table = record { each_ship = permits.listed.each_ship; each_slot = permits.listed.each_slot } in
    rw (full.2, drop_back f id table flat lt is, from_permits (part f (without_number id kept)) table permits) refl

pub drops_back : (f : Wished) (kept : List ℕ) (number : ℕ) (ids : List ℕ) (drops : List (List ℕ)) (rest : Parts) → Full rest → IsWished f → All (λ n. n < wished_count f) ids → length drops ≡ length ids → MetBy f kept ids drops
    → drops_at f kept number ids (drop_lines ids drops ++ rest) ≡ Ok (drops, rest)
unfolding drops_at
drops_back f kept number [] [] rest full flat below size met = refl
drops_back f kept number [] (table ∷ drops) rest full flat below size met = absurd (omega (arith, size))
drops_back f kept number (id ∷ ids) [] rest full flat below size met = absurd (omega (arith, size))
drops_back f kept number (id ∷ ids) (table ∷ drops) rest full flat below size met =
    rw (
      one_back f kept number id table (drop_lines ids drops ++ rest) (full_after (drop_lines ids drops) rest full) flat (All-head (λ n. n < wished_count f) id ids below) (met 0 id table refl refl),
      drops_back f kept (number + 1) ids drops rest full flat (All-tail (λ n. n < wished_count f) id ids below) (omega (arith, size)) (λ place n t p q. met (suc place) n t p q),
    ) refl

-- ---- no line has a line feed

drops_lack : (f : Wished) (kept ids : List ℕ) (drops : List (List ℕ)) → IsWished f → All (λ n. n < wished_count f) ids → MetBy f kept ids drops → list_all (lacks 10) (drop_lines ids drops) ≡ true
drops_lack f kept [] drops flat below met = refl
drops_lack f kept (id ∷ ids) [] flat below met = refl
drops_lack f kept (id ∷ ids) (table ∷ drops) flat below met =
    let few = few_restrictions f flat in
    let few' = few_slots f.problem flat.limits in
    let lt : id < wished_count f = All-head (λ n. n < wished_count f) id ids below in
    let each : All (λ slot. slot < f.problem.slots) table = (met 0 id table refl refl).listed.each_slot in
    and_from _ _ (joined_lacks 10 32 (codes "drop" ∷ decimal id ∷ map decimal table) refl (drop_words_lack 10 id table refl refl (omega (arith, lt, few)) (small_below f.problem.slots table (omega (arith, few')) each)))
    (drops_lack f kept ids drops flat (All-tail (λ n. n < wished_count f) id ids below) (λ place n t p q. met (suc place) n t p q))

lines_lack : (f : Wished) (clash : Clash) → IsWished f → SaysClash f clash → list_all (lacks 10) (clash_lines clash) ≡ true
lines_lack f clash flat says =
    and_from _ _ refl
    (and_from _ _ (joined_lacks 10 32 (codes "keep" ∷ map decimal clash.kept) refl (keep_words_lack 10 clash.kept refl refl (small_below (wished_count f) clash.kept (few_restrictions f flat) says.numbered)))
    (list_all-append (lacks 10) (drop_lines clash.kept clash.drops) (codes "end" ∷ []) ∙ and_from _ _ (drops_lack f clash.kept clash.kept clash.drops flat says.numbered says.drops.met) refl))

-- ---- the text

lines_back : (f : Wished) (clash : Clash) → IsWished f → SaysClash f clash → clash_of f (codes "clash 1" ∷ keep_line clash.kept ∷ (drop_lines clash.kept clash.drops ++ codes "end" ∷ [] ∷ [])) ≡ Ok clash
unfolding clash_of keep_at
lines_back f clash flat says =
    let tail : Parts = codes "end" ∷ [] ∷ [] in
    let full = full_after (drop_lines clash.kept clash.drops) tail (codes "end", [] ∷ [], refl) in
    let drops : drops_at f clash.kept 3 clash.kept (full.0 ∷ full.1) ≡ Ok (clash.drops, tail) = rw (sym full.2) (drops_back f clash.kept 3 clash.kept clash.drops tail (codes "end", [] ∷ [], refl) flat says.numbered says.drops.each_id says.drops.met) in
    rw (full.2, keep_back f clash flat says, drops) refl

pub written_reads : WrittenClashReads
written_reads f clash flat says =
    let lines : parts_of 10 (written_clash clash) ≡ codes "clash 1" ∷ keep_line clash.kept ∷ (drop_lines clash.kept clash.drops ++ codes "end" ∷ [] ∷ []) =
    cut_ended (clash_lines clash) (lines_lack f clash flat says) ∙ ap (λ (ps : Parts). codes "clash 1" ∷ keep_line clash.kept ∷ ps) (append_assoc (drop_lines clash.kept clash.drops) (codes "end" ∷ []) ([] ∷ [])) in
    ap (clash_of f) lines ∙ lines_back f clash flat says
