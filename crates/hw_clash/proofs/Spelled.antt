-- A text that reads as a clash is the one that is written.
use Rattle.std.proofs.Common.{◌≡◌, ℕ, zero, suc, ◌+◌, ◌-◌, ◌<◌, ◌≤◌, Bool, true, false, cond, List, [], ◌∷◌, ◌++◌, map, Option, Some, None, Result, Ok, is_some, All, length, bytes_eq, codes, decimal, refl, sym, ap, ◌∙◌, append_assoc, arith}
use Rattle.std.proofs.Math.Path.{ap₂}
use Rattle.std.proofs.lemmas.List.Elements.{All-head, All-tail, All-weaker}
use Rattle.std.proofs.lemmas.Option.{same_Some, option_and_then_some}
use Rattle.hw_lemmas.specs.Operators.{◌>>=◌}
use Rattle.hw_model_laws.proofs.Horizon.{few_slots}
use Rattle.hw_plan_texts.specs.Slots.{slot_form, slots_form}
use Rattle.hw_text.specs.Numbers.{number_from_to}
use Rattle.hw_text.specs.Parts.{parts_of, words_of, first_part, at_end, put_first}
use Rattle.hw_text.proofs.Joins.{is_ended_lines}
use Rattle.hw_text.proofs.Signs.{from_to_is}
use Rattle.hw_text.proofs.Spelled.{is_spelled}
use Rattle.hw_flat.proofs.TextWords.{same_text, rejoined}
use Rattle.hw_clash.specs.declared.fault.ClashWord.{ClashWord}
use Rattle.hw_clash.specs.declared.fault.ClashWord.TheVariants as words
use Rattle.hw_clash.specs.Clashes.{Clash}
use Rattle.hw_clash.specs.Wished.{Wished, IsWished, wished_count}
use Rattle.hw_plan_texts.proofs.Reading.{bind_ok, formed_ok}
use Rattle.hw_plan_texts.specs.Reading.{MalformedLine, malformed_line, formed_line, formed_line_at, only_at, ended_at}
use Rattle.hw_clash.specs.Text.{ids_from, some_ids, keep_words, keep_form, drop_words, drop_form, keep_at, drop_at, drops_at, clash_by, clash_of}
use Rattle.hw_clash.specs.Written.{keep_line, drop_line, drop_lines, clash_lines}
use Rattle.hw_clash.specs.Laws.{OneClashText}
use Rattle.hw_clash.proofs.Said.{keep_read, put_some, put_parts, by_key, kept_and, after_keep, after_form, after_line, after_more, after_first, unbroken}
use Rattle.hw_clash.proofs.Written.{few_restrictions}

abbrev Parts : Type 0
Parts = List (List ℕ)

-- ---- numbers as words

ids_spelled : (least many : ℕ) (words : Parts) (ids : List ℕ) → many ≤ 4_080 → ids_from least many words ≡ Some ids → words ≡ map decimal ids
ids_spelled least many [] ids few e = ap (map decimal) (same_Some [] ids e)
ids_spelled least many (word ∷ words) ids few e = option_and_then_some (λ id. put_first (Some id) (ids_from (id + 1) many words)) (number_from_to least (many - 1) word) ids e (λ n from kept.
    let put = put_some n (ids_from (n + 1) many words) ids kept in
    let one = from_to_is least (many - 1) word n (omega (arith, few)) from in
    ap₂ ◌∷◌ one.0 (ids_spelled (n + 1) many words put.0 few put.1) ∙ ap (map decimal) put.2)

slots_spelled : (slots many : ℕ) (words : Parts) (table : List ℕ) → slots ≤ 513 → slots_form slots many words ≡ Some table → words ≡ map decimal table
slots_spelled slots zero [] table few e = ap (map decimal) (same_Some [] table e)
slots_spelled slots zero (word ∷ words) table few e = absurd cc
slots_spelled slots (suc many) [] table few e = absurd cc
slots_spelled slots (suc many) (word ∷ words) table few e =
    let p = put_parts (slot_form slots word) (slots_form slots many words) table e in
    let one = is_spelled (slots - 1) word p.0 (omega (arith, few)) p.2 in
    ap₂ ◌∷◌ one.0 (slots_spelled slots many words p.1 few p.3) ∙ ap (map decimal) p.4

-- ---- lines

key_is : (b : Bool) (o : Option (List ℕ)) (list : List ℕ) → cond b o None ≡ Some list → b ≡ true
key_is true o list e = refl
key_is false o list e = absurd cc

some_ids_spelled : (many : ℕ) (words : Parts) (kept : List ℕ) → many ≤ 4_080 → some_ids many words ≡ Some kept → words ≡ map decimal kept
some_ids_spelled many [] kept few e = absurd cc
some_ids_spelled many (word ∷ words) kept few e = ids_spelled 0 many (word ∷ words) kept few e

keep_words_spelled : (many : ℕ) (words : Parts) (kept : List ℕ) → many ≤ 4_080 → keep_words many words ≡ Some kept → words ≡ codes "keep" ∷ map decimal kept
keep_words_spelled many [] kept few e = absurd cc
keep_words_spelled many (key ∷ words) kept few e =
    ap₂ ◌∷◌ (same_text key (codes "keep") (key_is (bytes_eq key (codes "keep")) (some_ids many words) kept e)) (some_ids_spelled many words kept few (by_key (bytes_eq key (codes "keep")) (some_ids many words) kept e))

keep_spelled : (f : Wished) (line kept : List ℕ) → IsWished f → keep_form f line ≡ Some kept → line ≡ keep_line kept
keep_spelled f line kept flat e = rejoined 32 line (codes "keep" ∷ map decimal kept) (keep_words_spelled (wished_count f) (words_of line) kept (few_restrictions f flat) e)

there : (o : Option ℕ) → is_some o ≡ true → (n : ℕ) × (o ≡ Some n)
there None e = absurd cc
there (Some n) e = (n, refl)

id_spelled : (id : ℕ) (word : List ℕ) → id ≤ 4_080 → is_some (number_from_to id id word) ≡ true → word ≡ decimal id
id_spelled id word few e =
    let n = there (number_from_to id id word) e in
    let is = from_to_is id id word n.0 (omega (arith, few)) n.1 in
    let low : id ≤ n.0 = is.1 in
    let high : n.0 ≤ id = is.2 in
    let same : n.0 ≡ id = omega (arith, low, high) in
    is.0 ∙ ap decimal same

drop_words_spelled : (f : Wished) (id : ℕ) (words : Parts) (table : List ℕ) → IsWished f → id ≤ 4_080 → drop_words f id words ≡ Some table → words ≡ codes "drop" ∷ decimal id ∷ map decimal table
drop_words_spelled f id [] table flat few e = absurd cc
drop_words_spelled f id (key ∷ []) table flat few e = absurd cc
drop_words_spelled f id (key ∷ word ∷ words) table flat few e =
    let key_true = key_is (bytes_eq key (codes "drop")) (cond (is_some (number_from_to id id word)) (slots_form f.problem.slots f.problem.ships words) None) table e in
    let inner = by_key (bytes_eq key (codes "drop")) (cond (is_some (number_from_to id id word)) (slots_form f.problem.slots f.problem.ships words) None) table e in
    let id_true = key_is (is_some (number_from_to id id word)) (slots_form f.problem.slots f.problem.ships words) table inner in
    let slots = by_key (is_some (number_from_to id id word)) (slots_form f.problem.slots f.problem.ships words) table inner in
    ap₂ ◌∷◌ (same_text key (codes "drop") key_true) (ap₂ ◌∷◌ (id_spelled id word few id_true) (slots_spelled f.problem.slots f.problem.ships words table (few_slots f.problem flat.limits) slots))

drop_spelled : (f : Wished) (id : ℕ) (line table : List ℕ) → IsWished f → id ≤ 4_080 → drop_form f id line ≡ Some table → line ≡ drop_line id table
drop_spelled f id line table flat few e = rejoined 32 line (codes "drop" ∷ decimal id ∷ map decimal table) (drop_words_spelled f id (words_of line) table flat few e)

-- ---- the lines in order

first_is : (parts : Parts) (read : List ℕ × Parts) → first_part parts ≡ Some read → parts ≡ read.0 ∷ read.1
first_is [] read e = absurd cc
first_is (x ∷ []) read e = absurd cc
first_is (x ∷ y ∷ more) read e = ap (λ (r : List ℕ × Parts). r.0 ∷ r.1) (same_Some (x, y ∷ more) read e)

line_is : (number : ℕ) (word : ClashWord) (parts : Parts) (read : List ℕ × Parts) → formed_line_at number word parts ≡ Ok read → parts ≡ read.0 ∷ read.1
line_is number word parts read e = first_is parts read (formed_ok number word (first_part parts) read e)

by_test : (b : Bool) (number : ℕ) (word : ClashWord) (x y : Parts) → cond b (Ok x) (malformed_line number word) ≡ Ok y → (b ≡ true) × (x ≡ y)
by_test true number word x y e = (refl, cc)
by_test false number word x y e = absurd cc

abbrev after_only : ℕ → ClashWord → List ℕ → List ℕ × Parts → Result Parts (MalformedLine ClashWord)
after_only number word text line = cond (bytes_eq line.0 text) (Ok line.1) (malformed_line number word)

only_is : (number : ℕ) (word : ClashWord) (text : List ℕ) (parts rest : Parts) → only_at number word text parts ≡ Ok rest → parts ≡ text ∷ rest
only_is number word text parts rest e =
    let line = bind_ok (formed_line_at number word parts) (after_only number word text) rest e in
    let t = by_test (bytes_eq line.value.0 text) number word line.value.1 rest line.then' in
    line_is number word parts line.value line.is ∙ ap₂ ◌∷◌ (same_text line.value.0 text t.0) t.1

pair_same : {A : Type 0} (a b : A × Parts) → ◌≡◌ {A = Result (A × Parts) (MalformedLine ClashWord)} (Ok a) (Ok b) → a ≡ b
pair_same a b e = cc

keep_is : (f : Wished) (parts : Parts) (read : List ℕ × Parts) → IsWished f → keep_at f parts ≡ Ok read → parts ≡ keep_line read.0 ∷ read.1
unfolding keep_at
keep_is f parts read flat e =
    let line = bind_ok (formed_line_at 2 words.Keep parts) (after_keep f) read e in
    let kept = bind_ok (formed_line 2 words.Keep (keep_form f line.value.0)) (kept_and line.value.1) read line.then' in
    let form = formed_ok 2 words.Keep (keep_form f line.value.0) kept.value kept.is in
    line_is 2 words.Keep parts line.value line.is
    ∙ ap (λ (l : List ℕ). l ∷ line.value.1) (keep_spelled f line.value.0 kept.value flat form)
    ∙ ap (λ (r : List ℕ × Parts). keep_line r.0 ∷ r.1) (pair_same (kept.value, line.value.1) read kept.then')

drop_is : (f : Wished) (kept : List ℕ) (number id : ℕ) (parts : Parts) (read : List ℕ × Parts) → IsWished f → id ≤ 4_080 → drop_at f kept number id parts ≡ Ok read → parts ≡ drop_line id read.0 ∷ read.1
unfolding drop_at
drop_is f kept number id parts read flat few e =
    let line = bind_ok (formed_line_at number words.Drop parts) (after_line f kept number id) read e in
    let table = bind_ok (formed_line number words.Drop (drop_form f id line.value.0)) (after_form f kept number id line.value.1) read line.then' in
    let form = formed_ok number words.Drop (drop_form f id line.value.0) table.value table.is in
    let last = unbroken _ number (table.value, line.value.1) read table.then' in
    line_is number words.Drop parts line.value line.is
    ∙ ap (λ (l : List ℕ). l ∷ line.value.1) (drop_spelled f id line.value.0 table.value flat few form)
    ∙ ap (λ (r : List ℕ × Parts). drop_line id r.0 ∷ r.1) last.1

drops_are : (f : Wished) (kept : List ℕ) (number : ℕ) (ids : List ℕ) (parts : Parts) (read : List (List ℕ) × Parts) → IsWished f → All (λ n. n ≤ 4_080) ids → drops_at f kept number ids parts ≡ Ok read → parts ≡ drop_lines ids read.0 ++ read.1
unfolding drops_at
drops_are f kept number [] parts read flat few e = ap (λ (r : List (List ℕ) × Parts). drop_lines [] r.0 ++ r.1) (pair_same ([], parts) read e)
drops_are f kept number (id ∷ ids) parts read flat few e =
    let table = bind_ok (drop_at f kept number id parts) (after_first f kept number ids) read e in
    let more = bind_ok (drops_at f kept (number + 1) ids table.value.1) (after_more table.value.0) read table.then' in
    drop_is f kept number id parts table.value flat (All-head (λ n. n ≤ 4_080) id ids few) table.is
    ∙ ap (λ (ps : Parts). drop_line id table.value.0 ∷ ps) (drops_are f kept (number + 1) ids table.value.1 more.value flat (All-tail (λ n. n ≤ 4_080) id ids few) more.is)
    ∙ ap (λ (r : List (List ℕ) × Parts). drop_lines (id ∷ ids) r.0 ++ r.1) (pair_same (table.value.0 ∷ more.value.0, more.value.1) read more.then')

-- ---- the text

empty_is : (parts : Parts) → at_end parts ≡ true → parts ≡ [] ∷ []
empty_is [] e = absurd cc
empty_is ([] ∷ []) e = refl
empty_is ((b ∷ bs) ∷ []) e = absurd cc
empty_is (x ∷ y ∷ more) e = absurd (no_more x y more e)
  where
    no_more : (x y : List ℕ) (more : Parts) → at_end (x ∷ y ∷ more) ≡ true → ⊥
    no_more [] y more e = cc
    no_more (b ∷ bs) y more e = cc

ended_is : (number : ℕ) (word : ClashWord) (read clash : Clash) (parts : Parts) → ended_at number word read parts ≡ Ok clash → (read ≡ clash) × (parts ≡ [] ∷ [])
ended_is number word read clash parts e = by_end (at_end parts) refl e
  where
    by_end : (b : Bool) → at_end parts ≡ b → cond b (Ok read) (malformed_line number word) ≡ Ok clash → (read ≡ clash) × (parts ≡ [] ∷ [])
    by_end true t h = (cc, empty_is parts t)
    by_end false t h = absurd cc

abbrev after_end : List ℕ → List (List ℕ) → Parts → Result Clash (MalformedLine ClashWord)
after_end kept drops rest = ended_at (4 + length kept) words.Tail (clash_by kept drops) rest

abbrev after_drops : List ℕ → List (List ℕ) × Parts → Result Clash (MalformedLine ClashWord)
after_drops kept drops = only_at (3 + length kept) words.Tail (codes "end") drops.1 >>= after_end kept drops.0

abbrev after_kept : Wished → List ℕ × Parts → Result Clash (MalformedLine ClashWord)
after_kept f keep = drops_at f keep.0 3 keep.0 keep.1 >>= after_drops keep.0

abbrev after_header : Wished → Parts → Result Clash (MalformedLine ClashWord)
after_header f first = keep_at f first >>= after_kept f

lines_are : (f : Wished) (parts : Parts) (clash : Clash) → IsWished f → clash_of f parts ≡ Ok clash → parts ≡ clash_lines clash ++ [] ∷ []
unfolding clash_of
lines_are f parts clash flat e =
    let first = bind_ok (only_at 1 words.Header (codes "clash 1") parts) (after_header f) clash e in
    let keep = bind_ok (keep_at f first.value) (after_kept f) clash first.then' in
    let drops = bind_ok (drops_at f keep.value.0 3 keep.value.0 keep.value.1) (after_drops keep.value.0) clash keep.then' in
    let rest = bind_ok (only_at (3 + length keep.value.0) words.Tail (codes "end") drops.value.1) (after_end keep.value.0 drops.value.0) clash drops.then' in
    let last = ended_is (4 + length keep.value.0) words.Tail (clash_by keep.value.0 drops.value.0) clash rest.value rest.then' in
    let few = few_restrictions f flat in
    let read = keep_read f first.value keep.value (omega (arith, flat.limits.some_ship)) keep.is in
    let ids : All (λ n. n ≤ 4_080) keep.value.0 = All-weaker (λ n. n < wished_count f) (λ n. n ≤ 4_080) (λ n lt. omega (arith, lt, few)) keep.value.0 read.numbered in
    let tail : drops.value.1 ≡ codes "end" ∷ [] ∷ [] = only_is (3 + length keep.value.0) words.Tail (codes "end") drops.value.1 rest.value rest.is ∙ ap (λ (ps : Parts). codes "end" ∷ ps) last.1 in
    let body : keep.value.1 ≡ (drop_lines keep.value.0 drops.value.0 ++ codes "end" ∷ []) ++ [] ∷ [] =
    drops_are f keep.value.0 3 keep.value.0 keep.value.1 drops.value flat ids drops.is
    ∙ ap (λ (ps : Parts). drop_lines keep.value.0 drops.value.0 ++ ps) tail
    ∙ sym (append_assoc (drop_lines keep.value.0 drops.value.0) (codes "end" ∷ []) ([] ∷ [])) in
    only_is 1 words.Header (codes "clash 1") parts first.value first.is
    ∙ ap (λ (ps : Parts). codes "clash 1" ∷ ps) (keep_is f first.value keep.value flat keep.is ∙ ap (λ (ps : Parts). keep_line keep.value.0 ∷ ps) body)
    ∙ ap (λ (c : Clash). clash_lines c ++ [] ∷ []) last.0

pub one_clash_text : OneClashText
one_clash_text f clash bytes flat e = is_ended_lines (clash_lines clash) bytes (lines_are f (parts_of 10 bytes) clash flat e)
