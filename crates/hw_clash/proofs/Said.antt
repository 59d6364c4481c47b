-- What a clash text says where it reads.
use Rattle.std.proofs.Common.{◌≡◌, ℕ, zero, suc, ◌+◌, ◌-◌, ◌<◌, ◌≤◌, Bool, true, false, cond, nat_le, ◌&&◌, is_some, List, [], ◌∷◌, Option, Some, None, Result, Ok, slice_get, All, length, get_or, bytes_eq, codes, refl, sym, ap, subst, ◌∙◌, arith}
use Rattle.std.proofs.lemmas.Bool.{leb-true, and_parts}
use Rattle.std.proofs.lemmas.Option.{cond_some, same_Some, option_and_then_some}
use Rattle.std.proofs.lemmas.List.Elements.{All-nil, All-cons, All-head, All-weaker}
use Rattle.std.specs.List.Sorted.{IsStrictlyIncreasing}
use Rattle.std.specs.Str.Parse.{digits_value}
use Rattle.hw_lemmas.specs.Operators.{◌>>=◌}
use Rattle.hw_plan_texts.specs.Slots.{slot_form, slots_form}
use Rattle.hw_text.specs.Numbers.{is_number, number_up_to, number_from_to}
use Rattle.hw_text.specs.Parts.{words_of, put_first}
use Rattle.hw_model.specs.Problem.{IsTimetable}
use Rattle.hw_model.specs.Timetables.{Permits, first_broken}
use Rattle.hw_model_laws.proofs.Broken.{permits_from}
use Rattle.hw_clash.specs.declared.fault.ClashWord.{ClashWord}
use Rattle.hw_clash.specs.declared.fault.ClashWord.TheVariants as words
use Rattle.hw_clash.specs.Wished.{Wished, wished_count}
use Rattle.hw_clash.specs.Parts.{part}
use Rattle.hw_clash.specs.Clashing.{without_number, AreDrops}
use Rattle.hw_plan_texts.proofs.Reading.{bind_ok, formed_ok, slot_below}
use Rattle.hw_plan_texts.specs.Reading.{MalformedLine, malformed_line, formed_line, formed_line_at}
use Rattle.hw_clash.specs.Text.{ids_from, some_ids, keep_words, keep_form, drop_words, drop_form, keep_at, drop_at, drops_at}

-- ---- reading

-- ---- ids

pub record IdsFrom (least many : ℕ) (ids : List ℕ) : Type 0 where
  pub above : All (λ n. least ≤ n) ids
  pub below : All (λ n. n < many) ids
  pub ascending : IsStrictlyIncreasing ids

in_range : (least many : ℕ) (word : List ℕ) (n : ℕ) → 0 < many → number_from_to least (many - 1) word ≡ Some n → (least ≤ n) × (n < many)
in_range least many word n some e = option_and_then_some (λ m. cond (nat_le least m) (Some m) None) (number_up_to (many - 1) word) n e (λ m from kept.
    let low = cond_some (nat_le least m) m n kept in
    let high = cond_some (is_number word && nat_le (digits_value 10 word) (many - 1)) (digits_value 10 word) m from in
    let lower : least ≤ m = leb-true _ _ low.0 in
    let upper : digits_value 10 word ≤ many - 1 = leb-true _ _ (and_parts (is_number word) _ high.0).1 in
    (omega (arith, lower, low.1), omega (arith, upper, high.1, low.1, some)))

rising : (n : ℕ) (ids : List ℕ) → All (λ m. n + 1 ≤ m) ids → IsStrictlyIncreasing ids → IsStrictlyIncreasing (n ∷ ids)
rising n [] above increasing k lt = absurd (omega (arith, lt))
rising n (m ∷ ids) above increasing zero lt =
    let one : 0 + 1 ≡ 1 = omega arith in
    let first : n + 1 ≤ m = All-head (λ m. n + 1 ≤ m) m ids above in
    subst (λ i. n < get_or (n ∷ m ∷ ids) i 0) (sym one) (omega (arith, first))
rising n (m ∷ ids) above increasing (suc k) lt =
    let next : suc k + 1 ≡ suc (k + 1) = omega arith in
    subst (λ i. get_or (m ∷ ids) k 0 < get_or (n ∷ m ∷ ids) i 0) (sym next) (increasing k (omega (arith, lt)))

pub put_some : (n : ℕ) (more : Option (List ℕ)) (ids : List ℕ) → put_first (Some n) more ≡ Some ids → (rest : List ℕ) × (more ≡ Some rest) × (n ∷ rest ≡ ids)
put_some n None ids e = absurd cc
put_some n (Some rest) ids e = (rest, refl, same_Some (n ∷ rest) ids e)

pub ids_read : (least many : ℕ) (words : List (List ℕ)) (ids : List ℕ) → 0 < many → ids_from least many words ≡ Some ids → IdsFrom least many ids × (length ids ≡ length words)
ids_read least many [] ids some e =
    let none : [] ≡ ids = same_Some [] ids e in
    (subst (IdsFrom least many) none (record { above = All-nil (λ n. least ≤ n); below = All-nil (λ n. n < many); ascending = λ k lt. absurd (omega (arith, lt)) }), ap length (sym none))
ids_read least many (word ∷ words) ids some e = option_and_then_some (λ id. put_first (Some id) (ids_from (id + 1) many words)) (number_from_to least (many - 1) word) ids e (λ n from kept.
    let range = in_range least many word n some from in
    let put = put_some n (ids_from (n + 1) many words) ids kept in
    let rest = ids_read (n + 1) many words put.0 some put.1 in
    let low : least ≤ n = range.0 in (
      subst (IdsFrom least many) put.2 (record {
        above = All-cons (λ m. least ≤ m) n put.0 low (All-weaker (λ m. n + 1 ≤ m) (λ m. least ≤ m) (λ m h. omega (arith, low, h)) put.0 rest.0.above);
        below = All-cons (λ m. m < many) n put.0 range.1 rest.0.below;
        ascending = rising n put.0 rest.0.above rest.0.ascending;
      }),
      ap length (sym put.2) ∙ ap suc rest.1,
    ))

pub record KeepRead (f : Wished) (kept : List ℕ) : Type 0 where
  pub some : 1 ≤ length kept
  pub numbered : All (λ n. n < wished_count f) kept
  pub ascending : IsStrictlyIncreasing kept

some_read : (f : Wished) (words : List (List ℕ)) (kept : List ℕ) → 0 < wished_count f → some_ids (wished_count f) words ≡ Some kept → KeepRead f kept
some_read f [] kept some e = absurd cc
some_read f (word ∷ words) kept some e =
    let r = ids_read 0 (wished_count f) (word ∷ words) kept some e in
    record { some = omega (arith, r.1); numbered = r.0.below; ascending = r.0.ascending }

pub by_key : (b : Bool) (o : Option (List ℕ)) (kept : List ℕ) → cond b o None ≡ Some kept → o ≡ Some kept
by_key true o kept e = e
by_key false o kept e = absurd cc

keep_words_read : (f : Wished) (words : List (List ℕ)) (kept : List ℕ) → 0 < wished_count f → keep_words (wished_count f) words ≡ Some kept → KeepRead f kept
keep_words_read f [] kept some e = absurd cc
keep_words_read f (key ∷ words) kept some e = some_read f words kept some (by_key (bytes_eq key (codes "keep")) (some_ids (wished_count f) words) kept e)

abbrev pub kept_and : List (List ℕ) → List ℕ → Result (List ℕ × List (List ℕ)) (MalformedLine ClashWord)
kept_and rest kept = Ok (kept, rest)

abbrev pub after_keep : Wished → List ℕ × List (List ℕ) → Result (List ℕ × List (List ℕ)) (MalformedLine ClashWord)
after_keep f line = formed_line 2 words.Keep (keep_form f line.0) >>= kept_and line.1

first_same : (a b : List ℕ × List (List ℕ)) → ◌≡◌ {A = Result (List ℕ × List (List ℕ)) (MalformedLine ClashWord)} (Ok a) (Ok b) → a.0 ≡ b.0
first_same a b e = let p : a ≡ b = cc in ap (λ (x : List ℕ × List (List ℕ)). x.0) p

pub keep_read : (f : Wished) (parts : List (List ℕ)) (read : List ℕ × List (List ℕ)) → 0 < f.problem.ships → keep_at f parts ≡ Ok read → KeepRead f read.0
unfolding keep_at
keep_read f parts read some e =
    let line = bind_ok (formed_line_at 2 words.Keep parts) (after_keep f) read e in
    let kept = bind_ok (formed_line 2 words.Keep (keep_form f line.value.0)) (kept_and line.value.1) read line.then' in
    let form = formed_ok 2 words.Keep (keep_form f line.value.0) kept.value kept.is in
    subst (KeepRead f) (first_same (kept.value, line.value.1) read kept.then') (keep_words_read f (words_of line.value.0) kept.value (omega (arith, some)) form)

-- ---- timetables

pub put_parts : (o : Option ℕ) (more : Option (List ℕ)) (list : List ℕ) → put_first o more ≡ Some list → (n : ℕ) × (rest : List ℕ) × (o ≡ Some n) × (more ≡ Some rest) × (n ∷ rest ≡ list)
put_parts None more list e = absurd cc
put_parts (Some n) None list e = absurd cc
put_parts (Some n) (Some rest) list e = (n, rest, refl, refl, same_Some (n ∷ rest) list e)

slots_read : (slots many : ℕ) (words : List (List ℕ)) (list : List ℕ) → 0 < slots → slots_form slots many words ≡ Some list → (length list ≡ many) × All (λ slot. slot < slots) list
slots_read slots zero [] list some e =
    let none : [] ≡ list = same_Some [] list e in
    (ap length (sym none), subst (All (λ slot. slot < slots)) none (All-nil (λ slot. slot < slots)))
slots_read slots zero (word ∷ words) list some e = absurd cc
slots_read slots (suc many) [] list some e = absurd cc
slots_read slots (suc many) (word ∷ words) list some e =
    let p = put_parts (slot_form slots word) (slots_form slots many words) list e in
    let rest = slots_read slots many words p.1 some p.3 in
    (ap length (sym p.4) ∙ ap suc rest.0, subst (All (λ slot. slot < slots)) p.4 (All-cons (λ slot. slot < slots) p.0 p.1 (slot_below slots word p.0 some p.2) rest.1))

drop_words_read : (f : Wished) (id : ℕ) (words : List (List ℕ)) (table : List ℕ) → 0 < f.problem.slots → drop_words f id words ≡ Some table → IsTimetable f.problem table
drop_words_read f id [] table some e = absurd cc
drop_words_read f id (key ∷ []) table some e = absurd cc
drop_words_read f id (key ∷ word ∷ words) table some e =
    let form = by_key (is_some (number_from_to id id word)) (slots_form f.problem.slots f.problem.ships words) table (by_key (bytes_eq key (codes "drop")) (cond (is_some (number_from_to id id word)) (slots_form f.problem.slots f.problem.ships words) None) table e) in
    let r = slots_read f.problem.slots f.problem.ships words table some form in
    record { each_ship = r.0; each_slot = r.1 }

abbrev pub after_form : Wished → List ℕ → ℕ → ℕ → List (List ℕ) → List ℕ → Result (List ℕ × List (List ℕ)) (MalformedLine ClashWord)
after_form f kept number id rest table = cond (is_some (first_broken (part f (without_number id kept)) table)) (malformed_line number words.Table) (Ok (table, rest))

abbrev pub after_line : Wished → List ℕ → ℕ → ℕ → List ℕ × List (List ℕ) → Result (List ℕ × List (List ℕ)) (MalformedLine ClashWord)
after_line f kept number id line = formed_line number words.Drop (drop_form f id line.0) >>= after_form f kept number id line.1

pub unbroken : (o : Option ℕ) (number : ℕ) (x y : List ℕ × List (List ℕ)) → cond (is_some o) (malformed_line number words.Table) (Ok x) ≡ Ok y → (o ≡ None) × (x ≡ y)
unbroken None number x y e = (refl, cc)
unbroken (Some n) number x y e = absurd cc

drop_read : (f : Wished) (kept : List ℕ) (number id : ℕ) (parts : List (List ℕ)) (read : List ℕ × List (List ℕ)) → 0 < f.problem.slots → drop_at f kept number id parts ≡ Ok read → Permits (part f (without_number id kept)) read.0
unfolding drop_at
drop_read f kept number id parts read some e =
    let line = bind_ok (formed_line_at number words.Drop parts) (after_line f kept number id) read e in
    let table = bind_ok (formed_line number words.Drop (drop_form f id line.value.0)) (after_form f kept number id line.value.1) read line.then' in
    let form = formed_ok number words.Drop (drop_form f id line.value.0) table.value table.is in
    let last = unbroken (first_broken (part f (without_number id kept)) table.value) number (table.value, line.value.1) read table.then' in
    let is = drop_words_read f id (words_of line.value.0) table.value some form in
    let permits : Permits (part f (without_number id kept)) table.value = permits_from (part f (without_number id kept)) table.value (record { each_ship = is.each_ship; each_slot = is.each_slot }) last.0 in
    subst (Permits (part f (without_number id kept))) (ap (λ (x : List ℕ × List (List ℕ)). x.0) last.1) permits

-- each timetable is permitted by the part of the kept ones without its own
abbrev MetBy : Wished → List ℕ → List ℕ → List (List ℕ) → Type 0
MetBy f kept ids drops = (length drops ≡ length ids) × ((place n : ℕ) (table : List ℕ) → slice_get ids place ≡ Some n → slice_get drops place ≡ Some table → Permits (part f (without_number n kept)) table)

met_more : (f : Wished) (kept ids : List ℕ) (drops : List (List ℕ)) (id : ℕ) (first : List ℕ) → Permits (part f (without_number id kept)) first → MetBy f kept ids drops → (place n : ℕ) (table : List ℕ) → slice_get (id ∷ ids) place ≡ Some n → slice_get (first ∷ drops) place ≡ Some table → Permits (part f (without_number n kept)) table
met_more f kept ids drops id first permits more zero n table p q =
    subst (Permits (part f (without_number n kept))) (same_Some first table q) (subst (λ m. Permits (part f (without_number m kept)) first) (same_Some id n p) permits)
met_more f kept ids drops id first permits more (suc place) n table p q = more.1 place n table p q

abbrev pub after_more : List ℕ → List (List ℕ) × List (List ℕ) → Result (List (List ℕ) × List (List ℕ)) (MalformedLine ClashWord)
after_more table more = Ok (table ∷ more.0, more.1)

abbrev pub after_first : Wished → List ℕ → ℕ → List ℕ → List ℕ × List (List ℕ) → Result (List (List ℕ) × List (List ℕ)) (MalformedLine ClashWord)
after_first f kept number ids table = drops_at f kept (number + 1) ids table.1 >>= after_more table.0

lists_same : (a b : List (List ℕ) × List (List ℕ)) → ◌≡◌ {A = Result (List (List ℕ) × List (List ℕ)) (MalformedLine ClashWord)} (Ok a) (Ok b) → a.0 ≡ b.0
lists_same a b e = let p : a ≡ b = cc in ap (λ (x : List (List ℕ) × List (List ℕ)). x.0) p

pub drops_read : (f : Wished) (kept : List ℕ) (number : ℕ) (ids : List ℕ) (parts : List (List ℕ)) (read : List (List ℕ) × List (List ℕ)) → 0 < f.problem.slots → drops_at f kept number ids parts ≡ Ok read → MetBy f kept ids read.0
unfolding drops_at
drops_read f kept number [] parts read some e =
    let none : [] ≡ read.0 = lists_same ([], parts) read e in
    (ap length (sym none), λ place n table p q. absurd cc)
drops_read f kept number (id ∷ ids) parts read some e =
    let table = bind_ok (drop_at f kept number id parts) (after_first f kept number ids) read e in
    let more = bind_ok (drops_at f kept (number + 1) ids table.value.1) (after_more table.value.0) read table.then' in
    let permits = drop_read f kept number id parts table.value some table.is in
    let rest = drops_read f kept (number + 1) ids table.value.1 more.value some more.is in
    let all : table.value.0 ∷ more.value.0 ≡ read.0 = lists_same (table.value.0 ∷ more.value.0, more.value.1) read more.then' in
    subst (MetBy f kept (id ∷ ids)) all (ap suc rest.0, met_more f kept ids more.value.0 id table.value.0 permits rest)

pub drops_are : (f : Wished) (kept : List ℕ) (parts : List (List ℕ)) (drops : List (List ℕ)) (rest : List (List ℕ)) → 0 < f.problem.slots → drops_at f kept 3 kept parts ≡ Ok (drops, rest) → AreDrops f kept drops
drops_are f kept parts drops rest some e =
    let r = drops_read f kept 3 kept parts (drops, rest) some e in
    record { each_id = r.0; met = r.1 }
