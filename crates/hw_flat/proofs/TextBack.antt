-- What is written reads back.
use Rattle.std.proofs.Common.{T, IsTrue, ◌≡◌, ℕ, ℤ, zero, suc, ◌+◌, ◌*◌, ◌-◌, ◌<◌, ◌≤◌, ◌≤ℤ◌, ◌^◌, ◌||◌, Bool, true, false, cond, List, [], ◌∷◌, ◌++◌, map, length, take, drop, Option, Some, None, Ok, refl, sym, ap, ◌∙◌, arith, codes, decimal, bytes_eq, slice_get, unwrap_or, option_and_then, All, AllPairs, append_assoc, inl, inr, ltb, pos, neg_ℤ}
use Rattle.std.proofs.lemmas.Bool.{and_from, le-leb, lt-ltb, or_left, or_right, cases_order}
use Rattle.std.proofs.lemmas.Int.{ints}
use Rattle.std.proofs.lemmas.List.{length-take, length-drop, take-append-drop}
use Rattle.std.proofs.lemmas.List.Elements.{All-nil, All-cons, All-head, All-tail}
use Rattle.std.proofs.lemmas.List.Folds.{list_all-append}
use Rattle.std.specs.Fmt.{signed_decimal}
use Rattle.std.specs.Int.Signed.{le_z}
use Rattle.std.specs.List.{list_all}
use Rattle.hw_model.specs.declared.rule.Hole.{Hole}
use Rattle.hw_model.specs.declared.rule.Job.{Job}
use Rattle.hw_model.specs.declared.rule.Rule.{Rule}
use Rattle.hw_model.specs.declared.rule.Rule.TheVariants.{Pair, After, Tugs}
use Rattle.hw_model.specs.declared.rule.Step.{Step}
use Rattle.hw_model.specs.Limits.{HoleFits, JobFits, TugsFit}
use Rattle.hw_model.specs.Problem.{Problem, horizon}
use Rattle.hw_text.specs.Numbers.{is_digit}
use Rattle.hw_text.specs.Parts.{parts_of, words_of, spaced, lacks}
use Rattle.hw_text.proofs.Digits.{own}
use Rattle.hw_text.proofs.Spelled.{reads_back}
use Rattle.hw_text.proofs.Signs.{from_to_reads, signed_reads}
use Rattle.hw_text.proofs.Joins.{cut_joined, cut_ended}
use Rattle.std.proofs.lemmas.Fmt.{digits_decimal}
use Rattle.hw_flat.specs.declared.fault.FlatWord.{FlatWord}
use Rattle.hw_flat.specs.declared.fault.FlatWord.TheVariants as words
use Rattle.hw_flat.specs.Text.{line_at, row_at, rows_at, rules_at, hours_needed, problem_of, problem_of_lines}
use Rattle.hw_flat.specs.TextForms.{header_form, size_words, size_form, ship_word, hole_parts, hole_form, job_parts, job_form, items_of, some_items, ascend_from, most_fleet, step_parts, step_form, front_items, steps_ascend_from, hours_words, rule_words, rule_form, any_hours, value_word, last_values, row_values, row_words, row_form}
use Rattle.hw_flat.specs.TextWritten.{header_text, size_text, value_text, stay_text, row_texts, row_text, hole_text, job_text, step_text, rule_texts, rule_text, rows_in, problem_lines, problem_text}
use Rattle.hw_flat.specs.TextLaws.{ReadsBack}
use Rattle.hw_flat.proofs.HourRules.{StepIn, RuleIn, fleet_within, most_small, each_in, needed_here}
use Rattle.hw_flat.proofs.TextWords.{same_text}
use Rattle.hw_flat.proofs.TextRows.{width, last_in, RowsFit, text_is}
use Rattle.hw_flat.proofs.TextLacks.{apart_space, apart_end, number_lacks, joined_lacks, hole_parts_lack, job_parts_lack, step_parts_lack, row_lacks, rule_lacks}

-- joined words are cut into the same words
cut_words : (words : List (List ℕ)) → 1 ≤ length words → list_all (lacks 32) words ≡ true → words_of (spaced words) ≡ words
cut_words words some h = cut_joined 32 words some h

ship_back : (ships v : ℕ) → ships ≤ 40 → v < ships → ship_word ships (decimal v) ≡ Some v
ship_back ships v few lt = rw (reads_back ships v (omega (arith, few)) (omega (arith, lt)), lt-ltb v ships lt) refl

ordered : (a b : ℤ) → a ≤ℤ b → le_z a b ≡ true
ordered a b h = by_test (le_z a b) h.le
  where
    by_test : (t : Bool) → T t → t ≡ true
    by_test true u = refl
    by_test false u = absurd u

hole_back : (hole : Hole) → HoleFits hole → hole_form (hole_text hole) ≡ Some hole
hole_back hole fits =
    let low : hole.lo ≤ℤ pos 1_023 = omega (arith, ints, fits.ordered, fits.to_most) in
    let high : neg_ℤ (pos 1_023) ≤ℤ hole.hi = omega (arith, ints, fits.ordered, fits.from_least) in
    let cut : parts_of 58 (hole_text hole) ≡ signed_decimal hole.lo ∷ signed_decimal hole.hi ∷ [] = cut_joined 58 (signed_decimal hole.lo ∷ signed_decimal hole.hi ∷ []) (omega arith) (hole_parts_lack 58 hole refl refl fits) in
    let read : hole_parts (signed_decimal hole.lo ∷ signed_decimal hole.hi ∷ []) ≡ Some hole =
    rw (signed_reads 1_023 hole.lo (omega arith) fits.from_least low, signed_reads 1_023 hole.hi (omega arith) high fits.to_most, ordered hole.lo hole.hi fits.ordered) refl in
    ap hole_parts cut ∙ read

job_parts_cut : (ships : ℕ) (job : Job) → ships ≤ 40 → JobFits ships job → parts_of 58 (job_text job) ≡ decimal job.ship ∷ decimal job.tugs ∷ decimal job.hold ∷ []
job_parts_cut ships job few fits = cut_joined 58 (decimal job.ship ∷ decimal job.tugs ∷ decimal job.hold ∷ []) (omega arith) (job_parts_lack 58 ships job refl few fits)

job_back : (ships : ℕ) (job : Job) → ships ≤ 40 → JobFits ships job → job_form ships (job_text job) ≡ Some job
job_back ships job few fits =
    let read : job_parts ships (decimal job.ship ∷ decimal job.tugs ∷ decimal job.hold ∷ []) ≡ Some job =
    rw (ship_back ships job.ship few fits.ship_in, from_to_reads 1 64 job.tugs (omega arith) fits.some_tugs fits.few_tugs, from_to_reads 1 1_024 job.hold (omega arith) fits.some_hold fits.short_hold) refl in
    ap (job_parts ships) (job_parts_cut ships job few fits) ∙ read

items_back : {A : Type 0} (form : List ℕ → Option A) (text : A → List ℕ) (Fits : A → Type 0) (each : (x : A) → Fits x → form (text x) ≡ Some x) (most : ℕ) (xs : List A) → All Fits xs → length xs ≤ most → items_of form most (map text xs) ≡ Some xs
items_back form text Fits each most [] h few = refl
items_back form text Fits each zero (x ∷ xs) h few = absurd (omega (arith, few))
items_back form text Fits each (suc most) (x ∷ xs) h few = rw (each x (All-head Fits x xs h), items_back form text Fits each most xs (All-tail Fits x xs h) (omega (arith, few))) refl

some_items_back : {A : Type 0} (form : List ℕ → Option A) (text : A → List ℕ) (Fits : A → Type 0) (each : (x : A) → Fits x → form (text x) ≡ Some x) (most : ℕ) (xs : List A) → All Fits xs → 1 ≤ length xs → length xs ≤ most → some_items form most (map text xs) ≡ Some xs
some_items_back form text Fits each most [] h some few = absurd (omega (arith, some))
some_items_back form text Fits each most (x ∷ xs) h some few = items_back form text Fits each most (x ∷ xs) h few

pub ascend_back : (least : ℕ) (jobs : List Job) → All (λ j. least ≤ j.ship) jobs → AllPairs (λ a b. a.ship < b.ship) jobs → ascend_from least jobs ≡ true
ascend_back least [] low pairs = refl
ascend_back least (job ∷ jobs) low pairs =
    and_from _ _ (le-leb least job.ship (All-head (λ j. least ≤ j.ship) job jobs low))
    (ascend_back (job.ship + 1) jobs (λ k d lt. let p = pairs 0 (suc k) d (omega arith) (omega (arith, lt)) in omega (arith, p)) (λ i j d lt within. pairs (suc i) (suc j) d (omega (arith, lt)) (omega (arith, within))))

steps_back : (least : ℕ) (steps : List Step) → All (λ s. least ≤ s.from) steps → AllPairs (λ a b. a.from < b.from) steps → steps_ascend_from least steps ≡ true
steps_back least [] low pairs = refl
steps_back least (step ∷ steps) low pairs =
    and_from _ _ (le-leb least step.from (All-head (λ s. least ≤ s.from) step steps low))
    (steps_back (step.from + 1) steps (λ k d lt. let p = pairs 0 (suc k) d (omega arith) (omega (arith, lt)) in omega (arith, p)) (λ i j d lt within. pairs (suc i) (suc j) d (omega (arith, lt)) (omega (arith, within))))

step_back : (slots : ℕ) (step : Step) → slots ≤ 512 → StepIn slots step → step_form slots (step_text step) ≡ Some step
step_back slots step few fits =
    let cut : parts_of 58 (step_text step) ≡ decimal step.from ∷ decimal step.fleet ∷ [] = cut_joined 58 (decimal step.from ∷ decimal step.fleet ∷ []) (omega arith) (step_parts_lack 58 slots step refl few fits) in
    let read : step_parts slots (decimal step.from ∷ decimal step.fleet ∷ []) ≡ Some step =
    rw (from_to_reads 1 slots step.from (omega (arith, few)) fits.0.later_slot (omega (arith, fits.1)), reads_back 2_560 step.fleet (omega arith) fits.0.small_fleet, lt-ltb step.from slots fits.1) refl in
    ap (step_parts slots) cut ∙ read

-- a job is no step: it has one part more
no_step : (ships slots : ℕ) (job : Job) → ships ≤ 40 → JobFits ships job → step_form slots (job_text job) ≡ None
no_step ships slots job few fits = ap (step_parts slots) (job_parts_cut ships job few fits)

no_steps : (ships slots : ℕ) (jobs : List Job) → ships ≤ 40 → All (JobFits ships) jobs → front_items (step_form slots) (map job_text jobs) ≡ ([], map job_text jobs)
no_steps ships slots [] few each = refl
no_steps ships slots (job ∷ jobs) few each = rw (no_step ships slots job few (All-head (JobFits ships) job jobs each)) refl

front_back : {A : Type 0} (form : List ℕ → Option A) (text : A → List ℕ) (Fits : A → Type 0) (each : (x : A) → Fits x → form (text x) ≡ Some x) (xs : List A) (words : List (List ℕ)) → All Fits xs → front_items form words ≡ ([], words) → front_items form (map text xs ++ words) ≡ (xs, words)
front_back form text Fits each [] words h none = none
front_back form text Fits each (x ∷ xs) words h none = rw (each x (All-head Fits x xs h), front_back form text Fits each xs words (All-tail Fits x xs h) none) refl

rule_words_back : (hours : Bool) (ships slots : ℕ) (rule : Rule) → ships ≤ 40 → slots ≤ 512 → RuleIn hours ships slots rule → rule_words hours ships slots (rule_texts rule) ≡ Some rule
rule_words_back hours ships slots (Pair v w holes) few few' r =
    let fits = r.fits in
    rw (ship_back ships v few (omega (arith, fits.ascends, fits.ship_in)), ship_back ships w few fits.ship_in, some_items_back hole_form hole_text HoleFits hole_back 8 holes fits.each_hole fits.some_hole fits.few_holes, lt-ltb v w fits.ascends) refl
rule_words_back hours ships slots (After v w gap) few few' r =
    let fits = r.fits in
    let two : (ltb v w || ltb w v) ≡ true =
    elim (cases_order v w) [
      | inl same ↦ absurd (fits.two_ships same)
      | inr (inl below) ↦ or_left _ _ (lt-ltb v w below)
      | inr (inr above) ↦ or_right _ _ (lt-ltb w v above)
    ] in
    rw (ship_back ships v few fits.first_in, ship_back ships w few fits.second_in, reads_back 512 gap (omega arith) fits.short_gap, two) refl
rule_words_back hours ships slots (Tugs fleet [] jobs) few few' r =
    let fits = r.fits in
    let most = most_small hours in
    rw (reads_back (most_fleet hours) fleet (omega (arith, most)) (fleet_within hours fleet jobs fits.small_fleet r.told), some_items_back (job_form ships) job_text (JobFits ships) (λ job h. job_back ships job few h) 40 jobs fits.each_job fits.some_job fits.few_jobs, ascend_back 0 jobs (λ k d lt. omega arith) fits.ascends) refl
rule_words_back hours ships slots (Tugs fleet (step ∷ later) jobs) few few' r =
    let fits = r.fits in
    let steps : List Step = step ∷ later in
    let front : front_items (step_form slots) (map step_text steps ++ map job_text jobs) ≡ (steps, map job_text jobs) =
    front_back (step_form slots) step_text (StepIn slots) (λ s h. step_back slots s few' h) steps (map job_text jobs) (λ k d lt. (fits.each_step k d lt, r.sails k d lt)) (no_steps ships slots jobs few fits.each_job) in
    let ascending : steps_ascend_from 1 steps ≡ true = steps_back 1 steps (λ k d lt. (fits.each_step k d lt).later_slot) fits.steps_ascend in
    rw (r.told refl) (with_hours front ascending fits)
  where
    with_hours : front_items (step_form slots) (map step_text (step ∷ later) ++ map job_text jobs) ≡ (step ∷ later, map job_text jobs) → steps_ascend_from 1 (step ∷ later) ≡ true → TugsFit ships fleet (step ∷ later) jobs
        → hours_words ships slots (decimal fleet ∷ (map step_text (step ∷ later) ++ map job_text jobs)) ≡ Some (Tugs fleet (step ∷ later) jobs)
    with_hours front ascending fits =
        rw (reads_back 2_560 fleet (omega arith) fits.small_fleet, front, some_items_back (job_form ships) job_text (JobFits ships) (λ job h. job_back ships job few h) 40 jobs fits.each_job fits.some_job fits.few_jobs, ascending, ascend_back 0 jobs (λ k d lt. omega arith) fits.ascends) refl

some_words : (rule : Rule) → 1 ≤ length (rule_texts rule)
some_words (Pair v w holes) = omega arith
some_words (After v w gap) = omega arith
some_words (Tugs fleet later jobs) = omega arith

rule_back : (hours : Bool) (ships slots : ℕ) (rule : Rule) → ships ≤ 40 → slots ≤ 512 → RuleIn hours ships slots rule → rule_form hours ships slots (rule_text rule) ≡ Some rule
rule_back hours ships slots rule few few' r =
    ap (rule_words hours ships slots) (cut_words (rule_texts rule) (some_words rule) (rule_lacks 32 ships slots rule apart_space few few' r.fits r.sails)) ∙ rule_words_back hours ships slots rule few few' r

-- a number is no dash
no_dash : (n : ℕ) → n < 2 ^ 64 → bytes_eq (decimal n) (codes "-") ≡ false
no_dash n small =
    elim (bytes_eq (decimal n) (codes "-")) as (λ b. bytes_eq (decimal n) (codes "-") ≡ b → b ≡ false) [
      | true ↦ λ e. sym (digits_decimal own n small) ∙ ap (list_all is_digit) {x = decimal n} {y = codes "-"} (same_text (decimal n) (codes "-") e)
      | false ↦ λ e. refl
    ] refl

value_back : (value : Option ℕ) → unwrap_or value 0 ≤ 1_000_000_000_000 → value_word (value_text value) ≡ Some value
value_back None small = refl
value_back (Some n) small = rw (no_dash n (omega (arith, small)), reads_back 1_000_000_000_000 n (omega arith) small) refl

last_back : (stay : Bool) (row : List (Option ℕ)) → length row ≡ width stay 0 → (IsTrue stay → last_in row 0 ≡ 0) → last_values stay (map stay_text row) ≡ Some row
last_back false [] size last = refl
last_back false (v ∷ row) size last = absurd (omega (arith, size))
last_back true [] size last = absurd (omega (arith, size))
last_back true (v ∷ w ∷ row) size last = absurd (omega (arith, size))
last_back true (None ∷ []) size last = refl
last_back true (Some n ∷ []) size last = let z : n ≡ 0 = last refl in rw z refl

values_back : (stay : Bool) (slots : ℕ) (row : List (Option ℕ)) → length row ≡ width stay slots → All (λ v. unwrap_or v 0 ≤ 1_000_000_000_000) row → (IsTrue stay → last_in row slots ≡ 0) → row_values stay slots (row_texts slots row) ≡ Some row
values_back stay zero row size small last = last_back stay row size last
values_back stay (suc slots) [] size small last = absurd (elim stay as (λ b. 0 ≡ width b (suc slots) → ⊥) [ true ↦ λ e. omega (arith, e) | false ↦ λ e. omega (arith, e) ] size)
values_back stay (suc slots) (v ∷ row) size small last =
    rw (value_back v (All-head (λ x. unwrap_or x 0 ≤ 1_000_000_000_000) v row small), values_back stay slots row (narrower stay size) (All-tail (λ x. unwrap_or x 0 ≤ 1_000_000_000_000) v row small) last) refl
  where
    narrower : (b : Bool) → suc (length row) ≡ width b (suc slots) → length row ≡ width b slots
    narrower true e = omega (arith, e)
    narrower false e = omega (arith, e)

row_back : (stay : Bool) (slots : ℕ) (row : List (Option ℕ)) → length row ≡ width stay slots → All (λ v. unwrap_or v 0 ≤ 1_000_000_000_000) row → (IsTrue stay → last_in row slots ≡ 0) → row_form stay slots (row_text slots row) ≡ Some row
row_back stay slots row size small last = ap (row_words stay slots) (cut_words (codes "v" ∷ row_texts slots row) (omega arith) (row_lacks 32 slots row apart_space small)) ∙ values_back stay slots row size small last

-- ---- lines

abbrev Parts : Type 0
Parts = List (List ℕ)

-- a list of lines that is not empty
abbrev Full : Parts → Type 0
Full parts = (x : List ℕ) × (more : Parts) × (parts ≡ x ∷ more)

full_after : (xs parts : Parts) → Full parts → Full (xs ++ parts)
full_after [] parts full = full
full_after (x ∷ xs) parts full = (x, xs ++ parts, refl)

line_back : (number : ℕ) (word : FlatWord) (line : List ℕ) (parts : Parts) → Full parts → line_at number word (line ∷ parts) ≡ Ok (line, parts)
line_back number word line parts full = rw full.2 refl

get_taken : (n i : ℕ) (xs : List (Option ℕ)) → i < n → slice_get (take n xs) i ≡ slice_get xs i
get_taken zero i xs lt = absurd (omega (arith, lt))
get_taken (suc n) i [] lt = refl
get_taken (suc n) zero (x ∷ xs) lt = refl
get_taken (suc n) (suc i) (x ∷ xs) lt = get_taken n i xs (omega (arith, lt))

get_dropped : (n i : ℕ) (xs : List (Option ℕ)) → slice_get (drop n xs) i ≡ slice_get xs (n + i)
get_dropped zero i xs = let e : i ≡ 0 + i = omega arith in ap (slice_get xs) e
get_dropped (suc n) i [] = refl
get_dropped (suc n) i (x ∷ xs) = let e : suc n + i ≡ suc (n + i) = omega arith in get_dropped n i xs ∙ sym (ap (slice_get (x ∷ xs)) e)

all_taken : {A : Type 0} (P : A → Type 0) (n : ℕ) (xs : List A) → All P xs → All P (take n xs)
all_taken P zero xs h = All-nil P
all_taken P (suc n) [] h = All-nil P
all_taken P (suc n) (x ∷ xs) h = All-cons P x (take n xs) (All-head P x xs h) (all_taken P n xs (All-tail P x xs h))

all_dropped : {A : Type 0} (P : A → Type 0) (n : ℕ) (xs : List A) → All P xs → All P (drop n xs)
all_dropped P zero xs h = h
all_dropped P (suc n) [] h = All-nil P
all_dropped P (suc n) (x ∷ xs) h = all_dropped P n xs (All-tail P x xs h)

abbrev Small : Option ℕ → Type 0
Small v = unwrap_or v 0 ≤ 1_000_000_000_000

abbrev worth : Option (Option ℕ) → ℕ
worth o = unwrap_or (option_and_then (λ v. v) o) 0

wide : (stay : Bool) (slots : ℕ) → IsTrue stay → slots < width stay slots
wide true slots t = omega arith
wide false slots t = absurd cc

pub rows_back : (stay : Bool) (slots number ships : ℕ) (values : List (Option ℕ)) (rest : Parts) → Full rest → RowsFit stay slots ships values → rows_at stay slots number ships (map (row_text slots) (rows_in ships (width stay slots) values) ++ rest) ≡ Ok (values, rest)
unfolding rows_at row_at
rows_back stay slots number zero values rest full fits = let e = empty values (omega (arith, fits.size)) in ap (λ (vs : List (Option ℕ)). Ok (vs, rest)) e
  where
    empty : (xs : List (Option ℕ)) → length xs ≡ 0 → [] ≡ xs
    empty [] h = refl
    empty (x ∷ xs) h = absurd (omega (arith, h))
rows_back stay slots number (suc ships) values rest full fits =
    let w : ℕ = width stay slots in
    let row : List (Option ℕ) = take w values in
    let more : List (Option ℕ) = drop w values in
    let total : length values ≡ ships * w + w = omega (arith, fits.size) in
    let size : length row ≡ w = omega (arith, length-take w values, total) in
    let left : length more ≡ ships * w = omega (arith, length-drop w values, total) in
    let last : IsTrue stay → last_in row slots ≡ 0 = λ t.
    let n : 0 * w + slots ≡ slots = omega arith in
    ap worth (get_taken w slots values (wide stay slots t)) ∙ sym (ap (last_in values) n) ∙ fits.last 0 (omega arith) t in
    let later : (ship : ℕ) → ship < ships → IsTrue stay → last_in more (ship * w + slots) ≡ 0 = λ ship lt t.
    let n : w + (ship * w + slots) ≡ suc ship * w + slots = omega arith in
    ap worth (get_dropped w (ship * w + slots) values) ∙ ap (last_in values) n ∙ fits.last (suc ship) (omega (arith, lt)) t in
    let others : RowsFit stay slots ships more = record { size = left; small = all_dropped Small w values fits.small; last = later } in
    let tail : Parts = map (row_text slots) (rows_in ships w more) ++ rest in
    let one : row_at stay slots number (row_text slots row ∷ tail) ≡ Ok (row, tail) =
    rw (line_back number words.Values (row_text slots row) tail (full_after (map (row_text slots) (rows_in ships w more)) rest full), row_back stay slots row size (all_taken Small w values fits.small) last) refl in
    rw (one, rows_back stay slots (number + 1) ships more rest full others) (ap (λ (vs : List (Option ℕ)). Ok (vs, rest)) (take-append-drop w values))

-- a rule is not the last line
no_end : (rule : Rule) → bytes_eq (rule_text rule) (codes "end") ≡ false
no_end (Pair v w holes) = refl
no_end (After v w gap) = refl
no_end (Tugs fleet [] jobs) = refl
no_end (Tugs fleet (step ∷ later) jobs) = refl

pub rules_back : (hours : Bool) (ships slots number room : ℕ) (rules : List Rule) (rest : Parts) → Full rest → ships ≤ 40 → slots ≤ 512 → All (RuleIn hours ships slots) rules → length rules ≤ room → rules_at (rule_form hours ships slots) number room (map rule_text rules ++ codes "end" ∷ rest) ≡ Ok (rules, rest)
unfolding rules_at
rules_back hours ships slots number room [] rest full few few' each count = rw full.2 refl
rules_back hours ships slots number zero (rule ∷ rules) rest full few few' each count = absurd (omega (arith, count))
rules_back hours ships slots number (suc room) (rule ∷ rules) rest full few few' each count =
    let next = full_after (map rule_text rules) (codes "end" ∷ rest) (codes "end", rest, refl) in
    let less : suc room - 1 ≡ room = omega arith in
    let more : rules_at (rule_form hours ships slots) (number + 1) (suc room - 1) (next.0 ∷ next.1) ≡ Ok (rules, rest) =
    rw (sym next.2, less) (rules_back hours ships slots (number + 1) room rules rest full few few' (All-tail (RuleIn hours ships slots) rule rules each) (omega (arith, count))) in
    rw (next.2, no_end rule, rule_back hours ships slots rule few few' (All-head (RuleIn hours ships slots) rule rules each), more) refl

header_back : (stay hours : Bool) → header_form (header_text stay hours) ≡ Some (stay, hours)
header_back true false = refl
header_back false false = refl
header_back true true = refl
header_back false true = refl

size_back : (ships slots : ℕ) → 1 ≤ ships → ships ≤ 40 → 1 ≤ slots → slots ≤ 512 → size_form (size_text ships slots) ≡ Some (ships, slots)
size_back ships slots some few some' few' =
    let lack : list_all (lacks 32) (codes "size" ∷ decimal ships ∷ decimal slots ∷ []) ≡ true =
    and_from _ _ refl (and_from _ _ (number_lacks 32 ships refl (omega (arith, few))) (and_from _ _ (number_lacks 32 slots refl (omega (arith, few'))) refl)) in
    let cut : words_of (size_text ships slots) ≡ codes "size" ∷ decimal ships ∷ decimal slots ∷ [] = cut_words (codes "size" ∷ decimal ships ∷ decimal slots ∷ []) (omega arith) lack in
    let read : size_words (codes "size" ∷ decimal ships ∷ decimal slots ∷ []) ≡ Some (ships, slots) = rw (from_to_reads 1 40 ships (omega arith) some few, from_to_reads 1 512 slots (omega arith) some' few') refl in
    ap size_words cut ∙ read

-- no line of a problem has a line feed
spaced_lacks : (words : List (List ℕ)) → list_all (lacks 10) words ≡ true → lacks 10 (spaced words) ≡ true
spaced_lacks words h = joined_lacks 10 32 words refl h

rows_lack : (stay : Bool) (slots ships : ℕ) (values : List (Option ℕ)) (w : ℕ) → All Small values → list_all (lacks 10) (map (row_text slots) (rows_in ships w values)) ≡ true
rows_lack stay slots zero values w small = refl
rows_lack stay slots (suc ships) values w small =
    and_from _ _ (spaced_lacks (codes "v" ∷ row_texts slots (take w values)) (and_from _ _ refl (row_lacks 10 slots (take w values) apart_end (all_taken Small w values small)))) (rows_lack stay slots ships (drop w values) w (all_dropped Small w values small))

rules_lack : (hours : Bool) (ships slots : ℕ) (rules : List Rule) → ships ≤ 40 → slots ≤ 512 → All (RuleIn hours ships slots) rules → list_all (lacks 10) (map rule_text rules) ≡ true
rules_lack hours ships slots [] few few' each = refl
rules_lack hours ships slots (rule ∷ rules) few few' each =
    let r = All-head (RuleIn hours ships slots) rule rules each in
    and_from _ _ (spaced_lacks (rule_texts rule) (rule_lacks 10 ships slots rule apart_end few few' r.fits r.sails)) (rules_lack hours ships slots rules few few' (All-tail (RuleIn hours ships slots) rule rules each))

lines_lack : (stay hours : Bool) (ships slots w : ℕ) (values : List (Option ℕ)) (rules : List Rule) → ships ≤ 40 → slots ≤ 512 → All Small values → All (RuleIn hours ships slots) rules
    → list_all (lacks 10) (header_text stay hours ∷ size_text ships slots ∷ (map (row_text slots) (rows_in ships w values) ++ map rule_text rules ++ codes "end" ∷ [])) ≡ true
lines_lack stay hours ships slots w values rules few few' small each =
    and_from _ _ (header stay hours)
    (and_from _ _ (spaced_lacks (codes "size" ∷ decimal ships ∷ decimal slots ∷ []) (and_from _ _ refl (and_from _ _ (number_lacks 10 ships refl (omega (arith, few))) (and_from _ _ (number_lacks 10 slots refl (omega (arith, few'))) refl))))
    (both_lack (map (row_text slots) (rows_in ships w values) ++ map rule_text rules) (codes "end" ∷ []) (both_lack (map (row_text slots) (rows_in ships w values)) (map rule_text rules) (rows_lack stay slots ships values w small) (rules_lack hours ships slots rules few few' each)) refl))
  where
    header : (b h : Bool) → lacks 10 (header_text b h) ≡ true
    header true true = refl
    header true false = refl
    header false true = refl
    header false false = refl

    both_lack : (xs ys : Parts) → list_all (lacks 10) xs ≡ true → list_all (lacks 10) ys ≡ true → list_all (lacks 10) (xs ++ ys) ≡ true
    both_lack xs ys h k = list_all-append (lacks 10) xs ys ∙ and_from _ _ h k

-- the parts of a problem's text
parts_back : (stay hours : Bool) (ships slots : ℕ) (values : List (Option ℕ)) (rules : List Rule) → 1 ≤ ships → ships ≤ 40 → 1 ≤ slots → slots ≤ 512 → RowsFit stay slots ships values → All (RuleIn hours ships slots) rules → hours_needed hours rules ≡ true → length rules ≤ 4_000
    → problem_of_lines (header_text stay hours ∷ size_text ships slots ∷ (map (row_text slots) (rows_in ships (width stay slots) values) ++ (map rule_text rules ++ codes "end" ∷ [] ∷ []))) ≡ Ok (problem_of stay (ships, slots) values rules)
parts_back stay hours ships slots values rules some few some' few' fits each needed count =
    let ends : Parts = map rule_text rules ++ codes "end" ∷ [] ∷ [] in
    let body : Parts = map (row_text slots) (rows_in ships (width stay slots) values) ++ ends in
    let full : Full ends = full_after (map rule_text rules) (codes "end" ∷ [] ∷ []) (codes "end", [] ∷ [], refl) in
    let full_body : Full body = full_after (map (row_text slots) (rows_in ships (width stay slots) values)) ends full in
    text_is (header_text stay hours ∷ size_text ships slots ∷ body) (header_text stay hours) (size_text ships slots ∷ body) (stay, hours) (size_text ships slots) body (ships, slots) values ends rules ([] ∷ [])
    (line_back 1 words.Header (header_text stay hours) (size_text ships slots ∷ body) (size_text ships slots, body, refl)) (header_back stay hours) (line_back 2 words.Size (size_text ships slots) body full_body) (size_back ships slots some few some' few')
    (rows_back stay slots 3 ships values ends full fits) (rules_back hours ships slots (3 + ships) 4_000 rules ([] ∷ []) ([], [], refl) few few' each count) needed refl

-- the numbers of a problem that may have one more slot
slots_are : (f : Problem) → 1 ≤ horizon f → f.slots ≡ width f.stay (horizon f)
slots_are f some = by_stay f.stay some
  where
    by_stay : (b : Bool) → 1 ≤ cond b (f.slots - 1) f.slots → f.slots ≡ width b (cond b (f.slots - 1) f.slots)
    by_stay true h = omega (arith, h)
    by_stay false h = refl

pub text_reads_back : ReadsBack
text_reads_back f limits writable =
    let hours : Bool = any_hours f.rules in
    let each : All (RuleIn hours f.ships (horizon f)) f.rules = each_in f.ships (horizon f) f.rules limits.each_rule limits.steps_sail in
    let slots : f.slots ≡ width f.stay (horizon f) = slots_are f limits.some_slot in
    let size : length f.values ≡ f.ships * width f.stay (horizon f) = limits.each_value ∙ ap (λ n. f.ships * n) slots in
    let last : (ship : ℕ) → ship < f.ships → IsTrue f.stay → last_in f.values (ship * width f.stay (horizon f) + horizon f) ≡ 0 = λ ship lt t. sym (ap (λ n. last_in f.values (ship * n + horizon f)) slots) ∙ writable ship lt t in
    let fits : RowsFit f.stay (horizon f) f.ships f.values = record { size = size; small = limits.small_values; last = last } in
    let lack = lines_lack f.stay hours f.ships (horizon f) f.slots f.values f.rules limits.few_ships limits.few_slots limits.small_values each in
    let rows : Parts = map (row_text (horizon f)) (rows_in f.ships f.slots f.values) in
    let split : rows ++ map rule_text f.rules ++ codes "end" ∷ [] ++ [] ∷ [] ≡ rows ++ (map rule_text f.rules ++ codes "end" ∷ [] ∷ []) =
    append_assoc (rows ++ map rule_text f.rules) (codes "end" ∷ []) ([] ∷ []) ∙ append_assoc rows (map rule_text f.rules) (codes "end" ∷ [] ∷ []) in
    let lines : parts_of 10 (problem_text f) ≡ header_text f.stay hours ∷ size_text f.ships (horizon f) ∷ (rows ++ (map rule_text f.rules ++ codes "end" ∷ [] ∷ [])) =
    cut_ended (problem_lines f) lack ∙ ap (λ ps. header_text f.stay hours ∷ size_text f.ships (horizon f) ∷ ps) split in
    let wide_rows : parts_of 10 (problem_text f) ≡ header_text f.stay hours ∷ size_text f.ships (horizon f) ∷ (map (row_text (horizon f)) (rows_in f.ships (width f.stay (horizon f)) f.values) ++ (map rule_text f.rules ++ codes "end" ∷ [] ∷ [])) =
    lines ∙ ap (λ n. header_text f.stay hours ∷ size_text f.ships (horizon f) ∷ (map (row_text (horizon f)) (rows_in f.ships n f.values) ++ (map rule_text f.rules ++ codes "end" ∷ [] ∷ []))) slots in
    ap problem_of_lines wide_rows ∙ parts_back f.stay hours f.ships (horizon f) f.values f.rules limits.some_ship limits.few_ships limits.some_slot limits.few_slots fits each (needed_here f.rules) limits.few_rules
    ∙ ap (λ n. Ok (record { ships = f.ships; slots = n; stay = f.stay; values = f.values; rules = f.rules })) (sym slots)
