-- What the words of a line are where they have its form: the words of what they say, which keeps the limits.
use Rattle.std.proofs.Common.{◌≡◌, ℕ, zero, suc, ◌+◌, ◌<◌, ◌≤◌, ◌≢◌, ◌||◌, ◌&&◌, ◌++◌, Bool, true, false, cond, List, [], ◌∷◌, map, length, Option, Some, None, refl, sym, ap, ◌∙◌, subst, arith, inl, inr, codes, decimal, bytes_eq, All, AllPairs, nat_lt}
use Rattle.std.proofs.Math.Path.{ap₂}
use Rattle.std.proofs.lemmas.Bool.{ltb-true, leb-true, and_parts, or_cases}
use Rattle.std.proofs.lemmas.List.Elements.{All-nil, All-cons}
use Rattle.std.proofs.lemmas.List.Kept.{AllPairs-cons}
use Rattle.std.proofs.lemmas.List.Splits.{join_with_byte-slice_split}
use Rattle.std.proofs.lemmas.Slice.Eq.{bytes_eq-Decides}
use Rattle.std.specs.Fmt.{signed_decimal}
use Rattle.std.specs.Bool.{passes}
use Rattle.std.specs.Int.Signed.{le_z, le_z_yes}
use Rattle.std.specs.List.{join_with_byte}
use Rattle.hw_model.specs.declared.rule.Hole.{Hole}
use Rattle.hw_model.specs.declared.rule.Job.{Job}
use Rattle.hw_model.specs.declared.rule.Rule.{Rule}
use Rattle.hw_model.specs.declared.rule.Step.{Step}
use Rattle.hw_model.specs.Limits.{HoleFits, JobFits, StepFits}
use Rattle.hw_text.specs.Numbers.{number_up_to, number_from_to, signed_up_to}
use Rattle.hw_text.specs.Parts.{parts_of, words_of, put_first}
use Rattle.hw_text.proofs.Spelled.{is_spelled}
use Rattle.hw_text.proofs.Signs.{is_signed, from_to_is}
use Rattle.hw_flat.specs.TextForms.{◌and_then◌, kept_if, ship_word, hole_parts, hole_form, job_parts, job_form, items_of, some_items, ascend_from, pair_words, after_words, most_fleet, tugs_words, step_parts, step_form, put_front, front_items, steps_ascend_from, some_ascending, with_jobs, hours_words, rule_words, rule_form}
use Rattle.hw_flat.specs.TextWritten.{hole_text, job_text, step_text, rule_texts, rule_text}
use Rattle.hw_flat.proofs.HourRules.{StepIn, RuleIn, fleet_told, most_small}

-- a step of a chain that gave something, and what came of it
pub bound : {A B : Type 0} (o : Option A) (f : A → Option B) (y : B) → (o and_then f) ≡ Some y → (x : A) × (o ≡ Some x) × (f x ≡ Some y)
bound None f y h = absurd cc
bound (Some x) f y h = (x, refl, h)

pub is_kept : {A : Type 0} (b : Bool) (x y : A) → kept_if b x ≡ Some y → (b ≡ true) × (x ≡ y)
is_kept true x y h = (refl, cc)
is_kept false x y h = absurd cc

pub first_read : {A : Type 0} (o : Option A) (p : Option (List A)) (xs : List A) → put_first o p ≡ Some xs → (x : A) × (ys : List A) × (o ≡ Some x) × (p ≡ Some ys) × (x ∷ ys ≡ xs)
first_read None p xs h = absurd cc
first_read (Some x) None xs h = absurd cc
first_read (Some x) (Some ys) xs h = (x, ys, refl, refl, cc)

-- words of one key
pub same_text : (word text : List ℕ) → bytes_eq word text ≡ true → word ≡ text
same_text word text h = (bytes_eq-Decides word text).0 h

-- a text is its parts joined
pub rejoined : (at : ℕ) (word : List ℕ) (parts : List (List ℕ)) → parts_of at word ≡ parts → word ≡ join_with_byte at parts
rejoined at word parts h = sym (join_with_byte-slice_split at word) ∙ ap (join_with_byte at) h

ship_read : (ships : ℕ) (word : List ℕ) (v : ℕ) → ships ≤ 40 → ship_word ships word ≡ Some v → (word ≡ decimal v) × (v < ships)
ship_read ships word v few h =
    let b = bound (number_up_to ships word) (λ ship. kept_if (nat_lt ship ships) ship) v h in
    let s = is_spelled ships word b.0 (omega (arith, few)) b.1 in
    let k = is_kept (nat_lt b.0 ships) b.0 v b.2 in
    let lt : b.0 < ships = ltb-true _ _ k.0 in
    (s.0 ∙ ap decimal k.1, omega (arith, lt, k.1))

hole_parts_read : (parts : List (List ℕ)) (hole : Hole) → hole_parts parts ≡ Some hole → (parts ≡ signed_decimal hole.lo ∷ signed_decimal hole.hi ∷ []) × HoleFits hole
hole_parts_read [] hole h = absurd cc
hole_parts_read (lo ∷ []) hole h = absurd cc
hole_parts_read (lo ∷ hi ∷ more ∷ parts) hole h = absurd cc
hole_parts_read (lo ∷ hi ∷ []) hole h =
    let b = bound (signed_up_to 1_023 lo) _ hole h in
    let s = is_signed 1_023 lo b.0 (omega arith) b.1 in
    let c = bound (signed_up_to 1_023 hi) _ hole b.2 in
    let t = is_signed 1_023 hi c.0 (omega arith) c.1 in
    let k = is_kept (le_z b.0 c.0) _ hole c.2 in
    let P : Hole → Type 0 = λ x. (lo ∷ hi ∷ [] ≡ signed_decimal x.lo ∷ signed_decimal x.hi ∷ []) × HoleFits x in
    let text : lo ∷ hi ∷ [] ≡ signed_decimal b.0 ∷ signed_decimal c.0 ∷ [] = ap₂ ◌∷◌ s.0 (ap₂ ◌∷◌ t.0 refl) in
    subst P k.1 (text, record { from_least = s.1; ordered = le_z_yes (passes _ k.0); to_most = t.2 })

pub hole_read : (word : List ℕ) (hole : Hole) → hole_form word ≡ Some hole → (word ≡ hole_text hole) × HoleFits hole
hole_read word hole h = let r = hole_parts_read (parts_of 58 word) hole h in (rejoined 58 word _ r.0, r.1)

job_parts_read : (ships : ℕ) (parts : List (List ℕ)) (job : Job) → ships ≤ 40 → job_parts ships parts ≡ Some job → (parts ≡ decimal job.ship ∷ decimal job.tugs ∷ decimal job.hold ∷ []) × JobFits ships job
job_parts_read ships [] job few h = absurd cc
job_parts_read ships (a ∷ []) job few h = absurd cc
job_parts_read ships (a ∷ b ∷ []) job few h = absurd cc
job_parts_read ships (a ∷ b ∷ c ∷ d ∷ parts) job few h = absurd cc
job_parts_read ships (ship ∷ tugs ∷ hold ∷ []) job few h =
    let a = bound (ship_word ships ship) _ job h in
    let r = ship_read ships ship a.0 few a.1 in
    let b = bound (number_from_to 1 64 tugs) _ job a.2 in
    let s = from_to_is 1 64 tugs b.0 (omega arith) b.1 in
    let c = bound (number_from_to 1 1_024 hold) _ job b.2 in
    let t = from_to_is 1 1_024 hold c.0 (omega arith) c.1 in
    let P : Job → Type 0 = λ x. (ship ∷ tugs ∷ hold ∷ [] ≡ decimal x.ship ∷ decimal x.tugs ∷ decimal x.hold ∷ []) × JobFits ships x in
    let text : ship ∷ tugs ∷ hold ∷ [] ≡ decimal a.0 ∷ decimal b.0 ∷ decimal c.0 ∷ [] = ap₂ ◌∷◌ r.0 (ap₂ ◌∷◌ s.0 (ap₂ ◌∷◌ t.0 refl)) in
    let is_job : record { ship = a.0; tugs = b.0; hold = c.0 } ≡ job = is_some _ job c.2 in
    subst P is_job (text, record { ship_in = r.1; some_tugs = s.1; few_tugs = s.2; some_hold = t.1; short_hold = t.2 })
  where
    is_some : (x y : Job) → Some x ≡ Some y → x ≡ y
    is_some x y k = cc

pub job_read : (ships : ℕ) (word : List ℕ) (job : Job) → ships ≤ 40 → job_form ships word ≡ Some job → (word ≡ job_text job) × JobFits ships job
job_read ships word job few h = let r = job_parts_read ships (parts_of 58 word) job few h in (rejoined 58 word _ r.0, r.1)

-- items of a form, each of which has one text and keeps the limits
pub items_read : {A : Type 0} (form : List ℕ → Option A) (text : A → List ℕ) (Fits : A → Type 0) (each : (word : List ℕ) (x : A) → form word ≡ Some x → (word ≡ text x) × Fits x) (most : ℕ) (words : List (List ℕ)) (xs : List A) → items_of form most words ≡ Some xs
    → (words ≡ map text xs) × All Fits xs × (length xs ≤ most)
items_read {A} form text Fits each most [] xs h =
    let P : List A → Type 0 = λ ys. ([] ≡ map text ys) × All Fits ys × (length ys ≤ most) in
    subst P (is_some [] xs h) (refl, All-nil Fits, omega arith)
  where
    is_some : (x y : List A) → Some x ≡ Some y → x ≡ y
    is_some x y k = cc
items_read form text Fits each zero (word ∷ words) xs h = absurd cc
items_read {A} form text Fits each (suc most) (word ∷ words) xs h =
    let f = first_read (form word) (items_of form most words) xs h in
    let e = each word f.0 f.2 in
    let r = items_read form text Fits each most words f.1 f.3 in
    let few : length f.1 ≤ most = r.2 in
    let P : List A → Type 0 = λ ys. (word ∷ words ≡ map text ys) × All Fits ys × (length ys ≤ suc most) in
    let words_are : word ∷ words ≡ text f.0 ∷ map text f.1 = ap₂ ◌∷◌ e.0 r.0 in
    subst P f.4 (words_are, All-cons Fits f.0 f.1 e.1 r.1, omega (arith, few))

pub some_items_read : {A : Type 0} (form : List ℕ → Option A) (text : A → List ℕ) (Fits : A → Type 0) (each : (word : List ℕ) (x : A) → form word ≡ Some x → (word ≡ text x) × Fits x) (most : ℕ) (words : List (List ℕ)) (xs : List A) → some_items form most words ≡ Some xs
    → (words ≡ map text xs) × All Fits xs × (length xs ≤ most) × (1 ≤ length xs)
some_items_read form text Fits each most [] xs h = absurd cc
some_items_read form text Fits each most (word ∷ words) [] h =
    let r = items_read form text Fits each most (word ∷ words) [] h in absurd (no_word word words r.0)
  where
    no_word : (w : List ℕ) (ws : List (List ℕ)) → w ∷ ws ≡ [] → ⊥
    no_word w ws e = absurd cc
some_items_read form text Fits each most (word ∷ words) (x ∷ xs) h =
    let r = items_read form text Fits each most (word ∷ words) (x ∷ xs) h in (r.0, r.1, r.2, omega arith)

-- ascending ships
pub ascends : (least : ℕ) (jobs : List Job) → ascend_from least jobs ≡ true → All (λ j. least ≤ j.ship) jobs × AllPairs (λ a b. a.ship < b.ship) jobs
ascends least [] h = (All-nil _, λ i j d lt within. absurd (omega (arith, within)))
ascends least (job ∷ jobs) h =
    let a = and_parts _ _ h in
    let le : least ≤ job.ship = leb-true _ _ a.0 in
    let r = ascends (job.ship + 1) jobs a.1 in
    let later : All (λ j. job.ship < j.ship) jobs = λ k d lt. let p = r.0 k d lt in omega (arith, p) in
    let above : All (λ j. least ≤ j.ship) jobs = λ k d lt. let p = r.0 k d lt in omega (arith, p, le) in
    (All-cons (λ j. least ≤ j.ship) job jobs le above, AllPairs-cons (λ a b. a.ship < b.ship) job jobs later r.1)

-- ascending slots
steps_ascend : (least : ℕ) (steps : List Step) → steps_ascend_from least steps ≡ true → All (λ s. least ≤ s.from) steps × AllPairs (λ a b. a.from < b.from) steps
steps_ascend least [] h = (All-nil _, λ i j d lt within. absurd (omega (arith, within)))
steps_ascend least (step ∷ steps) h =
    let a = and_parts _ _ h in
    let le : least ≤ step.from = leb-true _ _ a.0 in
    let r = steps_ascend (step.from + 1) steps a.1 in
    let later : All (λ s. step.from < s.from) steps = λ k d lt. let p = r.0 k d lt in omega (arith, p) in
    let above : All (λ s. least ≤ s.from) steps = λ k d lt. let p = r.0 k d lt in omega (arith, p, le) in
    (All-cons (λ s. least ≤ s.from) step steps le above, AllPairs-cons (λ a b. a.from < b.from) step steps later r.1)

step_parts_read : (slots : ℕ) (parts : List (List ℕ)) (step : Step) → slots ≤ 512 → step_parts slots parts ≡ Some step → (parts ≡ decimal step.from ∷ decimal step.fleet ∷ []) × StepIn slots step
step_parts_read slots [] step few h = absurd cc
step_parts_read slots (from ∷ []) step few h = absurd cc
step_parts_read slots (from ∷ fleet ∷ more ∷ parts) step few h = absurd cc
step_parts_read slots (from ∷ fleet ∷ []) step few h =
    let a = bound (number_from_to 1 slots from) _ step h in
    let r = from_to_is 1 slots from a.0 (omega (arith, few)) a.1 in
    let b = bound (number_up_to 2_560 fleet) _ step a.2 in
    let s = is_spelled 2_560 fleet b.0 (omega arith) b.1 in
    let k = is_kept (nat_lt a.0 slots) _ step b.2 in
    let P : Step → Type 0 = λ x. (from ∷ fleet ∷ [] ≡ decimal x.from ∷ decimal x.fleet ∷ []) × StepIn slots x in
    let text : from ∷ fleet ∷ [] ≡ decimal a.0 ∷ decimal b.0 ∷ [] = ap₂ ◌∷◌ r.0 (ap₂ ◌∷◌ s.0 refl) in
    subst P k.1 (text, (record { later_slot = r.1; small_fleet = s.1 }, ltb-true _ _ k.0))

step_read : (slots : ℕ) (word : List ℕ) (step : Step) → slots ≤ 512 → step_form slots word ≡ Some step → (word ≡ step_text step) × StepIn slots step
step_read slots word step few h = let r = step_parts_read slots (parts_of 58 word) step few h in (rejoined 58 word _ r.0, r.1)

-- the items in front have one text each and keep the limits
front_read : {A : Type 0} (form : List ℕ → Option A) (text : A → List ℕ) (Fits : A → Type 0) (each : (word : List ℕ) (x : A) → form word ≡ Some x → (word ≡ text x) × Fits x) (words : List (List ℕ))
    → (words ≡ map text (front_items form words).0 ++ (front_items form words).1) × All Fits (front_items form words).0
front_read form text Fits each [] = (refl, All-nil Fits)
front_read {A} form text Fits each (word ∷ words) = by_form (form word) refl (front_read form text Fits each words)
  where
    by_form : (o : Option A) → form word ≡ o → (words ≡ map text (front_items form words).0 ++ (front_items form words).1) × All Fits (front_items form words).0 → (word ∷ words ≡ map text (put_front o word words (front_items form words)).0 ++ (put_front o word words (front_items form words)).1) × All Fits (put_front o word words (front_items form words)).0
    by_form None e r = (refl, All-nil Fits)
    by_form (Some x) e r =
        let f = each word x e in
        (ap₂ ◌∷◌ f.0 r.0, All-cons Fits x (front_items form words).0 f.1 r.1)

abbrev RuleRead : Bool → ℕ → ℕ → List (List ℕ) → Rule → Type 0
RuleRead hours ships slots words rule = (words ≡ rule_texts rule) × RuleIn hours ships slots rule

pair_read : (hours : Bool) (ships slots : ℕ) (words : List (List ℕ)) (rule : Rule) → ships ≤ 40 → pair_words ships words ≡ Some rule → RuleRead hours ships slots (codes "p" ∷ words) rule
pair_read hours ships slots [] rule few h = absurd cc
pair_read hours ships slots (v ∷ []) rule few h = absurd cc
pair_read hours ships slots (v ∷ w ∷ words) rule few h =
    let a = bound (ship_word ships v) _ rule h in
    let r = ship_read ships v a.0 few a.1 in
    let b = bound (ship_word ships w) _ rule a.2 in
    let s = ship_read ships w b.0 few b.1 in
    let c = bound (some_items hole_form 8 words) _ rule b.2 in
    let t = some_items_read hole_form hole_text HoleFits hole_read 8 words c.0 c.1 in
    let k = is_kept (nat_lt a.0 b.0) _ rule c.2 in
    let text : codes "p" ∷ v ∷ w ∷ words ≡ codes "p" ∷ decimal a.0 ∷ decimal b.0 ∷ map hole_text c.0 = ap₂ ◌∷◌ refl (ap₂ ◌∷◌ r.0 (ap₂ ◌∷◌ s.0 t.0)) in
    subst (RuleRead hours ships slots (codes "p" ∷ v ∷ w ∷ words)) k.1
    (text, record { fits = record { ascends = ltb-true _ _ k.0; ship_in = s.1; some_hole = t.3; few_holes = t.2; each_hole = t.1 }; sails = tt; told = λ e. absurd cc })

after_read : (hours : Bool) (ships slots : ℕ) (words : List (List ℕ)) (rule : Rule) → ships ≤ 40 → after_words ships words ≡ Some rule → RuleRead hours ships slots (codes "s" ∷ words) rule
after_read hours ships slots [] rule few h = absurd cc
after_read hours ships slots (v ∷ []) rule few h = absurd cc
after_read hours ships slots (v ∷ w ∷ []) rule few h = absurd cc
after_read hours ships slots (v ∷ w ∷ gap ∷ more ∷ words) rule few h = absurd cc
after_read hours ships slots (v ∷ w ∷ gap ∷ []) rule few h =
    let a = bound (ship_word ships v) _ rule h in
    let r = ship_read ships v a.0 few a.1 in
    let b = bound (ship_word ships w) _ rule a.2 in
    let s = ship_read ships w b.0 few b.1 in
    let c = bound (number_up_to 512 gap) _ rule b.2 in
    let t = is_spelled 512 gap c.0 (omega arith) c.1 in
    let k = is_kept (nat_lt a.0 b.0 || nat_lt b.0 a.0) _ rule c.2 in
    let two : a.0 ≢ b.0 = λ same. elim (or_cases _ _ k.0) [
      | inl below ↦ let lt : a.0 < b.0 = ltb-true _ _ below in absurd (omega (arith, lt, same))
      | inr above ↦ let lt : b.0 < a.0 = ltb-true _ _ above in absurd (omega (arith, lt, same))
    ] in
    let text : codes "s" ∷ v ∷ w ∷ gap ∷ [] ≡ codes "s" ∷ decimal a.0 ∷ decimal b.0 ∷ decimal c.0 ∷ [] = ap₂ ◌∷◌ refl (ap₂ ◌∷◌ r.0 (ap₂ ◌∷◌ s.0 (ap₂ ◌∷◌ t.0 refl))) in
    subst (RuleRead hours ships slots (codes "s" ∷ v ∷ w ∷ gap ∷ [])) k.1 (text, record { fits = record { first_in = r.1; second_in = s.1; two_ships = two; short_gap = t.1 }; sails = tt; told = λ e. absurd cc })

tugs_read : (hours : Bool) (ships slots : ℕ) (words : List (List ℕ)) (rule : Rule) → ships ≤ 40 → tugs_words hours ships words ≡ Some rule → RuleRead hours ships slots (codes "u" ∷ words) rule
tugs_read hours ships slots [] rule few h = absurd cc
tugs_read hours ships slots (fleet ∷ words) rule few h =
    let most = most_small hours in
    let a = bound (number_up_to (most_fleet hours) fleet) _ rule h in
    let r = is_spelled (most_fleet hours) fleet a.0 (omega (arith, most)) a.1 in
    let b = bound (some_items (job_form ships) 40 words) _ rule a.2 in
    let s = some_items_read (job_form ships) job_text (JobFits ships) (λ word job. job_read ships word job few) 40 words b.0 b.1 in
    let k = is_kept (ascend_from 0 b.0) _ rule b.2 in
    let text : codes "u" ∷ fleet ∷ words ≡ codes "u" ∷ decimal a.0 ∷ map job_text b.0 = ap₂ ◌∷◌ refl (ap₂ ◌∷◌ r.0 s.0) in
    let small = fleet_told hours a.0 b.0 r.1 in
    let no_step : All StepFits [] = All-nil StepFits in
    subst (RuleRead hours ships slots (codes "u" ∷ fleet ∷ words)) k.1 (
      text,
      record {
        fits = record { small_fleet = small.0; each_step = no_step; steps_ascend = λ i j d lt within. absurd (omega (arith, within)); some_job = s.3; few_jobs = s.2; each_job = s.1; ascends = (ascends 0 b.0 k.0).1 };
        sails = All-nil (λ (step : Step). step.from < slots);
        told = small.1;
      },
    )

-- a fleet with steps and jobs
with_jobs_read : (ships slots fleet : ℕ) (steps : List Step) (words : List (List ℕ)) (rule : Rule) → ships ≤ 40 → fleet ≤ 2_560 → All (StepIn slots) steps → with_jobs ships fleet (steps, words) ≡ Some rule
    → RuleRead true ships slots (codes "h" ∷ decimal fleet ∷ (map step_text steps ++ words)) rule
with_jobs_read ships slots fleet [] words rule few small each h =
    let b = bound (some_items (job_form ships) 40 words) _ rule h in
    absurd (none rule b.2)
  where
    none : (r : Rule) → None ≡ Some r → ⊥
    none r e = absurd cc
with_jobs_read ships slots fleet (step ∷ later) words rule few small each h =
    let steps : List Step = step ∷ later in
    let b = bound (some_items (job_form ships) 40 words) _ rule h in
    let s = some_items_read (job_form ships) job_text (JobFits ships) (λ word job. job_read ships word job few) 40 words b.0 b.1 in
    let k = is_kept (some_ascending steps && ascend_from 0 b.0) _ rule b.2 in
    let p = and_parts _ _ k.0 in
    let text : codes "h" ∷ decimal fleet ∷ (map step_text steps ++ words) ≡ codes "h" ∷ decimal fleet ∷ (map step_text steps ++ map job_text b.0) = ap (λ ws. codes "h" ∷ decimal fleet ∷ (map step_text steps ++ ws)) s.0 in
    subst (RuleRead true ships slots (codes "h" ∷ decimal fleet ∷ (map step_text steps ++ words))) k.1 (
      text,
      record {
        fits = record { small_fleet = small; each_step = λ i d lt. (each i d lt).0; steps_ascend = (steps_ascend 1 steps p.0).1; some_job = s.3; few_jobs = s.2; each_job = s.1; ascends = (ascends 0 b.0 p.1).1 };
        sails = λ i d lt. (each i d lt).1;
        told = λ e. refl;
      },
    )

hours_read : (ships slots : ℕ) (words : List (List ℕ)) (rule : Rule) → ships ≤ 40 → slots ≤ 512 → hours_words ships slots words ≡ Some rule → RuleRead true ships slots (codes "h" ∷ words) rule
hours_read ships slots [] rule few few' h = absurd cc
hours_read ships slots (fleet ∷ words) rule few few' h =
    let a = bound (number_up_to 2_560 fleet) _ rule h in
    let r = is_spelled 2_560 fleet a.0 (omega arith) a.1 in
    let front = front_items (step_form slots) words in
    let f = front_read (step_form slots) step_text (StepIn slots) (λ word step. step_read slots word step few') words in
    let j = with_jobs_read ships slots a.0 front.0 front.1 rule few r.1 f.1 a.2 in
    (ap₂ (λ w ws. codes "h" ∷ w ∷ ws) r.0 f.0 ∙ j.0, j.1)

keyed : (hours : Bool) (ships slots : ℕ) (key text : List ℕ) (words : List (List ℕ)) (rule : Rule) → key ≡ text → RuleRead hours ships slots (text ∷ words) rule → RuleRead hours ships slots (key ∷ words) rule
keyed hours ships slots key text words rule e r = (ap (λ x. x ∷ words) e ∙ r.0, r.1)

-- the key of a rule with hours, where fleets have them
by_hours : (hours : Bool) (ships slots : ℕ) (key : List ℕ) (words : List (List ℕ)) (rule : Rule) → ships ≤ 40 → slots ≤ 512 → cond (hours && bytes_eq key (codes "h")) (hours_words ships slots words) None ≡ Some rule → RuleRead hours ships slots (key ∷ words) rule
by_hours false ships slots key words rule few few' h = absurd cc
by_hours true ships slots key words rule few few' h =
    elim (bytes_eq key (codes "h")) as (λ b. bytes_eq key (codes "h") ≡ b → cond b (hours_words ships slots words) None ≡ Some rule → RuleRead true ships slots (key ∷ words) rule) [
      | true ↦ λ e k. keyed true ships slots _ _ words rule (same_text _ _ e) (hours_read ships slots words rule few few' k)
      | false ↦ λ e k. absurd cc
    ] refl h

-- the keys after `p` and `s`
by_fleet : (hours : Bool) (ships slots : ℕ) (key : List ℕ) (words : List (List ℕ)) (rule : Rule) → ships ≤ 40 → slots ≤ 512
    → cond (bytes_eq key (codes "u")) (tugs_words hours ships words) (cond (hours && bytes_eq key (codes "h")) (hours_words ships slots words) None) ≡ Some rule → RuleRead hours ships slots (key ∷ words) rule
by_fleet hours ships slots key words rule few few' h =
    elim (bytes_eq key (codes "u")) as (λ b. bytes_eq key (codes "u") ≡ b → cond b (tugs_words hours ships words) (cond (hours && bytes_eq key (codes "h")) (hours_words ships slots words) None) ≡ Some rule → RuleRead hours ships slots (key ∷ words) rule) [
      | true ↦ λ e k. keyed hours ships slots _ _ words rule (same_text _ _ e) (tugs_read hours ships slots words rule few k)
      | false ↦ λ e k. by_hours hours ships slots key words rule few few' k
    ] refl h

rule_words_read : (hours : Bool) (ships slots : ℕ) (words : List (List ℕ)) (rule : Rule) → ships ≤ 40 → slots ≤ 512 → rule_words hours ships slots words ≡ Some rule → RuleRead hours ships slots words rule
rule_words_read hours ships slots [] rule few few' h = absurd cc
rule_words_read hours ships slots (key ∷ words) rule few few' h =
    elim (bytes_eq key (codes "p")) as (λ b. bytes_eq key (codes "p") ≡ b → cond b (pair_words ships words) (cond (bytes_eq key (codes "s")) (after_words ships words) (cond (bytes_eq key (codes "u")) (tugs_words hours ships words) (cond (hours && bytes_eq key (codes "h")) (hours_words ships slots words) None))) ≡ Some rule → RuleRead hours ships slots (key ∷ words) rule) [
      | true ↦ λ e k. keyed hours ships slots _ _ words rule (same_text _ _ e) (pair_read hours ships slots words rule few k)
      | false ↦ λ _ j.
          elim (bytes_eq key (codes "s")) as (λ b. bytes_eq key (codes "s") ≡ b → cond b (after_words ships words) (cond (bytes_eq key (codes "u")) (tugs_words hours ships words) (cond (hours && bytes_eq key (codes "h")) (hours_words ships slots words) None)) ≡ Some rule → RuleRead hours ships slots (key ∷ words) rule) [
            | true ↦ λ e k. keyed hours ships slots _ _ words rule (same_text _ _ e) (after_read hours ships slots words rule few k)
            | false ↦ λ _ i. by_fleet hours ships slots key words rule few few' i
          ] refl j
    ] refl h

-- a line that is a rule is its one text, and a text can have the rule
pub rule_read : (hours : Bool) (ships slots : ℕ) (line : List ℕ) (rule : Rule) → ships ≤ 40 → slots ≤ 512 → rule_form hours ships slots line ≡ Some rule → (line ≡ rule_text rule) × RuleIn hours ships slots rule
rule_read hours ships slots line rule few few' h = let r = rule_words_read hours ships slots (words_of line) rule few few' h in (rejoined 32 line _ r.0, r.1)
