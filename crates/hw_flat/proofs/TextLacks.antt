-- The words of a problem have no space, and its lines no line feed.
use Rattle.std.proofs.Common.{◌≡◌, ℕ, ℤ, pos, negsuc, neg_ℤ, zero, suc, ◌<◌, ◌≤◌, ◌≤ℤ◌, ◌^◌, ◌==◌, not, Bool, true, false, List, [], ◌∷◌, ◌++◌, map, Option, Some, None, refl, sym, ap, ◌∙◌, arith, decimal, unwrap_or, All}
use Rattle.std.proofs.lemmas.Bool.{and_parts, and_from, eqb-true}
use Rattle.std.proofs.lemmas.List.Elements.{All-head, All-tail}
use Rattle.std.proofs.lemmas.Fmt.{digits_decimal}
use Rattle.std.proofs.lemmas.Int.{ints}
use Rattle.std.specs.Fmt.{signed_decimal}
use Rattle.std.specs.List.{list_all, join_with_byte}
use Rattle.hw_model.specs.declared.rule.Hole.{Hole}
use Rattle.hw_model.specs.declared.rule.Job.{Job}
use Rattle.hw_model.specs.declared.rule.Rule.{Rule}
use Rattle.hw_model.specs.declared.rule.Rule.TheVariants.{Pair, After, Tugs}
use Rattle.hw_model.specs.declared.rule.Step.{Step}
use Rattle.hw_model.specs.Limits.{HoleFits, JobFits, RuleFits, StepsSail}
use Rattle.hw_text.specs.Numbers.{is_digit}
use Rattle.hw_text.specs.Parts.{lacks}
use Rattle.hw_text.proofs.Digits.{own}
use Rattle.hw_flat.specs.TextWritten.{value_text, stay_text, row_texts, hole_text, job_text, step_text, tugs_key, rule_texts}
use Rattle.hw_flat.proofs.HourRules.{StepIn}

-- a byte that no word of a problem has
pub record Apart (c : ℕ) : Type 0 where
  pub digit : is_digit c ≡ false
  pub minus : (45 == c) ≡ false
  pub colon : (58 == c) ≡ false
  pub pair : (112 == c) ≡ false
  pub after : (115 == c) ≡ false
  pub tugs : (117 == c) ≡ false
  pub hours : (104 == c) ≡ false
  pub row : (118 == c) ≡ false
  pub may : (121 == c) ≡ false
  pub must : (110 == c) ≡ false

pub apart_space : Apart 32
apart_space = record { digit = refl; minus = refl; colon = refl; pair = refl; after = refl; tugs = refl; hours = refl; row = refl; may = refl; must = refl }

pub apart_end : Apart 10
apart_end = record { digit = refl; minus = refl; colon = refl; pair = refl; after = refl; tugs = refl; hours = refl; row = refl; may = refl; must = refl }

head_lacks : (c x : ℕ) (xs : List ℕ) → (x == c) ≡ false → lacks c xs ≡ true → lacks c (x ∷ xs) ≡ true
head_lacks c x xs e h = and_from _ _ (ap not e) h

digits_lack : (c : ℕ) (word : List ℕ) → is_digit c ≡ false → list_all is_digit word ≡ true → lacks c word ≡ true
digits_lack c [] other h = refl
digits_lack c (x ∷ xs) other h =
    let a = and_parts _ _ h in
    let differs : (x == c) ≡ false =
    elim (x == c) as (λ b. (x == c) ≡ b → b ≡ false) [
      | true ↦ λ e. clash (sym (ap is_digit (eqb-true x c e)) ∙ a.0)
      | false ↦ λ e. refl
    ] refl in
    head_lacks c x xs differs (digits_lack c xs other a.1)
  where
    clash : is_digit c ≡ true → true ≡ false
    clash h = sym h ∙ other

pub number_lacks : (c n : ℕ) → is_digit c ≡ false → n < 2 ^ 64 → lacks c (decimal n) ≡ true
number_lacks c n other small = digits_lack c (decimal n) other (digits_decimal own n small)

signed_lacks : (c most : ℕ) (z : ℤ) → is_digit c ≡ false → (45 == c) ≡ false → most < 2 ^ 31 → neg_ℤ (pos most) ≤ℤ z → z ≤ℤ pos most → lacks c (signed_decimal z) ≡ true
signed_lacks c most (pos n) other minus small low high = let le : n ≤ most = omega (arith, ints, high) in number_lacks c n other (omega (arith, le, small))
signed_lacks c most (negsuc n) other minus small low high =
    let le : suc n ≤ most = omega (arith, ints, low) in
    head_lacks c 45 (decimal (suc n)) minus (number_lacks c (suc n) other (omega (arith, le, small)))

list_all-append : {X : Type 0} (p : X → Bool) (xs ys : List X) → list_all p xs ≡ true → list_all p ys ≡ true → list_all p (xs ++ ys) ≡ true
list_all-append p [] ys h k = k
list_all-append p (x ∷ xs) ys h k = let a = and_parts _ _ h in and_from _ _ a.0 (list_all-append p xs ys a.1 k)

pub joined_lacks : (c at : ℕ) (parts : List (List ℕ)) → (at == c) ≡ false → list_all (lacks c) parts ≡ true → lacks c (join_with_byte at parts) ≡ true
joined_lacks c at [] e h = refl
joined_lacks c at (x ∷ []) e h = (and_parts _ _ h).0
joined_lacks c at (x ∷ y ∷ parts) e h =
    let a = and_parts _ _ h in
    list_all-append _ x (at ∷ join_with_byte at (y ∷ parts)) a.0 (head_lacks c at (join_with_byte at (y ∷ parts)) e (joined_lacks c at (y ∷ parts) e a.1))

-- the parts of a hole
pub hole_parts_lack : (c : ℕ) (hole : Hole) → is_digit c ≡ false → (45 == c) ≡ false → HoleFits hole → list_all (lacks c) (signed_decimal hole.lo ∷ signed_decimal hole.hi ∷ []) ≡ true
hole_parts_lack c hole other minus fits =
    let low : hole.lo ≤ℤ pos 1_023 = omega (arith, ints, fits.ordered, fits.to_most) in
    let high : neg_ℤ (pos 1_023) ≤ℤ hole.hi = omega (arith, ints, fits.ordered, fits.from_least) in
    and_from _ _ (signed_lacks c 1_023 hole.lo other minus (omega arith) fits.from_least low) (and_from _ _ (signed_lacks c 1_023 hole.hi other minus (omega arith) high fits.to_most) refl)

-- the parts of a job
pub job_parts_lack : (c ships : ℕ) (job : Job) → is_digit c ≡ false → ships ≤ 40 → JobFits ships job → list_all (lacks c) (decimal job.ship ∷ decimal job.tugs ∷ decimal job.hold ∷ []) ≡ true
job_parts_lack c ships job other few fits =
    and_from _ _ (number_lacks c job.ship other (omega (arith, fits.ship_in, few)))
    (and_from _ _ (number_lacks c job.tugs other (omega (arith, fits.few_tugs))) (and_from _ _ (number_lacks c job.hold other (omega (arith, fits.short_hold))) refl))

texts_lack : {A : Type 0} (c : ℕ) (text : A → List ℕ) (Fits : A → Type 0) (each : (x : A) → Fits x → lacks c (text x) ≡ true) (xs : List A) → All Fits xs → list_all (lacks c) (map text xs) ≡ true
texts_lack c text Fits each [] h = refl
texts_lack c text Fits each (x ∷ xs) h = and_from _ _ (each x (All-head Fits x xs h)) (texts_lack c text Fits each xs (All-tail Fits x xs h))

-- the parts of a step
pub step_parts_lack : (c slots : ℕ) (step : Step) → is_digit c ≡ false → slots ≤ 512 → StepIn slots step → list_all (lacks c) (decimal step.from ∷ decimal step.fleet ∷ []) ≡ true
step_parts_lack c slots step other few fits =
    and_from _ _ (number_lacks c step.from other (omega (arith, fits.1, few))) (and_from _ _ (number_lacks c step.fleet other (omega (arith, fits.0.small_fleet))) refl)

key_lacks : (c : ℕ) (later : List Step) → Apart c → lacks c (tugs_key later) ≡ true
key_lacks c [] a = head_lacks c 117 [] a.tugs refl
key_lacks c (step ∷ later) a = head_lacks c 104 [] a.hours refl

-- the words of a rule
pub rule_lacks : (c ships slots : ℕ) (rule : Rule) → Apart c → ships ≤ 40 → slots ≤ 512 → RuleFits ships rule → StepsSail slots rule → list_all (lacks c) (rule_texts rule) ≡ true
rule_lacks c ships slots (Pair v w holes) a few few' fits sails =
    and_from _ _ (head_lacks c 112 [] a.pair refl)
    (and_from _ _ (number_lacks c v a.digit (omega (arith, fits.ascends, fits.ship_in, few)))
    (and_from _ _ (number_lacks c w a.digit (omega (arith, fits.ship_in, few))) (texts_lack c hole_text HoleFits (λ hole h. joined_lacks c 58 (signed_decimal hole.lo ∷ signed_decimal hole.hi ∷ []) a.colon (hole_parts_lack c hole a.digit a.minus h)) holes fits.each_hole)))
rule_lacks c ships slots (After v w gap) a few few' fits sails =
    and_from _ _ (head_lacks c 115 [] a.after refl)
    (and_from _ _ (number_lacks c v a.digit (omega (arith, fits.first_in, few)))
    (and_from _ _ (number_lacks c w a.digit (omega (arith, fits.second_in, few))) (and_from _ _ (number_lacks c gap a.digit (omega (arith, fits.short_gap))) refl)))
rule_lacks c ships slots (Tugs fleet later jobs) a few few' fits sails =
    and_from _ _ (key_lacks c later a)
    (and_from _ _ (number_lacks c fleet a.digit (omega (arith, fits.small_fleet)))
    (list_all-append _ (map step_text later) (map job_text jobs)
    (texts_lack c step_text (StepIn slots) (λ step h. joined_lacks c 58 (decimal step.from ∷ decimal step.fleet ∷ []) a.colon (step_parts_lack c slots step a.digit few' h)) later (λ k d lt. (fits.each_step k d lt, sails k d lt)))
    (texts_lack c job_text (JobFits ships) (λ job h. joined_lacks c 58 (decimal job.ship ∷ decimal job.tugs ∷ decimal job.hold ∷ []) a.colon (job_parts_lack c ships job a.digit few h)) jobs fits.each_job)))

-- the words of a row
value_lacks : (c : ℕ) (value : Option ℕ) → Apart c → unwrap_or value 0 ≤ 1_000_000_000_000 → lacks c (value_text value) ≡ true
value_lacks c None a small = head_lacks c 45 [] a.minus refl
value_lacks c (Some n) a small = number_lacks c n a.digit (omega (arith, small))

stay_lacks : (c : ℕ) (value : Option ℕ) → Apart c → lacks c (stay_text value) ≡ true
stay_lacks c None a = head_lacks c 110 [] a.must refl
stay_lacks c (Some n) a = head_lacks c 121 [] a.may refl

pub row_lacks : (c slots : ℕ) (row : List (Option ℕ)) → Apart c → All (λ v. unwrap_or v 0 ≤ 1_000_000_000_000) row → list_all (lacks c) (row_texts slots row) ≡ true
row_lacks c zero row a small = stays_lack row
  where
    stays_lack : (values : List (Option ℕ)) → list_all (lacks c) (map stay_text values) ≡ true
    stays_lack [] = refl
    stays_lack (v ∷ values) = and_from _ _ (stay_lacks c v a) (stays_lack values)
row_lacks c (suc slots) [] a small = refl
row_lacks c (suc slots) (v ∷ row) a small = and_from _ _ (value_lacks c v a (All-head (λ x. unwrap_or x 0 ≤ 1_000_000_000_000) v row small)) (row_lacks c slots row a (All-tail (λ x. unwrap_or x 0 ≤ 1_000_000_000_000) v row small))
