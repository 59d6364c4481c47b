-- A reading of parts that is refused after some number of them, and how that depends on the parts.
use Rattle.std.proofs.Common.{◌≡◌, ◌≢◌, ℕ, suc, ◌+◌, List, [], ◌∷◌, ◌++◌, length, Result, Ok, Err, refl, ap, ◌∙◌, subst, arith}
use Rattle.hw_lemmas.specs.Operators.{◌>>=◌}
use Rattle.hw_flat.specs.declared.fault.FlatWord.TheVariants as words
use Rattle.hw_flat.specs.Text.{Fault}
use Rattle.hw_flat_laws.proofs.Same.{Parts, Full, Same, full_same}

-- the reading ends well where it goes on as it should after these parts
pub record Mend {A : Type 0} (Done : A → Type 0) (read : Parts → Result A Fault) (parts : Parts) (count : ℕ) : Type 0 where
  pub mended : Parts
  pub value : A
  pub done : Done value
  pub reads : read mended ≡ Ok value
  pub same : Same count parts mended

-- it never does where it goes on as it did
pub record Dead {A : Type 0} (read : Parts → Result A Fault) (parts : Parts) (e : Fault) (count : ℕ) : Type 0 where
  pub dead : (others : Parts) → Same (suc count) parts others → read others ≡ Err e
  pub cut : e.word ≢ words.Tail → length parts ≡ suc count → (others : Parts) → Same count parts others → length others ≡ suc count → read others ≡ Err e

pub record Refused {A : Type 0} (Done : A → Type 0) (read : Parts → Result A Fault) (parts : Parts) (e : Fault) (count : ℕ) : Type 0 where
  pub mend : Mend Done read parts count
  pub dead : Dead read parts e count

-- a reading that another step follows
pub mend_followed : {A B : Type 0} (Done : A → Type 0) (More : B → Type 0) (read : Parts → Result A Fault) (f : A → Result B Fault) (parts : Parts) (count : ℕ) → ((value : A) → Done value → (y : B) × More y × (f value ≡ Ok y)) → Mend Done read parts count
    → Mend More (λ others. read others >>= f) parts count
mend_followed Done More read f parts count goes r =
    let g = goes r.value r.done in
    record { mended = r.mended; value = g.0; done = g.1; reads = ap (λ x. x >>= f) r.reads ∙ g.2; same = r.same }

pub dead_followed : {A B : Type 0} (read : Parts → Result A Fault) (f : A → Result B Fault) (parts : Parts) (e : Fault) (count : ℕ) → Dead read parts e count → Dead (λ others. read others >>= f) parts e count
dead_followed read f parts e count r = record {
  dead = λ others s. ap (λ x. x >>= f) (r.dead others s);
  cut = λ other n others s m. ap (λ x. x >>= f) (r.cut other n others s m);
}

pub followed : {A B : Type 0} (Done : A → Type 0) (More : B → Type 0) (read : Parts → Result A Fault) (f : A → Result B Fault) (parts : Parts) (e : Fault) (count : ℕ) → ((value : A) → Done value → (y : B) × More y × (f value ≡ Ok y)) → Refused Done read parts e count
    → Refused More (λ others. read others >>= f) parts e count
followed Done More read f parts e count goes r = record { mend = mend_followed Done More read f parts count goes r.mend; dead = dead_followed read f parts e count r.dead }

-- a reading of one more line
pub mend_past_line : {A : Type 0} (Done : A → Type 0) (read whole : Parts → Result A Fault) (line : List ℕ) (parts : Parts) (count : ℕ) → ((others : Parts) → Full others → whole (line ∷ others) ≡ read others) → Mend Done read parts count → Mend Done whole (line ∷ parts) (suc count)
mend_past_line Done read whole line parts count step r = record {
  mended = line ∷ r.mended;
  value = r.value;
  done = r.done;
  reads = step r.mended (full_same count parts r.mended r.same) ∙ r.reads;
  same = (refl, r.same);
}

pub dead_past_line : {A : Type 0} (read whole : Parts → Result A Fault) (line : List ℕ) (parts : Parts) (e : Fault) (count : ℕ) → ((others : Parts) → Full others → whole (line ∷ others) ≡ read others) → Dead read parts e count → Dead whole (line ∷ parts) e (suc count)
dead_past_line {A = A} read whole line parts e count step r = record { dead = dead; cut = cut }
  where
    dead : (others : Parts) → Same (suc (suc count)) (line ∷ parts) others → whole others ≡ Err e
    dead [] s = absurd s
    dead (x ∷ others) s = ap (λ y. whole (y ∷ others)) s.0 ∙ step others (full_same (suc count) parts others s.1) ∙ r.dead others s.1

    cut : e.word ≢ words.Tail → length (line ∷ parts) ≡ suc (suc count) → (others : Parts) → Same (suc count) (line ∷ parts) others → length others ≡ suc (suc count) → whole others ≡ Err e
    cut other n [] s m = absurd s
    cut other n (x ∷ others) s m = ap (λ y. whole (y ∷ others)) s.0 ∙ step others (full_same count parts others s.1) ∙ r.cut other (omega (arith, n)) others s.1 (omega (arith, m))

pub past_line_form : {A : Type 0} (Done : A → Type 0) (read whole : Parts → Result A Fault) (line : List ℕ) (parts : Parts) (e : Fault) (count : ℕ) → ((others : Parts) → Full others → whole (line ∷ others) ≡ read others) → Refused Done read parts e count
    → Refused Done whole (line ∷ parts) e (suc count)
past_line_form Done read whole line parts e count step r = record { mend = mend_past_line Done read whole line parts count step r.mend; dead = dead_past_line read whole line parts e count step r.dead }

-- a reading of more lines
pub mend_past_lines : {A : Type 0} (Done : A → Type 0) (read whole : Parts → Result A Fault) (front parts : Parts) (count : ℕ) → ((others : Parts) → Full others → whole (front ++ others) ≡ read others) → Mend Done read parts count → Mend Done whole (front ++ parts) (length front + count)
mend_past_lines Done read whole [] parts count step r =
    let n : count ≡ 0 + count = omega arith in
    subst (Mend Done whole parts) n (record { mended = r.mended; value = r.value; done = r.done; reads = step r.mended (full_same count parts r.mended r.same) ∙ r.reads; same = r.same })
mend_past_lines Done read whole (x ∷ front) parts count step r =
    let n : suc (length front + count) ≡ suc (length front) + count = omega arith in
    subst (Mend Done whole (x ∷ front ++ parts)) n
    (mend_past_line Done (λ others. whole (x ∷ others)) whole x (front ++ parts) (length front + count) (λ others full. refl) (mend_past_lines Done read (λ others. whole (x ∷ others)) front parts count step r))

pub dead_past_lines : {A : Type 0} (read whole : Parts → Result A Fault) (front parts : Parts) (e : Fault) (count : ℕ) → ((others : Parts) → Full others → whole (front ++ others) ≡ read others) → Dead read parts e count → Dead whole (front ++ parts) e (length front + count)
dead_past_lines read whole [] parts e count step r =
    let n : count ≡ 0 + count = omega arith in
    subst (Dead whole parts e) n (record {
      dead = λ others s. step others (full_same (suc count) parts others s) ∙ r.dead others s;
      cut = λ other k others s m. step others (full_same count parts others s) ∙ r.cut other k others s m;
    })
dead_past_lines read whole (x ∷ front) parts e count step r =
    let n : suc (length front + count) ≡ suc (length front) + count = omega arith in
    subst (Dead whole (x ∷ front ++ parts) e) n (dead_past_line (λ others. whole (x ∷ others)) whole x (front ++ parts) e (length front + count) (λ others full. refl) (dead_past_lines read (λ others. whole (x ∷ others)) front parts e count step r))

-- a bad line
pub dead_line : {A : Type 0} (read : Parts → Result A Fault) (line next : List ℕ) (parts : Parts) (e : Fault) → ((y : List ℕ) (ys : Parts) → read (line ∷ y ∷ ys) ≡ Err e) → Dead read (line ∷ next ∷ parts) e 0
dead_line {A = A} read line next parts e bad = record { dead = dead; cut = λ other n others s m. absurd (omega (arith, n)) }
  where
    dead : (others : Parts) → Same 1 (line ∷ next ∷ parts) others → read others ≡ Err e
    dead [] s = absurd s
    dead (x ∷ []) s = absurd s.1
    dead (x ∷ y ∷ ys) s = ap (λ z. read (z ∷ y ∷ ys)) s.0 ∙ bad y ys

pub refused_line : {A : Type 0} (Done : A → Type 0) (read : Parts → Result A Fault) (line next : List ℕ) (parts : Parts) (e : Fault) (first : List ℕ) (more : Parts) (value : A) → Done value → read (first ∷ more) ≡ Ok value → ((y : List ℕ) (ys : Parts) → read (line ∷ y ∷ ys) ≡ Err e)
    → Refused Done read (line ∷ next ∷ parts) e 0
refused_line Done read line next parts e first more value done reads bad = record {
  mend = record { mended = first ∷ more; value = value; done = done; reads = reads; same = tt };
  dead = dead_line read line next parts e bad;
}

-- a line that isn't there
pub dead_short : {A : Type 0} (read : Parts → Result A Fault) (line : List ℕ) (e : Fault) → ((y : List ℕ) → read (y ∷ []) ≡ Err e) → Dead read (line ∷ []) e 0
dead_short {A = A} read line e bad = record { dead = dead; cut = cut }
  where
    dead : (others : Parts) → Same 1 (line ∷ []) others → read others ≡ Err e
    dead [] s = absurd s
    dead (x ∷ ys) s = absurd s.1

    cut : e.word ≢ words.Tail → length (line ∷ []) ≡ 1 → (others : Parts) → Same 0 (line ∷ []) others → length others ≡ 1 → read others ≡ Err e
    cut other n [] s m = absurd s
    cut other n (x ∷ []) s m = bad x
    cut other n (x ∷ y ∷ ys) s m = absurd (omega (arith, m))

pub refused_short : {A : Type 0} (Done : A → Type 0) (read : Parts → Result A Fault) (line : List ℕ) (e : Fault) (first : List ℕ) (more : Parts) (value : A) → Done value → read (first ∷ more) ≡ Ok value → ((y : List ℕ) → read (y ∷ []) ≡ Err e) → Refused Done read (line ∷ []) e 0
refused_short Done read line e first more value done reads bad = record {
  mend = record { mended = first ∷ more; value = value; done = done; reads = reads; same = tt };
  dead = dead_short read line e bad;
}
