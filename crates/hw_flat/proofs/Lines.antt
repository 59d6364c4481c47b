-- Reading lines one after the other, as a loop does.
use Rattle.std.proofs.Common.{◌≡◌, ◌==◌, ℕ, suc, ◌-◌, ◌+◌, ◌≤◌, ◌<◌, Bool, true, false, List, [], ◌∷◌, ◌++◌, length, Option, Some, None, Result, Ok, Err, codes, bytes_eq, refl, sym, ap, ◌∙◌, append_assoc, arith}
use Rattle.std.proofs.lemmas.List.{append-nil, length_push}
use Rattle.hw_lemmas.specs.Operators.{◌>>=◌}
use Rattle.hw_model.specs.declared.rule.Rule.{Rule}
use Rattle.hw_text.specs.Parts.{parts_of, first_part}
use Rattle.hw_text.proofs.Splits.{has_part}
use Rattle.hw_flat.specs.declared.fault.FlatWord.TheVariants as words
use Rattle.hw_flat.specs.declared.fault.FlatFault.{FlatFault}
use Rattle.hw_flat.specs.declared.fault.FlatFault.TheVariants as faults
use Rattle.hw_flat.specs.Text.{Fault, fault, Fails, row_at, rows_at, rules_at, rule_before}

abbrev Read : Type 0 → Type 0
Read A = Result (List A × List (List ℕ)) Fault

-- what was read before, and what is still read
abbrev pub prefixed : {A : Type 0} → List A → Read A → Read A
prefixed front read = read >>= λ x. Ok (front ++ x.0, x.1)

regroup : {A : Type 0} (front more : List A) (read : Read A) → prefixed front (read >>= λ x. Ok (more ++ x.0, x.1)) ≡ prefixed (front ++ more) read
regroup {A} front more (Ok x) = ap (λ (ns : List A). Ok (ns, x.1)) (sym (append_assoc front more x.0))
regroup front more (Err f) = refl

pub rows_go_on : (front row : List (Option ℕ)) (stay : Bool) (slots number count i : ℕ) (parts after : List (List ℕ)) (total : Read (Option ℕ)) → i < count → row_at stay slots (number + i) parts ≡ Ok (row, after)
    → prefixed front (rows_at stay slots (number + i) (count - i) parts) ≡ total → prefixed (front ++ row) (rows_at stay slots (number + (i + 1)) (count - (i + 1)) after) ≡ total
unfolding rows_at
rows_go_on front row stay slots number count i parts after total lt h so_far =
    let k : count - i ≡ suc (count - (i + 1)) = omega arith in
    let n : (number + i) + 1 ≡ number + (i + 1) = omega arith in
    let one : prefixed front (rows_at stay slots (number + i) (count - i) parts) ≡ prefixed (front ++ row) (rows_at stay slots (number + (i + 1)) (count - (i + 1)) after) = rw (k, h, n) (regroup front row (rows_at stay slots (number + (i + 1)) (count - (i + 1)) after)) in
    sym one ∙ so_far

pub rows_fail : (e : FlatFault) (front : List (Option ℕ)) (stay : Bool) (slots number count i : ℕ) (parts : List (List ℕ)) (total : Read (Option ℕ)) → i < count → Fails e (row_at stay slots (number + i) parts)
    → prefixed front (rows_at stay slots (number + i) (count - i) parts) ≡ total → Fails e total
unfolding rows_at
rows_fail faults.NoMemory front stay slots number count i parts total lt h so_far = tt
rows_fail (faults.Line at word) front stay slots number count i parts total lt h so_far =
    let k : count - i ≡ suc (count - (i + 1)) = omega arith in
    let one : prefixed front (rows_at stay slots (number + i) (count - i) parts) ≡ Err (record { number = at; word = word }) = rw (k, h) refl in
    sym so_far ∙ one

pub rows_done : (front : List (Option ℕ)) (stay : Bool) (slots number count i : ℕ) (parts : List (List ℕ)) (total : Read (Option ℕ)) → count ≤ i → prefixed front (rows_at stay slots (number + i) (count - i) parts) ≡ total → total ≡ Ok (front, parts)
unfolding rows_at
rows_done front stay slots number count i parts total le so_far =
    let k : count - i ≡ 0 = omega arith in
    let one : prefixed front (rows_at stay slots (number + i) (count - i) parts) ≡ Ok (front, parts) = rw k (ap (λ (ns : List (Option ℕ)). Ok (ns, parts)) (append-nil front)) in
    sym so_far ∙ one

-- the first line of a text that has one, and the parts of the rest, of which there is always one
abbrev Cut : List (List ℕ) → List ℕ → List ℕ → Type 0
Cut parts line rest = Some (line, parts_of 10 rest) ≡ first_part parts

cut_is : (parts : List (List ℕ)) (line rest : List ℕ) → Cut parts line rest → parts ≡ line ∷ parts_of 10 rest
cut_is [] line rest h = absurd cc
cut_is (x ∷ []) line rest h = absurd cc
cut_is (x ∷ y ∷ more) line rest h = cons (line, parts_of 10 rest) (x, y ∷ more) h
  where
    cons : (a b : List ℕ × List (List ℕ)) → Some a ≡ Some b → b.0 ∷ b.1 ≡ a.0 ∷ a.1
    cons a b e = let p : a ≡ b = cc in ap (λ c. c.0 ∷ c.1) (sym p)

-- the rules from a line that is not `end`
rules_step : (form : List ℕ → Option Rule) (number room : ℕ) (parts : List (List ℕ)) (line rest : List ℕ) → Cut parts line rest → bytes_eq line (codes "end") ≡ false
    → rules_at form number room parts ≡ rule_before number room (form line) (rules_at form (number + 1) (room - 1) (parts_of 10 rest))
unfolding rules_at
rules_step form number room parts line rest cut other =
    let r = has_part (λ b. b == 10) rest in
    rw (cut_is parts line rest cut, r.2, other) refl

pub rules_ended : (front : List Rule) (form : List ℕ → Option Rule) (number room : ℕ) (parts : List (List ℕ)) (line rest : List ℕ) (total : Read Rule) → Cut parts line rest → true ≡ bytes_eq line (codes "end")
    → prefixed front (rules_at form number room parts) ≡ total → total ≡ Ok (front, parts_of 10 rest)
unfolding rules_at
rules_ended front form number room parts line rest total cut end so_far =
    let r = has_part (λ b. b == 10) rest in
    let one : prefixed front (rules_at form number room parts) ≡ Ok (front ++ [], parts_of 10 rest) = rw (cut_is parts line rest cut, r.2, sym end) refl in
    sym so_far ∙ one ∙ ap (λ (rs : List Rule). Ok (rs, parts_of 10 rest)) (append-nil front)

pub rules_cut_off : (front : List Rule) (form : List ℕ → Option Rule) (number room : ℕ) (parts : List (List ℕ)) (total : Read Rule) → first_part parts ≡ None → prefixed front (rules_at form number room parts) ≡ total → total ≡ fault number words.Rule
unfolding rules_at
rules_cut_off front form number room [] total none so_far = sym so_far
rules_cut_off front form number room (x ∷ []) total none so_far = sym so_far
rules_cut_off front form number room (x ∷ y ∷ parts) total none so_far = absurd cc

pub rules_fail : (front : List Rule) (form : List ℕ → Option Rule) (number room : ℕ) (parts : List (List ℕ)) (line rest : List ℕ) (total : Read Rule) → Cut parts line rest → bytes_eq line (codes "end") ≡ false → form line ≡ None
    → prefixed front (rules_at form number room parts) ≡ total → total ≡ fault number words.Rule
rules_fail front form number room parts line rest total cut other bad so_far =
    let one : prefixed front (rules_at form number room parts) ≡ fault number words.Rule = rw (rules_step form number room parts line rest cut other, bad) refl in
    sym so_far ∙ one

pub rules_too_many : (front : List Rule) (rule : Rule) (form : List ℕ → Option Rule) (number room : ℕ) (parts : List (List ℕ)) (line rest : List ℕ) (total : Read Rule) → Cut parts line rest → bytes_eq line (codes "end") ≡ false → form line ≡ Some rule → room ≡ 0
    → prefixed front (rules_at form number room parts) ≡ total → total ≡ fault number words.Many
rules_too_many front rule form number room parts line rest total cut other good full so_far =
    let one : prefixed front (rules_at form number room parts) ≡ fault number words.Many = rw (rules_step form number room parts line rest cut other, good, full) refl in
    sym so_far ∙ one

pub rules_go_on : (front more : List Rule) (rule : Rule) (form : List ℕ → Option Rule) (first most : ℕ) (parts : List (List ℕ)) (line rest : List ℕ) (total : Read Rule) → Cut parts line rest → bytes_eq line (codes "end") ≡ false → form line ≡ Some rule → length front < most
    → more ≡ front ++ rule ∷ [] → prefixed front (rules_at form (first + length front) (most - length front) parts) ≡ total → prefixed more (rules_at form (first + length more) (most - length more) (parts_of 10 rest)) ≡ total
rules_go_on front more rule form first most parts line rest total cut other good lt grown so_far =
    let k : most - length front ≡ suc (most - (length front + 1)) = omega arith in
    let n : (first + length front) + 1 ≡ first + (length front + 1) = omega arith in
    let before : suc (most - (length front + 1)) - 1 ≡ most - (length front + 1) = omega arith in
    let size : length more ≡ length front + 1 = ap length grown ∙ length_push front rule in
    let step : rules_at form (first + length front) (suc (most - (length front + 1))) parts ≡ rule_before (first + length front) (suc (most - (length front + 1))) (Some rule) (rules_at form (first + (length front + 1)) (most - (length front + 1)) (parts_of 10 rest)) =
    rw (rules_step form (first + length front) (suc (most - (length front + 1))) parts line rest cut other, good, n, before) refl in
    let one : prefixed front (rules_at form (first + length front) (most - length front) parts) ≡ prefixed (front ++ rule ∷ []) (rules_at form (first + (length front + 1)) (most - (length front + 1)) (parts_of 10 rest)) =
    rw (k, step) (regroup front (rule ∷ []) (rules_at form (first + (length front + 1)) (most - (length front + 1)) (parts_of 10 rest))) in
    rw (size, grown) (sym one ∙ so_far)
