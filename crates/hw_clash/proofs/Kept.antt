-- The rules of a part.
use Rattle.std.proofs.Common.{◌≡◌, ℕ, zero, suc, ◌+◌, ◌-◌, ◌<◌, ◌≤◌, Bool, true, false, cond, List, [], ◌∷◌, Option, Some, None, slice_get, IsSome, filter, filter_map, length, refl, sym, ap, subst, ◌∙◌, arith}
use Rattle.std.proofs.lemmas.Option.{same_Some}
use Rattle.std.specs.List.{range_with_len, cons_option}
use Rattle.hw_model.specs.declared.rule.Rule.{Rule}
use Rattle.hw_clash.specs.Parts.{rules_in, rule_numbers}
use Rattle.hw_lemmas.specs.Lists.{has}
use Rattle.hw_clash.specs.Laws.{PartRules}
use Rattle.hw_clash.proofs.Lists.{Each}

-- ---- what holds of each kept rule

kept_head : (P : Rule → Type 0) (rule : Rule) (rest : List Rule) (b : Bool) → b ≡ true → Each P (cond b (rule ∷ rest) rest) → P rule
kept_head P rule rest true e h = h.0
kept_head P rule rest false e h = absurd cc

kept_tail : (P : Rule → Type 0) (rule : Rule) (rest : List Rule) (b : Bool) → Each P (cond b (rule ∷ rest) rest) → Each P rest
kept_tail P rule rest true h = h.1
kept_tail P rule rest false h = h

kept_both : (P : Rule → Type 0) (rule : Rule) (rest : List Rule) (b : Bool) → (b ≡ true → P rule) → Each P rest → Each P (cond b (rule ∷ rest) rest)
kept_both P rule rest true here more = (here refl, more)
kept_both P rule rest false here more = more

pub kept_holds : (P : Rule → Type 0) (kept : List ℕ) (n : ℕ) (rules : List Rule) (i k : ℕ) (rule : Rule) → Each P (rules_in kept n rules) → k ≡ n + i → slice_get rules i ≡ Some rule → has kept k ≡ true → P rule
kept_holds P kept n [] i k rule h at e in' = absurd cc
kept_holds P kept n (r ∷ rules) zero k rule h at e in' =
    let here : k ≡ n = omega (arith, at) in
    subst P (same_Some r rule e) (kept_head P r (rules_in kept (n + 1) rules) (has kept n) (subst (λ m. has kept m ≡ true) here in') h)
kept_holds P kept n (r ∷ rules) (suc i) k rule h at e in' =
    kept_holds P kept (n + 1) rules i k rule (kept_tail P r (rules_in kept (n + 1) rules) (has kept n) h) (omega (arith, at)) e in'

pub holds_kept : (P : Rule → Type 0) (kept : List ℕ) (n : ℕ) (rules : List Rule) → ((i k : ℕ) (rule : Rule) → k ≡ n + i → slice_get rules i ≡ Some rule → has kept k ≡ true → P rule) → Each P (rules_in kept n rules)
holds_kept P kept n [] each = tt
holds_kept P kept n (r ∷ rules) each =
    kept_both P r (rules_in kept (n + 1) rules) (has kept n) (λ e. each 0 n r (omega arith) refl e)
    (holds_kept P kept (n + 1) rules (λ i k rule at e in'. each (suc i) k rule (omega (arith, at)) e in'))

few_by : (rule : Rule) (rest : List Rule) (b : Bool) (many : ℕ) → length rest ≤ many → length (cond b (rule ∷ rest) rest) ≤ suc many
few_by rule rest true many le = omega (arith, le)
few_by rule rest false many le = omega (arith, le)

pub few_kept : (kept : List ℕ) (n : ℕ) (rules : List Rule) → length (rules_in kept n rules) ≤ length rules
few_kept kept n [] = omega arith
few_kept kept n (r ∷ rules) = few_by r (rules_in kept (n + 1) rules) (has kept n) (length rules) (few_kept kept (n + 1) rules)

-- ---- the numbers of the kept rules

one_more : (get : ℕ → Option Rule) (n : ℕ) (rule : Rule) (rest : List Rule) (numbers : List ℕ) (b : Bool) → get n ≡ Some rule → rest ≡ filter_map get numbers → cond b (rule ∷ rest) rest ≡ filter_map get (cond b (n ∷ numbers) numbers)
one_more get n rule rest numbers true e more = ap (λ rs. rule ∷ rs) more ∙ ap (λ o. cons_option o (filter_map get numbers)) (sym e)
one_more get n rule rest numbers false e more = more

numbered : (get : ℕ → Option Rule) (kept : List ℕ) (n : ℕ) (rules : List Rule) → ((i k : ℕ) → k ≡ n + i → get k ≡ slice_get rules i) → rules_in kept n rules ≡ filter_map get (filter (has kept) (range_with_len n (length rules)))
numbered get kept n [] at = refl
numbered get kept n (r ∷ rules) at =
    one_more get n r (rules_in kept (n + 1) rules) (filter (has kept) (range_with_len (n + 1) (length rules))) (has kept n) (at 0 n (omega arith))
    (numbered get kept (n + 1) rules (λ i k e. at (suc i) k (omega (arith, e))))

-- where each number has a rule, the places stay
placed_by : (get : ℕ → Option Rule) (m : ℕ) (numbers : List ℕ) (place : ℕ) (o : Option Rule) → get m ≡ o → IsSome o → slice_get (filter_map get (m ∷ numbers)) (suc place) ≡ slice_get (filter_map get numbers) place
placed_by get m numbers place None e some = absurd cc
placed_by get m numbers place (Some rule) e some = ap (λ o. slice_get (cons_option o (filter_map get numbers)) (suc place)) e

placed_first : (get : ℕ → Option Rule) (m : ℕ) (numbers : List ℕ) (o : Option Rule) → get m ≡ o → IsSome o → slice_get (filter_map get (m ∷ numbers)) 0 ≡ get m
placed_first get m numbers None e some = absurd cc
placed_first get m numbers (Some rule) e some = ap (λ o. slice_get (cons_option o (filter_map get numbers)) 0) e ∙ sym e

placed : (get : ℕ → Option Rule) (numbers : List ℕ) (place n : ℕ) → Each (λ m. IsSome (get m)) numbers → slice_get numbers place ≡ Some n → slice_get (filter_map get numbers) place ≡ get n
placed get [] place n each e = absurd cc
placed get (m ∷ numbers) zero n each e = placed_first get m numbers (get m) refl each.0 ∙ ap get (same_Some m n e)
placed get (m ∷ numbers) (suc place) n each e = placed_by get m numbers place (get m) refl each.0 ∙ placed get numbers place n each.1 e

each_filter : (P : ℕ → Type 0) (test : ℕ → Bool) (a n : ℕ) → ((k : ℕ) → a ≤ k → k < a + n → P k) → Each P (filter test (range_with_len a n))
each_filter P test a zero each = tt
each_filter P test a (suc n) each = one (test a) (each_filter P test (a + 1) n (λ k low high. each k (omega (arith, low)) (omega (arith, high))))
  where
    one : (b : Bool) → Each P (filter test (range_with_len (a + 1) n)) → Each P (cond b (a ∷ filter test (range_with_len (a + 1) n)) (filter test (range_with_len (a + 1) n)))
    one true more = (each a (omega arith) (omega arith), more)
    one false more = more

there : (rules : List Rule) (i : ℕ) → i < length rules → IsSome (slice_get rules i)
there [] i lt = absurd (omega (arith, lt))
there (r ∷ rules) zero lt = refl
there (r ∷ rules) (suc i) lt = there rules i (omega (arith, lt))

pub part_rules : PartRules
part_rules f kept =
    let get : ℕ → Option Rule = λ n. slice_get f.problem.rules (n - f.problem.ships) in
    let rules : rules_in kept f.problem.ships f.problem.rules ≡ filter_map get (rule_numbers f kept) = numbered get kept f.problem.ships f.problem.rules (λ i k e. let d : k - f.problem.ships ≡ i = omega (arith, e) in ap (slice_get f.problem.rules) d) in
    record {
      rules = rules;
      renumbered = λ place n e.
          ap (λ rs. slice_get rs place) rules
          ∙ placed get (rule_numbers f kept) place n (each_filter (λ m. IsSome (get m)) (has kept) f.problem.ships (length f.problem.rules) (λ k low high. there f.problem.rules (k - f.problem.ships) (omega (arith, low, high)))) e;
    }
