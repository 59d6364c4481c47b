-- The list of a problem's sources, one source after the other.
use Rattle.std.proofs.Common.{◌≡◌, ap, ℕ, ◌+◌, ◌<◌, ◌≤◌, List, [], ◌∷◌, ◌++◌, refl, sym, subst, arith, inl, inr, length, get_or}
use Rattle.std.specs.Prelude.{◌⊎◌, AllPairs, Contains}
use Rattle.std.proofs.lemmas.Bool.{cases_lt}
use Rattle.std.proofs.lemmas.List.Elements.{All-push, All-weaker, Contains-append_left, Contains-push}
use Rattle.std.proofs.lemmas.List.Quantifiers.{all_pairs_push}
use Rattle.hw_model.specs.declared.source.Source.{Source}
use Rattle.hw_model.specs.declared.source.Source.TheVariants as sources
use Rattle.hw_model.specs.Problem.{Problem}
use Rattle.hw_model.specs.Refuting.{IsSourceOf}
use Rattle.hw_rules.specs.Sources.{ComesBefore, AreSourcesOf, AreSourcesBefore}

-- another place, before which the same sources come
moved : (f : Problem) (p q : Source) (list : List Source) → ((t : Source) → IsSourceOf f t → ComesBefore t q → ComesBefore t p) → ((t : Source) → IsSourceOf f t → ComesBefore t p → ComesBefore t q)
    → AreSourcesBefore f p list → AreSourcesBefore f q list
moved f p q list back on h = record {
  each = λ t is before. h.each t is (back t is before);
  only = All-weaker (λ t. IsSourceOf f t × ComesBefore t p) (λ t. IsSourceOf f t × ComesBefore t q) (λ t k. (k.0, on t k.0 k.1)) list h.only;
  order = h.order;
}

-- the source of the place, after those before it
pushed : (f : Problem) (s q : Source) (list : List Source) → IsSourceOf f s → ((t : Source) → IsSourceOf f t → ComesBefore t q → ComesBefore t s ⊎ (s ≡ t)) → ((t : Source) → IsSourceOf f t → ComesBefore t s → ComesBefore t q)
    → ComesBefore s q → AreSourcesBefore f s list → AreSourcesBefore f q (list ++ s ∷ [])
pushed f s q list is back on here h = record {
  each = λ t of before. elim (back t of before) [
    | inl earlier ↦ Contains-append_left list (s ∷ []) t (h.each t of earlier)
    | inr same ↦ subst (Contains (list ++ s ∷ [])) same (Contains-push list s)
  ];
  only = All-push (λ t. IsSourceOf f t × ComesBefore t q) list s (All-weaker (λ t. IsSourceOf f t × ComesBefore t s) (λ t. IsSourceOf f t × ComesBefore t q) (λ t k. (k.0, on t k.0 k.1)) list h.only) (is, here);
  order = all_pairs_push ComesBefore list s h.order (λ k d lt. (h.only k d lt).1);
}

-- ---- windows

pub windows_more : (f : Problem) (n : ℕ) (list : List Source) → n < f.ships → AreSourcesBefore f (sources.Window n) list → AreSourcesBefore f (sources.Window (n + 1)) (list ++ sources.Window n ∷ [])
windows_more f n list lt h = pushed f (sources.Window n) (sources.Window (n + 1)) list lt back on (omega arith) h
  where
    back : (t : Source) → IsSourceOf f t → ComesBefore t (sources.Window (n + 1)) → ComesBefore t (sources.Window n) ⊎ (sources.Window n ≡ t)
    back (sources.Window a) is before = elim (cases_lt a n) [ inl less ↦ inl less | inr past ↦ let same : n ≡ a = omega (arith, before, past) in inr (ap sources.Window same) ]
    back (sources.Rule a) is before = absurd before
    back (sources.Order a b c) is before = absurd before
    back sources.Goal is before = absurd before

    on : (t : Source) → IsSourceOf f t → ComesBefore t (sources.Window n) → ComesBefore t (sources.Window (n + 1))
    on (sources.Window a) is before = omega (arith, before)
    on (sources.Rule a) is before = before
    on (sources.Order a b c) is before = before
    on sources.Goal is before = before

pub windows_end : (f : Problem) (n : ℕ) (list : List Source) → f.ships ≤ n → AreSourcesBefore f (sources.Window n) list → AreSourcesBefore f (sources.Rule 0) list
windows_end f n list all h = moved f (sources.Window n) (sources.Rule 0) list back on h
  where
    back : (t : Source) → IsSourceOf f t → ComesBefore t (sources.Rule 0) → ComesBefore t (sources.Window n)
    back (sources.Window a) is before = omega (arith, is, all)
    back (sources.Rule a) is before = absurd (omega (arith, before))
    back (sources.Order a b c) is before = before
    back sources.Goal is before = before

    on : (t : Source) → IsSourceOf f t → ComesBefore t (sources.Window n) → ComesBefore t (sources.Rule 0)
    on (sources.Window a) is before = tt
    on (sources.Rule a) is before = absurd before
    on (sources.Order a b c) is before = before
    on sources.Goal is before = before

-- ---- rules

pub rules_more : (f : Problem) (n : ℕ) (list : List Source) → n < length f.rules → AreSourcesBefore f (sources.Rule n) list → AreSourcesBefore f (sources.Rule (n + 1)) (list ++ sources.Rule n ∷ [])
rules_more f n list lt h = pushed f (sources.Rule n) (sources.Rule (n + 1)) list lt back on (omega arith) h
  where
    back : (t : Source) → IsSourceOf f t → ComesBefore t (sources.Rule (n + 1)) → ComesBefore t (sources.Rule n) ⊎ (sources.Rule n ≡ t)
    back (sources.Window a) is before = inl tt
    back (sources.Rule a) is before = elim (cases_lt a n) [ inl less ↦ inl less | inr past ↦ let same : n ≡ a = omega (arith, before, past) in inr (ap sources.Rule same) ]
    back (sources.Order a b c) is before = absurd before
    back sources.Goal is before = absurd before

    on : (t : Source) → IsSourceOf f t → ComesBefore t (sources.Rule n) → ComesBefore t (sources.Rule (n + 1))
    on (sources.Window a) is before = tt
    on (sources.Rule a) is before = omega (arith, before)
    on (sources.Order a b c) is before = before
    on sources.Goal is before = before

pub rules_end : (f : Problem) (n : ℕ) (list : List Source) → length f.rules ≤ n → AreSourcesBefore f (sources.Rule n) list → AreSourcesBefore f (sources.Order 0 1 2) list
rules_end f n list all h = moved f (sources.Rule n) (sources.Order 0 1 2) list back on h
  where
    back : (t : Source) → IsSourceOf f t → ComesBefore t (sources.Order 0 1 2) → ComesBefore t (sources.Rule n)
    back (sources.Window a) is before = tt
    back (sources.Rule a) is before = omega (arith, is, all)
    back (sources.Order a b c) is before = absurd (omega (arith, is.0, is.1, before))
    back sources.Goal is before = before

    on : (t : Source) → IsSourceOf f t → ComesBefore t (sources.Rule n) → ComesBefore t (sources.Order 0 1 2)
    on (sources.Window a) is before = tt
    on (sources.Rule a) is before = tt
    on (sources.Order a b c) is before = absurd before
    on sources.Goal is before = before

-- ---- orders

-- of two places among the orders: what comes before the one comes before the other
orders_on : (f : Problem) (v w x v' w' x' : ℕ) → ((a b c : ℕ) → IsSourceOf f (sources.Order a b c) → ComesBefore (sources.Order a b c) (sources.Order v w x) → ComesBefore (sources.Order a b c) (sources.Order v' w' x'))
    → (t : Source) → IsSourceOf f t → ComesBefore t (sources.Order v w x) → ComesBefore t (sources.Order v' w' x')
orders_on f v w x v' w' x' h (sources.Window a) is before = tt
orders_on f v w x v' w' x' h (sources.Rule a) is before = tt
orders_on f v w x v' w' x' h (sources.Order a b c) is before = h a b c is before
orders_on f v w x v' w' x' h sources.Goal is before = before

-- lexicographic order from its three comparisons
ordered : (a b c v w x : ℕ) → a ≤ v → (a ≡ v → b ≤ w) → (a ≡ v → b ≡ w → c < x) → ComesBefore (sources.Order a b c) (sources.Order v w x)
ordered a b c v w x p q r = elim (cases_lt a v) [
  | inl less ↦ inl less
  | inr past ↦
      let e : a ≡ v = omega (arith, p, past) in
      elim (cases_lt b w) [
        | inl less ↦ inr (e, inl less)
        | inr beyond ↦ let d : b ≡ w = omega (arith, q e, beyond) in inr (e, inr (d, r e d))
      ]
]

same_order : (a b c v w x : ℕ) → v ≡ a → w ≡ b → x ≡ c → sources.Order v w x ≡ sources.Order a b c
same_order a b c v w x p q r = cc

pub thirds_more : (f : Problem) (v w x : ℕ) (list : List Source) → v < w → w < x → x < f.ships → AreSourcesBefore f (sources.Order v w x) list → AreSourcesBefore f (sources.Order v w (x + 1)) (list ++ sources.Order v w x ∷ [])
thirds_more f v w x list first second in' h = pushed f (sources.Order v w x) (sources.Order v w (x + 1)) list (first, second, in') back
    (orders_on f v w x v w (x + 1) (λ a b c is before. ordered a b c v w (x + 1) (omega (arith, before)) (λ e. omega (arith, before, e)) (λ e d. omega (arith, before, e, d)))) (inr (refl, inr (refl, omega arith))) h
  where
    split : (a b c : ℕ) → ComesBefore (sources.Order a b c) (sources.Order v w (x + 1)) → ComesBefore (sources.Order a b c) (sources.Order v w x) ⊎ ((v ≡ a) × (w ≡ b) × (x ≡ c))
    split a b c (inl p) = inl (inl p)
    split a b c (inr (p, inl q)) = inl (inr (p, inl q))
    split a b c (inr (p, inr (q, r))) = elim (cases_lt c x) [ inl less ↦ inl (inr (p, inr (q, less))) | inr past ↦ inr (sym p, sym q, omega (arith, r, past)) ]

    back : (t : Source) → IsSourceOf f t → ComesBefore t (sources.Order v w (x + 1)) → ComesBefore t (sources.Order v w x) ⊎ (sources.Order v w x ≡ t)
    back (sources.Window a) is before = inl tt
    back (sources.Rule a) is before = inl tt
    back (sources.Order a b c) is before = elim (split a b c before) [ inl earlier ↦ inl earlier | inr same ↦ inr (same_order a b c v w x same.0 same.1 same.2) ]
    back sources.Goal is before = absurd before

pub thirds_end : (f : Problem) (v w x : ℕ) (list : List Source) → f.ships ≤ x → AreSourcesBefore f (sources.Order v w x) list → AreSourcesBefore f (sources.Order v (w + 1) (w + 1 + 1)) list
thirds_end f v w x list all h = moved f (sources.Order v w x) (sources.Order v (w + 1) (w + 1 + 1)) list
    (orders_on f v (w + 1) (w + 1 + 1) v w x (λ a b c is before. ordered a b c v w x (omega (arith, is.0, is.1, is.2, all, before)) (λ e. omega (arith, is.0, is.1, is.2, all, before, e)) (λ e d. omega (arith, is.0, is.1, is.2, all, before, e, d))))
    (orders_on f v w x v (w + 1) (w + 1 + 1) (λ a b c is before. ordered a b c v (w + 1) (w + 1 + 1) (omega (arith, is.0, is.1, is.2, all, before)) (λ e. omega (arith, is.0, is.1, is.2, all, before, e)) (λ e d. omega (arith, is.0, is.1, is.2, all, before, e, d)))) h

pub seconds_end : (f : Problem) (v w : ℕ) (list : List Source) → f.ships ≤ w → AreSourcesBefore f (sources.Order v w (w + 1)) list → AreSourcesBefore f (sources.Order (v + 1) (v + 1 + 1) (v + 1 + 1 + 1)) list
seconds_end f v w list all h = moved f (sources.Order v w (w + 1)) (sources.Order (v + 1) (v + 1 + 1) (v + 1 + 1 + 1)) list
    (orders_on f (v + 1) (v + 1 + 1) (v + 1 + 1 + 1) v w (w + 1) (λ a b c is before. ordered a b c v w (w + 1) (omega (arith, is.0, is.1, is.2, all, before)) (λ e. omega (arith, is.0, is.1, is.2, all, before, e)) (λ e d. omega (arith, is.0, is.1, is.2, all, before, e, d))))
    (orders_on f v w (w + 1) (v + 1) (v + 1 + 1) (v + 1 + 1 + 1) (λ a b c is before. ordered a b c (v + 1) (v + 1 + 1) (v + 1 + 1 + 1) (omega (arith, is.0, is.1, is.2, all, before)) (λ e. omega (arith, is.0, is.1, is.2, all, before, e)) (λ e d. omega (arith, is.0, is.1, is.2, all, before, e, d)))) h

pub orders_end : (f : Problem) (v : ℕ) (list : List Source) → f.ships ≤ v → AreSourcesBefore f (sources.Order v (v + 1) (v + 1 + 1)) list → AreSourcesBefore f sources.Goal list
orders_end f v list all h = moved f (sources.Order v (v + 1) (v + 1 + 1)) sources.Goal list back on h
  where
    back : (t : Source) → IsSourceOf f t → ComesBefore t sources.Goal → ComesBefore t (sources.Order v (v + 1) (v + 1 + 1))
    back (sources.Window a) is before = tt
    back (sources.Rule a) is before = tt
    back (sources.Order a b c) is before = inl (omega (arith, is.0, is.1, is.2, all))
    back sources.Goal is before = before

    on : (t : Source) → IsSourceOf f t → ComesBefore t (sources.Order v (v + 1) (v + 1 + 1)) → ComesBefore t sources.Goal
    on (sources.Window a) is before = tt
    on (sources.Rule a) is before = tt
    on (sources.Order a b c) is before = tt
    on sources.Goal is before = before

-- ---- all of them

never_itself : (s : Source) → ComesBefore s s → ⊥
never_itself (sources.Window a) h = omega (arith, h)
never_itself (sources.Rule a) h = omega (arith, h)
never_itself (sources.Order a b c) h = omega (arith, h)
never_itself sources.Goal h = h

pub none_twice : (f : Problem) (list : List Source) → AreSourcesOf f list → AllPairs (λ earlier later. earlier ≡ later → ⊥) list
none_twice f list h i j d lt in' same = never_itself (get_or list j d) (subst (λ s. ComesBefore s (get_or list j d)) same (h.order i j d lt in'))
