-- A normal clause of 40 ships has at most 860 literals: their places get numbers that rise.
use Rattle.std.proofs.Common.{◌≡◌, ℕ, zero, suc, ◌+◌, ◌-◌, ◌*◌, ◌<◌, ◌≤◌, true, List, [], ◌∷◌, Option, Some, None, length, refl, ap, subst, arith, inl, inr}
use Rattle.std.proofs.lemmas.Bool.{and_parts}
use Rattle.hw_model.specs.declared.lit.Lit.{Lit}
use Rattle.hw_model.specs.declared.lit.Lit.TheVariants as lits
use Rattle.hw_model.specs.declared.shape.Shape.{Shape}
use Rattle.hw_model.specs.Lits.{lit_fits, place_of, is_earlier, keeps_form, first_bad_from, IsLitOf}
use Rattle.hw_model_laws.proofs.Denials.{lit_of, no_bad}
use Rattle.hw_model_laws.proofs.Places.{Earlier, earlier_from}

-- the number of a pair (v, w) is that of v and w together
pair_base : ℕ → ℕ
pair_base zero = 0
pair_base (suc v) = pair_base v + (38 - v)

base_suc : (v : ℕ) → pair_base (suc v) ≡ pair_base v + (38 - v)
unfolding pair_base
base_suc v = refl

base_last : pair_base 39 ≡ 741
unfolding pair_base
base_last = refl

base_rises : (v k : ℕ) → pair_base v + v ≤ pair_base (v + k) + (v + k)
base_rises v zero = omega (arith, ap pair_base (plus_zero v))
  where
    plus_zero : (v : ℕ) → v + 0 ≡ v
    plus_zero v = omega arith
base_rises v (suc k) =
    let e : v + suc k ≡ suc (v + k) = omega arith in
    let step : pair_base (v + suc k) ≡ pair_base (v + k) + (38 - (v + k)) = subst (λ n. pair_base n ≡ pair_base (v + k) + (38 - (v + k))) (sym_of e) (base_suc (v + k)) in
    omega (arith, base_rises v k, step)
  where
    sym_of : {a b : ℕ} → a ≡ b → b ≡ a
    sym_of {a} e = subst (λ n. n ≡ a) e refl

base_up_to : (v x : ℕ) → v < x → v ≤ 38 → pair_base v + 39 ≤ pair_base x + x
base_up_to v x lt le =
    let k = x - suc v in
    let e : suc v + k ≡ x = omega arith in
    let up : pair_base (suc v) + suc v ≤ pair_base x + x = subst (λ n. pair_base (suc v) + suc v ≤ pair_base n + n) e (base_rises (suc v) k) in
    omega (arith, up, base_suc v)

-- the number of a place
rank : ℕ → ℕ → ℕ → ℕ
rank zero b c = 2 * b + c
rank (suc a) b c = 79 + (pair_base b + c)

abbrev IsPlace : ℕ → ℕ → ℕ → Type 0
IsPlace zero b c = (b < 40) × (c ≤ 1)
IsPlace (suc a) b c = (a ≡ 0) × (b < c) × (c < 40)

rank_lt : (a b c : ℕ) → IsPlace a b c → rank a b c < 860
unfolding rank
rank_lt zero b c h = omega arith
rank_lt (suc a) b c h = omega (arith, base_up_to b 39 (omega arith) (omega arith), base_last)

rank_more : (a b c x y z : ℕ) → IsPlace a b c → IsPlace x y z → Earlier a b c x y z → rank a b c < rank x y z
unfolding rank
rank_more zero b c zero y z h k e = elim e [
  | inl lt ↦ omega arith
  | inr p ↦ elim p.1 [
    | inl lt ↦ omega arith
    | inr q ↦ omega arith
  ]
]
rank_more zero b c (suc x) y z h k e = omega arith
rank_more (suc a) b c zero y z h k e = elim e [
  | inl lt ↦ absurd (omega arith)
  | inr p ↦ absurd (omega (arith, p.0))
]
rank_more (suc a) b c (suc x) y z h k e = elim e [
  | inl lt ↦ absurd (omega arith)
  | inr p ↦ elim p.1 [
    | inl lt ↦ omega (arith, base_up_to b y lt (omega arith))
    | inr q ↦ omega (arith, ap pair_base q.0, q.1)
  ]
]

pub rank_of : Lit → ℕ
rank_of lit = rank (place_of lit).0 (place_of lit).1 (place_of lit).2

is_place : (ships : ℕ) (lit : Lit) → ships ≤ 40 → IsLitOf ships lit → IsPlace (place_of lit).0 (place_of lit).1 (place_of lit).2
is_place ships (lits.AtOrAfter ship slot) few h = (omega (arith, h.0), omega arith)
is_place ships (lits.Before ship slot) few h = (omega (arith, h.0), omega arith)
is_place ships (lits.First v w) few h = (refl, h.0, omega (arith, h.1))
is_place ships (lits.NotFirst v w) few h = (refl, h.0, omega (arith, h.1))

-- the number that the places after a literal reach at least
abbrev pub rank_after : Option Lit → ℕ
rank_after None = 0
rank_after (Some lit) = rank_of lit + 1

-- the literal before, if there is one, is in range
abbrev pub FitsBefore : Shape → Option Lit → Type 0
FitsBefore shape None = Unit {0}
FitsBefore shape (Some lit) = lit_fits shape lit ≡ true

pub after_small : (shape : Shape) (before : Option Lit) → shape.ships ≤ 40 → FitsBefore shape before → rank_after before ≤ 860
unfolding rank_of
after_small shape None few h = omega arith
after_small shape (Some lit) few h = omega (arith, rank_lt _ _ _ (is_place shape.ships lit few (lit_of shape lit h)))

pub after_more : (shape : Shape) (before : Option Lit) (lit : Lit) → shape.ships ≤ 40 → FitsBefore shape before → lit_fits shape lit ≡ true → keeps_form before lit ≡ true → rank_after before + 1 ≤ rank_after (Some lit)
unfolding rank_of
after_more shape None lit few h fits k = omega arith
after_more shape (Some b) lit few h fits k =
    let earlier = earlier_from (place_of b) (place_of lit) (and_parts (is_earlier (place_of b) (place_of lit)) _ k).0 in
    omega (arith, rank_more _ _ _ _ _ _ (is_place shape.ships b few (lit_of shape b h)) (is_place shape.ships lit few (lit_of shape lit fits)) earlier)

short_from : (shape : Shape) (clause : List Lit) (place : ℕ) (before : Option Lit) → shape.ships ≤ 40 → FitsBefore shape before → first_bad_from shape place before clause ≡ None → rank_after before + length clause ≤ 860
short_from shape [] place before few h e = omega (arith, after_small shape before few h)
short_from shape (lit ∷ more) place before few h e =
    let good = no_bad (lit_fits shape lit) (keeps_form before lit) _ _ _ e in
    omega (arith, after_more shape before lit few h good.0 good.1, short_from shape more (place + 1) (Some lit) few good.0 good.2)

pub normal_short : (shape : Shape) (clause : List Lit) → shape.ships ≤ 40 → first_bad_from shape 0 None clause ≡ None → length clause ≤ 860
normal_short shape clause few e = omega (arith, short_from shape clause 0 None few tt e)
