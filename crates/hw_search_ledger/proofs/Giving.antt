-- How many numbers a ledger gives, and that it names none that it didn't give.
use Rattle.std.proofs.Common.{◌≡◌, ℕ, zero, suc, ◌+◌, ◌≤◌, List, [], ◌∷◌, Option, Some, None, All, IfSome, take, sym, ◌∙◌, refl, subst, arith, length-set}
use Rattle.std.specs.Prelude.{slice_set}
use Rattle.std.proofs.lemmas.List.Elements.{All-cons, All-head, All-tail, All-take, All-weaker}
use Rattle.hw_search_laws.proofs.Numbers.{set_stay as stay_set}
use Rattle.hw_search_ledger.specs.Ledgers.{LedgerModel, with_clause_line, with_reason, GivesAtMost}

pub gives_none : (l : LedgerModel) (most : ℕ) → GivesAtMost most l l
gives_none l most = record { long = refl; stay = λ q h. h; reserved = refl; low = omega arith; high = omega arith }

pub gives_reason : (l l' : LedgerModel) (place : ℕ) → l' ≡ with_reason l place → GivesAtMost 1 l l'
gives_reason l l' place e = subst (GivesAtMost 1 l) (sym e) (record { long = length-set l.written place (Some (l.clause_lines + 1)); stay = stay_set l.written place (l.clause_lines + 1); reserved = refl; low = omega arith; high = omega arith })

pub gives_line : (l l' : LedgerModel) → l' ≡ with_clause_line l → GivesAtMost 1 l l'
gives_line l l' e = subst (GivesAtMost 1 l) (sym e) (record { long = refl; stay = λ q h. h; reserved = refl; low = omega arith; high = omega arith })

pub gives_then : (a b c : LedgerModel) (m n most : ℕ) → m + n ≤ most → GivesAtMost m a b → GivesAtMost n b c → GivesAtMost most a c
gives_then a b c m n most le x y = record { long = y.long ∙ x.long; stay = λ q h. y.stay q (x.stay q h); reserved = y.reserved ∙ x.reserved; low = omega (arith, x.low, y.low); high = omega (arith, le, x.high, y.high) }

-- ---- the invariant

abbrev Below : ℕ → Option ℕ → Type 0
Below most number = IfSome number (λ n. n ≤ most)

below_more : (most most' : ℕ) → most ≤ most' → (number : Option ℕ) → Below most number → Below most' number
below_more most most' le None h = tt
below_more most most' le (Some n) h = omega (arith, h, le)

pub given_more : (written : List (Option ℕ)) (most most' : ℕ) → most ≤ most' → All (λ number. IfSome number (λ n. n ≤ most)) written → All (λ number. IfSome number (λ n. n ≤ most')) written
given_more written most most' le all = All-weaker (Below most) (Below most') (below_more most most' le) written all

pub given_set : (written : List (Option ℕ)) (place most n : ℕ) → n ≤ most → All (λ number. IfSome number (λ n. n ≤ most)) written → All (λ number. IfSome number (λ n. n ≤ most)) (slice_set written place (Some n))
given_set [] place most n le all = all
given_set (x ∷ xs) zero most n le all = All-cons (Below most) (Some n) xs le (All-tail (Below most) x xs all)
given_set (x ∷ xs) (suc place) most n le all = All-cons (Below most) x (slice_set xs place (Some n)) (All-head (Below most) x xs all) (given_set xs place most n le (All-tail (Below most) x xs all))

pub given_take : (written : List (Option ℕ)) (count most : ℕ) → All (λ number. IfSome number (λ n. n ≤ most)) written → All (λ number. IfSome number (λ n. n ≤ most)) (take count written)
given_take written count most all = All-take (Below most) count written all
