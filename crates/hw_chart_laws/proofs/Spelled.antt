-- Texts as elements hold them: names are spelled out, and what has no mark stands as it is.
use Rattle.std.proofs.Common.{◌≡◌, ◌++◌, ℕ, ℤ, Bool, true, nat_eq, nat_lt, List, [], ◌∷◌, codes, decimal, refl, ap, sym, unsigned_abs, if◌then◌else◌, arith}
use Rattle.std.specs.Int.{is_negative}
use Rattle.std.specs.List.{list_all}
use Rattle.std.proofs.lemmas.Bool.{and_parts, cond_both}
use Rattle.hw_chart_svg.specs.Names.{byte_text, escaped}
use Rattle.hw_chart_svg.specs.Numbers.{clock, height_text, metres, tonnes_label, digit_pair}
use Rattle.hw_chart_svg.proofs.Shortened.{escaped_both}
use Rattle.hw_chart_laws.specs.Trees.{is_plain_byte}
use Rattle.hw_chart_laws.proofs.Plain.{Plain, number}

-- a text is that of some words
pub record Spelled (text : List ℕ) : Type 0 where
  pub from : List ℕ
  pub same : text ≡ escaped from

pub also : {a b : List ℕ} → Spelled a → Spelled b → Spelled (a ++ b)
also {a = a} {b = b} p q = record { from = p.from ++ q.from; same = rw (p.same, q.same) (sym (escaped_both p.from q.from)) }

pub name : (text : List ℕ) → Spelled (escaped text)
name text = record { from = text; same = refl }

plain_byte : (b : ℕ) → is_plain_byte b ≡ true → byte_text b ≡ b ∷ []
unfolding byte_text
plain_byte b p =
    let P : List ℕ → Type 0 = λ text. text ≡ b ∷ [] in
    cond_both (nat_eq b 38) _ _ P (λ e. absurd (grind (arith, e, p))) (λ o.
    cond_both (nat_eq b 60) _ _ P (λ e. absurd (grind (arith, e, p))) (λ q.
    cond_both (nat_eq b 62) _ _ P (λ e. absurd (grind (arith, e, p))) (λ r.
    cond_both (nat_eq b 34) _ _ P (λ e. absurd (grind (arith, e, p))) (λ s.
    cond_both (nat_eq b 39) _ _ P (λ e. absurd (grind (arith, e, p))) (λ t. refl)))))

pub plain_same : (text : List ℕ) → list_all is_plain_byte text ≡ true → text ≡ escaped text
plain_same [] p = refl
plain_same (b ∷ bs) p =
    let parts = and_parts _ _ p in
    rw (plain_byte b parts.0) (ap (λ (l : List ℕ). b ∷ l) (plain_same bs parts.1))

pub plain : {text : List ℕ} → Plain text → Spelled text
plain {text = text} p = record { from = text; same = plain_same text p.none }

pub fixed : (text : List ℕ) → list_all is_plain_byte text ≡ true → Spelled text
fixed text p = record { from = text; same = plain_same text p }

pub nothing : Spelled []
nothing = record { from = []; same = refl }

pub of_number : (n : ℕ) → Spelled (decimal n)
of_number n = plain (number n)

pub of_tenths : (n : ℕ) → Spelled (tonnes_label n)
unfolding tonnes_label
of_tenths n = also (of_number _) (also (fixed (codes ".") refl) (also (of_number _) nothing))

pub of_metres : (n : ℕ) → Spelled (metres n)
unfolding metres
of_metres n = also (of_number _) (also (fixed (codes ".") refl) (also (of_number _) (also (of_number _) nothing)))

-- one of two texts
pub either : (b : Bool) {x y : List ℕ} → Spelled x → Spelled y → Spelled (if b then x else y)
either b p q = cond_both b _ _ Spelled (λ e. p) (λ e. q)

pub of_height : (z : ℤ) → Spelled (height_text z)
unfolding height_text
of_height z = also (either (is_negative z) (fixed (codes "-") refl) nothing) (also (of_metres (unsigned_abs z)) nothing)

two : (n : ℕ) → Spelled (digit_pair n)
two n = also (of_number _) (also (of_number _) nothing)

pub of_clock : (n : ℕ) → Spelled (clock n)
unfolding clock
of_clock n = also (either (nat_lt 0 _) (also (of_number _) (also (fixed (codes "d ") refl) nothing)) nothing) (also (two _) (also (fixed (codes ":") refl) (also (two _) nothing)))
