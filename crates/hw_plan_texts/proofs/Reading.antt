-- What was read where reading gives something.
use Rattle.std.proofs.Common.{◌≡◌, ℕ, ◌-◌, ◌<◌, ◌≤◌, ◌&&◌, nat_le, List, Option, Some, None, Result, Ok, Err, refl, ap, arith}
use Rattle.std.proofs.lemmas.Bool.{leb-true, and_parts}
use Rattle.std.proofs.lemmas.Option.{cond_some}
use Rattle.std.specs.Str.Parse.{digits_value}
use Rattle.hw_lemmas.specs.Operators.{◌>>=◌}
use Rattle.hw_text.specs.Numbers.{is_number}
use Rattle.hw_plan_texts.specs.Slots.{slot_form}
use Rattle.hw_plan_texts.specs.Reading.{MalformedLine, formed_line}

pub record Binds {W A B : Type 0} (r : Result A (MalformedLine W)) (g : A → Result B (MalformedLine W)) (b : B) : Type 0 where
  pub value : A
  pub is : r ≡ Ok value
  pub then' : g value ≡ Ok b

pub bind_ok : {W A B : Type 0} (r : Result A (MalformedLine W)) (g : A → Result B (MalformedLine W)) (b : B) → (r >>= g) ≡ Ok b → Binds r g b
bind_ok (Ok a) g b e = record { value = a; is = refl; then' = e }
bind_ok (Err f) g b e = absurd cc

pub formed_ok : {W A : Type 0} (number : ℕ) (word : W) (o : Option A) (x : A) → formed_line number word o ≡ Ok x → o ≡ Some x
formed_ok number word None x e = absurd cc
formed_ok {A = A} number word (Some y) x e = let p : y ≡ x = cc in ap (λ (z : A). Some z) p

pub slot_below : (slots : ℕ) (word : List ℕ) (n : ℕ) → 0 < slots → slot_form slots word ≡ Some n → n < slots
slot_below slots word n some e =
    let r = cond_some (is_number word && nat_le (digits_value 10 word) (slots - 1)) (digits_value 10 word) n e in
    let le : digits_value 10 word ≤ slots - 1 = leb-true _ _ (and_parts (is_number word) _ r.0).1 in
    omega (arith, some, le, r.1)
