-- The broken restrictions listed one after the other, as a loop does.
use Rattle.std.proofs.Common.{◌≡◌, ℕ, zero, suc, ◌+◌, ◌<◌, Bool, true, false, cond, List, [], ◌∷◌, ◌++◌, take, set, filter, length, sym, ap, ◌∙◌, arith}
use Rattle.std.proofs.lemmas.List.{append-nil}
use Rattle.std.specs.List.{range_with_len}
use Rattle.hw_lemmas.proofs.Lists.{filter_range}

set_next : (out : List ℕ) (many n : ℕ) → many < length out → take (many + 1) (set out many n) ≡ take many out ++ n ∷ []
set_next [] many n lt = absurd (omega (arith, lt))
set_next (x ∷ out) zero n lt = let one : 0 + 1 ≡ 1 = omega arith in ap (λ (k : ℕ). take k (n ∷ out)) one
set_next (x ∷ out) (suc many) n lt =
    let next : suc many + 1 ≡ suc (many + 1) = omega arith in
    ap (λ (k : ℕ). take k (x ∷ set out many n)) next ∙ ap (λ (xs : List ℕ). x ∷ xs) (set_next out many n (omega (arith, lt)))

pub listed : (test : ℕ → Bool) (n many : ℕ) (out : List ℕ) → many < length out → test n ≡ true → take many out ≡ filter test (range_with_len 0 n) → take (many + 1) (set out many n) ≡ filter test (range_with_len 0 (n + 1))
listed test n many out lt fails so_far =
    set_next out many n lt
    ∙ (ap (λ (xs : List ℕ). xs ++ n ∷ []) so_far
    ∙ sym (filter_range test n ∙ ap (λ (b : Bool). filter test (range_with_len 0 n) ++ cond b (n ∷ []) []) fails))

pub passed : (test : ℕ → Bool) (n many : ℕ) (out : List ℕ) → test n ≡ false → take many out ≡ filter test (range_with_len 0 n) → take many out ≡ filter test (range_with_len 0 (n + 1))
passed test n many out holds so_far =
    so_far ∙ sym (filter_range test n ∙ (ap (λ (b : Bool). filter test (range_with_len 0 n) ++ cond b (n ∷ []) []) holds ∙ append-nil (filter test (range_with_len 0 n))))
