-- Reading a clash text, one line after the other, as loops do.
use Rattle.std.proofs.Common.{◌≡◌, ℕ, zero, suc, ◌+◌, ◌≤◌, ◌<◌, List, [], ◌∷◌, ◌++◌, drop, drop-cons, get_or, length, Result, Ok, Err, refl, sym, ap, ◌∙◌, append_assoc, arith}
use Rattle.std.proofs.lemmas.List.{append-nil}
use Rattle.hw_lemmas.specs.Operators.{◌>>=◌}
use Rattle.hw_plan_texts.specs.declared.fault.LineFault.{LineFault}
use Rattle.hw_plan_texts.specs.declared.fault.LineFault.TheVariants as faults
use Rattle.hw_plan_texts.specs.Reading.{MalformedLine, TextReadFails}
use Rattle.hw_clash.specs.declared.fault.ClashWord.{ClashWord}
use Rattle.hw_clash.specs.Wished.{Wished}
use Rattle.hw_clash.specs.Text.{drop_at, drops_at}

-- ---- timetables

abbrev Read : Type 0
Read = Result (List (List ℕ) × List (List ℕ)) (MalformedLine ClashWord)

-- what was read before, and what is still read
abbrev pub with_read : List (List ℕ) → Read → Read
with_read front read = read >>= λ x. Ok (front ++ x.0, x.1)

regroup_tables : (front : List (List ℕ)) (table : List ℕ) (read : Read) → with_read front (read >>= λ x. Ok (table ∷ x.0, x.1)) ≡ with_read (front ++ table ∷ []) read
regroup_tables front table (Ok x) = ap (λ (ts : List (List ℕ)). Ok (ts, x.1)) (sym (append_assoc front (table ∷ []) x.0))
regroup_tables front table (Err f) = refl

later : (kept : List ℕ) (i : ℕ) → i < length kept → drop i kept ≡ get_or kept i 0 ∷ drop (i + 1) kept
later kept i lt =
    let one : i + 1 ≡ suc i = omega arith in
    drop-cons kept i 0 lt ∙ ap (λ n. get_or kept i 0 ∷ drop n kept) (sym one)

pub drops_go_on : (f : Wished) (kept : List ℕ) (front : List (List ℕ)) (table : List ℕ) (i : ℕ) (parts after : List (List ℕ)) (total : Read) → i < length kept → drop_at f kept (3 + i) (get_or kept i 0) parts ≡ Ok (table, after)
    → with_read front (drops_at f kept (3 + i) (drop i kept) parts) ≡ total → with_read (front ++ table ∷ []) (drops_at f kept (3 + (i + 1)) (drop (i + 1) kept) after) ≡ total
unfolding drops_at
drops_go_on f kept front table i parts after total lt h so_far =
    let n : 3 + i + 1 ≡ 3 + (i + 1) = omega arith in
    let one : with_read front (drops_at f kept (3 + i) (drop i kept) parts) ≡ with_read (front ++ table ∷ []) (drops_at f kept (3 + (i + 1)) (drop (i + 1) kept) after) =
    rw (later kept i lt, h, n) (regroup_tables front table (drops_at f kept (3 + (i + 1)) (drop (i + 1) kept) after)) in
    sym one ∙ so_far

pub drops_fail : (e : LineFault ClashWord) (f : Wished) (kept : List ℕ) (front : List (List ℕ)) (i : ℕ) (parts : List (List ℕ)) (total : Read) → i < length kept → TextReadFails e (drop_at f kept (3 + i) (get_or kept i 0) parts)
    → with_read front (drops_at f kept (3 + i) (drop i kept) parts) ≡ total → TextReadFails e total
unfolding drops_at
drops_fail faults.NoMemory f kept front i parts total lt h so_far = tt
drops_fail (faults.Line at word) f kept front i parts total lt h so_far =
    let one : with_read front (drops_at f kept (3 + i) (drop i kept) parts) ≡ Err (record { number = at; word = word }) = rw (later kept i lt, h) refl in
    sym so_far ∙ one

pub drops_done : (f : Wished) (kept : List ℕ) (front : List (List ℕ)) (i : ℕ) (parts : List (List ℕ)) (total : Read) → drop i kept ≡ [] → with_read front (drops_at f kept (3 + i) (drop i kept) parts) ≡ total → total ≡ Ok (front, parts)
unfolding drops_at
drops_done f kept front i parts total none so_far =
    let one : with_read front (drops_at f kept (3 + i) (drop i kept) parts) ≡ Ok (front, parts) = rw none (ap (λ (ts : List (List ℕ)). Ok (ts, parts)) (append-nil front)) in
    sym so_far ∙ one

-- ---- a timetable that is met

pub drop_all : (xs : List ℕ) (i : ℕ) → length xs ≤ i → drop i xs ≡ []
drop_all [] zero le = refl
drop_all [] (suc i) le = refl
drop_all (x ∷ xs) zero le = absurd (omega (arith, le))
drop_all (x ∷ xs) (suc i) le = drop_all xs i (omega (arith, le))
