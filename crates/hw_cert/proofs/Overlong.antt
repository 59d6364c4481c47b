-- A line that passes a limit.
use Rattle.std.proofs.Common.{◌≡◌, ◌⊎◌, ◌+◌, ◌++◌, Bool, true, false, cond, ℕ, List, [], ◌∷◌, length, take, Option, Some, None, Result, Ok, Err, inl, inr, refl, subst, append_assoc, arith}
use Rattle.std.specs.List.{sum_by}
use Rattle.std.specs.Prelude.{◌^◌, nat_lt}
use Rattle.std.proofs.lemmas.Bool.{ltb-true}
use Rattle.std.proofs.lemmas.List.Sums.{sum_by-append}
use Rattle.hw_lemmas.proofs.Truths.{either}
use Rattle.hw_model.specs.declared.shape.Shape.{Shape}
use Rattle.hw_text.specs.Parts.{parts_of}
use Rattle.hw_cert_lines.specs.declared.line.Line.{Line}
use Rattle.hw_cert.specs.declared.stop.FormWord.{FormWord}
use Rattle.hw_cert.specs.declared.version.Version.{Version}
use Rattle.hw_cert.specs.Fits.{line_read}
use Rattle.hw_cert.specs.Spelled.{version_to}
use Rattle.hw_cert.specs.Stream.{whole, unended, long, line_passes_limit, cut_of, tail_cut, past_line, line_by, line_next, CertLines, overlong, onward, lines_from, lines_by, lines_after}
use Rattle.hw_cert.specs.Laws.{ended_size, OverLimit, IsOverLimit, OverlongPasses}

-- a test that is passed says which limit it is
which : (taken size end : ℕ) → line_passes_limit taken size end ≡ true → OverLimit taken size end
which taken size end e = by (either (nat_lt (2 ^ 20) size) (nat_lt (2 ^ 40) (taken + size + end)) e)
  where
    by : (nat_lt (2 ^ 20) size ≡ true) ⊎ (nat_lt (2 ^ 40) (taken + size + end) ≡ true) → OverLimit taken size end
    by (inl a) = inl (ltb-true _ _ a)
    by (inr b) = inr (ltb-true _ _ b)

at : (before : List (List ℕ)) (line : List ℕ) (more : List (List ℕ)) (taken : ℕ) → taken ≡ sum_by ended_size before → line_passes_limit taken (length line) (length (take 1 more)) ≡ true → IsOverLimit (before ++ line ∷ more)
at before line more taken e p = record { before = before; line = line; more = more; parts = refl; over = which _ _ _ (subst (λ n. line_passes_limit n (length line) (length (take 1 more)) ≡ true) e p) }

-- the bytes after the last line feed
tail_over : (taken number : ℕ) (shape : Shape) (most version : Version) (tail : List ℕ) (later : CertLines) → (onward (line_next shape most version number taken (tail_cut taken tail)) later).stop ≡ overlong → line_passes_limit taken (length tail) 0 ≡ true
tail_over taken number shape most version [] later h = absurd cc
tail_over taken number shape most version (b ∷ bs) later h = by (line_passes_limit taken (length (b ∷ bs)) 0) h
  where
    by : (p : Bool) → (onward (line_next shape most version number taken (cond p long unended)) later).stop ≡ overlong → p ≡ true
    by true h = refl
    by false h = absurd cc

-- a line that others follow
line_over : (taken number : ℕ) (shape : Shape) (most version : Version) (line next : List ℕ) (more : List (List ℕ)) (later : CertLines) → (onward (line_next shape most version number taken (cut_of taken (line ∷ next ∷ more))) later).stop ≡ overlong → (line_passes_limit taken (length line) 1 ≡ true) ⊎ (later.stop ≡ overlong)
line_over taken number shape most version line next more later h = by (line_passes_limit taken (length line) 1) h
  where
    read : (r : Result Line FormWord) → (onward (line_by number (past_line most version number taken line) (next ∷ more) r) later).stop ≡ overlong → later.stop ≡ overlong
    read (Ok one) h = h
    read (Err word) h = absurd cc

    by : (p : Bool) → (onward (line_next shape most version number taken (cond p long (whole line (next ∷ more)))) later).stop ≡ overlong → (p ≡ true) ⊎ (later.stop ≡ overlong)
    by true h = inl refl
    by false h = inr (read (line_read shape version line) h)

sum_more : (before : List (List ℕ)) (line : List ℕ) (taken : ℕ) → taken ≡ sum_by ended_size before → taken + length line + 1 ≡ sum_by ended_size (before ++ line ∷ [])
sum_more before line taken e =
    let s = sum_by-append ended_size before (line ∷ []) in
    omega (arith, e, s)

lines_over : (shape : Shape) (most version : Version) (number taken : ℕ) (parts before : List (List ℕ)) → taken ≡ sum_by ended_size before → (lines_from shape most version number taken parts).stop ≡ overlong → IsOverLimit (before ++ parts)
lines_over shape most version number taken [] before e h = absurd cc
lines_over shape most version number taken (tail ∷ []) before e h = at before tail [] taken e (tail_over taken number shape most version tail (lines_from shape most version (number + 1) (taken + length tail + 1) []) h)
lines_over shape most version number taken (line ∷ next ∷ more) before e h =
    by (λ k. subst IsOverLimit (append_assoc before (line ∷ []) (next ∷ more)) (lines_over shape most version (number + 1) (taken + length line + 1) (next ∷ more) (before ++ line ∷ []) (sum_more before line taken e) k)) (line_over taken number shape most version line next more (lines_from shape most version (number + 1) (taken + length line + 1) (next ∷ more)) h)
  where
    by : ((lines_from shape most version (number + 1) (taken + length line + 1) (next ∷ more)).stop ≡ overlong → IsOverLimit (before ++ line ∷ next ∷ more)) → (line_passes_limit taken (length line) 1 ≡ true) ⊎ ((lines_from shape most version (number + 1) (taken + length line + 1) (next ∷ more)).stop ≡ overlong) → IsOverLimit (before ++ line ∷ next ∷ more)
    by later (inl p) = at before line (next ∷ more) taken e p
    by later (inr k) = later k

head_over : (shape : Shape) (most : Version) (parts : List (List ℕ)) → (lines_after shape most 1 0 (cut_of 0 parts)).stop ≡ overlong → IsOverLimit parts
head_over shape most [] h = absurd cc
head_over shape most ([] ∷ []) h = absurd cc
head_over shape most ((b ∷ bs) ∷ []) h = by (line_passes_limit 0 (length (b ∷ bs)) 0) refl h
  where
    by : (p : Bool) → line_passes_limit 0 (length (b ∷ bs)) 0 ≡ p → (lines_after shape most 1 0 (cond p long unended)).stop ≡ overlong → IsOverLimit ((b ∷ bs) ∷ [])
    by true e h = at [] (b ∷ bs) [] 0 refl e
    by false e h = absurd cc
head_over shape most (line ∷ next ∷ more) h = by (line_passes_limit 0 (length line) 1) refl h
  where
    headed : (o : Option Version) → (lines_by shape most 1 0 line (next ∷ more) o).stop ≡ overlong → IsOverLimit (line ∷ next ∷ more)
    headed None h = absurd cc
    headed (Some version) h = lines_over shape most version 2 (0 + length line + 1) (next ∷ more) (line ∷ []) (sum_more [] line 0 refl) h

    by : (p : Bool) → line_passes_limit 0 (length line) 1 ≡ p → (lines_after shape most 1 0 (cond p long (whole line (next ∷ more)))).stop ≡ overlong → IsOverLimit (line ∷ next ∷ more)
    by true e h = at [] line (next ∷ more) 0 refl e
    by false e h = headed (version_to most line) h

pub overlong_passes : OverlongPasses
overlong_passes most shape bytes h = head_over shape most (parts_of 10 bytes) h
