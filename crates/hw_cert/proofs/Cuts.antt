-- What the told bytes begin with, where a line was taken from them.
use Rattle.std.proofs.Common.{◌≡◌, ◌==◌, ◌≤◌, ◌<◌, ◌+◌, ◌^◌, not, cond, nat_lt, ℕ, Bool, true, false, List, [], ◌∷◌, ◌++◌, length, Option, Some, None, Result, Ok, Err, sym, ap, ◌∙◌, subst, arith, append_assoc, append-nil, length-append, inl, inr}
use Rattle.std.proofs.lemmas.Bool.{ltb-true, lt-ltb, or_cases, or_left, or_right, and_parts}
use Rattle.std.proofs.lemmas.List.Splits.{slice_split-cons_no}
use Rattle.std.specs.List.{onto_first}
use Rattle.std.specs.Prelude.{IfSome, IsSomeAnd, ⊤}
use Rattle.std.specs.Io.KnownBytes.{prepend_known}
use Rattle.hw_lemmas.proofs.Truths.{was_not}
use Rattle.hw_desk.specs.State.{DeskState}
use Rattle.hw_desk.specs.declared.desk.Feed.{Feed}
use Rattle.hw_text.specs.Parts.{lacks, parts_of}
use Rattle.hw_text.proofs.Joins.{one_part, part_before}
use Rattle.hw_text.proofs.Splits.{has_part}
use Rattle.hw_cert.specs.Stream.{nothing, whole, unended, long, line_passes_limit, cut_of, tail_cut}
use Rattle.hw_cert.specs.Taking.{Stands, TakesLine}
use Rattle.hw_cert.specs.declared.stop.LineStop.{LineStop}
use Rattle.hw_cert.specs.declared.stop.LineStop.TheVariants as stops
use Rattle.hw_cert.specs.declared.taking.TakenLine.{TakenLine}
use Rattle.hw_cert.specs.declared.taking.TakenLine.TheVariants.{Whole, Unended, Nothing}

-- a line and a line feed
cut_line : (taken : ℕ) (line more : List ℕ) (b : Bool) → lacks 10 line ≡ true → line_passes_limit taken (length line) 1 ≡ b → cut_of taken (parts_of 10 (line ++ 10 ∷ more)) ≡ cond b long (whole line (parts_of 10 more))
cut_line taken line more b l p =
    let r = has_part (λ c. c == 10) more in
    ap (cut_of taken) (part_before 10 line more l) ∙ by_parts (parts_of 10 more) r.0 r.1 r.2
  where
    by_parts : (ps : List (List ℕ)) (y : List ℕ) (ys : List (List ℕ)) → ps ≡ y ∷ ys → cut_of taken (line ∷ ps) ≡ cond b long (whole line ps)
    by_parts ps y ys e = rw e (ap (λ (q : Bool). cond q long (whole line (y ∷ ys))) p)

tail_is : (taken : ℕ) (line : List ℕ) (b : Bool) → 0 < length line → line_passes_limit taken (length line) 0 ≡ b → tail_cut taken line ≡ cond b long unended
tail_is taken [] b lt p = absurd (omega arith)
tail_is taken (x ∷ xs) b lt p = ap (λ (q : Bool). cond q long unended) p

-- bytes without a line feed
cut_tail : (taken : ℕ) (line : List ℕ) (b : Bool) → lacks 10 line ≡ true → 0 < length line → line_passes_limit taken (length line) 0 ≡ b → cut_of taken (parts_of 10 line) ≡ cond b long unended
cut_tail taken line b l lt p = ap (cut_of taken) (one_part 10 line l) ∙ tail_is taken line b lt p

-- the first part begins with the bytes before any line feed
front_part : (line more y : List ℕ) (ys : List (List ℕ)) → lacks 10 line ≡ true → parts_of 10 more ≡ y ∷ ys → parts_of 10 (line ++ more) ≡ (line ++ y) ∷ ys
front_part [] more y ys l e = e
front_part (x ∷ xs) more y ys l e =
    let p = and_parts (not (x == 10)) (lacks 10 xs) l in
    slice_split-cons_no (λ b. b == 10) x (xs ++ more) (was_not (x == 10) p.0) ∙ ap (onto_first x) (front_part xs more y ys p.1 e)

-- what passes a limit without its end does so with more bytes
passes_more : (taken a b e : ℕ) → a ≤ b → line_passes_limit taken a 0 ≡ true → line_passes_limit taken b e ≡ true
passes_more taken a b e le p = elim (or_cases (nat_lt (2 ^ 20) a) (nat_lt (2 ^ 40) (taken + a + 0)) p) [
  | inl h ↦ let lt : 2 ^ 20 < a = ltb-true (2 ^ 20) a h in or_left (nat_lt (2 ^ 20) b) (nat_lt (2 ^ 40) (taken + b + e)) (lt-ltb (2 ^ 20) b (omega (arith, lt, le)))
  | inr h ↦ let lt : 2 ^ 40 < taken + a + 0 = ltb-true (2 ^ 40) (taken + a + 0) h in or_right (nat_lt (2 ^ 20) b) (nat_lt (2 ^ 40) (taken + b + e)) (lt-ltb (2 ^ 40) (taken + b + e) (omega (arith, lt, le)))
]

some_size : (taken a : ℕ) → taken ≤ 2 ^ 40 → line_passes_limit taken a 0 ≡ true → 0 < a
some_size taken a le p = elim (or_cases (nat_lt (2 ^ 20) a) (nat_lt (2 ^ 40) (taken + a + 0)) p) [
  | inl h ↦ let lt : 2 ^ 20 < a = ltb-true (2 ^ 20) a h in omega (arith, lt)
  | inr h ↦ let lt : 2 ^ 40 < taken + a + 0 = ltb-true (2 ^ 40) (taken + a + 0) h in omega (arith, lt, le)
]

-- bytes past a limit, whatever follows them
cut_past : (taken : ℕ) (line more : List ℕ) → lacks 10 line ≡ true → taken ≤ 2 ^ 40 → line_passes_limit taken (length line) 0 ≡ true → cut_of taken (parts_of 10 (line ++ more)) ≡ long
cut_past taken line more l le p =
    let r = has_part (λ c. c == 10) more in
    let longer : length line ≤ length (line ++ r.0) = omega (arith, length-append line r.0) in
    ap (cut_of taken) (front_part line more r.0 r.1 l r.2) ∙ by_more (line ++ r.0) r.1 longer
  where
    by_more : (first : List ℕ) (ys : List (List ℕ)) → length line ≤ length first → cut_of taken (first ∷ ys) ≡ long
    by_more first [] lt = tail_is taken first true (omega (arith, some_size taken (length line) le p, lt)) (passes_more taken (length line) (length first) 0 lt p)
    by_more first (z ∷ zs) lt = ap (λ (q : Bool). cond q long (whole first (z ∷ zs))) (passes_more taken (length line) (length first) 1 lt p)

-- what the bytes begin with, by what was taken; after it these bytes are left
abbrev pub CutIs : ℕ → List ℕ → List ℕ → Option (List ℕ) → Result TakenLine LineStop → Type 0
CutIs taken rest line remainder (Ok Whole) = IsSomeAnd remainder (λ more. cut_of taken (parts_of 10 rest) ≡ whole line (parts_of 10 more))
CutIs taken rest line remainder (Ok Unended) = cut_of taken (parts_of 10 rest) ≡ unended
CutIs taken rest line remainder (Ok Nothing) = cut_of taken (parts_of 10 rest) ≡ nothing
CutIs taken rest line remainder (Err (stops.Form number word)) = ⊥
CutIs taken rest line remainder (Err stops.Fault) = ⊤
CutIs taken rest line remainder (Err stops.TooLong) = cut_of taken (parts_of 10 rest) ≡ long
CutIs taken rest line remainder (Err stops.NoMemory) = ⊤

cut_by : (taken : ℕ) (all line pending more : List ℕ) (r : Result TakenLine LineStop) → taken ≤ 2 ^ 40 → Stands taken all line pending (Some more) r → CutIs taken (all ++ more) line (Some (pending ++ more)) r
cut_by taken all line pending more (Ok Whole) le w =
    ap (λ (bs : List ℕ). cut_of taken (parts_of 10 bs)) (ap (λ (bs : List ℕ). bs ++ more) w.parts ∙ append_assoc line (10 ∷ pending) more) ∙ cut_line taken line (pending ++ more) false w.lacking w.limit
cut_by taken all line pending more (Ok Unended) le s =
    ap (λ (bs : List ℕ). cut_of taken (parts_of 10 bs)) (ap (λ (bs : List ℕ). all ++ bs) s.2 ∙ append-nil all ∙ s.0.parts) ∙ cut_tail taken line false s.0.lacking s.1 s.0.limit
cut_by taken all line pending more (Ok Nothing) le s =
    ap (λ (bs : List ℕ). cut_of taken (parts_of 10 bs)) (ap (λ (bs : List ℕ). all ++ bs) s.1 ∙ append-nil all ∙ s.0)
cut_by taken all line pending more (Err (stops.Form number word)) le s = s
cut_by taken all line pending more (Err stops.Fault) le s = tt
cut_by taken all line pending more (Err stops.TooLong) le s = elim s [
  | inl w ↦ ap (λ (bs : List ℕ). cut_of taken (parts_of 10 bs)) (ap (λ (bs : List ℕ). bs ++ more) w.parts ∙ append_assoc line (10 ∷ pending) more) ∙ cut_line taken line (pending ++ more) true w.lacking w.limit
  | inr u ↦ ap (λ (bs : List ℕ). cut_of taken (parts_of 10 (bs ++ more))) u.parts ∙ cut_past taken line more u.lacking le u.limit
]
cut_by taken all line pending more (Err stops.NoMemory) le s = tt

told_by : (taken : ℕ) (before bytes line pending : List ℕ) (left : Option (List ℕ)) (r : Result TakenLine LineStop) → taken ≤ 2 ^ 40 → Stands taken (before ++ bytes) line pending left r
    → IfSome (prepend_known before (prepend_known bytes left)) (λ rest. CutIs taken rest line (prepend_known pending left) r)
told_by taken before bytes line pending None r le s = tt
told_by taken before bytes line pending (Some more) r le s = subst (λ (rest : List ℕ). CutIs taken rest line (Some (pending ++ more)) r) (append_assoc before bytes more) (cut_by taken (before ++ bytes) line pending more r le s)

-- the told bytes begin with what was taken
pub told_cut : {f : Feed} {taken : ℕ} {before pending line : List ℕ} {x y : DeskState} {r : Result TakenLine LineStop} → TakesLine f taken before pending line x y r → taken ≤ 2 ^ 40
    → IfSome (prepend_known before (x.feeds f).left) (λ rest. CutIs taken rest line (prepend_known pending (y.feeds f).left) r)
told_cut {f = f} {taken = taken} {before = before} {pending = pending} {line = line} {x = x} {y = y} {r = r} h le =
    subst (λ (left : Option (List ℕ)). IfSome (prepend_known before left) (λ rest. CutIs taken rest line (prepend_known pending (y.feeds f).left) r)) (sym h.moved.1.left) (told_by taken before h.moved.0 line pending (y.feeds f).left r le h.moved.3)

-- the sizes of what was pending and moved, and of a whole line and what is pending
pub whole_sizes : {f : Feed} {taken : ℕ} {before pending line : List ℕ} {x y : DeskState} (h : TakesLine f taken before pending line x y (Ok Whole)) → taken + length line + 1 + length pending ≡ taken + length before + length h.moved.0
whole_sizes {before = before} {pending = pending} {line = line} h = omega (arith, ap length h.moved.3.parts, length-append before h.moved.0, length-append line (10 ∷ pending))
