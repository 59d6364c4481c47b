-- Taking a line, block by block.
use Rattle.std.proofs.Common.{◌≡◌, ◌==◌, ◌≤◌, ◌+◌, ◌-◌, ◌^◌, ◌&&◌, ◌||◌, not, cond, nat_lt, ℕ, Bool, true, false, List, [], ◌∷◌, ◌++◌, length, Result, Ok, IsErrOf, refl, sym, ap, ◌∙◌, subst, arith, append_assoc, append-nil, length-append}
use Rattle.std.proofs.lemmas.Bool.{ltb-false, lt-ltb}
use Rattle.std.specs.Io.KnownBytes.{IsAtEnd}
use Rattle.hw_desk.specs.State.{DeskState, Rose}
use Rattle.hw_desk.specs.Calls.{Moves}
use Rattle.hw_desk.specs.declared.desk.Feed.{Feed}
use Rattle.hw_desk.proofs.Chain.{moves_on}
use Rattle.hw_text.specs.Parts.{lacks}
use Rattle.hw_cert.specs.Reader.{Scans, Fills}
use Rattle.hw_cert.specs.Stream.{line_passes_limit}
use Rattle.hw_cert.specs.Taking.{WholeLine, Unparted, Stands, TakesLine}
use Rattle.hw_cert.specs.declared.stop.LineStop.{LineStop}
use Rattle.hw_cert.specs.declared.stop.LineStop.TheVariants.{Fault}
use Rattle.hw_cert.specs.declared.taking.TakenLine.{TakenLine}
use Rattle.hw_cert.specs.declared.taking.TakenLine.TheVariants.{Unended, Nothing}

-- what was pending and moved is the line so far and what is pending
pub record SoFar (feed : Feed) (taken : ℕ) (before line pending : List ℕ) (old new : DeskState) : Type 0 where
  pub moved : (bytes : List ℕ) × Moves feed bytes old new × (before ++ bytes ≡ line ++ pending)
  pub lacking : lacks 10 line ≡ true
  pub begun : (new.feeds feed).begun ≡ true
  pub room : taken + length line + length pending ≤ 2 ^ 40 + 1

lacks_both : (xs ys : List ℕ) → lacks 10 xs ≡ true → lacks 10 ys ≡ true → lacks 10 (xs ++ ys) ≡ true
lacks_both [] ys p q = q
lacks_both (x ∷ xs) ys p q = both_tests (not (x == 10)) (lacks 10 xs) (lacks 10 (xs ++ ys)) p (λ h. lacks_both xs ys h q)
  where
    both_tests : (a b c : Bool) → (a && b) ≡ true → (b ≡ true → c ≡ true) → (a && c) ≡ true
    both_tests true b c p f = f p
    both_tests false b c p f = absurd cc

-- the bytes that were moved are within one of the limit of the whole
room_left : (taken : ℕ) (before bytes line pending : List ℕ) → before ++ bytes ≡ line ++ pending → taken + length line + length pending ≤ 2 ^ 40 + 1 → taken + length before + length bytes ≤ 2 ^ 40 + 1
room_left taken before bytes line pending e le = omega (arith, length-append before bytes, length-append line pending, ap length e, le)

-- what stands there, of a line that was begun
pub takes : {f : Feed} {taken : ℕ} {before line pending : List ℕ} {x y : DeskState} (h : SoFar f taken before line pending x y) (found rest : List ℕ) (r : Result TakenLine LineStop) → Stands taken (before ++ h.moved.0) found rest (y.feeds f).left r → (IsErrOf r Fault → Rose x.read_faults y.read_faults) → ((IsErrOf r Fault → ⊥) → y.read_faults ≡ x.read_faults)
    → TakesLine f taken before rest found x y r
takes {f = f} {taken = taken} {before = before} {line = line} {pending = pending} {x = x} {y = y} h found rest r stands fault kept =
    record { moved = (h.moved.0, h.moved.1, room_left taken before h.moved.0 line pending h.moved.2 h.room, stands); fault = fault; kept = kept }

-- a line feed was found
pub whole_line : {f : Feed} {taken : ℕ} {before line pending : List ℕ} {x y : DeskState} (h : SoFar f taken before line pending x y) (found rest : List ℕ) (long : Bool) → Scans pending rest line found true → line_passes_limit taken (length found) 1 ≡ long
    → WholeLine taken (before ++ h.moved.0) found rest long
whole_line {line = line} h found rest long s limit = record {
  parts = h.moved.2 ∙ ap (λ (bs : List ℕ). line ++ bs) s.1 ∙ sym (append_assoc line s.0 (10 ∷ rest)) ∙ ap (λ (bs : List ℕ). bs ++ 10 ∷ rest) (sym s.3);
  lacking = subst (λ (bs : List ℕ). lacks 10 bs ≡ true) (sym s.3) (lacks_both line s.0 h.lacking s.2);
  limit = limit;
}

-- none was
pub unparted : {f : Feed} {taken : ℕ} {before line pending : List ℕ} {x y : DeskState} (h : SoFar f taken before line pending x y) (found rest : List ℕ) (long : Bool) → Scans pending rest line found false → line_passes_limit taken (length found) 0 ≡ long
    → Unparted taken (before ++ h.moved.0) found long
unparted {line = line} {pending = pending} h found rest long s limit = record {
  parts = h.moved.2 ∙ sym s.1;
  lacking = subst (λ (bs : List ℕ). lacks 10 bs ≡ true) (sym s.1) (lacks_both line pending h.lacking s.0);
  limit = limit;
}

within : (taken size : ℕ) → line_passes_limit taken size 0 ≡ false → taken + size ≤ 2 ^ 40
within taken size h = both_off (nat_lt (2 ^ 20) size) (nat_lt (2 ^ 40) (taken + size + 0)) h (λ k. omega (arith, ltb-false (2 ^ 40) (taken + size + 0) k))
  where
    both_off : {P : Type 0} (a b : Bool) → (a || b) ≡ false → (b ≡ false → P) → P
    both_off true b p f = absurd cc
    both_off false b p f = f p

-- another block is pending
pub filled : {E : Type 0} {f : Feed} {taken : ℕ} {before line pending : List ℕ} {x y z : DeskState} (h : SoFar f taken before line pending x y) (found rest next : List ℕ) (most : ℕ) (r : Result ℕ E) → Scans pending rest line found false → line_passes_limit taken (length found) 0 ≡ false
    → most ≡ 2 ^ 40 + 1 - taken - length found → Fills {E = E} f most next y z r → SoFar f taken before found next x z
filled {f = f} {taken = taken} {before = before} {line = line} {pending = pending} {x = x} {y = y} {z = z} h found rest next most r s limit e fills =
    let u = unparted h found rest false s limit in
    let le : taken + length found ≤ 2 ^ 40 = within taken (length found) limit in
    let few : length next ≤ most = fills.bound in
    record {
      moved = (h.moved.0 ++ next, moves_on h.moved.1 fills.moved (h.moved.0 ++ next) refl, sym (append_assoc before h.moved.0 next) ∙ ap (λ (bs : List ℕ). bs ++ next) u.parts);
      lacking = u.lacking;
      begun = fills.moved.begun ∙ h.begun;
      room = omega (arith, le, few, e);
    }

none_left : (next : List ℕ) → 0 ≡ length next → next ≡ []
none_left [] e = refl
none_left (b ∷ bs) e = absurd (omega (arith, e))

-- the feed ended
pub tail_of : {f : Feed} {taken : ℕ} {before found next : List ℕ} {x z : DeskState} (h : SoFar f taken before found next x z) (t : TakenLine) → 0 ≡ length next → IsAtEnd (z.feeds f).left → line_passes_limit taken (length found) 0 ≡ false → t ≡ cond (nat_lt 0 (length found)) Unended Nothing
    → Stands taken (before ++ h.moved.0) found next (z.feeds f).left (Ok t)
tail_of {f = f} {taken = taken} {before = before} {found = found} {next = next} {z = z} h t none ended limit e =
    let same : before ++ h.moved.0 ≡ found = h.moved.2 ∙ ap (λ (bs : List ℕ). found ++ bs) (none_left next none) ∙ append-nil found in
    subst (λ (u : TakenLine). Stands taken (before ++ h.moved.0) found next (z.feeds f).left (Ok u)) (sym e) (by_size found same h.lacking limit)
  where
    by_size : (bs : List ℕ) → before ++ h.moved.0 ≡ bs → lacks 10 bs ≡ true → line_passes_limit taken (length bs) 0 ≡ false → Stands taken (before ++ h.moved.0) bs next (z.feeds f).left (Ok (cond (nat_lt 0 (length bs)) Unended Nothing))
    by_size [] same l p = (same, ended)
    by_size (b ∷ bs) same l p =
        let some : nat_lt 0 (length (b ∷ bs)) ≡ true = lt-ltb 0 (length (b ∷ bs)) (omega arith) in
        subst (λ (q : Bool). Stands taken (before ++ h.moved.0) (b ∷ bs) next (z.feeds f).left (Ok (cond q Unended Nothing))) (sym some) (record { parts = same; lacking = l; limit = p }, omega arith, ended)
