-- A text that is refused.
use Rattle.std.proofs.Common.{◌≡◌, ℕ, suc, ◌+◌, ◌-◌, ◌≤◌, Bool, ◌⊎◌, inl, inr, List, [], ◌∷◌, length, Result, false, ◌==◌, Some, None, Ok, Err, refl, sym, ap, ◌∙◌, subst, arith, codes}
use Rattle.hw_lemmas.specs.Operators.{◌>>=◌}
use Rattle.hw_model.specs.Problem.{Problem}
use Rattle.hw_text.specs.Parts.{parts_of}
use Rattle.hw_text.proofs.Splits.{has_part}
use Rattle.hw_flat.specs.declared.fault.FlatWord.TheVariants as words
use Rattle.hw_flat.specs.Text.{Fault, formed, line_at, problem_of, problem_of_lines}
use Rattle.hw_flat.specs.TextForms.{header_form, size_form}
use Rattle.hw_flat.specs.TextWritten.{problem_text}
use Rattle.hw_flat.proofs.TextRows.{text_read}
use Rattle.hw_flat.proofs.TextBack.{text_reads_back}
use Rattle.hw_flat_laws.specs.FirstLines.{SameLines}
use Rattle.hw_flat_laws.specs.Wanted.{IsWanted, OutOfRules}
use Rattle.hw_flat_laws.specs.Laws.{TextGoesOn, FirstBadLine}
use Rattle.hw_flat_laws.proofs.Same.{Parts, Full, Same, same_from, same_takes, full_some}
use Rattle.hw_flat_laws.proofs.Refusals.{Mend, Dead, mend_past_line, dead_past_line, dead_line, dead_short}
use Rattle.hw_flat_laws.proofs.ShipLines.{hour_rules}
use Rattle.hw_flat_laws.proofs.ShipLines.{is_err}
use Rattle.hw_flat_laws.proofs.Bodies.{body_at, body_mended, body_refused, text_body}
use Rattle.hw_flat_laws.proofs.Closings.{AnyProblem, Small}

-- the text after its first line
abbrev second_at : Bool × Bool → Parts → Result Problem Fault
second_at version parts = line_at 2 words.Size parts >>= λ line. formed 2 words.Size (size_form line.0) >>= λ size. body_at version size line.1

-- a text that reads begins with these lines, or with all but the last of them
record GoesOn (read : Parts → Result Problem Fault) (parts : Parts) (count : ℕ) (Out : Type 0) : Type 0 where
  kept : ℕ
  mend : Mend AnyProblem read parts kept
  kept_is : (kept ≡ count) ⊎ ((suc kept ≡ count) × Out)

all_kept : (read : Parts → Result Problem Fault) (parts : Parts) (count : ℕ) (Out : Type 0) → Mend AnyProblem read parts count → GoesOn read parts count Out
all_kept read parts count Out m = record { kept = count; mend = m; kept_is = inl refl }

past_line : (read whole : Parts → Result Problem Fault) (line : List ℕ) (parts : Parts) (count : ℕ) (Out : Type 0) → ((others : Parts) → Full others → whole (line ∷ others) ≡ read others) → GoesOn read parts count Out → GoesOn whole (line ∷ parts) (suc count) Out
past_line read whole line parts count Out step g = record {
  kept = suc g.kept;
  mend = mend_past_line AnyProblem read whole line parts g.kept step g.mend;
  kept_is = elim g.kept_is [
    | inl same ↦ inl (ap suc same)
    | inr s ↦ inr (ap suc s.0, s.1)
  ];
}

record SecondRefused (header : List ℕ) (version : Bool × Bool) (parts : Parts) (e : Fault) : Type 0 where
  count : ℕ
  place : e.number ≡ 2 + count
  wanted : IsWanted (header ∷ parts) e.number e.word
  begins : GoesOn (second_at version) parts count (OutOfRules (header ∷ parts) e.number)
  dead : Dead (second_at version) parts e count

-- a size line and the rest of a text that reads
one_by_one : Small (1, 1)
one_by_one = record { some_ship = omega arith; few_ships = omega arith; some_slot = omega arith; few_slots = omega arith }

one_ship : (version : Bool × Bool) (parts : Parts) → Full parts → Mend AnyProblem (second_at version) parts 0
one_ship version [] full = absurd (nothing full.2)
  where
    nothing : [] ≡ full.0 ∷ full.1 → ⊥
    nothing e = absurd cc
one_ship version (line ∷ parts) full =
    let m = body_mended version (1, 1) one_by_one in
    record { mended = codes "size 1 1" ∷ m.first ∷ m.more; value = problem_of version.0 (1, 1) m.values (hour_rules version.1); done = tt; reads = m.reads; same = tt }

second_refused : (header : List ℕ) (version : Bool × Bool) (parts : Parts) (e : Fault) → header_form header ≡ Some version → 1 ≤ length parts → second_at version parts ≡ Err e → SecondRefused header version parts e
second_refused header version [] e a some h = absurd (omega (arith, some))
second_refused header version (line ∷ []) e a some h =
    let d : Fault = record { number = 2; word = words.Size } in
    subst (SecondRefused header version (line ∷ [])) (is_err (second_at version (line ∷ [])) d e refl h) (record {
      count = 0;
      place = omega arith;
      wanted = record { place = refl; wrong = refl };
      begins = all_kept (second_at version) (line ∷ []) 0 (OutOfRules (header ∷ line ∷ []) 2) (one_ship version (line ∷ []) (line, [], refl));
      dead = dead_short (second_at version) line d (λ y. refl);
    })
second_refused header version (line ∷ next ∷ parts) e a some h =
    elim (size_form line) as (λ o. size_form line ≡ o → SecondRefused header version (line ∷ next ∷ parts) e) [
      | None ↦ λ form.
          let d : Fault = record { number = 2; word = words.Size } in
          let bad : (y : List ℕ) (ys : Parts) → second_at version (line ∷ y ∷ ys) ≡ Err d = λ y ys. rw form refl in
          subst (SecondRefused header version (line ∷ next ∷ parts)) (is_err (second_at version (line ∷ next ∷ parts)) d e (bad next parts) h) (record {
            count = 0;
            place = omega arith;
            wanted = record { place = refl; wrong = form };
            begins = all_kept (second_at version) (line ∷ next ∷ parts) 0 (OutOfRules (header ∷ line ∷ next ∷ parts) 2) (one_ship version (line ∷ next ∷ parts) (line, next ∷ parts, refl));
            dead = dead_line (second_at version) line next parts d bad;
          })
      | Some size ↦ λ form.
          let step : (others : Parts) → Full others → second_at version (line ∷ others) ≡ body_at version size others = λ others full. rw (full.2, form) refl in
          let r = body_refused header line version size (next ∷ parts) e a form (next, parts, refl) (sym (step (next ∷ parts) (next, parts, refl)) ∙ h) in
          record {
            count = suc r.count;
            place = omega (arith, r.place);
            wanted = r.wanted;
            begins = past_line (body_at version size) (second_at version) line (next ∷ parts) r.count (OutOfRules (header ∷ line ∷ next ∷ parts) e.number) step (record { kept = r.begins.kept; mend = r.begins.mend; kept_is = r.begins.kept_is });
            dead = dead_past_line (body_at version size) (second_at version) line (next ∷ parts) e r.count step r.dead;
          }
    ] refl

record TextRefused (parts : Parts) (e : Fault) : Type 0 where
  count : ℕ
  place : e.number ≡ suc count
  wanted : IsWanted parts e.number e.word
  begins : GoesOn problem_of_lines parts count (OutOfRules parts e.number)
  dead : Dead problem_of_lines parts e count

-- the first line of a text and a problem of it
flat_reads : (parts : Parts) → Full parts → Mend AnyProblem problem_of_lines parts 0
flat_reads [] full = absurd (nothing full.2)
  where
    nothing : [] ≡ full.0 ∷ full.1 → ⊥
    nothing e = absurd cc
flat_reads (line ∷ parts) full =
    let m = body_mended (false, false) (1, 1) one_by_one in
    record {
      mended = codes "flat 1" ∷ codes "size 1 1" ∷ m.first ∷ m.more;
      value = problem_of false (1, 1) m.values [];
      done = tt;
      reads = text_body (codes "flat 1") (codes "size 1 1") (m.first ∷ m.more) (false, false) (1, 1) refl refl (m.first, m.more, refl) ∙ m.reads;
      same = tt;
    }

text_refused : (parts : Parts) (e : Fault) → 1 ≤ length parts → problem_of_lines parts ≡ Err e → TextRefused parts e
unfolding problem_of_lines
text_refused [] e some h = absurd (omega (arith, some))
text_refused (line ∷ []) e some h =
    let d : Fault = record { number = 1; word = words.Header } in
    subst (TextRefused (line ∷ [])) (is_err (problem_of_lines (line ∷ [])) d e refl h) (record {
      count = 0;
      place = omega arith;
      wanted = record { place = refl; wrong = refl };
      begins = all_kept problem_of_lines (line ∷ []) 0 (OutOfRules (line ∷ []) 1) (flat_reads (line ∷ []) (line, [], refl));
      dead = dead_short problem_of_lines line d (λ y. refl);
    })
text_refused (line ∷ next ∷ parts) e some h =
    elim (header_form line) as (λ o. header_form line ≡ o → TextRefused (line ∷ next ∷ parts) e) [
      | None ↦ λ form.
          let d : Fault = record { number = 1; word = words.Header } in
          let bad : (y : List ℕ) (ys : Parts) → problem_of_lines (line ∷ y ∷ ys) ≡ Err d = λ y ys. rw form refl in
          subst (TextRefused (line ∷ next ∷ parts)) (is_err (problem_of_lines (line ∷ next ∷ parts)) d e (bad next parts) h) (record {
            count = 0;
            place = omega arith;
            wanted = record { place = refl; wrong = form };
            begins = all_kept problem_of_lines (line ∷ next ∷ parts) 0 (OutOfRules (line ∷ next ∷ parts) 1) (flat_reads (line ∷ next ∷ parts) (line, next ∷ parts, refl));
            dead = dead_line problem_of_lines line next parts d bad;
          })
      | Some version ↦ λ form.
          let step : (others : Parts) → Full others → problem_of_lines (line ∷ others) ≡ second_at version others = λ others full. rw (full.2, form) refl in
          let r = second_refused line version (next ∷ parts) e form (omega arith) (sym (step (next ∷ parts) (next, parts, refl)) ∙ h) in
          record {
            count = suc r.count;
            place = omega (arith, r.place);
            wanted = r.wanted;
            begins = past_line (second_at version) problem_of_lines line (next ∷ parts) r.count (OutOfRules (line ∷ next ∷ parts) e.number) step r.begins;
            dead = dead_past_line (second_at version) problem_of_lines line (next ∷ parts) e r.count step r.dead;
          }
    ] refl

-- ---- the law

-- the parts of a text that reads are those of its problem's text
parts_written : (parts : Parts) (f : Problem) → problem_of_lines parts ≡ Ok f → parts ≡ parts_of 10 (problem_text f)
parts_written parts f h =
    let r = text_read parts f h in
    r.lines ∙ sym (text_read (parts_of 10 (problem_text f)) f (text_reads_back f r.limits r.writable)).lines

goes_on : (bytes : List ℕ) (count : ℕ) (mended : Parts) (f : Problem) → problem_of_lines mended ≡ Ok f → Same count (parts_of 10 bytes) mended → TextGoesOn count bytes
goes_on bytes count mended f h same =
    let r = text_read mended f h in
    let s = same_takes count (parts_of 10 bytes) (parts_of 10 (problem_text f)) (subst (Same count (parts_of 10 bytes)) (parts_written mended f h) same) in
    record { problem = f; limits = r.limits; writable = r.writable; begins = record { ended = s.0; others_ended = s.1; same = s.2 } }

pub first_bad_line_law : FirstBadLine
first_bad_line_law bytes number word h =
    let parts : Parts = parts_of 10 bytes in
    let e : Fault = record { number = number; word = word } in
    let t = text_refused parts e (full_some parts (has_part (λ b. b == 10) bytes)) h in
    let place : number ≡ suc t.count = t.place in
    let before : t.count ≡ number - 1 = omega (arith, place) in
    let kept : (count : ℕ) → t.begins.kept ≡ count → TextGoesOn count bytes = λ count n. goes_on bytes count t.begins.mend.mended t.begins.mend.value t.begins.mend.reads (subst (λ k. Same k parts t.begins.mend.mended) n t.begins.mend.same) in
    let as_same : (others : List ℕ) (i j : ℕ) → SameLines i bytes others → i ≡ j → Same j parts (parts_of 10 others) = λ others i j s n. subst (λ k. Same k parts (parts_of 10 others)) n (same_from i parts (parts_of 10 others) s.ended s.others_ended s.same) in
    record {
      counted = omega (arith, place);
      begins = elim t.begins.kept_is [
        | inl same ↦ inl (kept (number - 1) (omega (arith, same, place)))
        | inr s ↦ inr (s.1, kept (number - 2) (omega (arith, s.0, place)))
      ];
      dead_end = λ others s. t.dead.dead (parts_of 10 others) (as_same others number (suc t.count) s place);
      cut_off = λ apart last others s few. t.dead.cut apart (last ∙ place) (parts_of 10 others) (as_same others (number - 1) t.count s (sym before)) (few ∙ place);
      told = t.wanted;
    }
