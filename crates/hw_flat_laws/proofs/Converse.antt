-- Where the lines before begin a text that reads, the wanted word is what the refusal says.
use Rattle.std.proofs.Common.{◌≡◌, ℕ, zero, suc, ◌-◌, ◌<◌, ◌≤◌, Bool, false, [], ◌∷◌, length, Some, None, IfSome, IsSomeAnd, Result, Ok, Err, refl, sym, ap, ◌∙◌, subst, arith, inl, inr}
use Rattle.std.proofs.lemmas.Bool.{cases_order}
use Rattle.std.proofs.lemmas.List.{length-drop}
use Rattle.hw_model.specs.Problem.{Problem}
use Rattle.hw_text.specs.Parts.{parts_of}
use Rattle.hw_flat.specs.declared.fault.FlatWord.{FlatWord}
use Rattle.hw_flat.specs.declared.fault.FlatWord.TheVariants as words
use Rattle.hw_flat.specs.Text.{Fault, fault, problem_of_lines}
use Rattle.hw_flat.specs.TextForms.{header_form, size_form, row_form, rule_form, has_hours}
use Rattle.hw_flat.specs.TextWritten.{problem_text}
use Rattle.hw_flat.proofs.TextBack.{text_reads_back}
use Rattle.hw_flat_laws.specs.FirstLines.{later_line, numbered_line}
use Rattle.hw_flat_laws.specs.Wanted.{SaysSize, rule_on_line, IsWanted, OutOfRules}
use Rattle.hw_flat_laws.specs.Laws.{TextGoesOn, IsRefused, WantedRefuses}
use Rattle.hw_flat_laws.proofs.Same.{Parts, Same, same_from, same_takes, has}
use Rattle.hw_flat_laws.proofs.ShipLines.{not_both}
use Rattle.hw_flat_laws.proofs.Texts.{first_bad_line_law}
use Rattle.hw_flat_laws.proofs.GoodBodies.{reads_wants_nothing}
use Rattle.hw_flat_laws.proofs.OneWord.{same_said, one_word}
use Rattle.hw_flat_laws.proofs.Closings.{end_no_rule}

-- fewer lines are the same too
same_less : (i count : ℕ) (xs ys : Parts) → i ≤ count → Same count xs ys → Same i xs ys
same_less i count [] ys le s = absurd s
same_less i count (x ∷ xs) [] le s = absurd s
same_less zero count (x ∷ xs) (y ∷ ys) le s = tt
same_less (suc i) zero (x ∷ xs) (y ∷ ys) le s = absurd (omega (arith, le))
same_less (suc i) (suc count) (x ∷ xs) (y ∷ ys) le s = (s.0, same_less i count xs ys (omega (arith, le)) s.1)

line_same : (i count : ℕ) (xs ys : Parts) → i < count → Same count xs ys → later_line i ys ≡ later_line i xs
line_same i count [] ys lt s = absurd s
line_same i count (x ∷ xs) [] lt s = absurd s
line_same i zero (x ∷ xs) (y ∷ ys) lt s = absurd (omega (arith, lt))
line_same i (suc count) (x ∷ []) (y ∷ ys) lt s = absurd s.1
line_same i (suc count) (x ∷ p ∷ xs) (y ∷ []) lt s = absurd s.1
line_same zero (suc count) (x ∷ p ∷ xs) (y ∷ q ∷ ys) lt s = ap (λ l. Some l) s.0
line_same (suc i) (suc count) (x ∷ p ∷ xs) (y ∷ q ∷ ys) lt s = line_same i count (p ∷ xs) (q ∷ ys) (omega (arith, lt)) s.1

line_of_same : (i number : ℕ) (xs ys : Parts) → 1 ≤ number → i ≤ number → Same number xs ys → numbered_line ys i ≡ numbered_line xs i
line_of_same i number xs ys some le s = line_same (i - 1) number xs ys (omega (arith, some, le)) s

begins_same : (number : ℕ) (xs ys : Parts) (version : Bool × Bool) (ships slots : ℕ) → 2 ≤ number → Same number xs ys → SaysSize xs version ships slots → SaysSize ys version ships slots
begins_same number xs ys version ships slots two s b = record {
  header = ap (has header_form) (line_of_same 1 number xs ys (omega (arith, two)) (omega (arith, two)) s) ∙ b.header;
  size = ap (has size_form) (line_of_same 2 number xs ys (omega (arith, two)) two s) ∙ b.size;
}

-- what is wanted at a line depends on the lines up to it
wanted_same : (number : ℕ) (xs ys : Parts) (word : FlatWord) → Same number xs ys → IsWanted xs number word → IsWanted ys number word
wanted_same number xs ys words.Header s w = record { place = w.place; wrong = ap (has header_form) (line_of_same number number xs ys (omega (arith, w.place)) (omega arith) s) ∙ w.wrong }
wanted_same number xs ys words.Size s w = record { place = w.place; wrong = ap (has size_form) (line_of_same number number xs ys (omega (arith, w.place)) (omega arith) s) ∙ w.wrong }
wanted_same number xs ys words.Values s w = record {
  version = w.version;
  ships = w.ships;
  slots = w.slots;
  said = begins_same number xs ys w.version w.ships w.slots (omega (arith, w.past_size)) s w.said;
  past_size = w.past_size;
  before_rules = w.before_rules;
  wrong = ap (has (row_form w.version.0 w.slots)) (line_of_same number number xs ys (omega (arith, w.past_size)) (omega arith) s) ∙ w.wrong;
}
wanted_same number xs ys words.Rule s w =
    let some : 2 ≤ number = omega (arith, w.past_ships) in
    let line = line_of_same number number xs ys (omega (arith, some)) (omega arith) s in
    record {
      version = w.version;
      ships = w.ships;
      slots = w.slots;
      said = begins_same number xs ys w.version w.ships w.slots some s w.said;
      past_ships = w.past_ships;
      few_rules = w.few_rules;
      no_end_before = λ k. w.no_end_before (sym (line_of_same (number - 1) number xs ys (omega (arith, some)) (omega arith) s) ∙ k);
      wrong = elim w.wrong [
        | inl n ↦ inl (record { no_end = λ k. n.no_end (sym line ∙ k); wrong = ap (has (rule_form w.version.1 w.ships w.slots)) line ∙ n.wrong })
        | inr n ↦ inr (record {
          hours = n.hours;
          end = line ∙ n.end;
          plain = λ i from to. subst (λ o. IfSome o (λ rule. has_hours rule ≡ false)) (sym (ap (has (rule_form w.version.1 w.ships w.slots)) (line_of_same i number xs ys (omega (arith, some)) (omega (arith, to)) s))) (n.plain i from to);
        })
      ];
    }
wanted_same number xs ys words.Many s w =
    let some : 2 ≤ number = omega (arith, w.past_rules) in
    record {
      version = w.version;
      ships = w.ships;
      slots = w.slots;
      said = begins_same number xs ys w.version w.ships w.slots some s w.said;
      past_rules = w.past_rules;
      no_end_before = λ k. w.no_end_before (sym (line_of_same (number - 1) number xs ys (omega (arith, some)) (omega arith) s) ∙ k);
      rule = w.rule;
      one_more = ap (has (rule_form w.version.1 w.ships w.slots)) (line_of_same number number xs ys (omega (arith, some)) (omega arith) s) ∙ w.one_more;
    }
wanted_same number xs ys words.Tail s w =
    let some : 2 ≤ number = omega (arith, w.past_ships) in
    let ended = (same_takes number xs ys s).1 in
    record {
      version = w.version;
      ships = w.ships;
      slots = w.slots;
      said = begins_same number xs ys w.version w.ships w.slots some s w.said;
      past_ships = w.past_ships;
      few_rules = w.few_rules;
      end = line_of_same (number - 1) number xs ys (omega (arith, some)) (omega arith) s ∙ w.end;
      more = λ k. omega (arith, ended, some, ap length k, length-drop (number - 1) ys);
    }

-- at the last of so many rules, none of which needs the hours that fleets have, nothing else is wanted
rules_want_nothing : (parts : Parts) (number : ℕ) (word : FlatWord) → OutOfRules parts (suc number) → IsWanted parts number word → ⊥
rules_want_nothing parts number words.Header o w = omega (arith, w.place, o.past_rules)
rules_want_nothing parts number words.Size o w = omega (arith, w.place, o.past_rules)
rules_want_nothing parts number words.Values o w =
    let same = same_said parts o.version w.version o.ships w.ships o.slots w.slots o.said w.said in
    omega (arith, w.before_rules, o.past_rules, same.1)
rules_want_nothing parts number words.Rule o w =
    let same = same_said parts o.version w.version o.ships w.ships o.slots w.slots o.said w.said in
    let none : rule_on_line parts w.version w.ships w.slots number ≡ None = elim w.wrong [
      | inl n ↦ n.wrong
      | inr n ↦ ap (has (rule_form w.version.1 w.ships w.slots)) n.end ∙ end_no_rule w.version.1 w.ships w.slots
    ] in
    let here : rule_on_line parts o.version o.ships o.slots number ≡ None = (rw (same.0, same.1, same.2) refl) ∙ none in
    subst (λ r. IsSomeAnd r (λ rule. has_hours rule ≡ false)) here (o.plain number (omega (arith, o.past_rules)) (omega arith))
rules_want_nothing parts number words.Many o w =
    let same = same_said parts o.version w.version o.ships w.ships o.slots w.slots o.said w.said in
    omega (arith, w.past_rules, o.past_rules, same.1)
rules_want_nothing parts number words.Tail o w =
    let here : rule_on_line parts o.version o.ships o.slots (number - 1) ≡ None = ap (has (rule_form o.version.1 o.ships o.slots)) w.end ∙ end_no_rule o.version.1 o.ships o.slots in
    subst (λ r. IsSomeAnd r (λ rule. has_hours rule ≡ false)) here (o.plain (number - 1) (omega (arith, o.past_rules)) (omega (arith, o.past_rules)))

pub wanted_refuses_law : WantedRefuses
wanted_refuses_law bytes number word g w = by_reading (problem_of_lines parts) refl
  where
    parts : Parts
    parts = parts_of 10 bytes

    back : (count : ℕ) (k : TextGoesOn count bytes) → problem_of_lines (parts_of 10 (problem_text k.problem)) ≡ Ok k.problem
    back count k = text_reads_back k.problem k.limits k.writable

    alike : (count i : ℕ) (k : TextGoesOn count bytes) → i ≤ count → Same i (parts_of 10 bytes) (parts_of 10 (problem_text k.problem))
    alike count i k le = same_less i count (parts_of 10 bytes) (parts_of 10 (problem_text k.problem)) le (same_from count (parts_of 10 bytes) (parts_of 10 (problem_text k.problem)) k.begins.ended k.begins.others_ended k.begins.same)

    -- the lines up to the wanted one begin a text that reads
    later : (count : ℕ) (k : TextGoesOn count bytes) → number ≤ count → IsRefused bytes number word
    later count k le =
        let s : Same number (parts_of 10 bytes) (parts_of 10 (problem_text k.problem)) = alike count number k le in
        let within = (same_takes number (parts_of 10 bytes) (parts_of 10 (problem_text k.problem)) s).1 in
        absurd (reads_wants_nothing (parts_of 10 (problem_text k.problem)) k.problem number word (back count k) (omega (arith, within)) (wanted_same number (parts_of 10 bytes) (parts_of 10 (problem_text k.problem)) word s w))

    by_reading : (r : Result Problem Fault) → problem_of_lines (parts_of 10 bytes) ≡ r → IsRefused bytes number word
    by_reading (Ok f) h = absurd (reads_wants_nothing (parts_of 10 bytes) f number word h (omega (arith, g.begins.ended)) w)
    by_reading (Err e) h =
        let bad = first_bad_line_law bytes e.number e.word h in
        elim (cases_order e.number number) [
          | inl same ↦
              let one : e.word ≡ word = one_word (parts_of 10 bytes) number e.word word (subst (λ n. IsWanted (parts_of 10 bytes) n e.word) same bad.told) w in
              h ∙ ap (λ n. fault {A = Problem} n e.word) same ∙ ap (λ v. fault {A = Problem} number v) one
          | inr (inl below) ↦
              let s = same_takes e.number (parts_of 10 bytes) (parts_of 10 (problem_text g.problem)) (alike (number - 1) e.number g (omega (arith, below))) in
              absurd (not_both (problem_of_lines (parts_of 10 (problem_text g.problem))) g.problem e (back (number - 1) g) (bad.dead_end (problem_text g.problem) (record { ended = s.0; others_ended = s.1; same = s.2 })))
          | inr (inr above) ↦ elim bad.begins [
            | inl k ↦ later (e.number - 1) k (omega (arith, above))
            | inr o ↦
                elim (cases_order (suc number) e.number) [
                  | inl last ↦ absurd (rules_want_nothing (parts_of 10 bytes) number word (subst (OutOfRules (parts_of 10 bytes)) (sym last) o.0) w)
                  | inr (inl less) ↦ later (e.number - 2) o.1 (omega (arith, less))
                  | inr (inr more) ↦ absurd (omega (arith, above, more))
                ]
          ]
        ]
