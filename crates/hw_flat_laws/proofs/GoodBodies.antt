-- A text that reads wants nothing at any of its lines.
use Rattle.std.proofs.Common.{◌≡◌, ◌≢◌, ℕ, suc, ◌+◌, ◌-◌, ◌<◌, ◌≤◌, Bool, true, false, List, [], ◌∷◌, ◌++◌, map, length, drop, get_or, Option, Some, None, IfSome, Ok, Err, All, refl, sym, ap, ◌∙◌, subst, arith, codes, append_assoc, inl, inr}
use Rattle.std.proofs.lemmas.Bool.{cases_order}
use Rattle.std.proofs.lemmas.List.{length-append, length-map}
use Rattle.std.proofs.lemmas.List.Folds.{list_any_none}
use Rattle.hw_text.specs.Parts.{at_end}
use Rattle.hw_model.specs.declared.rule.Rule.{Rule}
use Rattle.hw_model.specs.Problem.{Problem}
use Rattle.hw_flat.specs.declared.fault.FlatWord.{FlatWord}
use Rattle.hw_flat.specs.declared.fault.FlatWord.TheVariants as words
use Rattle.hw_flat.specs.Text.{fault, rows_at, rules_at, hours_needed, finished, problem_of_lines}
use Rattle.hw_flat.specs.TextForms.{header_form, size_form, row_form, rule_form, has_hours, any_hours}
use Rattle.hw_flat.specs.TextWritten.{rule_text}
use Rattle.hw_flat.proofs.TextRows.{text_read, step}
use Rattle.hw_flat_laws.specs.FirstLines.{later_line, numbered_line}
use Rattle.hw_flat_laws.specs.Wanted.{SaysSize, rule_on_line, IsWanted}
use Rattle.hw_flat_laws.proofs.Same.{Parts, Full, full_after, has, after_front, drop_front}
use Rattle.hw_flat_laws.proofs.ShipLines.{Row, hour_rule, not_both, ships_read, ships_leave, each_ship}
use Rattle.hw_flat_laws.proofs.RuleLines.{rules_were_read, rules_leave, each_rule}
use Rattle.hw_flat_laws.proofs.Closings.{Small, closing, end_no_rule}
use Rattle.hw_flat_laws.proofs.Bodies.{body_at, text_body, small_of, numbered}

nothing_left : (parts : Parts) → at_end parts ≡ true → parts ≡ [] ∷ []
nothing_left [] h = absurd cc
nothing_left ([] ∷ []) h = refl
nothing_left ([] ∷ p ∷ parts) h = absurd cc
nothing_left ((b ∷ p) ∷ parts) h = absurd cc

-- a rule needs the hours that fleets have, and nothing is left
finished_read : (version : Bool × Bool) (size : ℕ × ℕ) (values : Row) (rules : List Rule) (parts : Parts) (f : Problem) → finished version size values rules parts ≡ Ok f → (hours_needed version.1 rules ≡ true) × (at_end parts ≡ true)
finished_read version size values rules parts f h =
    elim (hours_needed version.1 rules) as (λ n. hours_needed version.1 rules ≡ n → (hours_needed version.1 rules ≡ true) × (at_end parts ≡ true)) [
      | true ↦ λ needed.
          elim (at_end parts) as (λ t. at_end parts ≡ t → (hours_needed version.1 rules ≡ true) × (at_end parts ≡ true)) [
            | true ↦ λ ended. (needed, ended)
            | false ↦ λ more. let bad : finished version size values rules parts ≡ fault (4 + size.0 + length rules) words.Tail = rw (needed, more) refl in absurd (not_both (finished version size values rules parts) f _ h bad)
          ] refl
      | false ↦ λ none. let bad : finished version size values rules parts ≡ fault (3 + size.0 + length rules) words.Rule = rw none refl in absurd (not_both (finished version size values rules parts) f _ h bad)
    ] refl

-- a body that reads, line by line
record BodyReads (ships slots : ℕ) (version : Bool × Bool) (body : Parts) : Type 0 where
  rest : Parts
  rules : List Rule
  ship_lines : (i : ℕ) → i < ships → has (row_form version.0 slots) (later_line i body) ≢ None
  past_ships : (i : ℕ) → later_line (ships + i) body ≡ later_line i rest
  rule_lines : (i : ℕ) (d : Rule) → i < length rules → has (rule_form version.1 ships slots) (later_line i rest) ≡ Some (get_or rules i d)
  needed : hours_needed version.1 rules ≡ true
  end : later_line (length rules) rest ≡ Some (codes "end")
  few : length rules ≤ 4_000
  total : length body ≡ ships + length rules + 2
  dropped : drop (ships + length rules + 1) body ≡ [] ∷ []

body_reads : (version : Bool × Bool) (size : ℕ × ℕ) (body : Parts) (f : Problem) → Small size → Full body → body_at version size body ≡ Ok f → BodyReads size.0 size.1 version body
body_reads version size body f small full h =
    let form : List ℕ → Option Rule = rule_form version.1 size.0 size.1 in
    let s = step (rows_at version.0 size.1 3 size.0 body) (λ rows. closing version size rows.0 rows.1) f h in
    let t = step (rules_at form (3 + size.0) 4_000 s.0.1) (λ rules. finished version size s.0.0 rules.0 rules.1) f s.2 in
    let rest : Parts = s.0.1 in
    let rules : List Rule = t.0.0 in
    let a = ships_read version.0 size.1 3 size.0 body s.0 s.1 in
    let b = rules_were_read version.1 size.0 size.1 (3 + size.0) 4_000 rest t.0 small.few_ships small.few_slots t.1 in
    let left = ships_leave version.0 size.1 3 size.0 body s.0 full s.1 in
    let last = rules_leave form (3 + size.0) 4_000 rest t.0 t.1 in
    let finish = finished_read version size s.0.0 rules t.0.1 f t.2 in
    let no_more : t.0.1 ≡ [] ∷ [] = nothing_left t.0.1 finish.1 in
    let written : Parts = map rule_text rules in
    let written_count : length written ≡ length rules = length-map rules rule_text in
    let ended : Parts = written ++ codes "end" ∷ [] in
    let ended_count : length ended ≡ length rules + 1 = omega (arith, length-append written (codes "end" ∷ []), written_count) in
    let lines : body ≡ (a.front ++ ended) ++ [] ∷ [] = a.lines ∙ ap (λ ps. a.front ++ ps) (b.lines ∙ ap (λ ps. ended ++ ps) no_more) ∙ sym (append_assoc a.front ended ([] ∷ [])) in
    let front_count : length (a.front ++ ended) ≡ size.0 + length rules + 1 = omega (arith, length-append a.front ended, a.each, ended_count) in
    let count : length body ≡ length (a.front ++ ended) + 1 = ap length lines ∙ length-append (a.front ++ ended) ([] ∷ []) in
    record {
      rest = rest;
      rules = rules;
      ship_lines = each_ship version.0 size.1 3 size.0 body s.0 s.1;
      past_ships = λ i. ap (λ n. later_line (n + i) body) (sym a.each) ∙ ap (later_line (length a.front + i)) a.lines ∙ after_front i a.front rest left;
      rule_lines = each_rule form (3 + size.0) 4_000 rest t.0 t.1;
      needed = finish.0;
      end =
          let n : length rules ≡ length written + 0 = omega (arith, written_count) in
          ap (λ i. later_line i rest) n ∙ ap (later_line (length written + 0)) (b.lines ∙ append_assoc written (codes "end" ∷ []) t.0.1) ∙ after_front 0 written (codes "end" ∷ t.0.1) (codes "end", t.0.1, refl) ∙ (rw last.2 refl);
      few = b.few;
      total = omega (arith, count, front_count);
      dropped = ap (drop (size.0 + length rules + 1)) lines ∙ drop_front (size.0 + length rules + 1) (a.front ++ ended) ([] ∷ []) (sym front_count);
    }

-- a line of a rule gives one
some_rule : (o : Option Rule) (rule : Rule) → o ≡ Some rule → o ≡ None → ⊥
some_rule o rule a b = cc

-- ---- the whole text

-- the first two lines
record TextReads (parts : Parts) : Type 0 where
  header : List ℕ
  size_line : List ℕ
  body : Parts
  lines : parts ≡ header ∷ size_line ∷ body
  full : Full body

of_lines : (parts : Parts) (header size_line : List ℕ) (front : Parts) → parts ≡ header ∷ size_line ∷ (front ++ [] ∷ []) → TextReads parts
of_lines parts header size_line front h = record { header = header; size_line = size_line; body = front ++ [] ∷ []; lines = h; full = full_after front ([] ∷ []) ([], [], refl) }

text_lines : (parts : Parts) (f : Problem) → problem_of_lines parts ≡ Ok f → TextReads parts
text_lines parts f h = of_lines parts _ _ _ (text_read parts f h).lines

header_reads : (header next : List ℕ) (parts : Parts) (f : Problem) → problem_of_lines (header ∷ next ∷ parts) ≡ Ok f → header_form header ≢ None
unfolding problem_of_lines
header_reads header next parts f h none = let bad : problem_of_lines (header ∷ next ∷ parts) ≡ Err (record { number = 1; word = words.Header }) = rw none refl in not_both (problem_of_lines (header ∷ next ∷ parts)) f _ h bad

size_reads : (header size_line : List ℕ) (body : Parts) (f : Problem) → Full body → problem_of_lines (header ∷ size_line ∷ body) ≡ Ok f → size_form size_line ≢ None
unfolding problem_of_lines
size_reads header size_line body f full h none =
    elim (header_form header) as (λ o. header_form header ≡ o → ⊥) [
      | None ↦ λ form. header_reads header size_line body f h form
      | Some version ↦ λ form. let bad : problem_of_lines (header ∷ size_line ∷ body) ≡ Err (record { number = 2; word = words.Size }) = rw (full.2, form, none) refl in not_both (problem_of_lines (header ∷ size_line ∷ body)) f _ h bad
    ] refl

second_line : (header size_line : List ℕ) (body : Parts) → Full body → numbered_line (header ∷ size_line ∷ body) 2 ≡ Some size_line
second_line header size_line body full = rw full.2 refl

reads_begun : (header size_line : List ℕ) (body : Parts) (version : Bool × Bool) (ships slots : ℕ) (f : Problem) → Full body → problem_of_lines (header ∷ size_line ∷ body) ≡ Ok f → SaysSize (header ∷ size_line ∷ body) version ships slots → BodyReads ships slots version body
reads_begun header size_line body version ships slots f full h b =
    let size : size_form size_line ≡ Some (ships, slots) = sym (ap (has size_form) (second_line header size_line body full)) ∙ b.size in
    body_reads version (ships, slots) body f (small_of size_line (ships, slots) size) full (sym (text_body header size_line body version (ships, slots) b.header size full) ∙ h)

-- where one of the rules needs hours, a line says so
no_plain : (hours : Bool) (rules : List Rule) → hours ≡ true → hours_needed hours rules ≡ true → All (λ rule. has_hours rule ≡ false) rules → ⊥
no_plain false rules may needed plain = absurd cc
no_plain true rules may needed plain = let none : any_hours rules ≡ false = list_any_none has_hours rules plain in absurd cc

wants_nothing : (header size_line : List ℕ) (body : Parts) (f : Problem) (number : ℕ) (word : FlatWord) → Full body → problem_of_lines (header ∷ size_line ∷ body) ≡ Ok f → number ≤ 2 + length body → IsWanted (header ∷ size_line ∷ body) number word → ⊥
wants_nothing header size_line body f number words.Header full h within w = header_reads header size_line body f h (ap (λ n. has header_form (numbered_line (header ∷ size_line ∷ body) n)) (sym w.place) ∙ w.wrong)
wants_nothing header size_line body f number words.Size full h within w =
    size_reads header size_line body f full h (sym (ap (has size_form) (second_line header size_line body full)) ∙ ap (λ n. has size_form (numbered_line (header ∷ size_line ∷ body) n)) (sym w.place) ∙ w.wrong)
wants_nothing header size_line body f number words.Values full h within w =
    let r = reads_begun header size_line body w.version w.ships w.slots f full h w.said in
    let line = numbered header size_line body number (number - 3) (omega (arith, w.past_size)) full in
    r.ship_lines (number - 3) (omega (arith, w.past_size, w.before_rules)) (sym (ap (has (row_form w.version.0 w.slots)) line) ∙ w.wrong)
wants_nothing header size_line body f number words.Rule full h within w =
    let r = reads_begun header size_line body w.version w.ships w.slots f full h w.said in
    let i : ℕ = number - (3 + w.ships) in
    let place : number ≡ 3 + (w.ships + i) = omega (arith, w.past_ships) in
    let line : numbered_line (header ∷ size_line ∷ body) number ≡ later_line i r.rest = numbered header size_line body number (w.ships + i) place full ∙ r.past_ships i in
    elim (cases_order i (length r.rules)) [
      | inl same ↦ elim w.wrong [
        | inl n ↦ n.no_end (line ∙ ap (λ n. later_line n r.rest) same ∙ r.end)
        | inr n ↦
            let at : (k : ℕ) → k < length r.rules → numbered_line (header ∷ size_line ∷ body) (3 + w.ships + k) ≡ later_line k r.rest = λ k lt. numbered header size_line body (3 + w.ships + k) (w.ships + k) (omega arith) full ∙ r.past_ships k in
            no_plain w.version.1 r.rules n.hours r.needed (λ k d lt. subst (λ o. IfSome o (λ rule. has_hours rule ≡ false)) (ap (has (rule_form w.version.1 w.ships w.slots)) (at k lt) ∙ r.rule_lines k d lt) (n.plain (3 + w.ships + k) (omega arith) (omega (arith, lt, place, same))))
      ]
      | inr (inl below) ↦
          let is = ap (has (rule_form w.version.1 w.ships w.slots)) line ∙ r.rule_lines i hour_rule below in
          let none : rule_on_line (header ∷ size_line ∷ body) w.version w.ships w.slots number ≡ None = elim w.wrong [
            | inl n ↦ n.wrong
            | inr n ↦ ap (has (rule_form w.version.1 w.ships w.slots)) n.end ∙ end_no_rule w.version.1 w.ships w.slots
          ] in
          some_rule _ _ is none
      | inr (inr above) ↦
          let before : number - 1 ≡ 3 + (w.ships + length r.rules) = omega (arith, above, place, within, r.total) in
          w.no_end_before (numbered header size_line body (number - 1) (w.ships + length r.rules) before full ∙ r.past_ships (length r.rules) ∙ r.end)
    ]
wants_nothing header size_line body f number words.Many full h within w =
    let r = reads_begun header size_line body w.version w.ships w.slots f full h w.said in
    let place : number ≡ 3 + (w.ships + 4_000) = omega (arith, w.past_rules) in
    let line : numbered_line (header ∷ size_line ∷ body) number ≡ later_line 4_000 r.rest = numbered header size_line body number (w.ships + 4_000) place full ∙ r.past_ships 4_000 in
    elim (cases_order 4_000 (length r.rules)) [
      | inl same ↦
          let ends : numbered_line (header ∷ size_line ∷ body) number ≡ Some (codes "end") = line ∙ ap (λ n. later_line n r.rest) same ∙ r.end in
          let none : rule_on_line (header ∷ size_line ∷ body) w.version w.ships w.slots number ≡ None = ap (has (rule_form w.version.1 w.ships w.slots)) ends ∙ end_no_rule w.version.1 w.ships w.slots in
          apart w.rule (sym none ∙ w.one_more)
      | inr (inl below) ↦ absurd (omega (arith, below, r.few))
      | inr (inr above) ↦
          let before : number - 1 ≡ 3 + (w.ships + length r.rules) = omega (arith, above, place, within, r.total) in
          w.no_end_before (numbered header size_line body (number - 1) (w.ships + length r.rules) before full ∙ r.past_ships (length r.rules) ∙ r.end)
    ]
  where
    apart : (rule : Rule) → None ≡ Some rule → ⊥
    apart rule e = cc
wants_nothing header size_line body f number words.Tail full h within w =
    let r = reads_begun header size_line body w.version w.ships w.slots f full h w.said in
    let i : ℕ = number - 1 - (3 + w.ships) in
    let place : number - 1 ≡ 3 + (w.ships + i) = omega (arith, w.past_ships) in
    let line : numbered_line (header ∷ size_line ∷ body) (number - 1) ≡ later_line i r.rest = numbered header size_line body (number - 1) (w.ships + i) place full ∙ r.past_ships i in
    elim (cases_order i (length r.rules)) [
      | inl same ↦
          let n : number - 1 ≡ suc (suc (w.ships + length r.rules + 1)) = omega (arith, same, place) in
          w.more (ap (λ k. drop k (header ∷ size_line ∷ body)) n ∙ r.dropped)
      | inr (inl below) ↦
          let ends : later_line i r.rest ≡ Some (codes "end") = sym line ∙ w.end in
          some_rule _ _ (r.rule_lines i hour_rule below) (ap (has (rule_form w.version.1 w.ships w.slots)) ends ∙ end_no_rule w.version.1 w.ships w.slots)
      | inr (inr above) ↦ absurd (omega (arith, above, place, within, r.total))
    ]

pub reads_wants_nothing : (parts : Parts) (f : Problem) (number : ℕ) (word : FlatWord) → problem_of_lines parts ≡ Ok f → number ≤ length parts → IsWanted parts number word → ⊥
reads_wants_nothing parts f number word h within w =
    let t = text_lines parts f h in
    let body_count : length parts ≡ 2 + length t.body = ap length t.lines ∙ two t.header t.size_line t.body in
    wants_nothing t.header t.size_line t.body f number word t.full (ap problem_of_lines (sym t.lines) ∙ h) (omega (arith, body_count, within)) (subst (λ (ps : Parts). IsWanted ps number word) t.lines w)
  where
    two : (x y : List ℕ) (ps : Parts) → length (x ∷ y ∷ ps) ≡ 2 + length ps
    two x y ps = omega arith
