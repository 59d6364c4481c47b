-- A text after its first two lines, where it is refused.
use Rattle.std.proofs.Common.{◌≡◌, ◌≢◌, ◌⊎◌, inl, inr, ℕ, zero, suc, ◌+◌, ◌-◌, ◌<◌, ◌≤◌, Bool, true, false, List, [], ◌∷◌, ◌++◌, map, length, drop, Some, IfSome, IsSomeAnd, Result, Ok, Err, All, refl, sym, ap, ◌∙◌, subst, arith, codes, append_assoc}
use Rattle.std.specs.Prelude.{if◌then◌else◌}
use Rattle.std.proofs.lemmas.List.{length-append, length-map}
use Rattle.hw_lemmas.specs.Operators.{◌>>=◌}
use Rattle.hw_model.specs.declared.rule.Rule.{Rule}
use Rattle.hw_model.specs.Problem.{Problem}
use Rattle.hw_text.specs.Parts.{at_end}
use Rattle.hw_flat.specs.declared.fault.FlatWord.{FlatWord}
use Rattle.hw_flat.specs.declared.fault.FlatWord.TheVariants as words
use Rattle.hw_flat.specs.Text.{Fault, fault, rows_at, rules_at, hours_needed, problem_of, finished, problem_of_lines}
use Rattle.hw_flat.specs.TextForms.{header_form, size_form, row_form, rule_form, has_hours, any_hours}
use Rattle.hw_flat.specs.TextWritten.{rule_text}
use Rattle.hw_flat.proofs.HourRules.{RuleIn}
use Rattle.hw_flat.proofs.TextRows.{text_read}
use Rattle.hw_flat_laws.specs.FirstLines.{later_line, numbered_line}
use Rattle.hw_flat_laws.specs.Wanted.{SaysSize, rule_on_line, IsWanted, OutOfRules}
use Rattle.hw_flat_laws.proofs.Same.{Parts, Full, Same, full_after, full_is, full_some, has, after_next, after_front, drop_front}
use Rattle.hw_flat_laws.proofs.Refusals.{Mend, Dead, Refused, followed, mend_past_lines, dead_followed, dead_past_lines, dead_line}
use Rattle.hw_flat_laws.proofs.ShipLines.{Row, Ended, hour_rules, filled, is_err, not_both, ShipsRead, ships_refused, ships_read, ships_leave, last_ship}
use Rattle.hw_flat_laws.proofs.RuleLines.{SaysOfRule, rules_refused, rules_were_read, rules_leave}
use Rattle.hw_flat_laws.proofs.Closings.{AnyProblem, Small, closing, closed_here, rules_go_on, not_needed, rule_line, plain_line, rule_no_end}

-- what follows `end`
abbrev pub tail_at : Bool → ℕ × ℕ → Row → List Rule → Parts → Result Problem Fault
tail_at stay size values rules parts = if at_end parts then Ok (problem_of stay size values rules) else fault (4 + size.0 + length rules) words.Tail

-- the ships' lines and what follows them
abbrev pub body_at : Bool × Bool → ℕ × ℕ → Parts → Result Problem Fault
body_at version size parts = rows_at version.0 size.1 3 size.0 parts >>= λ rows. closing version size rows.0 rows.1

-- a step that was refused, or did and was followed by one that was
pub split : {A B : Type 0} (r : Result A Fault) (f : A → Result B Fault) (e : Fault) → (r >>= f) ≡ Err e → (r ≡ Err e) ⊎ ((x : A) × (r ≡ Ok x) × (f x ≡ Err e))
split (Ok x) f e h = inr (x, refl, h)
split (Err d) f e h = let same : d ≡ e = cc in inl (ap (λ c. Err c) same)

pub text_body : (header size_line : List ℕ) (body : Parts) (version : Bool × Bool) (size : ℕ × ℕ) → header_form header ≡ Some version → size_form size_line ≡ Some size → Full body → problem_of_lines (header ∷ size_line ∷ body) ≡ body_at version size body
unfolding problem_of_lines
text_body header size_line body version size a b full = rw (full.2, a, b) refl

-- the numbers of ships and slots keep the limits
plain_end : (size : ℕ × ℕ) (values : Row) → closing (false, false) size values (codes "end" ∷ [] ∷ []) ≡ Ok (problem_of false size values [])
unfolding rules_at
plain_end size values = refl

pub small_of : (size_line : List ℕ) (size : ℕ × ℕ) → size_form size_line ≡ Some size → Small size
small_of size_line size b =
    let f = filled false false size.1 3 size.0 in
    let reads : body_at (false, false) size (f.first ∷ f.more) ≡ Ok (problem_of false size f.value.0 []) =
    ap (λ (r : Result (Row × Parts) Fault). r >>= λ rows. closing (false, false) size rows.0 rows.1) f.reads ∙ ap (closing (false, false) size f.value.0) f.ended ∙ plain_end size f.value.0 in
    let whole : problem_of_lines (codes "flat 1" ∷ size_line ∷ f.first ∷ f.more) ≡ Ok (problem_of false size f.value.0 []) = text_body (codes "flat 1") size_line (f.first ∷ f.more) (false, false) size refl b (f.first, f.more, refl) ∙ reads in
    let limits = (text_read (codes "flat 1" ∷ size_line ∷ f.first ∷ f.more) (problem_of false size f.value.0 []) whole).limits in
    record { some_ship = limits.some_ship; few_ships = limits.few_ships; some_slot = limits.some_slot; few_slots = limits.few_slots }

-- the first two lines go on to a problem
pub record Mended (version : Bool × Bool) (size : ℕ × ℕ) : Type 0 where
  pub first : List ℕ
  pub more : Parts
  pub values : Row
  pub reads : body_at version size (first ∷ more) ≡ Ok (problem_of version.0 size values (hour_rules version.1))

pub body_mended : (version : Bool × Bool) (size : ℕ × ℕ) → Small size → Mended version size
body_mended version size small =
    let f = filled version.0 version.1 size.1 3 size.0 in
    record {
      first = f.first;
      more = f.more;
      values = f.value.0;
      reads = ap (λ (r : Result (Row × Parts) Fault). r >>= λ rows. closing version size rows.0 rows.1) f.reads ∙ ap (closing version size f.value.0) f.ended ∙ closed_here version size f.value.0 small;
    }

-- ---- the end

record TailRefused (stay : Bool) (size : ℕ × ℕ) (values : Row) (rules : List Rule) (parts : Parts) (e : Fault) : Type 0 where
  place : e.number ≡ 4 + size.0 + length rules
  word : e.word ≡ words.Tail
  more : parts ≢ [] ∷ []
  refused : Refused AnyProblem (tail_at stay size values rules) parts e 0

two_left : (x y : List ℕ) (more : Parts) → at_end (x ∷ y ∷ more) ≡ false
two_left [] y more = refl
two_left (b ∷ x) y more = refl

tail_refused : (stay : Bool) (size : ℕ × ℕ) (values : Row) (rules : List Rule) (parts : Parts) (e : Fault) → Full parts → tail_at stay size values rules parts ≡ Err e → TailRefused stay size values rules parts e
tail_refused stay size values rules [] e full h = absurd cc
tail_refused stay size values rules (x ∷ more) e full h =
    let d : Fault = record { number = 4 + size.0 + length rules; word = words.Tail } in
    let faulty : Result Problem Fault = Err d in
    let same : d ≡ e = elim (at_end (x ∷ more)) as (λ b. (if b then Ok (problem_of stay size values rules) else faulty) ≡ Err e → d ≡ e) [
      | true ↦ λ k. absurd (not_both (Ok (problem_of stay size values rules)) (problem_of stay size values rules) e refl k)
      | false ↦ λ k. is_err faulty d e refl k
    ] h in
    record {
      place = ap (λ (c : Fault). c.number) (sym same);
      word = ap (λ (c : Fault). c.word) (sym same);
      more = λ k. not_both (tail_at stay size values rules (x ∷ more)) (problem_of stay size values rules) e (ap (tail_at stay size values rules) k) h;
      refused = record {
        mend = record { mended = [] ∷ []; value = problem_of stay size values rules; done = tt; reads = refl; same = tt };
        dead = record { dead = λ others s. dead more others s ∙ ap (λ c. Err c) same; cut = λ other n others s m. absurd (other (ap (λ (c : Fault). c.word) (sym same))) };
      };
    }
  where
    dead : (ps others : Parts) → Same 1 (x ∷ ps) others → tail_at stay size values rules others ≡ fault (4 + size.0 + length rules) words.Tail
    dead ps [] s = absurd s
    dead [] (y ∷ ys) s = absurd s.1
    dead (p ∷ ps) (y ∷ []) s = absurd s.1
    dead (p ∷ ps) (y ∷ z ∷ ys) s = rw (two_left y z ys) refl

-- ---- the whole body

-- a text that reads begins with these lines, or with all but the last of them
pub record Begins (version : Bool × Bool) (size : ℕ × ℕ) (body : Parts) (count : ℕ) (Out : Type 0) : Type 0 where
  pub kept : ℕ
  pub mend : Mend AnyProblem (body_at version size) body kept
  pub kept_is : (kept ≡ count) ⊎ ((suc kept ≡ count) × Out)

pub record BodyRefused (header size_line : List ℕ) (version : Bool × Bool) (size : ℕ × ℕ) (body : Parts) (e : Fault) : Type 0 where
  pub count : ℕ
  pub place : e.number ≡ 3 + count
  pub wanted : IsWanted (header ∷ size_line ∷ body) e.number e.word
  pub begins : Begins version size body count (OutOfRules (header ∷ size_line ∷ body) e.number)
  pub dead : Dead (body_at version size) body e count

begun : (header size_line : List ℕ) (body : Parts) (version : Bool × Bool) (size : ℕ × ℕ) → header_form header ≡ Some version → size_form size_line ≡ Some size → Full body → SaysSize (header ∷ size_line ∷ body) version size.0 size.1
begun header size_line body version size a b full = record { header = a; size = rw full.2 b }

pub numbered : (header size_line : List ℕ) (body : Parts) (number count : ℕ) → number ≡ 3 + count → Full body → numbered_line (header ∷ size_line ∷ body) number ≡ later_line count body
numbered header size_line body number count place full =
    let n : number - 1 ≡ suc (suc count) = omega (arith, place) in
    ap (λ i. later_line i (header ∷ size_line ∷ body)) n ∙ after_next count size_line body full

ships_bad : (header size_line : List ℕ) (version : Bool × Bool) (size : ℕ × ℕ) (body : Parts) (e : Fault) → header_form header ≡ Some version → size_form size_line ≡ Some size → Full body → rows_at version.0 size.1 3 size.0 body ≡ Err e → BodyRefused header size_line version size body e
ships_bad header size_line version size body e a b full h =
    let r = ships_refused version.0 version.1 size.1 3 size.0 body e (full_some body full) h in
    let refused : Refused AnyProblem (body_at version size) body e r.count =
    followed (Ended version.1) AnyProblem (rows_at version.0 size.1 3 size.0) (λ rows. closing version size rows.0 rows.1) body e r.count
    (λ value done. (problem_of version.0 size value.0 (hour_rules version.1), tt, ap (closing version size value.0) done ∙ closed_here version size value.0 (small_of size_line size b))) r.refused in
    record {
      count = r.count;
      place = r.place;
      wanted = subst (IsWanted (header ∷ size_line ∷ body) e.number) (sym r.word) (record {
        version = version;
        ships = size.0;
        slots = size.1;
        said = begun header size_line body version size a b full;
        past_size = omega (arith, r.place);
        before_rules = omega (arith, r.place, r.below);
        wrong = ap (has (row_form version.0 size.1)) (numbered header size_line body e.number r.count r.place full) ∙ r.wrong;
      });
      begins = record { kept = r.count; mend = refused.mend; kept_is = inl refl };
      dead = refused.dead;
    }

-- the line before a bad rule is not `end`
before_rule : (stay : Bool) (size : ℕ × ℕ) (front rest body : Parts) (x : Row × Parts) (count i : ℕ) → body ≡ front ++ rest → Full rest → length front ≡ size.0 → rows_at stay size.1 3 size.0 body ≡ Ok x → ((j : ℕ) → count ≡ suc j → later_line j rest ≢ Some (codes "end"))
    → suc i ≡ length front + count → later_line i body ≢ Some (codes "end")
before_rule stay size front rest body x zero i lines full each h earlier n =
    let ships : suc i ≡ size.0 = omega (arith, n, each) in
    last_ship stay size.1 3 i body x (ap (λ k. rows_at stay size.1 3 k body) ships ∙ h)
before_rule stay size front rest body x (suc j) i lines full each h earlier n =
    let place : length front + j ≡ i = omega (arith, n) in
    λ s. earlier j refl (sym (after_front j front rest full) ∙ ap (λ k. later_line k (front ++ rest)) place ∙ ap (later_line i) (sym lines) ∙ s)

says_wanted : (parts rest : Parts) (version : Bool × Bool) (ships slots number count : ℕ) (word : FlatWord) → SaysSize parts version ships slots → number ≡ 3 + ships + count → count ≤ 4_000 → numbered_line parts (number - 1) ≢ Some (codes "end") → numbered_line parts number ≡ later_line count rest
    → SaysOfRule (rule_form version.1 ships slots) 4_000 count rest word → IsWanted parts number word
says_wanted parts rest version ships slots number count words.Rule begins place few before line s = record {
  version = version;
  ships = ships;
  slots = slots;
  said = begins;
  past_ships = omega (arith, place);
  few_rules = omega (arith, place, few);
  no_end_before = before;
  wrong = inl (record { no_end = λ k. s.0 (sym line ∙ k); wrong = ap (has (rule_form version.1 ships slots)) line ∙ s.1 });
}
says_wanted parts rest version ships slots number count words.Many begins place few before line s = record {
  version = version;
  ships = ships;
  slots = slots;
  said = begins;
  past_rules = omega (arith, place, s.0);
  no_end_before = before;
  rule = s.1.0;
  one_more = ap (has (rule_form version.1 ships slots)) line ∙ s.1.1;
}
says_wanted parts rest version ships slots number count words.Header begins place few before line s = absurd s
says_wanted parts rest version ships slots number count words.Size begins place few before line s = absurd s
says_wanted parts rest version ships slots number count words.Values begins place few before line s = absurd s
says_wanted parts rest version ships slots number count words.Tail begins place few before line s = absurd s

-- a body whose ships' lines are read, and whose rules are read up to some place
record Found (header size_line : List ℕ) (version : Bool × Bool) (size : ℕ × ℕ) (body : Parts) (x : Row × Parts) (rules : List Rule) (rest : Parts) : Type 0 where
  small : Small size
  said : SaysSize (header ∷ size_line ∷ body) version size.0 size.1
  full : Full body
  ships : ShipsRead version.0 size.1 3 size.0 body x
  left : Full x.1
  lines : x.1 ≡ map rule_text rules ++ rest
  more : Full rest
  good : All (RuleIn version.1 size.0 size.1) rules
  few : length rules ≤ 4_000

-- the line of a rule, by its number
found_line : (header size_line : List ℕ) (version : Bool × Bool) (size : ℕ × ℕ) (body : Parts) (x : Row × Parts) (rules : List Rule) (rest : Parts) (number i : ℕ) → Found header size_line version size body x rules rest → number ≡ 3 + size.0 + i
    → numbered_line (header ∷ size_line ∷ body) number ≡ later_line i (map rule_text rules ++ rest)
found_line header size_line version size body x rules rest number i g place =
    let f = g.ships in
    numbered header size_line body number (length f.front + i) (omega (arith, place, f.each)) g.full ∙ ap (later_line (length f.front + i)) f.lines ∙ after_front i f.front x.1 g.left ∙ ap (later_line i) g.lines

-- where none of the rules needs hours, so say their lines
found_plain : (header size_line : List ℕ) (version : Bool × Bool) (size : ℕ × ℕ) (body : Parts) (x : Row × Parts) (rules : List Rule) (rest : Parts) (line : ℕ) → Found header size_line version size body x rules rest → any_hours rules ≡ false → 3 + size.0 ≤ line → line < 3 + size.0 + length rules
    → (rule : Rule) × (rule_on_line (header ∷ size_line ∷ body) version size.0 size.1 line ≡ Some rule) × (has_hours rule ≡ false)
found_plain header size_line version size body x rules rest line g none from to =
    let i : ℕ = line - (3 + size.0) in
    let place : line ≡ 3 + size.0 + i = omega (arith, from) in
    let p = plain_line version size rules rest i g.more g.small g.good g.few none (omega (arith, place, to)) in
    (p.0, ap (has (rule_form version.1 size.0 size.1)) (found_line header size_line version size body x rules rest line i g place) ∙ p.1, p.2)

-- such a body goes on to one that reads
found_begins : (header size_line : List ℕ) (version : Bool × Bool) (size : ℕ × ℕ) (body : Parts) (x : Row × Parts) (rules : List Rule) (rest : Parts) (number : ℕ) → Found header size_line version size body x rules rest → number ≡ 3 + size.0 + length rules
    → Begins version size body (size.0 + length rules) (OutOfRules (header ∷ size_line ∷ body) number)
found_begins header size_line version size body x rules rest number g place =
    let f = g.ships in
    let r = rules_go_on version size x.0 rules rest g.more g.small g.good g.few in
    let lines : body ≡ f.front ++ (map rule_text rules ++ rest) = f.lines ∙ ap (λ ps. f.front ++ ps) g.lines in
    let m : Mend AnyProblem (body_at version size) (f.front ++ (map rule_text rules ++ rest)) (length f.front + r.kept) =
    mend_past_lines AnyProblem (closing version size x.0) (body_at version size) f.front (map rule_text rules ++ rest) r.kept (λ others more. rw (f.reads others more) refl) r.mend in
    record {
      kept = length f.front + r.kept;
      mend = subst (λ (ps : Parts). Mend AnyProblem (body_at version size) ps (length f.front + r.kept)) (sym lines) m;
      kept_is = elim r.kept_is [
        | inl same ↦ inl (omega (arith, same, f.each))
        | inr s ↦ inr (
          omega (arith, s.0, f.each),
          record {
            version = version;
            ships = size.0;
            slots = size.1;
            said = g.said;
            hours = s.1.0;
            past_rules = omega (arith, place, s.1.1);
            plain = λ line from to.
                let p = found_plain header size_line version size body x rules rest line g s.1.2 from (omega (arith, to, place)) in
                subst (λ o. IsSomeAnd o (λ rule. has_hours rule ≡ false)) (sym p.1) p.2;
          },
        )
      ];
    }

rules_bad : (header size_line : List ℕ) (version : Bool × Bool) (size : ℕ × ℕ) (body : Parts) (x : Row × Parts) (e : Fault) → header_form header ≡ Some version → size_form size_line ≡ Some size → Full body → rows_at version.0 size.1 3 size.0 body ≡ Ok x
    → rules_at (rule_form version.1 size.0 size.1) (3 + size.0) 4_000 x.1 ≡ Err e → BodyRefused header size_line version size body e
rules_bad header size_line version size body x e a b full h k =
    let small = small_of size_line size b in
    let left = ships_leave version.0 size.1 3 size.0 body x full h in
    let f = ships_read version.0 size.1 3 size.0 body x h in
    let r = rules_refused version.1 size.0 size.1 (3 + size.0) 4_000 x.1 e small.few_ships small.few_slots (full_some x.1 left) k in
    let said = begun header size_line body version size a b full in
    let g : Found header size_line version size body x r.rules r.rest = record { small = small; said = said; full = full; ships = f; left = left; lines = r.lines; more = r.full; good = r.good; few = omega (arith, r.each, r.few) } in
    let place : e.number ≡ 3 + (length f.front + r.count) = omega (arith, r.place, f.each) in
    let i : ℕ = length f.front + r.count - 1 in
    let some : suc i ≡ length f.front + r.count = omega (arith, f.each, small.some_ship) in
    let before : numbered_line (header ∷ size_line ∷ body) (e.number - 1) ≡ later_line i body = numbered header size_line body (e.number - 1) i (omega (arith, place, some)) full in
    let line : numbered_line (header ∷ size_line ∷ body) e.number ≡ later_line r.count x.1 = numbered header size_line body e.number (length f.front + r.count) place full ∙ ap (later_line (length f.front + r.count)) f.lines ∙ after_front r.count f.front x.1 left in
    let rules : Dead (closing version size x.0) x.1 e r.count = dead_followed (rules_at (rule_form version.1 size.0 size.1) (3 + size.0) 4_000) (λ rules. finished version size x.0 rules.0 rules.1) x.1 e r.count r.dead in
    record {
      count = length f.front + r.count;
      place = place;
      wanted = says_wanted (header ∷ size_line ∷ body) x.1 version size.0 size.1 e.number r.count e.word said r.place r.few
          (λ s. before_rule version.0 size f.front x.1 body x r.count i f.lines left f.each h r.before some (sym before ∙ s)) line r.says;
      begins = subst (λ n. Begins version size body n (OutOfRules (header ∷ size_line ∷ body) e.number)) (omega (arith, f.each, r.each)) (found_begins header size_line version size body x r.rules r.rest e.number g (omega (arith, r.place, r.each)));
      dead = subst (λ (ps : Parts). Dead (body_at version size) ps e (length f.front + r.count)) (sym f.lines) (dead_past_lines (closing version size x.0) (body_at version size) f.front x.1 e r.count (λ others more. rw (f.reads others more) refl) rules);
    }

-- `end` where no rule before it needs the hours that fleets have
end_bad : (header size_line : List ℕ) (version : Bool × Bool) (size : ℕ × ℕ) (body : Parts) (x : Row × Parts) (y : List Rule × Parts) (e : Fault) → header_form header ≡ Some version → size_form size_line ≡ Some size → Full body → rows_at version.0 size.1 3 size.0 body ≡ Ok x
    → rules_at (rule_form version.1 size.0 size.1) (3 + size.0) 4_000 x.1 ≡ Ok y → hours_needed version.1 y.0 ≡ false → finished version size x.0 y.0 y.1 ≡ Err e → BodyRefused header size_line version size body e
end_bad header size_line version size body x y e a b full h k none t =
    let small = small_of size_line size b in
    let left = ships_leave version.0 size.1 3 size.0 body x full h in
    let f = ships_read version.0 size.1 3 size.0 body x h in
    let r = rules_were_read version.1 size.0 size.1 (3 + size.0) 4_000 x.1 y small.few_ships small.few_slots k in
    let last = rules_leave (rule_form version.1 size.0 size.1) (3 + size.0) 4_000 x.1 y k in
    let said = begun header size_line body version size a b full in
    let written : Parts = map rule_text y.0 in
    let rest : Parts = codes "end" ∷ y.1 in
    let more : Full rest = (codes "end", y.1, refl) in
    let lines : x.1 ≡ written ++ rest = r.lines ∙ append_assoc written (codes "end" ∷ []) y.1 in
    let g : Found header size_line version size body x y.0 rest = record { small = small; said = said; full = full; ships = f; left = left; lines = lines; more = more; good = r.good; few = r.few } in
    let needs = not_needed version.1 y.0 none in
    let d : Fault = record { number = 3 + size.0 + length y.0; word = words.Rule } in
    let bad : (others : Parts) → finished version size x.0 y.0 others ≡ Err d = λ others. rw none refl in
    let same : d ≡ e = is_err (finished version size x.0 y.0 y.1) d e (bad y.1) t in
    let front : Parts = f.front ++ written in
    let written_count : length written ≡ length y.0 = length-map y.0 rule_text in
    let count : length front ≡ size.0 + length y.0 = omega (arith, length-append f.front written, f.each, written_count) in
    let body_is : body ≡ front ++ rest = f.lines ∙ ap (λ ps. f.front ++ ps) lines ∙ sym (append_assoc f.front written rest) in
    let reads : (others : Parts) → Full others → body_at version size (front ++ codes "end" ∷ others) ≡ finished version size x.0 y.0 others = λ others full'.
    let one : body_at version size (f.front ++ (written ++ codes "end" ∷ others)) ≡ closing version size x.0 (written ++ codes "end" ∷ others) = rw (f.reads (written ++ codes "end" ∷ others) (full_after written (codes "end" ∷ others) (codes "end", others, refl))) refl in
    let two : closing version size x.0 ((written ++ codes "end" ∷ []) ++ others) ≡ finished version size x.0 y.0 others = rw (r.reads others full') refl in
    ap (body_at version size) (append_assoc f.front written (codes "end" ∷ others)) ∙ one ∙ ap (closing version size x.0) (sym (append_assoc written (codes "end" ∷ []) others)) ∙ two in
    let dead : Dead (λ others. body_at version size (front ++ others)) (codes "end" ∷ last.0 ∷ last.1) d 0 = dead_line (λ others. body_at version size (front ++ others)) (codes "end") last.0 last.1 d (λ p ps. reads (p ∷ ps) (p, ps, refl) ∙ bad (p ∷ ps)) in
    let dead_here : Dead (λ others. body_at version size (front ++ others)) rest d 0 = subst (λ (ps : Parts). Dead (λ others. body_at version size (front ++ others)) (codes "end" ∷ ps) d 0) (sym last.2) dead in
    let i : ℕ = length f.front + length y.0 - 1 in
    let some : suc i ≡ length f.front + length y.0 = omega (arith, f.each, small.some_ship) in
    let before : numbered_line (header ∷ size_line ∷ body) (d.number - 1) ≡ later_line i body = numbered header size_line body (d.number - 1) i (omega (arith, some, f.each)) full in
    let earlier : (j : ℕ) → length y.0 ≡ suc j → later_line j x.1 ≢ Some (codes "end") = λ j n s.
    rule_no_end version size x.1 j _ (ap (λ ps. has (rule_form version.1 size.0 size.1) (later_line j ps)) lines ∙ rule_line version size y.0 rest j more small r.good r.few (omega (arith, n))) s in
    let at_last : length y.0 ≡ length written + 0 = omega (arith, written_count) in
    let ends : numbered_line (header ∷ size_line ∷ body) d.number ≡ Some (codes "end") =
    found_line header size_line version size body x y.0 rest d.number (length y.0) g refl ∙ ap (λ n. later_line n (written ++ rest)) at_last ∙ after_front 0 written rest more ∙ (rw last.2 refl) in
    let plain : (line : ℕ) → 3 + size.0 ≤ line → line < d.number → IfSome (rule_on_line (header ∷ size_line ∷ body) version size.0 size.1 line) (λ rule. has_hours rule ≡ false) = λ line from to.
    let p = found_plain header size_line version size body x y.0 rest line g needs.1 from to in
    subst (λ o. IfSome o (λ rule. has_hours rule ≡ false)) (sym p.1) p.2 in
    subst (BodyRefused header size_line version size body) same (record {
      count = length front + 0;
      place = omega (arith, count);
      wanted = record {
        version = version;
        ships = size.0;
        slots = size.1;
        said = said;
        past_ships = omega arith;
        few_rules = omega (arith, r.few);
        no_end_before = λ s. before_rule version.0 size f.front x.1 body x (length y.0) i f.lines left f.each h earlier some (sym before ∙ s);
        wrong = inr (record { hours = needs.0; end = ends; plain = plain });
      };
      begins = subst (λ n. Begins version size body n (OutOfRules (header ∷ size_line ∷ body) d.number)) (omega (arith, count, f.each)) (found_begins header size_line version size body x y.0 rest d.number g refl);
      dead = subst (λ (ps : Parts). Dead (body_at version size) ps d (length front + 0)) (sym body_is) (dead_past_lines (λ others. body_at version size (front ++ others)) (body_at version size) front rest d 0 (λ others full'. refl) dead_here);
    })

tail_bad : (header size_line : List ℕ) (version : Bool × Bool) (size : ℕ × ℕ) (body : Parts) (x : Row × Parts) (y : List Rule × Parts) (e : Fault) → header_form header ≡ Some version → size_form size_line ≡ Some size → Full body → rows_at version.0 size.1 3 size.0 body ≡ Ok x
    → rules_at (rule_form version.1 size.0 size.1) (3 + size.0) 4_000 x.1 ≡ Ok y → hours_needed version.1 y.0 ≡ true → tail_at version.0 size x.0 y.0 y.1 ≡ Err e → BodyRefused header size_line version size body e
tail_bad header size_line version size body x y e a b full h k needed t =
    let small = small_of size_line size b in
    let f = ships_read version.0 size.1 3 size.0 body x h in
    let g = rules_were_read version.1 size.0 size.1 (3 + size.0) 4_000 x.1 y small.few_ships small.few_slots k in
    let left = rules_leave (rule_form version.1 size.0 size.1) (3 + size.0) 4_000 x.1 y k in
    let r = tail_refused version.0 size x.0 y.0 y.1 e left t in
    let written : Parts = map rule_text y.0 in
    let written_count : length written ≡ length y.0 = length-map y.0 rule_text in
    let ended : Parts = written ++ codes "end" ∷ [] in
    let ended_count : length ended ≡ length y.0 + 1 = omega (arith, length-append written (codes "end" ∷ []), written_count) in
    let lines : body ≡ (f.front ++ ended) ++ y.1 = f.lines ∙ ap (λ ps. f.front ++ ps) g.lines ∙ sym (append_assoc f.front ended y.1) in
    let total : length (f.front ++ ended) ≡ size.0 + length y.0 + 1 = omega (arith, length-append f.front ended, f.each, ended_count) in
    let place : e.number ≡ 3 + (length (f.front ++ ended) + 0) = omega (arith, r.place, total) in
    let whole : (others : Parts) → Full others → body_at version size ((f.front ++ ended) ++ others) ≡ tail_at version.0 size x.0 y.0 others = λ others more.
    let one : body_at version size (f.front ++ (ended ++ others)) ≡ tail_at version.0 size x.0 y.0 others = rw (f.reads (ended ++ others) (full_after ended others more), g.reads others more, needed) refl in
    ap (body_at version size) (append_assoc f.front ended others) ∙ one in
    let ends : numbered_line (header ∷ size_line ∷ body) (e.number - 1) ≡ Some (codes "end") =
    numbered header size_line body (e.number - 1) (length f.front + (length written + 0)) (omega (arith, place, total, f.each, written_count)) full
    ∙ ap (later_line (length f.front + (length written + 0))) f.lines ∙ after_front (length written + 0) f.front x.1 (full_is _ _ (sym g.lines) (full_after ended y.1 left))
    ∙ ap (later_line (length written + 0)) (g.lines ∙ append_assoc written (codes "end" ∷ []) y.1) ∙ after_front 0 written (codes "end" ∷ y.1) (codes "end", y.1, refl) ∙ (rw left.2 refl) in
    let dropped : drop (e.number - 1) (header ∷ size_line ∷ body) ≡ y.1 =
    let n : e.number - 1 ≡ suc (suc (length (f.front ++ ended))) = omega (arith, place) in
    ap (λ i. drop i (header ∷ size_line ∷ body)) n ∙ ap (drop (length (f.front ++ ended))) lines ∙ drop_front (length (f.front ++ ended)) (f.front ++ ended) y.1 refl in
    record {
      count = length (f.front ++ ended) + 0;
      place = place;
      wanted = subst (IsWanted (header ∷ size_line ∷ body) e.number) (sym r.word) (record {
        version = version;
        ships = size.0;
        slots = size.1;
        said = begun header size_line body version size a b full;
        past_ships = omega (arith, place, total);
        few_rules = omega (arith, place, total, g.few);
        end = ends;
        more = λ s. r.more (sym dropped ∙ s);
      });
      begins = record {
        kept = length (f.front ++ ended) + 0;
        mend = subst (λ (ps : Parts). Mend AnyProblem (body_at version size) ps (length (f.front ++ ended) + 0)) (sym lines) (mend_past_lines AnyProblem (tail_at version.0 size x.0 y.0) (body_at version size) (f.front ++ ended) y.1 0 whole r.refused.mend);
        kept_is = inl refl;
      };
      dead = subst (λ (ps : Parts). Dead (body_at version size) ps e (length (f.front ++ ended) + 0)) (sym lines) (dead_past_lines (tail_at version.0 size x.0 y.0) (body_at version size) (f.front ++ ended) y.1 e 0 whole r.refused.dead);
    }

pub body_refused : (header size_line : List ℕ) (version : Bool × Bool) (size : ℕ × ℕ) (body : Parts) (e : Fault) → header_form header ≡ Some version → size_form size_line ≡ Some size → Full body → body_at version size body ≡ Err e → BodyRefused header size_line version size body e
body_refused header size_line version size body e a b full h =
    elim (split (rows_at version.0 size.1 3 size.0 body) (λ rows. closing version size rows.0 rows.1) e h) [
      | inl bad ↦ ships_bad header size_line version size body e a b full bad
      | inr s ↦
          elim (split (rules_at (rule_form version.1 size.0 size.1) (3 + size.0) 4_000 s.0.1) (λ rules. finished version size s.0.0 rules.0 rules.1) e s.2) [
            | inl bad ↦ rules_bad header size_line version size body s.0 e a b full s.1 bad
            | inr t ↦
                elim (hours_needed version.1 t.0.0) as (λ n. hours_needed version.1 t.0.0 ≡ n → BodyRefused header size_line version size body e) [
                  | true ↦ λ needed.
                      let good : finished version size s.0.0 t.0.0 t.0.1 ≡ tail_at version.0 size s.0.0 t.0.0 t.0.1 = rw needed refl in
                      tail_bad header size_line version size body s.0 t.0 e a b full s.1 t.1 needed (sym good ∙ t.2)
                  | false ↦ λ none. end_bad header size_line version size body s.0 t.0 e a b full s.1 t.1 none t.2
                ] refl
          ]
    ]
