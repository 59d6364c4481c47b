-- The lines of a start, which are valid, are taken one by one.
use Rattle.std.proofs.Common.{◌≡◌, ◌<◌, ◌+◌, ◌∙◌, ◌++◌, ◌∷◌, ℕ, List, [], None, length, drop, get_or, drop-cons, add-one, sym, ap, subst, append_assoc, append-nil}
use Rattle.std.specs.Prelude.{All}
use Rattle.hw_model.specs.Limits.{IsFlat}
use Rattle.hw_model.specs.Problem.{Problem}
use Rattle.hw_cert_lines.specs.declared.line.Line.{Line}
use Rattle.hw_cert_lines.specs.Kept.{Kept}
use Rattle.hw_cert_lines.specs.Refusals.{kept_refusal}
use Rattle.hw_cert_lines.specs.Valid.{LineFits, ValidAfter, ValidFrom}
use Rattle.hw_cert_laws.proofs.Refused.{valid_judge, from_valid}
use Rattle.hw_check.specs.Follows.{CheckerFollows}
use Rattle.hw_check.specs.States.{CheckState}

-- lines that were taken, and valid ones after them
pub record Checked (f : Problem) (all left : List Line) (c : CheckState) : Type 0 where
  pub before : List Line
  pub follows : CheckerFollows c before
  pub problem : c.problem ≡ f
  pub valid : ValidFrom f before left
  pub whole : before ++ left ≡ all

pub next_line : (all : List Line) (i : ℕ) (line : Line) → i < length all → line ≡ get_or all i line → drop i all ≡ line ∷ drop (i + 1) all
next_line all i line lt is =
    let cut : drop i all ≡ get_or all i line ∷ drop (i + 1) all = rw add-one (drop-cons all i line lt) in
    cut ∙ ap (λ (l : Line). l ∷ drop (i + 1) all) (sym is)

pub next_fits : (f : Problem) (all : List Line) (i : ℕ) (line : Line) → All (LineFits f) all → i < length all → line ≡ get_or all i line → LineFits f line
next_fits f all i line fit lt is = subst (LineFits f) (sym is) (fit i line lt)

-- the next line is valid, so a checker takes it
pub can_take : {f : Problem} {all left more : List Line} {c : CheckState} {line : Line} → IsFlat f → Checked f all left c → left ≡ line ∷ more → LineFits f line → kept_refusal c.problem c.kept line ≡ None
can_take {f = f} {c = c} {line = line} flat h cut fits =
    let valid = subst (ValidFrom f h.before) cut h.valid in
    let fits_there = subst (λ (g : Problem). LineFits g line) (sym h.problem) fits in
    let valid_there = subst (λ (g : Problem). ValidAfter g h.before line) (sym h.problem) valid.0 in
    let flat_there = subst IsFlat (sym h.problem) flat in
    subst (λ (k : Kept). kept_refusal c.problem k line ≡ None) (sym h.follows.kept) (from_valid c.problem h.before line fits_there (valid_judge c.problem h.before line flat_there h.follows.valid) valid_there)

pub one_taken : {f : Problem} {all left more : List Line} {c d : CheckState} {line : Line} → (h : Checked f all left c) → left ≡ line ∷ more → d.problem ≡ c.problem → CheckerFollows d (h.before ++ line ∷ []) → Checked f all more d
one_taken {f = f} {all = all} {more = more} {line = line} h cut same follows = record {
  before = h.before ++ line ∷ [];
  follows = follows;
  problem = same ∙ h.problem;
  valid = (subst (ValidFrom f h.before) cut h.valid).1;
  whole = append_assoc h.before (line ∷ []) more ∙ (ap (λ (ls : List Line). h.before ++ ls) (sym cut) ∙ h.whole);
}

pub all_taken : {f : Problem} {all left : List Line} {c : CheckState} → Checked f all left c → left ≡ [] → CheckerFollows c all
all_taken {c = c} h none = subst (CheckerFollows c) (sym (append-nil h.before) ∙ ap (λ (ls : List Line). h.before ++ ls) (sym none) ∙ h.whole) h.follows
