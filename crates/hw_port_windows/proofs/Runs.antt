-- The runs of a span: how the first one is found, and that they are the longest ones.
use Rattle.std.proofs.Common.{◌≡◌, ◌<◌, ◌+◌, ◌-◌, ◌∙◌, ℕ, zero, suc, Bool, true, false, cond, List, [], ◌∷◌, refl, sym, ap, subst, inl, inr, arith}
use Rattle.std.proofs.lemmas.Bool.{cases_lt}
use Rattle.hw_port_windows.specs.declared.run.Run.{Run}
use Rattle.hw_port_windows.specs.declared.status.Status.{Status}
use Rattle.hw_port_windows.specs.Statuses.{statuses_alike}
use Rattle.hw_port_windows.specs.Runs.{before, one_slot, runs}
use Rattle.hw_port_windows.specs.Laws.{FollowOn, IsLongest, RunsAreLongest}
use Rattle.hw_port_windows.proofs.Alike.{alike_back, alike_on, alike_self}

-- a run from one slot to another
abbrev pub from_to : ℕ → ℕ → Run
from_to first last = record { first = first; last = last }

begins_by : (b : Bool) (slot : ℕ) (run : Run) (more : List Run) → (last : ℕ) × (rest : List Run) × (cond b (from_to slot run.last ∷ more) (one_slot slot ∷ run ∷ more) ≡ from_to slot last ∷ rest)
begins_by true slot run more = (run.last, more, refl)
begins_by false slot run more = (slot, run ∷ more, refl)

-- the runs from a slot on begin with one from that slot
begins : (status : ℕ → Status) (slot : ℕ) (rs : List Run) → (last : ℕ) × (rest : List Run) × (before status slot rs ≡ from_to slot last ∷ rest)
begins status slot [] = (slot, [], refl)
begins status slot (run ∷ more) = begins_by (statuses_alike (status slot) (status run.first)) slot run more

-- the runs from a slot on, before an end
abbrev pub runs_to : (ℕ → Status) → ℕ → ℕ → List Run
runs_to status slot end = runs status slot (end - slot)

joins : (status : ℕ → Status) (slot last : ℕ) (more rs : List Run) → statuses_alike (status slot) (status (slot + 1)) ≡ true → rs ≡ from_to (slot + 1) last ∷ more → before status slot rs ≡ from_to slot last ∷ more
joins status slot last more rs e is =
    ap (before status slot) is ∙ ap (λ b. cond b (from_to slot last ∷ more) (one_slot slot ∷ from_to (slot + 1) last ∷ more)) e

stands : (status : ℕ → Status) (slot : ℕ) (rs : List Run) (last : ℕ) (more : List Run) → statuses_alike (status slot) (status (slot + 1)) ≡ false → rs ≡ from_to (slot + 1) last ∷ more → before status slot rs ≡ one_slot slot ∷ rs
stands status slot rs last more e is =
    ap (before status slot) is ∙ (ap (λ b. cond b (from_to slot last ∷ more) (one_slot slot ∷ from_to (slot + 1) last ∷ more)) e ∙ ap (λ xs. one_slot slot ∷ xs) (sym is))

-- the first run of a slot goes on as that of the next slot, which is of its kind
pub goes_on : (status : ℕ → Status) (slot end last : ℕ) (more : List Run) → slot < end → statuses_alike (status slot) (status (slot + 1)) ≡ true → runs_to status (slot + 1) end ≡ from_to (slot + 1) last ∷ more → runs_to status slot end ≡ from_to slot last ∷ more
goes_on status slot end last more lt e is =
    let size : end - slot ≡ suc (end - (slot + 1)) = omega (arith, lt) in
    ap (runs status slot) size ∙ joins status slot last more (runs_to status (slot + 1) end) e is

-- it ends where the next slot is of another kind
pub stops : (status : ℕ → Status) (slot end : ℕ) → slot + 1 < end → statuses_alike (status slot) (status (slot + 1)) ≡ false → runs_to status slot end ≡ one_slot slot ∷ runs_to status (slot + 1) end
stops status slot end lt e =
    let size : end - slot ≡ suc (end - (slot + 1)) = omega (arith, lt) in
    let next : end - (slot + 1) ≡ suc (end - (slot + 1 + 1)) = omega (arith, lt) in
    let b = begins status (slot + 1) (runs_to status (slot + 1 + 1) end) in
    ap (runs status slot) size ∙ stands status slot (runs_to status (slot + 1) end) b.0 b.1 e (ap (runs status (slot + 1)) next ∙ b.2)

-- and at the last slot
pub ends : (status : ℕ → Status) (slot : ℕ) → runs_to status slot (slot + 1) ≡ one_slot slot ∷ runs_to status (slot + 1) (slot + 1)
ends status slot =
    let size : slot + 1 - slot ≡ 1 = omega arith in
    let none : slot + 1 - (slot + 1) ≡ 0 = omega arith in
    ap (runs status slot) size ∙ ap (λ n. one_slot slot ∷ runs status (slot + 1) n) (sym none)

-- the first run from a slot on is that from an earlier one
abbrev pub GoesOn : (ℕ → Status) → ℕ → ℕ → ℕ → Type 0
GoesOn status end first slot = (last : ℕ) (more : List Run) → runs_to status slot end ≡ from_to slot last ∷ more → runs_to status first end ≡ from_to first last ∷ more

pub one_more : (status : ℕ → Status) (end first slot : ℕ) → slot < end → statuses_alike (status slot) (status (slot + 1)) ≡ true → GoesOn status end first slot → GoesOn status end first (slot + 1)
one_more status end first slot lt e told = λ last more is. told last more (goes_on status slot end last more lt e is)

pub ended_at : (status : ℕ → Status) (last first slot : ℕ) → slot ≡ last → GoesOn status (last + 1) first slot → runs_to status first (last + 1) ≡ from_to first last ∷ runs_to status (last + 1) (last + 1)
ended_at status last first slot e told = subst (λ s. GoesOn status (last + 1) first s) e told last (runs_to status (last + 1) (last + 1)) (ends status last)

-- ---- they are the longest ones

alone : (status : ℕ → Status) (slot end : ℕ) → slot < end → (slot + 1 < end → statuses_alike (status slot) (status (slot + 1)) ≡ true → ⊥) → IsLongest status slot end (one_slot slot)
alone status slot end lt other = record {
  begins = refl;
  forward = omega arith;
  inside = lt;
  one_kind = λ k low high. let e : slot ≡ k = omega (arith, low, high) in subst (λ n. statuses_alike (status slot) (status n) ≡ true) e (alike_self (status slot));
  longest = other;
}

longer : (status : ℕ → Status) (slot end : ℕ) (run : Run) → statuses_alike (status slot) (status run.first) ≡ true → IsLongest status (slot + 1) end run → IsLongest status slot end (from_to slot run.last)
longer status slot end run e is = record {
  begins = refl;
  forward = omega (arith, is.begins, is.forward);
  inside = is.inside;
  one_kind = λ k low high. elim (cases_lt slot k) [
    | inl later ↦ alike_on (status slot) (status run.first) (status k) e (is.one_kind k (omega (arith, is.begins, later)) high)
    | inr same ↦ (let at : slot ≡ k = omega (arith, low, same) in subst (λ n. statuses_alike (status slot) (status n) ≡ true) at (alike_self (status slot)))
  ];
  longest = λ lt same. is.longest lt (alike_back (status slot) (status run.first) (status (run.last + 1)) e same);
}

put_by : (b : Bool) (status : ℕ → Status) (slot end : ℕ) (run : Run) (more : List Run) → statuses_alike (status slot) (status run.first) ≡ b → slot < end → FollowOn status (slot + 1) end (run ∷ more) → FollowOn status slot end (cond b (from_to slot run.last ∷ more) (one_slot slot ∷ run ∷ more))
put_by true status slot end run more e lt follow = (longer status slot end run e follow.0, follow.1)
put_by false status slot end run more e lt follow =
    let next = follow.0.begins in
    let other : statuses_alike (status slot) (status (slot + 1)) ≡ false = subst (λ n. statuses_alike (status slot) (status n) ≡ false) next e in
    (alone status slot end lt (λ below same. cc), follow)

put_before : (status : ℕ → Status) (slot end : ℕ) (rs : List Run) → slot < end → FollowOn status (slot + 1) end rs → FollowOn status slot end (before status slot rs)
put_before status slot end [] lt e = (alone status slot end lt (λ below same. absurd (omega (arith, below, e))), e)
put_before status slot end (run ∷ more) lt follow = put_by (statuses_alike (status slot) (status run.first)) status slot end run more refl lt follow

follow_on : (status : ℕ → Status) (count first end : ℕ) → first + count ≡ end → FollowOn status first end (runs status first count)
follow_on status zero first end e = omega (arith, e)
follow_on status (suc count) first end e =
    put_before status first end (runs status (first + 1) count) (omega (arith, e)) (follow_on status count (first + 1) end (omega (arith, e)))

pub longest_law : RunsAreLongest
longest_law = λ status span le. follow_on status (span.last + 1 - span.first) span.first (span.last + 1) (omega (arith, le))
