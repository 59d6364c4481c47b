-- The best so far, after one more list of slots, and what a walk answers.
use Rattle.std.proofs.Common.{◌≡◌, ◌↔◌, Result, Ok, Err, IfOk, subst, ℕ, ◌+◌, ◌<◌, ◌≤◌, ◌⊎◌, Bool, true, false, List, Option, Some, None, MatchBool, IsTrue, refl, sym, ap, ◌∙◌, arith, inl, inr, zero, suc, replicate}
use Rattle.std.proofs.lemmas.Bool.{cases_lt, ltb-true, ltb-false}
use Rattle.hw_lemmas.proofs.Truths.{same_some}
use Rattle.hw_model.specs.Problem.{Problem, IsTimetable}
use Rattle.hw_model.specs.Timetables.{Permits, NonePermitted, cargo, beats}
use Rattle.hw_model.specs.Walk.{rank, table_count, FirstBest}
use Rattle.hw_model_laws.proofs.Cargoes.{has_cargo}
use Rattle.hw_model_laws.proofs.Rank.{rank_lt, same_rank, first_is_best, none_of_all}
use Rattle.hw_rules.specs.declared.outcome.Walked.{Walked}
use Rattle.hw_rules.specs.declared.outcome.Walked.TheVariants.{Best, NoneLeft, Spent}
use Rattle.hw_rules.specs.Outcomes.{WalkedTo, SomePermitted, IsBestFound, IsNoneLeft, IsSpent, FoundIsBest}
use Rattle.hw_rules.specs.Listing.{kept, BestSoFar, answer}

now_or_before : (f : Problem) (cur u : List ℕ) → IsTimetable f cur → Permits f u → rank f.slots u < rank f.slots cur + 1 → (u ≡ cur) ⊎ (rank f.slots u < rank f.slots cur)
now_or_before f cur u h g lt =
    elim (cases_lt (rank f.slots u) (rank f.slots cur)) [
      | inl before ↦ inr before
      | inr ge ↦ inl (same_rank f.slots u cur g.listed.each_slot h.each_slot (g.listed.each_ship ∙ sym h.each_ship) (omega (arith, ge, lt)))
    ]

worth_is : (f : Problem) (cur u : List ℕ) (new c : ℕ) → u ≡ cur → cargo f cur ≡ Some new → cargo f u ≡ Some c → c ≡ new
worth_is f cur u new c same w e = same_some c new (sym e ∙ ap (cargo f) same ∙ w)

-- a permitted list that beats the best so far is the first best now
pub better : (f : Problem) (cur best : List ℕ) (most : Option ℕ) (new : ℕ) → Permits f cur → cargo f cur ≡ Some new → IsTrue (beats new most) → BestSoFar f (rank f.slots cur) (kept best most) → FirstBest f (rank f.slots cur + 1) cur new
better f cur best None new t w a h = record {
  permitted = t;
  early = omega arith;
  worth = w;
  greatest = λ u c g lt e. elim (now_or_before f cur u t.listed g lt) [
    | inl same ↦ omega (arith, worth_is f cur u new c same w e)
    | inr before ↦ absurd (h u g before)
  ];
  first = λ u c g before e. absurd (h u g before);
}
better f cur best (Some m) new t w a h =
    let lt : m < new = ltb-true m new a in
    record {
      permitted = t;
      early = omega arith;
      worth = w;
      greatest = λ u c g lt' e. elim (now_or_before f cur u t.listed g lt') [
        | inl same ↦ omega (arith, worth_is f cur u new c same w e)
        | inr before ↦ omega (arith, h.greatest u c g before e, lt)
      ];
      first = λ u c g before e. omega (arith, h.greatest u c g before e, lt);
    }

-- a list that is permitted has at most the greatest cargo so far
abbrev pub NotBetter : Problem → List ℕ → Option ℕ → Type 0
NotBetter f cur most = (c : ℕ) → Permits f cur → cargo f cur ≡ Some c → beats c most ≡ false

never : (f : Problem) (cur u : List ℕ) → NotBetter f cur None → u ≡ cur → Permits f u → ⊥
never f cur u under same g =
    let h : Permits f cur = subst (Permits f) same g in
    let w = has_cargo f cur h in
    absurd (clash (under w.0 h w.1))
  where
    clash : true ≡ false → ⊥
    clash e = cc

at_most : (f : Problem) (cur u : List ℕ) (m c : ℕ) → NotBetter f cur (Some m) → u ≡ cur → Permits f u → cargo f u ≡ Some c → c ≤ m
at_most f cur u m c under same g e = ltb-false m c (under c (subst (Permits f) same g) (sym (ap (cargo f) same) ∙ e))

-- a list that isn't permitted, or doesn't beat the best so far, changes nothing
pub no_better : (f : Problem) (cur best : List ℕ) (most : Option ℕ) → IsTimetable f cur → NotBetter f cur most → BestSoFar f (rank f.slots cur) (kept best most) → BestSoFar f (rank f.slots cur + 1) (kept best most)
no_better f cur best None t under h = λ u g lt. elim (now_or_before f cur u t g lt) [
  | inl same ↦ never f cur u under same g
  | inr before ↦ h u g before
]
no_better f cur best (Some m) t under h = record {
  permitted = h.permitted;
  early = omega (arith, h.early);
  worth = h.worth;
  greatest = λ u c g lt e. elim (now_or_before f cur u t g lt) [
    | inl same ↦ at_most f cur u m c under same g e
    | inr before ↦ h.greatest u c g before e
  ];
  first = h.first;
}

pub rank_zeros : (s n : ℕ) → rank s (replicate n 0) ≡ 0
rank_zeros s zero = refl
rank_zeros s (suc n) = omega (arith, rank_zeros s n)

pub few : (f : Problem) (cur : List ℕ) → IsTimetable f cur → rank f.slots cur < table_count f
few f cur t = let h = rank_lt f.slots cur t.each_slot in rw t.each_ship at h

-- what was looked at, in one word
abbrev pub Looked : Problem → ℕ → Bool → Option (List ℕ × ℕ) → Type 0
Looked f budget whole best = MatchBool whole ((table_count f ≤ budget) × BestSoFar f (table_count f) best) ((budget < table_count f) × BestSoFar f budget best)

pub walked : (f : Problem) (budget : ℕ) (whole : Bool) (best : List ℕ) (most : Option ℕ) → Looked f budget whole (kept best most) → WalkedTo f budget (answer whole best most)
walked f budget true best None h = h
walked f budget true best (Some c) h = h
walked f budget false best None h = h
walked f budget false best (Some c) h = (h.0, (c, h.1))

pub optimal : (f : Problem) (budget : ℕ) (w : Walked) → WalkedTo f budget w → FoundIsBest f w
optimal f budget (Best table c) h = first_is_best f table c h.1
optimal f budget NoneLeft h = tt
optimal f budget (Spent table) h = tt

pub best_found : (f : Problem) (budget : ℕ) (w : Walked) → WalkedTo f budget w → (IsBestFound w ↔ ((table_count f ≤ budget) × SomePermitted f))
best_found f budget (Best table c) h = (λ yes. (h.0, (table, h.1.permitted)), λ some. tt)
best_found f budget NoneLeft h = (λ yes. absurd yes, λ some. absurd (none_of_all f h.1 some.1.0 some.1.1))
best_found f budget (Spent table) h = (λ yes. absurd yes, λ some. absurd (omega (arith, h.0, some.0)))

pub none_left : (f : Problem) (budget : ℕ) (w : Walked) → WalkedTo f budget w → (IsNoneLeft w ↔ ((table_count f ≤ budget) × NonePermitted f))
none_left f budget (Best table c) h = (λ yes. absurd yes, λ none. absurd (none.1 table h.1.permitted))
none_left f budget NoneLeft h = (λ yes. (h.0, none_of_all f h.1), λ none. tt)
none_left f budget (Spent table) h = (λ yes. absurd yes, λ none. absurd (omega (arith, h.0, none.0)))

pub spent : (f : Problem) (budget : ℕ) (w : Walked) → WalkedTo f budget w → (IsSpent w ↔ (budget < table_count f))
spent f budget (Best table c) h = (λ yes. absurd yes, λ lt. absurd (omega (arith, h.0, lt)))
spent f budget NoneLeft h = (λ yes. absurd yes, λ lt. absurd (omega (arith, h.0, lt)))
spent f budget (Spent table) h = (λ yes. h.0, λ lt. tt)

-- the same of the answer itself
pub answered : {E : Type 0} (f : Problem) (budget : ℕ) (whole : Bool) (best : List ℕ) (most : Option ℕ) (r : Result Walked E) → Looked f budget whole (kept best most) → IfOk r (λ w. w ≡ answer whole best most) → IfOk r (WalkedTo f budget)
answered f budget whole best most (Ok w) h e = subst (WalkedTo f budget) (sym e) (walked f budget whole best most h)
answered f budget whole best most (Err e) h k = tt

pub all_ok : {E : Type 0} (P Q : Walked → Type 0) (r : Result Walked E) → ((w : Walked) → P w → Q w) → IfOk r P → IfOk r Q
all_ok P Q (Ok w) h k = h w k
all_ok P Q (Err e) h k = tt
