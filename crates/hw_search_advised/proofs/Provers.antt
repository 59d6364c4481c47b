-- What a solution with advice goes on with, and what its answers meet.
use Rattle.std.proofs.Common.{◌≡◌, ◌⊎◌, ℕ, ◌≤◌, sym, ap, ◌∙◌, subst, inl, inr, arith}
use Rattle.hw_model.specs.Problem.{Problem}
use Rattle.hw_cert.specs.Logs.{LogModel}
use Rattle.hw_search_laws.specs.declared.outcome.Bounded.{Bounded}
use Rattle.hw_search_laws.specs.declared.outcome.Bounded.TheVariants as bounds
use Rattle.hw_search_laws.specs.declared.outcome.Proved.{Proved}
use Rattle.hw_search_laws.specs.Searches.{SearchModel, IsSearch}
use Rattle.hw_search_laws.specs.Advised.{BoundMeets}
use Rattle.hw_search_laws.specs.Proving.{ProveMeets, Proving}
use Rattle.hw_search_laws.specs.Laws.{ProvingEnds}
use Rattle.hw_search_laws.proofs.Provings.{proving}
use Rattle.hw_search_advised.specs.Bounding.{BoundKeepsFaults}
use Rattle.hw_search.specs.Faults.{SolvedKeepsFaults}
use Rattle.hw_search.specs.Going.{turns_left}
use Rattle.hw_search_advised.proofs.Nearing.{lowered_left}

-- ---- it goes on after a bound

-- a call for a bound after which the solution goes on
pub record GoesOn (f : Problem) (budget : ℕ) (s u : SearchModel) (old here now : LogModel) : Type 0 where
  pub kept : IsSearch u
  pub going : Proving f budget u old now
  pub lemmas : u.lemmas ≡ s.lemmas
  pub left : turns_left budget u ≤ turns_left budget s
  pub faults : now.faults ≡ here.faults

lower_goes : (f : Problem) (budget : ℕ) (s u : SearchModel) (old here now : LogModel) → Proving f budget s old here → BoundMeets s here bounds.Lower u now → now.faults ≡ here.faults → GoesOn f budget s u old here now
lower_goes f budget s u old here now g h k = record {
  kept = h.line.kept;
  going = (proving f budget).0.lower s u old here now g h;
  lemmas = ap (λ (x : SearchModel). x.lemmas) h.after_is ∙ ap (λ (x : SearchModel). x.lemmas) h.heeds.same;
  left = lowered_left budget s u here now h;
  faults = k;
}

same_goes : (f : Problem) (budget : ℕ) (s u : SearchModel) (old here now : LogModel) → IsSearch s → Proving f budget s old here → BoundMeets s here bounds.Same u now → now.faults ≡ here.faults → GoesOn f budget s u old here now
same_goes f budget s u old here now is g h k = record {
  kept = subst IsSearch (sym h.0) is;
  going = (proving f budget).0.same s u old here now g h;
  lemmas = ap (λ (x : SearchModel). x.lemmas) h.0;
  left = let e : turns_left budget u ≡ turns_left budget s = ap (turns_left budget) h.0 in omega (arith, e);
  faults = k;
}

pub bound_goes : (f : Problem) (budget : ℕ) (b : Bounded) (s u : SearchModel) (old here now : LogModel) → (b ≡ bounds.Lower) ⊎ (b ≡ bounds.Same) → IsSearch s → Proving f budget s old here → BoundMeets s here b u now → BoundKeepsFaults b here now → GoesOn f budget s u old here now
bound_goes f budget b s u old here now (inl e) is g h k = lower_goes f budget s u old here now g (subst (λ x. BoundMeets s here x u now) e h) (subst (λ x. BoundKeepsFaults x here now) e k)
bound_goes f budget b s u old here now (inr e) is g h k = same_goes f budget s u old here now is g (subst (λ x. BoundMeets s here x u now) e h) (subst (λ x. BoundKeepsFaults x here now) e k)

-- ---- its answers

pub ends : (f : Problem) (budget : ℕ) (s : SearchModel) (old here : LogModel) → IsSearch s → Proving f budget s old here → ProvingEnds f budget s old here
ends f budget s old here is g = (proving f budget).1 s old here is g

pub proves_as : (f : Problem) (budget : ℕ) (old now : LogModel) (result answer : Proved) → result ≡ answer → ProveMeets f budget old answer.solved answer.bound now → ProveMeets f budget old result.solved result.bound now
proves_as f budget old now result answer e h = subst (λ (r : Proved). ProveMeets f budget old r.solved r.bound now) (sym e) h

pub keeps_as : (old now : LogModel) (result answer : Proved) → result ≡ answer → SolvedKeepsFaults answer.solved old now → SolvedKeepsFaults result.solved old now
keeps_as old now result answer e h = subst (λ (r : Proved). SolvedKeepsFaults r.solved old now) (sym e) h
