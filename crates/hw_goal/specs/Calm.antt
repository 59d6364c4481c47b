-- Where the goal is quiet at one ship, and where not.
use Rattle.std.specs.Prelude.{◌≡◌, ℕ, ◌+◌, ◌<◌, ◌≤◌}
use Rattle.hw_model.specs.Problem.{Problem}
use Rattle.hw_prop.specs.declared.reduction.Reduction.{Reduction}
use Rattle.hw_prop.specs.declared.reduction.Reduction.TheVariants.{Here, Lowest, Highest, First, NotFirst}
use Rattle.hw_goal.specs.declared.tops.Top.{Top}
use Rattle.hw_flat.specs.Carried.{worth}

-- the sum stays above the best with the ship at either end of its range
pub record CalmAt (f : Problem) (best sum ship : ℕ) (top : Top) : Type 0 where
  pub lowest : best + top.peak.value < sum + worth f ship top.low
  pub highest : best + top.peak.value < sum + worth f ship top.high

-- with the ship at this end the sum doesn't
abbrev pub CutAt : Problem → ℕ → ℕ → ℕ → Top → Reduction → Type 0
CutAt f best sum ship top Here = ⊥
CutAt f best sum ship top (Lowest v) = (v ≡ ship) × (sum + worth f ship top.low ≤ best + top.peak.value)
CutAt f best sum ship top (Highest v) = (v ≡ ship) × (sum + worth f ship top.high ≤ best + top.peak.value)
CutAt f best sum ship top (First v w) = ⊥
CutAt f best sum ship top (NotFirst v w) = ⊥
