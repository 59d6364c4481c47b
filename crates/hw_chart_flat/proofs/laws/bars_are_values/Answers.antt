use Rattle.std.proofs.Common.{◌↔◌, ◌<◌, ◌≤◌, ◌-◌, ◌/◌, ℕ, Option, Some, None, IsSome, refl, arith}
use Rattle.std.proofs.Math.Nat.{div-mul-le_self}
use Rattle.std.proofs.lemmas.Nat.{le-div}
use Rattle.hw_model.specs.Problem.{value_at}
use Rattle.hw_chart_flat.specs.Values.{tall_of, unit_of, value_level}
use Rattle.hw_chart_flat.proofs.laws.bars_are_values.Goals as goal

bar_where : (top : ℕ) (value : Option ℕ) → (value_level top value < tall_of top) ↔ IsSome value
bar_where top None = (λ lt. absurd (omega (arith, lt)), λ e. absurd cc)
bar_where top (Some value) =
    let whole = div-mul-le_self (top - value) (unit_of top) in
    let part : (top - value) / unit_of top ≤ top / unit_of top = le-div ((top - value) / unit_of top) top (unit_of top) (omega arith) (omega (arith, whole)) in
    (λ lt. refl, λ e. omega (arith, part))

pub returns : goal.returns
returns c = λ f ship slot top. bar_where top (value_at f ship slot)
