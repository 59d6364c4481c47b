use Rattle.std.proofs.Common.{◌≡◌, ◌↔◌, ℕ, Bool, true, false, if◌then◌else◌, refl}
use Rattle.hw_chart_flat.specs.Moves.{move_is_open}
use Rattle.hw_chart_flat.proofs.Tested.{open_permits}
use Rattle.hw_chart_flat.proofs.laws.moves_are_permitted.Goals as goal

top_where : (b : Bool) (P : Type 0) → (b ≡ true) ↔ P → (◌≡◌ {A = ℕ} (if b then 0 else 1) 0) ↔ P
top_where true P means = (λ e. means.0 refl, λ p. refl)
top_where false P means = (λ e. absurd cc, λ p. absurd (let e = means.1 p in cc))

pub returns : goal.returns
returns c = λ f table ship slot listed lt. top_where (move_is_open f table ship slot) _ (open_permits f table ship slot listed lt)
