-- A rule holds alike by problems with the same slots and the same staying.
use Rattle.std.proofs.Common.{◌≡◌, ℕ, ◌+◌, ◌-◌, Bool, ◌||◌, ◌&&◌, nat_le, not, sum_by, pos, ◌-ℤ◌, cond, ap, ◌∙◌, get_or}
use Rattle.std.specs.List.{list_all, range_with_len}
use Rattle.hw_model.specs.declared.rule.Rule.TheVariants.{Pair, After, Tugs}
use Rattle.hw_model.specs.Problem.{Problem, horizon}
use Rattle.hw_model.specs.Rules.{misses, held_by, fleet_in}
use Rattle.hw_plan_texts.specs.Alike.{RulesAlike}

same_horizon : (f g : Problem) → g.slots ≡ f.slots → g.stay ≡ f.stay → horizon g ≡ horizon f
same_horizon f g slots stay = ap (λ (b : Bool). cond b (g.slots - 1) g.slots) stay ∙ ap (λ (n : ℕ). cond f.stay (n - 1) n) slots

pub rules_alike : RulesAlike
rules_alike f g table (Pair v w holes) slots stay =
    ap (λ (h : ℕ). nat_le h (get_or table v 0) || nat_le h (get_or table w 0) || list_all (misses (pos (get_or table w 0) -ℤ pos (get_or table v 0))) holes) (same_horizon f g slots stay)
rules_alike f g table (After v w gap) slots stay =
    ap (λ (h : ℕ). nat_le h (get_or table w 0) || (not (nat_le h (get_or table v 0)) && nat_le (get_or table v 0 + gap) (get_or table w 0))) (same_horizon f g slots stay)
rules_alike f g table (Tugs fleet later jobs) slots stay =
    ap (λ (h : ℕ). list_all (λ slot. nat_le (sum_by (held_by table slot) jobs) (fleet_in fleet later slot)) (range_with_len 0 h)) (same_horizon f g slots stay)
