-- The reasons that a row names are those that `windows` tells of the ship's slots.
use Rattle.std.proofs.Common.{◌≡◌, ◌≤◌, ◌<◌, ◌+◌, ◌-◌, ℕ, ℤ, pos, ◌≤ℤ◌, ◌<ℤ◌, Bool, true, Option, Some, None, is_none, unsigned_abs, refl, sym, subst, arith}
use Rattle.std.proofs.lemmas.Int.{ints}
use Rattle.hw_model_laws.proofs.Counting.{all_of_range, any_of_range, range_any}
use Rattle.hw_port.specs.Kept.{ShipKept}
use Rattle.hw_port.specs.Parts.{ShipParts}
use Rattle.hw_port_model.specs.Drafts.{allowed, sailing}
use Rattle.hw_port_model.specs.Numbers.{horizon_of, whole}
use Rattle.hw_port_windows.specs.declared.status.Status.{Status}
use Rattle.hw_port_windows.specs.Closings.{closed_in}
use Rattle.hw_port_windows.specs.Statuses.{reason_by, reason_in, status_by, status_in}
use Rattle.hw_chart_port.specs.declared.reasons.Reason.{Reason}
use Rattle.hw_chart_port.specs.Charts.{ChartParts}
use Rattle.hw_chart_port.specs.Reasons.{has_no_slot, is_reason, keeps_in}
use Rattle.hw_chart_laws.specs.Without.{KeepsFrom, ReasonsAreTold}

-- where the ship doesn't sail, its status is the reason
status_is : (draft : Option ℤ) (closed : Bool) (most : Option ℤ) → is_none draft ≡ true → status_by draft closed most ≡ reason_by closed most
status_is None closed most e = refl
status_is (Some d) closed most e = absurd cc

below : (a b : ℤ) → pos 0 ≤ℤ a → a <ℤ b → unsigned_abs a < unsigned_abs b
below a b low lt = grind (arith, ints, low, lt)

told_there : (chart : ChartParts) (v : ℕ) (s : ShipParts) (slot : ℕ) → ShipKept chart.port s → has_no_slot chart v ≡ true → slot ≤ whole s.latest → status_in chart.port chart.tide v slot ≡ reason_in chart.port chart.tide v slot
told_there chart v s slot kept none le =
    let last : whole s.latest < horizon_of chart.port = below s.latest chart.port.slots kept.latest.low kept.latest.below in
    let kept_in = all_of_range (λ k. is_none (sailing chart.port chart.tide v k)) 0 (horizon_of chart.port) none slot (omega arith) (omega (arith, le, last)) in
    status_is (sailing chart.port chart.tide v slot) (closed_in chart.port v slot) (allowed chart.port chart.tide v slot) kept_in

found : (chart : ChartParts) (v : ℕ) (s : ShipParts) (reason : Reason) → ShipKept chart.port s → has_no_slot chart v ≡ true → keeps_in chart v s reason ≡ true → (slot : ℕ) × KeepsFrom chart v s reason slot
found chart v s reason kept none e =
    let at = any_of_range (λ slot. is_reason reason (reason_in chart.port chart.tide v slot)) (whole s.earliest) (whole s.latest + 1 - whole s.earliest) e in
    let low = at.1 in
    let high = at.2 in
    let last : at.0 ≤ whole s.latest = omega (arith, low, high) in
    (at.0, record { from = low; to = last; told = subst (λ (status : Status). is_reason reason status ≡ true) (sym (told_there chart v s at.0 kept none last)) at.3 })

named : (chart : ChartParts) (v : ℕ) (s : ShipParts) (reason : Reason) → ShipKept chart.port s → has_no_slot chart v ≡ true → (slot : ℕ) → KeepsFrom chart v s reason slot → keeps_in chart v s reason ≡ true
named chart v s reason kept none slot k =
    let from = k.from in
    let to = k.to in
    range_any (λ slot. is_reason reason (reason_in chart.port chart.tide v slot)) (whole s.earliest) (whole s.latest + 1 - whole s.earliest) slot from (omega (arith, from, to)) (subst (λ (status : Status). is_reason reason status ≡ true) (told_there chart v s slot kept none to) k.told)

pub reasons_told : ReasonsAreTold
reasons_told chart v s reason kept none = (found chart v s reason kept none, λ at. named chart v s reason kept none at.0 at.1)
