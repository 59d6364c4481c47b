-- The reason against a slot, by what is closed and by the allowed draft.
use Rattle.std.proofs.Common.{◌≡◌, ◌&&◌, ℤ, Bool, true, false, not, Option, Some, None, is_some, refl}
use Rattle.hw_port_windows.specs.Statuses.{is_closed_status, is_shallow, reason_by, tides_end}

pub shut : (closed : Bool) (draft : Option ℤ) → closed ≡ is_closed_status (reason_by closed draft)
shut true draft = refl
shut false None = refl
shut false (Some d) = refl

pub ends : (closed : Bool) (draft : Option ℤ) → not closed && not (is_some draft) ≡ tides_end (reason_by closed draft)
ends true draft = refl
ends false None = refl
ends false (Some d) = refl

pub shallow : (closed : Bool) (draft : Option ℤ) → not closed && is_some draft ≡ is_shallow (reason_by closed draft)
shallow true draft = refl
shallow false None = refl
shallow false (Some d) = refl
