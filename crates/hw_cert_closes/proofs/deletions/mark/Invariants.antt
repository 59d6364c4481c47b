use Rattle.std.proofs.Common.{◌≡◌, ℕ, ◌+◌, ◌-◌, vec_len}
use Rattle.hw_cert_laws.specs.Renewing.{is_marked}
use Rattle.hw_cert_closes.proofs.deletions.mark.Given as goal

abbrev pub invariant-growing : goal.invariant-growing
invariant-growing l = (n : ℕ) → is_marked l.marks.items n ≡ is_marked l.fn.marks.items n

abbrev pub decreases-growing : goal.decreases-growing
decreases-growing l = l.place + 1 - vec_len l.marks
