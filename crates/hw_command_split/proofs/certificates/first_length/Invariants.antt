use Rattle.std.proofs.Common.{◌≡◌, ◌≤◌, ◌<◌, ℕ, false}
use Rattle.hw_command_split.specs.Certs.{is_cut}
use Rattle.hw_command_split.proofs.certificates.first_length.Given as goal

abbrev pub invariant-loop-place : goal.invariant-loop-place
invariant-loop-place l = (m : ℕ) → 0 < m → m ≤ l.place → is_cut l.bytes m ≡ false
