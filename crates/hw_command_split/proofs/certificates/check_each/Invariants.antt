use Rattle.std.proofs.Common.{◌≡◌, ◌≤◌, ◌-◌, length, take, drop}
use Rattle.hw_command_split.specs.Certs.{FirstCerts, lines_in}
use Rattle.hw_command_split.proofs.certificates.check_each.Given as goal

abbrev pub invariant-each : goal.invariant-each
invariant-each l = record {
  certs : FirstCerts l.flat l.certs.items l.bytes (drop l.begin l.bytes);
  counted : l.before ≡ lines_in (take l.begin l.bytes);
  inside : l.begin ≤ length l.bytes;
}

abbrev pub decreases-each : goal.decreases-each
decreases-each l = length l.bytes - l.begin
