use Rattle.std.proofs.Common.{sym, rules}
use Rattle.hw_cert.proofs.Pendings.{scanned_all, scanned_to}
use Rattle.hw_cert.proofs.pending.scan_bytes.Goals as goal

pub returns-in_ok-extend_from_slice-in-Some-clause-scans : goal.returns-in_ok-extend_from_slice-in-Some-clause-scans
returns-in_ok-extend_from_slice-in-Some-clause-scans c = scanned_to c.args.bytes.now c.args.line.now.items c.extend_from_slice.new.self.items c.in-Some.place (sym c.in-Some.ensures) (search rules)

pub returns-in_ok-extend_from_slice-in-None-clause-scans : goal.returns-in_ok-extend_from_slice-in-None-clause-scans
returns-in_ok-extend_from_slice-in-None-clause-scans c = scanned_all c.args.bytes.now c.args.line.now.items c.extend_from_slice-in-None.new.self.items (sym c.in-None.ensures) (search rules)
