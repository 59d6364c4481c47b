use Rattle.hw_cert.proofs.Pendings.{scanned_part}
use Rattle.hw_cert.proofs.pending.Pending.scan.Goals as goal

pub returns-in-Some : goal.returns-in-Some
returns-in-Some c =
    scanned_part c.args.self.now c.self.inside.block.items c.deref.result.now c.args.line.now.items c.scan_bytes.new.line.items c.self.inside.at c.in-Some.used c.self.inside.end c.self.view_is c.deref.ensures.value c.self.invariant.0
    (rw c.in-Some.is at c.in_ok-used.ensures.used) (rw c.in-Some.is at c.in_ok-used.ensures.scans)
