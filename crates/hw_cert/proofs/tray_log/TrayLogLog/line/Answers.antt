use Rattle.hw_cert.proofs.Telling.{logged, log_failed, still_told, made_still}
use Rattle.hw_cert.proofs.tray_log.TrayLogLog.line.Goals as goal

pub invariant_of-self : goal.invariant_of-self
invariant_of-self g c = record {
  made = made_still c.send_line.result c.send_line.ensures.sends c.args.self.now.made;
  told = still_told c.args.self.now.version c.args.line.now c.send_line.result c.send_line.ensures.small c.send_line.ensures.wide c.requires.whole c.send_line.ensures.sends c.args.self.now.told;
}

pub returns-in-Ok-clause-takes : goal.returns-in-Ok-clause-takes
returns-in-Ok-clause-takes g c = logged c.args.self.now.version c.args.line.now c.send_line.ensures.small c.send_line.ensures.wide c.args.self.now.told c.requires.whole (rw c.in-Ok.is at c.send_line.ensures.sends)

pub returns-in-Err-clause-takes : goal.returns-in-Err-clause-takes
returns-in-Err-clause-takes g c = log_failed c.args.self.now.version c.args.line.now c.send_line.ensures.small c.send_line.ensures.wide c.args.self.now.told c.requires.whole (rw c.in-Err.is at c.send_line.ensures.sends)
