use Rattle.hw_audit.proofs.Meeting.{keeps_the_day}
use Rattle.hw_audit.proofs.carried.keeps_the_day.Goals as goal

pub returns : goal.returns
returns c = keeps_the_day
