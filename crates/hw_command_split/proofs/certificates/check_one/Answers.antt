use Rattle.hw_desk.specs.declared.desk.Feed.TheVariants.{Certificate}
use Rattle.hw_command_split.proofs.certificates.check_one.Goals as goal

pub read_cert-requires-clause-unread : goal.read_cert-requires-clause-unread
read_cert-requires-clause-unread c = c.in-Ok.ensures.fresh.feeds Certificate
