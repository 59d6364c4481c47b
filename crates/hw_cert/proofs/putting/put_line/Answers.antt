use Rattle.hw_desk.proofs.Written.{puts_same}
use Rattle.hw_cert.proofs.Wordings.{line_worded}
use Rattle.hw_cert.proofs.putting.put_line.Goals as goal

pub returns-clause-puts : goal.returns-clause-puts
returns-clause-puts g c = puts_same _ (line_worded c.args.line.now) c.put_words.ensures.puts
