use Rattle.hw_cert_closes.proofs.Narrowings.{concluded, room_clause}
use Rattle.hw_cert_closes.proofs.closing.concluded.Goals as goal

pub returns : goal.returns
returns c = rw c.in_ok-push.ensures.items (concluded c.args.flat.now c.args.narrowing.lines.items c.in_ok-clause.clause c.args.narrowing.hints.items c.requires.under_way.fit c.requires.under_way.no_lemma (room_clause c.args.flat.now c.args.part.now c.in_ok-clause.clause c.requires.part c.in_ok-clause.ensures.normal))
