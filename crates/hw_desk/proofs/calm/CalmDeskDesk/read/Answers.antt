use Rattle.std.proofs.Common.{rules, subst, sym, ◌≡◌, true}
use Rattle.hw_desk.proofs.Begun.{reads}
use Rattle.hw_desk.specs.Calm.{CalmModel}
use Rattle.hw_desk.specs.Feeds.{told_feed}
use Rattle.hw_desk.specs.Places.{place}
use Rattle.hw_desk.specs.declared.desk.Feed.{Feed}
use Rattle.hw_desk.proofs.calm.CalmDeskDesk.read.Goals as goal

abbrev begun : Feed → CalmModel → Type 0
begun feed m = (told_feed (place m.feeds feed)).begun ≡ true

pub returns-clause-reads : goal.returns-clause-reads
returns-clause-reads c = rw (← c.self.view_is) (reads c.self.inside.files.items c.self.inside.feeds c.args.feed c.take_some.new.into c.take_some.result c.take_some.new.slot _ _ 0 0 (search rules) (search rules) (search rules) (search rules) (subst (begun c.args.feed) (sym c.self.view_is) c.requires.begun))
