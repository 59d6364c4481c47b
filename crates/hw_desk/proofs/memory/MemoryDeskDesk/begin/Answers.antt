use Rattle.std.proofs.Common.{rules, inl, inr, subst, sym, ◌≡◌, false}
use Rattle.hw_desk.proofs.Begun.{begins, told_count, bounded_small}
use Rattle.hw_desk.specs.State.{bounded_count}
use Rattle.hw_desk.specs.Feeds.{told_feed}
use Rattle.hw_desk.specs.Places.{place}
use Rattle.hw_desk.specs.Memory.{MemoryModel}
use Rattle.hw_desk.specs.declared.desk.Feed.{Feed}
use Rattle.hw_desk.proofs.memory.MemoryDeskDesk.begin.Goals as goal
use Rattle.hw_desk.proofs.memory.MemoryDeskDesk.begin.Goals.{then-listed, else-listed}

abbrev fresh : Feed → MemoryModel → Type 0
fresh feed m = (told_feed (place m.feeds feed)).begun ≡ false

pub returns-clause-begins : goal.returns-clause-begins
returns-clause-begins c = rw (← c.self.view_is) (begins c.self.inside.files.items c.self.inside.feeds c.args.feed c.args.name.now c.if-listed.file c.open_or_fail.new.slot _ (bounded_count c.self.inside.write_faults) (bounded_count c.self.inside.read_faults) (bounded_count c.open_or_fail.new.faults) c.open_or_fail.result (bounded_small c.self.inside.read_faults) (told_count c.open_or_fail.result c.self.inside.read_faults c.open_or_fail.new.faults c.open_or_fail.ensures.faults) c.open_or_fail.ensures.slot c.open_or_fail.ensures.exactly (elim c.if-listed.branch [ then-listed w ↦ inl w.file-is | else-listed w ↦ inr (search rules) ]) (subst (fresh c.args.feed) (sym c.self.view_is) c.requires.fresh))
