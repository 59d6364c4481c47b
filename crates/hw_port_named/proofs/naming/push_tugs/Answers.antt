use Rattle.std.proofs.Common.{◌∙◌, sym}
use Rattle.hw_port_named.proofs.Steps.{no_tugs}
use Rattle.hw_port_named.proofs.naming.push_tugs.Goals as goal

pub returns-else-some_have_tugs : goal.returns-else-some_have_tugs
returns-else-some_have_tugs c = no_tugs c.args.parts.now c.args.list.now.items (rw (← c.parts.view_is, sym c.deref.ensures.value) (sym c.some_have_tugs.ensures ∙ c.if-some_have_tugs.false))
