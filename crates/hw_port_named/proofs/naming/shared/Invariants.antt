use Rattle.std.proofs.Common.{◌≡◌, ◌++◌, drop}
use Rattle.hw_port_named.specs.Restrictions.{shared_sections}
use Rattle.hw_port_named.proofs.naming.shared.Given as goal

abbrev pub invariant-loop-stretch : goal.invariant-loop-stretch
invariant-loop-stretch l = l.places.items ++ shared_sections (drop l.stretch-index l.channel) l.others ≡ shared_sections l.channel l.others
