use Rattle.std.proofs.Common.{◌≡◌, sym, subst}
use Rattle.hw_read.specs.declared.table.Names.TheVariants.{Port}
use Rattle.hw_read.specs.Names.{names_of}
use Rattle.hw_read.proofs.names.port_lexicon.Goals as goal

pub returns-in-First : goal.returns-in-First
returns-in-First c = subst (λ v. c.port_before.result ≡ names_of v Port) (sym c.in-First.is) c.port_before.ensures

pub returns-in-Second : goal.returns-in-Second
returns-in-Second c = subst (λ v. c.port_before-in-Second.result ≡ names_of v Port) (sym c.in-Second.is) c.port_before-in-Second.ensures

pub returns-in-Third : goal.returns-in-Third
returns-in-Third c = subst (λ v. c.port_third.result ≡ names_of v Port) (sym c.in-Third.is) c.port_third.ensures
