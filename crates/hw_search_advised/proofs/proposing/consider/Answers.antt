use Rattle.std.proofs.Common.{sym, subst}
use Rattle.hw_search_laws.specs.Proposing.{ProposeMeets}
use Rattle.hw_search_laws.specs.Searches.{IsSearch}
use Rattle.hw_search_advised.specs.Proposing.{ProposeKeepsFaults}
use Rattle.hw_search_advised.proofs.Proposals.{offered, offer_keeps}
use Rattle.hw_search_advised.proofs.proposing.consider.Goals as goal

pub returns-clause-meets : goal.returns-clause-meets
returns-clause-meets g c =
    let s = c.args.search.now in
    let old = g.L.Log.state c.args.log.now in
    let new = g.L.Log.state c.offer.new.log in
    let is : IsSearch s = c.lemmas-lemmas.ensures.search in
    subst (λ p. ProposeMeets s old p c.offer.new.self new) (sym c.proposed_by.ensures.value) (offered c.offer.result s c.offer.new.self c.args.table.now old new is (c.is_better.ensures.permitted c.if-not-is_better.false) (c.is_better.ensures.better c.if-not-is_better.false) c.requires.fits c.offer.ensures.offers c.offer.ensures.kept)

pub returns-clause-kept : goal.returns-clause-kept
returns-clause-kept g c = subst (λ p. ProposeKeepsFaults p (g.L.Log.state c.args.log.now) (g.L.Log.state c.offer.new.log)) (sym c.proposed_by.ensures.value) (offer_keeps c.offer.result (g.L.Log.state c.args.log.now) (g.L.Log.state c.offer.new.log) c.offer.ensures.kept)
