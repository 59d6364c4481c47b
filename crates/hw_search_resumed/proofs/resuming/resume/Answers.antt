use Rattle.std.proofs.Common.{refl}
use Rattle.hw_search_resumed.proofs.Answered.{nothing_open, went_on}
use Rattle.hw_cert_course.proofs.Handed.{fit_as}
use Rattle.hw_search_resumed.proofs.resuming.resume.Goals as goal

pub returns-then-not-is_open : goal.returns-then-not-is_open
returns-then-not-is_open g c = nothing_open c.requires.stands c.in_ok-told.ensures

pub hand_all-requires-clause-fit : goal.hand_all-requires-clause-fit
hand_all-requires-clause-fit g c = fit_as c.args.start.flat.now c.args.start.flat.now c.search-is_spent.result.1.items c.deref-3.result.now refl c.deref-3.ensures.value c.search-is_spent.ensures.fit

pub returns : goal.returns
returns g c = went_on c.requires.stands c.search-is_spent.ensures (rw c.deref-3.ensures.value at c.in_ok-course.ensures) c.in_ok-told-2.ensures
