use Rattle.hw_rules.proofs.Walks.{better, no_better}
use Rattle.hw_rules.proofs.walking.look.Goals as goal

pub returns-in-Some : goal.returns-in-Some
returns-in-Some c =
    let b = c.in-Some.ensures.better in
    λ h. rw c.copy_from_slice.ensures.after (better c.args.flat.now c.args.current.now c.args.best.now c.args.most.now c.in-Some.cargo b.0 b.1 b.2 h)

pub returns-in_default : goal.returns-in_default
returns-in_default c = no_better c.args.flat.now c.args.current.now c.args.best.now c.args.most.now c.requires.listed c.in_default.ensures.no_better
