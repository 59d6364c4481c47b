use Rattle.std.proofs.Common.{◌≡◌, ◌∙◌, length, rules}
use Rattle.hw_check.proofs.Following.{followed_held}
use Rattle.hw_check.proofs.checker.Checker.held.Goals as goal

pub returns-clause-followed : goal.returns-clause-followed
returns-clause-followed c =
    let is : c.held.result ≡ length c.args.self.now.kept.live = search rules in
    λ all follows. is ∙ followed_held c.args.self.now all follows
