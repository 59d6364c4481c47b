use Rattle.std.proofs.Common.{◌==◌, ◌∙◌}
use Rattle.hw_text.proofs.Splits.{never_none}
use Rattle.hw_text.proofs.words.Words.end.Goals as goal

pub returns-in-Some : goal.returns-in-Some
returns-in-Some c = λ none. never_none (λ b. b == c.self.inside.between) c.in-Some.field-0.now (rw c.in-Some.is at (c.self.view_is ∙ none))
