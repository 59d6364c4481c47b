-- Why a lemma isn't valid, by its hints among the live clauses.
use Rattle.std.specs.Prelude.{ℕ, List, Option}
use Rattle.hw_model.specs.declared.lit.Lit.{Lit}
use Rattle.hw_model.specs.Problem.{Problem}
use Rattle.hw_model.specs.Replay.{replay}
use Rattle.hw_cert_lines.specs.declared.check.Refusal.{Refusal}
use Rattle.hw_cert_lines.specs.Kept.{NumberedClause}
use Rattle.hw_cert_lines.specs.Refusals.{lemma_refusal, first_dead, named}
use Rattle.hw_cert_lines.specs.Valid.{denied_room}

-- the first hint that isn't live, or how the replay of the hints' clauses in the lemma's denied room ends
abbrev pub refusal_of_lemma : Problem → List NumberedClause → List Lit → List ℕ → Option Refusal
refusal_of_lemma f held clause hints = lemma_refusal (first_dead held hints) hints (replay (denied_room f clause) (named held hints))
