-- How many clauses are live.
use Rattle.std.specs.Prelude.{ℕ, ◌+◌, ◌≤◌, List, [], ◌∷◌, ◌++◌, length, take, ⊤}
use Rattle.hw_model.specs.Problem.{Problem}
use Rattle.hw_cert_lines.specs.declared.line.Line.{Line}
use Rattle.hw_cert_lines.specs.Lines.{live_numbers}
use Rattle.hw_cert_lines.specs.Lemmas.{lemmas_of}
use Rattle.hw_trail_laws.specs.Trails.{most_events}

-- few clauses are live: the lemmas, the reasons on a trail, and one conflict
abbrev pub FewLive : Problem → List Line → Type 0
FewLive f all = length (live_numbers all) ≤ length (lemmas_of all) + most_events f.ships f.slots + 1

-- after each line
abbrev pub FewLiveThroughout : Problem → List Line → Type 0
FewLiveThroughout f all = (n : ℕ) → n ≤ length all → FewLive f (take n all)

-- after each of these lines, which follow the ones before
abbrev pub FewLiveFrom : Problem → List Line → List Line → Type 0
FewLiveFrom f before [] = ⊤
FewLiveFrom f before (line ∷ more) = FewLive f (before ++ line ∷ []) × FewLiveFrom f (before ++ line ∷ []) more
