use Rattle.hw_check.proofs.Storing.{IsGathering}
use Rattle.hw_check.proofs.stored.gathered.Given as goal

abbrev pub invariant-loop-place : goal.invariant-loop-place
invariant-loop-place l = IsGathering l.lits l.places l.stored.lits.items l.stored.places.items l.place-index
