use Rattle.std.proofs.Common.{◌≡◌, length}
use Rattle.hw_model.specs.Problem.{IsTimetable}
use Rattle.hw_model.specs.Walk.{rank}
use Rattle.hw_rules.specs.Listing.{kept, BestSoFar}
use Rattle.hw_rules.proofs.walking.walk_from.Given as goal

abbrev pub invariant-loop : goal.invariant-loop
invariant-loop l = record {
  listed : IsTimetable l.flat l.current;
  here : rank l.flat.slots l.current ≡ l.counter;
  size : length l.best ≡ length l.current;
  best : BestSoFar l.flat l.counter (kept l.best l.most);
}
