use Rattle.std.proofs.Common.{◌≡◌, ◌≤◌, not, take, filter, length}
use Rattle.std.specs.List.{range_with_len}
use Rattle.hw_audit.specs.Keeping.{kept_holds}
use Rattle.hw_audit.proofs.listing.list_broken.Given as goal

abbrev pub invariant-loop-n : goal.invariant-loop-n
invariant-loop-n l = record {
  few : l.many ≤ l.n;
  room : length l.out.items ≡ length l.initial.out.items;
  told : take l.many l.out.items ≡ filter (λ n. not (kept_holds l.flat l.table l.holds n)) (range_with_len 0 l.n);
}
