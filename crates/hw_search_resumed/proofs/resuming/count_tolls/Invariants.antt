use Rattle.std.proofs.Common.{◌≡◌, ◌-◌, ◌^◌, length, min, take}
use Rattle.hw_cert_lines.specs.Tolled.{tolls_of}
use Rattle.hw_search_resumed.proofs.resuming.count_tolls.Given as goal

abbrev pub invariant-loop-line : goal.invariant-loop-line
invariant-loop-line l = l.count ≡ min (length (tolls_of (take l.line-index l.lines))) (2 ^ 32 - 1)
