use Rattle.std.proofs.Common.{◌≡◌, ◌+◌, drop}
use Rattle.hw_text.specs.Parts.{parts_of}
use Rattle.hw_clash.specs.Text.{drops_at}
use Rattle.hw_clash.proofs.Lines.{with_read}
use Rattle.hw_clash.proofs.reading.drops_of.Given as goal

abbrev pub invariant-loop-place : goal.invariant-loop-place
invariant-loop-place l = with_read l.drops.items (drops_at l.wished l.kept (3 + l.place) (drop l.place l.kept) (parts_of 10 l.rest)) ≡ drops_at l.wished l.kept 3 l.kept (parts_of 10 l.bytes)
