use Rattle.std.proofs.Common.{◌≡◌, take}
use Rattle.hw_cert_course.specs.Raising.{raised_numbers}
use Rattle.hw_cert_course.proofs.raising.raised_numbers.Given as goal

abbrev pub invariant-loop-id : goal.invariant-loop-id
invariant-loop-id l = l.items.items ≡ raised_numbers l.by (take l.id-index l.ids)
