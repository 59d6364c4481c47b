use Rattle.std.proofs.Common.{◌≡◌, length}
use Rattle.hw_cert.specs.Spelled.{lits_of}
use Rattle.hw_cert.proofs.Loops.{with_lits}
use Rattle.hw_cert.proofs.spelling.lits_from.Given as goal

abbrev pub invariant-loop-word : goal.invariant-loop-word
invariant-loop-word l = with_lits l.lits.items (lits_of l.words) ≡ lits_of l.fn.words

abbrev pub decreases-loop-word : goal.decreases-loop-word
decreases-loop-word l = length l.words
