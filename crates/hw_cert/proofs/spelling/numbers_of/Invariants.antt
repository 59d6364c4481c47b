use Rattle.std.proofs.Common.{◌≡◌, length}
use Rattle.hw_cert.specs.Spelled.{all_numbers}
use Rattle.hw_cert.proofs.Loops.{with_front}
use Rattle.hw_cert.proofs.spelling.numbers_of.Given as goal

abbrev pub invariant-loop-word : goal.invariant-loop-word
invariant-loop-word l = with_front l.numbers.items (all_numbers l.words) ≡ all_numbers l.fn.words

abbrev pub decreases-loop-word : goal.decreases-loop-word
decreases-loop-word l = length l.words
