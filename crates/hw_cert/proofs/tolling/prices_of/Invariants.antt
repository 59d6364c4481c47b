use Rattle.std.proofs.Common.{◌≡◌, length}
use Rattle.hw_cert.specs.Spelled.{all_of, price_word}
use Rattle.hw_cert.proofs.Loops.{with_front}
use Rattle.hw_cert.proofs.tolling.prices_of.Given as goal

abbrev pub invariant-loop-word : goal.invariant-loop-word
invariant-loop-word l = with_front l.prices.items (all_of price_word l.words) ≡ all_of price_word l.fn.words

abbrev pub decreases-loop-word : goal.decreases-loop-word
decreases-loop-word l = length l.words
