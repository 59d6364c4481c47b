use Rattle.std.proofs.Common.{◌==◌, arith}
use Rattle.std.proofs.lemmas.List.Splits.{length-slice_split}
use Rattle.std.proofs.lemmas.List.Sums.{count_by-le-length}
use Rattle.hw_text.proofs.words.Words.parted_by.Goals as goal

pub returns-clause-few : goal.returns-clause-few
returns-clause-few c = omega (arith, length-slice_split (λ b. b == c.args.between) c.args.text.now, count_by-le-length (λ b. b == c.args.between) c.args.text.now)
