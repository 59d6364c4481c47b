use Rattle.std.proofs.lemmas.List.Splits.{join_with_byte-slice_split}
use Rattle.hw_text.proofs.Joins.{cut_joined, parts_lack}
use Rattle.hw_text.proofs.laws.parts_joined.Goals as goal

pub returns : goal.returns
returns c = λ at. record { joined = join_with_byte-slice_split at; lacking = parts_lack at; cut = cut_joined at }
