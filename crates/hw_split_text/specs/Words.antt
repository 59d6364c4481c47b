-- The words of a split's faults as they are printed.
use Rattle.std.specs.Prelude.{ℕ, List, codes}
use Rattle.hw_split_text.specs.declared.fault.SplitWord.{SplitWord}
use Rattle.hw_split_text.specs.declared.fault.SplitWord.TheVariants.{Header, Node, Tail}

abbrev pub split_word_text : SplitWord → List ℕ
split_word_text Header = codes "header"
split_word_text Node = codes "node"
split_word_text Tail = codes "tail"
