-- A split that is read, and a part of it.
use Rattle.std.specs.Prelude.{◌≡◌, ◌⊎◌, ℕ, ◌+◌, ◌≤◌, List, Option, None, Ok, Err, IfSome, codes, length}
use Rattle.hw_model.specs.Problem.{Problem, shape_of}
use Rattle.hw_desk.specs.State.{DeskState}
use Rattle.hw_desk.specs.declared.desk.Feed.TheVariants.{Split}
use Rattle.hw_desk.specs.declared.whole.ReadStop.{ReadStop}
use Rattle.hw_report.specs.Reports.{Report, bad_text, no_memory}
use Rattle.hw_command.specs.Inputs.{Enters, StopsFor, report_of_stop}
use Rattle.hw_command.specs.Values.{most_bytes}
use Rattle.hw_plan_texts.specs.declared.fault.LineFault.{LineFault}
use Rattle.hw_plan_texts.specs.declared.fault.LineFault.TheVariants as faults
use Rattle.hw_split_text.specs.declared.fault.SplitWord.{SplitWord}
use Rattle.hw_split_text.specs.declared.node.Node.{Node}
use Rattle.hw_split_text.specs.Splits.{IsSplit, part_at}
use Rattle.hw_split_text.specs.Text.{split_text}
use Rattle.hw_split_text.specs.Words.{split_word_text}

-- the bytes keep the limit and are the text of these nodes
abbrev pub IsSplitText : Problem → List Node → List ℕ → Type 0
IsSplitText f nodes bytes = (length bytes ≤ most_bytes) × (split_text (shape_of f) bytes ≡ Ok nodes)

-- a split of the problem: that of the text where it is told
pub record IsSplitOf (text : Option (List ℕ)) (f : Problem) (nodes : List Node) : Type 0 where
  pub is : IsSplit (shape_of f) nodes
  pub reads : IfSome text (IsSplitText f nodes)

-- the bytes keep the limit, and this is their first bad line
abbrev pub IsBadSplitAt : Problem → ℕ → SplitWord → List ℕ → Type 0
IsBadSplitAt f number word bytes = (length bytes ≤ most_bytes) × (split_text (shape_of f) bytes ≡ Err (record { number = number; word = word }))

-- the text has a bad line, which has this number and this word, where the text is told
pub record IsBadSplit (text : Option (List ℕ)) (f : Problem) (number : ℕ) (word : List ℕ) : Type 0 where
  pub kind : SplitWord
  pub named : word ≡ split_word_text kind
  pub reads : IfSome text (IsBadSplitAt f number kind)

-- the split has no part of this number: its last line stands where that part would
pub record LacksPart (text : Option (List ℕ)) (f : Problem) (part number : ℕ) (word : List ℕ) : Type 0 where
  pub nodes : List Node
  pub is : IsSplitOf text f nodes
  pub lacks : part_at nodes part ≡ None
  pub last : number ≡ length nodes + 2
  pub named : word ≡ codes "node"

-- the report of bytes that are no split
abbrev pub report_of_split : LineFault SplitWord → Report
report_of_split (faults.Line number word) = bad_text Split number (split_word_text word)
report_of_split faults.NoMemory = no_memory

-- ---- the call

-- the split was begun under its name and no read failed
pub record ReadsSplit (f : Problem) (name : List ℕ) (old new : DeskState) (split : List Node) : Type 0 where
  pub enters : Enters Split name old new
  pub read_faults : new.read_faults ≡ old.read_faults
  pub is : IsSplitOf (old.held name) f split

-- it isn't read to its end, for this cause
pub record SplitStops (text : Option (List ℕ)) (old new : DeskState) (r : Report) : Type 0 where
  pub stop : ReadStop
  pub report : r ≡ report_of_stop Split stop
  pub cause : StopsFor text old new stop

-- it is read, and has a bad line
pub record SplitIsBad (f : Problem) (text : Option (List ℕ)) (old new : DeskState) (r : Report) : Type 0 where
  pub number : ℕ
  pub word : List ℕ
  pub report : r ≡ bad_text Split number word
  pub bad : IsBadSplit text f number word
  pub read_faults : new.read_faults ≡ old.read_faults

-- the split was begun under its name, and there is none
pub record StopsAtSplit (f : Problem) (name : List ℕ) (old new : DeskState) (r : Report) : Type 0 where
  pub enters : Enters Split name old new
  pub stop : SplitStops (old.held name) old new r ⊎ SplitIsBad f (old.held name) old new r
