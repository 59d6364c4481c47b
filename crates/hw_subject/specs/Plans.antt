-- What the bytes of a plan give of a problem, or why they give nothing.
use Rattle.std.specs.Prelude.{◌≡◌, ◌≤◌, ℕ, List, Option, Result, Ok, Err, IfSome, length}
use Rattle.hw_model.specs.Problem.{Problem}
use Rattle.hw_command.specs.Values.{most_bytes}
use Rattle.hw_plan_texts.specs.Reading.{MalformedLine}
use Rattle.hw_repair.specs.Text.{plan_text}
use Rattle.hw_repair.specs.Wishes.{PlanParts, PlanFits}
use Rattle.hw_repair.specs.Words.{plan_word_text}
use Rattle.hw_repair.specs.declared.fault.PlanWord.{PlanWord}

-- the bytes keep the limit, and as a plan of the problem they are read as this
abbrev pub IsPlanText : Problem → Result PlanParts (MalformedLine PlanWord) → List ℕ → Type 0
IsPlanText f what bytes = (length bytes ≤ most_bytes) × (plan_text f bytes ≡ what)

-- a plan that fits the problem, that of the bytes where they are told
pub record IsPlanOf (plan : Option (List ℕ)) (f : Problem) (parts : PlanParts) : Type 0 where
  pub fits : PlanFits f parts
  pub reads : IfSome plan (IsPlanText f (Ok parts))

-- the first wrong line of the bytes, where they are told, as a plan of the problem, and the word of what was demanded there
pub record IsWrongLine (plan : Option (List ℕ)) (f : Problem) (number : ℕ) (word : List ℕ) : Type 0 where
  pub kind : PlanWord
  pub named : word ≡ plan_word_text kind
  pub reads : IfSome plan (IsPlanText f (Err (record { number = number; word = kind })))
