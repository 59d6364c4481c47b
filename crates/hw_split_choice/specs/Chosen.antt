-- A split that is chosen, with its text.
use Rattle.std.specs.Prelude.{◌≡◌, ◌≤◌, ℕ, Ok, count_by}
use Rattle.hw_model.specs.Problem.{Problem, shape_of}
use Rattle.hw_split_text.specs.Splits.{IsSplit, is_part}
use Rattle.hw_split_text.specs.Text.{split_text}
use Rattle.hw_split_choice.specs.declared.chosen.ChosenSplit.{ChosenSplit}

-- the text is that of a split of the problem, which has at most this many parts
pub record IsChosen (f : Problem) (parts : ℕ) (c : ChosenSplit) : Type 0 where
  pub text : split_text (shape_of f) c.text.items ≡ Ok c.split
  pub is : IsSplit (shape_of f) c.split
  pub few : count_by is_part c.split ≤ parts
