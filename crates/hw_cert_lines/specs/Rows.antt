-- A small certificate and lines near it, with what was worked out for them by hand: which are refused, and why.
use Rattle.std.specs.Prelude.{◌≡◌, List, [], ◌∷◌, None}
use Rattle.hw_model.specs.declared.lit.Lit.TheVariants.{AtOrAfter, Before}
use Rattle.hw_cert_lines.specs.declared.check.CheckWord.TheVariants as words
use Rattle.hw_cert_lines.specs.declared.line.Line.{Line}
use Rattle.hw_cert_lines.specs.declared.line.Line.TheVariants as lines
use Rattle.hw_cert_lines.specs.Refusals.{refusal, refused, refused_at}
use Rattle.hw_model_laws.specs.Rows.{two_apart}

-- the table of slots 2 and 0
abbrev pub best_table : Line
best_table = lines.Table (2 ∷ 0 ∷ [])

-- the goal line: ship 1 sails in slot 1 or later
abbrev pub second_late : Line
second_late = lines.Goal (AtOrAfter 1 1 ∷ [])

-- the goal line: ship 0 sails in slot 1 or later
abbrev pub first_late : Line
first_late = lines.Goal (AtOrAfter 0 1 ∷ [])

-- the explanation by the rule: one of the ships sails in slot 0
abbrev pub apart_explained : Line
apart_explained = lines.Explain 2 (Before 0 1 ∷ Before 1 1 ∷ [])

-- the lemma without literals, by all three clauses
abbrev pub last_line : Line
last_line = lines.Lemma [] (1 ∷ 2 ∷ 3 ∷ [])

-- all lines but the last
abbrev pub open_lines : List Line
open_lines = best_table ∷ second_late ∷ first_late ∷ apart_explained ∷ []

-- the whole certificate, after which both timetables of 40 are best ones
abbrev pub whole_lines : List Line
whole_lines = best_table ∷ second_late ∷ first_late ∷ apart_explained ∷ last_line ∷ []

-- which lines are refused after these, and why
pub record RefusalRows : Type 0 where
  pub the_last_line : refusal two_apart open_lines last_line ≡ None
  pub a_line_after_it : refusal two_apart whole_lines first_late ≡ refused words.Ended
  pub sailing_too_near : refusal two_apart open_lines (lines.Table (1 ∷ 1 ∷ [])) ≡ refused words.Table
  pub no_more_cargo : refusal two_apart open_lines (lines.Table (0 ∷ 2 ∷ [])) ≡ refused words.Worse
  pub a_goal_without_a_best : refusal two_apart [] first_late ≡ refused words.Refute
  pub a_later_hint : refusal two_apart open_lines (lines.Lemma [] (3 ∷ 9 ∷ [])) ≡ refused_at words.Hint 9
  pub two_open_at_the_first_hint : refusal two_apart open_lines (lines.Lemma [] (3 ∷ 1 ∷ 2 ∷ [])) ≡ refused_at words.Loose 3
  pub hints_that_end_early : refusal two_apart open_lines (lines.Lemma [] (1 ∷ 2 ∷ [])) ≡ refused words.Conflict
  pub a_dead_hint : refusal two_apart (best_table ∷ second_late ∷ lines.Delete (1 ∷ []) ∷ []) (lines.Lemma [] (1 ∷ [])) ≡ refused_at words.Hint 1
  pub deleted_twice : refusal two_apart (best_table ∷ second_late ∷ lines.Delete (1 ∷ []) ∷ []) (lines.Delete (1 ∷ [])) ≡ refused_at words.Dead 1
