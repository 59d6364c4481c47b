-- Good lines after good ones.
use Rattle.std.proofs.Common.{List, [], ◌++◌, arith}
use Rattle.std.proofs.lemmas.List.Elements.{All-append, All-nil}
use Rattle.hw_model.specs.Problem.{Problem}
use Rattle.hw_cert_lines.specs.declared.line.Line.{Line}
use Rattle.hw_cert_lines.specs.Valid.{LineFits}
use Rattle.hw_search_laws.specs.Advised.{WritesGood}
use Rattle.hw_search_laws.specs.Living.{FewLiveFrom}
use Rattle.hw_search_laws.specs.Proving.{WrittenGood}
use Rattle.hw_search_laws.specs.Turns.{WritesWell}
use Rattle.hw_search_laws.proofs.Heeded.{valid_append, lean_append}
use Rattle.hw_search_laws.proofs.Living.{throughout, none_live}

pub good_more : (f : Problem) (a b : List Line) → WrittenGood f a → WritesGood f a b → FewLiveFrom f a b → WrittenGood f (a ++ b)
good_more f a b w m few = record {
  fit = All-append (LineFits f) a b w.fit m.fit;
  valid = valid_append f [] a b w.valid m.valid;
  lean = lean_append f [] a b w.lean m.lean;
  new = m.new w.new;
  few_live = throughout f a b w.few_live few;
}

pub no_line : (f : Problem) → WrittenGood f []
no_line f = record { fit = All-nil (LineFits f); valid = tt; lean = tt; new = λ i j d a b. absurd (omega (arith, b)); few_live = none_live f }

-- what is written well is good
pub well_good : (f : Problem) (before more : List Line) → WritesWell f before more → WritesGood f before more
well_good f before more w = record { fit = w.fit; valid = w.valid; lean = w.lean; new = w.new }
