use Rattle.hw_text.specs.Parts.{parts_of}
use Rattle.hw_text.proofs.Joins.{is_ended_lines}
use Rattle.hw_flat.specs.TextWritten.{problem_lines}
use Rattle.hw_flat.proofs.TextRows.{text_read}
use Rattle.hw_flat.proofs.laws.one_text.Goals as goal

pub returns : goal.returns
returns c = λ bytes f. record {
  limits = λ h. (text_read (parts_of 10 bytes) f h).limits;
  writable = λ h. (text_read (parts_of 10 bytes) f h).writable;
  spelled = λ h. is_ended_lines (problem_lines f) bytes (text_read (parts_of 10 bytes) f h).lines;
}
