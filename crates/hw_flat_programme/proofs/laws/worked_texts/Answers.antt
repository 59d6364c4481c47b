use Rattle.std.proofs.Common.{refl}
use Rattle.std.specs.Fmt.{digits}
use Rattle.hw_flat_programme.specs.Texts.{lp_text, name_text, numbered_variable, opb_head, opb_notes, opb_text, row_end}
use Rattle.hw_flat_programme.proofs.laws.worked_texts.Goals as goal

pub returns : goal.returns
unfolding lp_text name_text numbered_variable opb_head opb_notes opb_text row_end digits
returns c = record { two_apart_lp = refl; two_apart_opb = refl; nowhere_lp = refl }
