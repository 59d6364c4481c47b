use Rattle.std.proofs.Common.{codes, refl}
use Rattle.hw_cert.specs.declared.version.Version.TheVariants.{Two}
use Rattle.hw_cert.proofs.ToldText.{text_told}
use Rattle.hw_command_search.specs.Rows.{cut_log}
use Rattle.hw_command_search.proofs.laws.cut_rows.Goals as goal

pub returns : goal.returns
returns c = record {
  in_line = refl;
  text = text_told Two (codes "cert 2\nt 2 0\nl a0") cut_log refl;
  after_header = refl;
  in_header = refl;
  of_the_third = refl;
}
