use Rattle.csv.specs.Reading.{default_config, strip_bom}
use Rattle.csv.specs.declared.parser.State.TheVariants as st
use Rattle.hw_tide.proofs.Listed.{listed}
use Rattle.hw_tide.proofs.laws.some_list.Goals as goal

pub returns : goal.returns
returns c = λ bytes. listed default_config st.StartRecord (strip_bom bytes)
