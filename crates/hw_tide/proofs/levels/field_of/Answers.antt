use Rattle.hw_tide.proofs.Fields.{field_or_end}
use Rattle.csv.specs.Records.{fields_of}
use Rattle.hw_tide.proofs.levels.field_of.Goals as goal

pub returns : goal.returns
returns c = field_or_end (fields_of c.args.fields.now) c.args.place c.get.result c.get.ensures.value
