use Rattle.hw_read.proofs.FirstFault.{of_entry}
use Rattle.hw_read.specs.Table.{port, version_of}
use Rattle.hw_read.specs.Places.{no_stars}
use Rattle.serde_json.specs.View.{view}
use Rattle.hw_read.proofs.walking.test_form.Goals as goal

pub returns : goal.returns
returns c =
    let told = rw c.version_of.ensures at c.test_by.ensures in
    rw (of_entry (port (version_of (view c.args.value.now))) no_stars (view c.args.value.now)) at told
