use Rattle.std.proofs.Common.{[], ◌∷◌}
use Rattle.hw_model.specs.Problem.{shape_of}
use Rattle.hw_text.specs.Parts.{parts_of}
use Rattle.hw_split_text.proofs.Fitting.{nodes_complete}
use Rattle.hw_split_text.proofs.reading.read_split.Goals as goal

pub returns-clause-fits : goal.returns-clause-fits
returns-clause-fits c = nodes_complete (shape_of c.args.flat.now) 2 ([] ∷ []) (parts_of 10 c.in_ok-rest.rest.now) (c.in_ok-nodes.nodes.items, parts_of 10 c.in_ok-nodes.rest.now) (rw c.shape.ensures.value at c.in_ok-nodes.ensures)
