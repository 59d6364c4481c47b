use Rattle.std.proofs.Common.{◌+◌, ◌*◌, ◌<◌, sym, subst}
use Rattle.hw_store.specs.Numbering.{bucket_count}
use Rattle.hw_store.proofs.Numbers.{bound_small}
use Rattle.hw_store.proofs.buckets.BucketMap.at_bound.Goals as goal

pub returns-clause-small : goal.returns-clause-small
returns-clause-small c =
    subst (λ n. c.args.row * c.args.self.now.slots + n < bucket_count c.args.self.now.ships c.args.self.now.slots) (sym c.min.ensures)
    (bound_small c.args.self.now.ships c.args.self.now.slots c.args.row c.args.slot c.args.self.now.some_slots c.requires.row_in)
