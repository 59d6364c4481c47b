use Rattle.hw_price_tests.proofs.Stays.{in_force_refutes}
use Rattle.hw_price_tests.proofs.price_book.PriceBook.refutes.Goals as goal

pub returns-in-Some-clause-computed : goal.returns-in-Some-clause-computed
returns-in-Some-clause-computed c = in_force_refutes c.args.flat.now c.args.self.now c.self.inside.tolls.items c.deref.result.now c.self.inside.in_force c.self.inside.bound c.args.best c.args.room.now c.in-Some.prices c.refutes.result c.self.view_is c.deref.ensures.value c.in-Some.is c.refutes.ensures.computed
