use Rattle.hw_price_tests.proofs.Stays.{one_more_toll}
use Rattle.hw_price_tests.proofs.price_book.PriceBook.declare.Goals as goal

pub returns-clause-good : goal.returns-clause-good
returns-clause-good c = λ f good is below. one_more_toll f c.args.self.now c.self.inside.tolls.items c.push.new.self.items c.self.inside.in_force c.self.inside.bound c.args.toll c.self.view_is c.in_ok-push.ensures.items good is below
