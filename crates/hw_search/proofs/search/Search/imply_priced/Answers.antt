use Rattle.std.proofs.Common.{◌≡◌, sym, subst}
use Rattle.hw_model.specs.declared.narrowing.Narrowed.TheVariants.{Cut}
use Rattle.hw_model.specs.Replay.{narrowing}
use Rattle.hw_search_laws.specs.Searches.{SearchModel, room_in}
use Rattle.hw_search.proofs.search.Search.imply_priced.Goals as goal

pub imply_priced-requires-clause-only : goal.imply_priced-requires-clause-only
imply_priced-requires-clause-only g c = subst (λ (s : SearchModel). narrowing c.args.clause (room_in s) ≡ Cut c.args.lit) (sym c.self.view_is) c.requires.only
