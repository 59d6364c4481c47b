use Rattle.hw_command_texts.proofs.Decided.{one_listing_law}
use Rattle.hw_command_texts.proofs.laws.one_listing.Goals as goal

pub returns : goal.returns
returns c = one_listing_law
