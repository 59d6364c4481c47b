use Rattle.hw_price_laws.proofs.Kept.{narrows_usage, tugs_usage}
use Rattle.hw_price_laws.proofs.laws.toll_usage.Goals as goal

pub returns : goal.returns
returns c = record { narrows = narrows_usage; tugs = tugs_usage }
