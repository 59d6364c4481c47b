use Rattle.std.proofs.Common.{arith}
use Rattle.hw_price_tests.proofs.Steps.{toll_read}
use Rattle.hw_price_tests.proofs.taking.toll_at.Goals as goal

pub returns : goal.returns
returns c = record { value = toll_read c.args.tolls.now c.args.number _ c.index-tolls-place.result c.requires.from_one c.requires.toll_in (omega arith) c.index-tolls-place.is }
