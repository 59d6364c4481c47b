use Rattle.std.proofs.Common.{refl}
use Rattle.hw_search_laws.proofs.laws.limits_are.Goals as goal

pub returns : goal.returns
returns c = record {
  ships = refl;
  slots = refl;
  rules = refl;
  value = refl;
  holes = refl;
  difference = refl;
  tugs = refl;
  fleet = refl;
  plain_fleet = refl;
  hold = refl;
  cargo = refl;
  held = refl;
  literals = refl;
  tolls = refl;
  dues = refl;
  price = refl;
  scale = refl;
  gain = refl;
  line = refl;
  budget = refl;
  priced = refl;
}
