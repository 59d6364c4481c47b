use Rattle.std.proofs.Common.{refl}
use Rattle.hw_app.proofs.search_laws.zero_is_usual.Goals as goal

pub returns : goal.returns
returns c = record {
  flat_text = λ a b name budget proof. refl;
  port = λ a b instance tides budget proof. refl;
  flat_repair = λ a b c name plan budget proof. refl;
  port_repair = λ a b c instance tides plan budget proof. refl;
}
