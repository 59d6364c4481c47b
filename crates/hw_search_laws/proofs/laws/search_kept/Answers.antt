use Rattle.hw_search_laws.proofs.Keeps.{implied_search, decided_search, better_search}
use Rattle.hw_search_laws.proofs.laws.search_kept.Goals as goal

pub returns : goal.returns
returns c = λ s is. record {
  implied = λ lit why fits clause free cuts holds line. implied_search s lit why is fits clause free cuts holds line;
  decision = λ lit quiet fits free. decided_search s lit is quiet fits free;
  better = λ table c permits worth above. better_search s table c is permits worth above;
}
