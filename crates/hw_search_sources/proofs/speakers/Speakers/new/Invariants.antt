use Rattle.std.proofs.Common.{◌≡◌}
use Rattle.hw_search_sources.proofs.Adding.{ListedUpto}
use Rattle.hw_search_sources.proofs.speakers.Speakers.new.Given as goal

abbrev pub invariant-loop-at : goal.invariant-loop-at
invariant-loop-at l = record { same : l.speakers.ships ≡ l.flat.ships; listed : ListedUpto l.flat l.sources l.at l.speakers }
