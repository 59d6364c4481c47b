use Rattle.hw_trail_laws.proofs.Kept.{none_kept, decided_kept, implied_kept, back_kept, more_room}
use Rattle.hw_trail_laws.proofs.laws.trail_kept.Goals as goal

pub returns : goal.returns
returns c = (
  none_kept,
  λ t is. record {
    decision = λ lit fits free. decided_kept t lit is fits free;
    implication = λ lit why fits clause free cuts. implied_kept t lit why is fits clause free cuts;
    back = λ level le. back_kept t level is le;
    cuts = more_room t;
  },
)
