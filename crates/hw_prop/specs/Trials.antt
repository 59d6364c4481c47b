-- What trying works on.
use Rattle.std.specs.Prelude.{◌≡◌, Option, Some, None, ⊤}
use Rattle.hw_model.specs.declared.source.Source.{Source}
use Rattle.hw_model.specs.Problem.{Problem}
use Rattle.hw_prop.specs.Scope.{ships_of, pairs_of}
use Rattle.hw_prop.specs.declared.shaver.Trial.{Trial}

-- a room of the problem's size, and the ships and pairs of which the source speaks
pub record IsTrial (f : Problem) (source : Source) (trial : Trial) : Type 0 where
  pub ships : trial.ships.items ≡ ships_of f source
  pub pairs : trial.pairs.items ≡ pairs_of f source
  pub room_ships : trial.room.ships ≡ f.ships
  pub room_slots : trial.room.slots ≡ f.slots

-- none was made yet, or one of this problem and this source
abbrev pub KeepsTrial : Problem → Source → Option Trial → Type 0
KeepsTrial f source None = ⊤
KeepsTrial f source (Some trial) = IsTrial f source trial
