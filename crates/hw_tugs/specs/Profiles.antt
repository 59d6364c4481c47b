-- What a profile of tugs keeps.
use Rattle.std.specs.Prelude.{◌≡◌, ℕ, ◌<◌, List, length, map}
use Rattle.hw_model.specs.declared.source.Source.{Source}
use Rattle.hw_model.specs.Problem.{Problem, horizon}
use Rattle.hw_model.specs.Rooms.{RoomModel, RoomFits}
use Rattle.hw_tugs.specs.Kinds.{OfTugs, jobs_of, fleet_of}
use Rattle.hw_tugs.specs.Fleets.{fleet_at, IsLeast}
use Rattle.hw_tugs.specs.Held.{IsLoad, Sees}
use Rattle.hw_tugs.specs.declared.figures.Figures.{Figures}
use Rattle.hw_tugs.specs.declared.fleets.Fleets.{Fleets}

-- for each slot of the horizon the tugs certainly held, by the ranges last seen, and its fleet; the ships of the jobs; and a room to try in
pub record KeepsProfile (f : Problem) (source : Source) (ships : List ℕ) (trial : RoomModel) (figures : Figures) (fleets : Fleets) : Type 0 where
  pub of_tugs : OfTugs f source
  pub each_slot : length figures.load.items ≡ horizon f
  pub load : IsLoad (jobs_of f source) figures.seen.items figures.load.items
  pub each_ship : ships ≡ map (λ job. job.ship) (jobs_of f source)
  pub trial_ships : trial.ships ≡ f.ships
  pub least_fleet : IsLeast fleets
  pub each_fleet : (slot : ℕ) → slot < horizon f → fleet_at fleets slot ≡ fleet_of f source slot

-- these are the figures of a room
pub record RoomHasFigures (f : Problem) (source : Source) (ships : List ℕ) (trial : RoomModel) (figures : Figures) (fleets : Fleets) (room : RoomModel) : Type 0 where
  pub keeps : KeepsProfile f source ships trial figures fleets
  pub fits : RoomFits f room
  pub sees : Sees room (jobs_of f source) figures.seen.items
