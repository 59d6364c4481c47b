-- A place's path, and the numbers of the list items on the way to it.
use Rattle.std.specs.Prelude.{ℕ, Option, Some, None}
use Rattle.hw_port.specs.declared.fault.Path.{Path}
use Rattle.hw_port.specs.declared.places.Place.{Place}
use Rattle.hw_port.specs.Places.{number_of_place}
use Rattle.hw_read.specs.declared.stars.Stars.{Stars}

-- the numbers at the stars of a place that has none
abbrev pub no_stars : Stars
no_stars = record { first = None; second = None }

-- the path to a place by these numbers
abbrev pub path : Place → Stars → Path
path place s = record { field = number_of_place place; first = s.first; second = s.second }

abbrev pub next_star : Option ℕ → ℕ → Stars
next_star None i = record { first = Some i; second = None }
next_star (Some k) i = record { first = Some k; second = Some i }

-- the numbers at the stars, one deeper: at the i-th item
abbrev pub deeper : Stars → ℕ → Stars
deeper s i = next_star s.first i
