-- The hatch of a picture.
use Rattle.std.specs.Prelude.{ℕ, List}
use Rattle.hw_chart.specs.declared.hatch.TheConstants.{HATCH}

-- what shapes of the class `ha` look like is one constant
unfoldable pub hatch : List ℕ
hatch = HATCH.now
