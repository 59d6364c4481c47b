-- What a clash text says where it reads.
use Rattle.std.specs.Prelude.{◌<◌, ◌≤◌, All, length}
use Rattle.std.specs.List.Sorted.{IsStrictlyIncreasing}
use Rattle.hw_clash.specs.Clashes.{Clash}
use Rattle.hw_clash.specs.Clashing.{AreDrops}
use Rattle.hw_clash.specs.Wished.{Wished, wished_count}

-- restrictions of the problem and wishes, ascending, at least one, and for each of them a timetable that meets the others
pub record SaysClash (f : Wished) (clash : Clash) : Type 0 where
  pub some : 1 ≤ length clash.kept
  pub numbered : All (λ n. n < wished_count f) clash.kept
  pub ascending : IsStrictlyIncreasing clash.kept
  pub drops : AreDrops f clash.kept clash.drops
