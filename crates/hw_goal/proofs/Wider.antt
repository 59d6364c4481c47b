-- A denied room with one range widened.
use Rattle.std.proofs.Common.{ℕ, ◌+◌, ◌<◌, ◌≤◌, arith}
use Rattle.hw_model.specs.Problem.{Problem}
use Rattle.hw_model.specs.Rooms.{RoomModel, RoomFits, low_of, high_of}
use Rattle.hw_model.specs.Narrowing.{with_range}
use Rattle.hw_model.specs.Refuting.{greatest_value, greatest_sum}
use Rattle.hw_model_laws.proofs.Sums.{goal_changed}

-- what the sum gains is what the ship's greatest value gains
pub sum_wider : (f : Problem) (d : RoomModel) (ship low high spare rest : ℕ) → RoomFits f d → ship < f.ships → greatest_value f ship low high + rest ≤ greatest_value f ship (low_of d ship) (high_of d ship) + spare → greatest_sum f (with_range d ship low high) + rest ≤ greatest_sum f d + spare
sum_wider f d ship low high spare rest fits lt le = omega (arith, le, goal_changed f d ship low high fits lt)
