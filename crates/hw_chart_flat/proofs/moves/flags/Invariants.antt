use Rattle.std.proofs.Common.{◌≡◌, ◌↔◌, ◌<◌, ℕ, true, false, length, get_or}
use Rattle.hw_model.specs.Problem.{horizon}
use Rattle.hw_model.specs.Timetables.{Permits}
use Rattle.hw_chart_flat.specs.Moves.{flag_place, with_move}
use Rattle.hw_chart_flat.proofs.moves.flags.Given as goal

-- the flags so far say what they are to say
abbrev pub invariant-loop-place : goal.invariant-loop-place
invariant-loop-place l =
    (length l.flags.items ≡ l.place) × ((ship slot : ℕ) → ship < l.flat.ships → slot < horizon l.flat → flag_place ship slot < l.place → (get_or l.flags.items (flag_place ship slot) false ≡ true) ↔ Permits l.flat (with_move l.table ship slot))
