-- One step of a replay, literal by literal.
use Rattle.std.proofs.Common.{◌≡◌, ℕ, ◌≤◌, false, List, length, take, sym, ap, ◌∙◌, subst}
use Rattle.std.proofs.lemmas.List.{take_all}
use Rattle.hw_model.specs.declared.lit.Lit.{Lit}
use Rattle.hw_model.specs.declared.narrowing.Narrowed.{Narrowed}
use Rattle.hw_model.specs.Rooms.{RoomModel}
use Rattle.hw_model.specs.Replay.{some_true, free_lits, step_by, narrowing}

-- the step of the literals up to a place, none of which is True
pub record IsStepOf (room : RoomModel) (all : List Lit) (place : ℕ) (step : Narrowed) : Type 0 where
  pub none_true : some_true room (take place all) ≡ false
  pub so_far : step ≡ step_by false (free_lits room (take place all))

pub step_ends : (room : RoomModel) (all : List Lit) (place : ℕ) (step : Narrowed) → IsStepOf room all place step → length all ≤ place → step ≡ narrowing all room
step_ends room all place step s le =
    let whole = take_all place all le in
    s.so_far ∙ ap (λ l. step_by false (free_lits room l)) whole ∙ ap (λ b. step_by b (free_lits room all)) (sym (subst (λ l. some_true room l ≡ false) whole s.none_true))
