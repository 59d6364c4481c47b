-- Small days with the plans that they leave, worked out by hand.
use Rattle.std.specs.Prelude.{◌≡◌, [], ◌∷◌, codes}
use Rattle.hw_audit.specs.declared.event.PortEvent.TheVariants.{Sailed, Delayed, Withdrawn, Back}
use Rattle.hw_audit.specs.Watching.{watched, after_all}
use Rattle.hw_repair.specs.Written.{written_plan}
use Rattle.hw_audit.specs.Carried.{carried_plan}

-- three ships planned for the slots 4, 6 and 8
pub record CarriedRows : Type 0 where
  -- nothing happened yet
  pub no_event : written_plan (carried_plan (4 ∷ 6 ∷ 8 ∷ []) (after_all (watched (4 ∷ 6 ∷ 8 ∷ [])) [])) ≡ codes "plan 1\no 4 0\no 6 0\no 8 0\nend\n"
  -- ship 0 sailed a slot late
  pub one_sailed : written_plan (carried_plan (4 ∷ 6 ∷ 8 ∷ []) (after_all (watched (4 ∷ 6 ∷ 8 ∷ [])) (Sailed 0 5 ∷ []))) ≡ codes "plan 1\nk 5\no 6 5\no 8 5\nend\n"
  -- ship 1 is delayed twice, and a tug is still withdrawn
  pub one_delayed : written_plan (carried_plan (4 ∷ 6 ∷ 8 ∷ []) (after_all (watched (4 ∷ 6 ∷ 8 ∷ [])) (Delayed 1 1 ∷ Withdrawn 3 ∷ Sailed 0 4 ∷ Back 2 ∷ Delayed 1 2 ∷ []))) ≡ codes "plan 2\nw 1\nk 4\no 6 9\no 8 4\nend\n"
  -- ship 1 is delayed to a slot before that in which ship 2 has sailed
  pub delayed_before : written_plan (carried_plan (4 ∷ 6 ∷ 8 ∷ []) (after_all (watched (4 ∷ 6 ∷ 8 ∷ [])) (Delayed 1 1 ∷ Sailed 2 8 ∷ []))) ≡ codes "plan 1\no 4 8\no 6 8\nk 8\nend\n"
