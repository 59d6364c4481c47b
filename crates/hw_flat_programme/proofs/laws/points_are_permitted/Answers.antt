use Rattle.hw_flat_programme.proofs.Found.{satisfied, permitted, same_table}
use Rattle.hw_flat_programme.proofs.laws.points_are_permitted.Goals as goal

pub returns : goal.returns
returns c = record { permitted_satisfies = satisfied; satisfying_is_permitted = permitted; one_timetable = same_table }
