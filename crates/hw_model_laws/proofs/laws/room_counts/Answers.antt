use Rattle.hw_model_laws.proofs.Rows as rows
use Rattle.hw_model_laws.proofs.laws.room_counts.Goals as goal

pub returns : goal.returns
returns c = rows.room_counts
