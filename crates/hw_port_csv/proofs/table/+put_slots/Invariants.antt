use Rattle.hw_port_csv.proofs.table.+put_slots.Given as goal

abbrev pub decreases-put_slots : goal.decreases-put_slots
decreases-put_slots g l = l.count
