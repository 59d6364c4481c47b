use Rattle.hw_chart_port.proofs.laws.fleet_suffices.Goals as goal

pub returns : goal.returns
returns c = λ p h table slot permits slot_in. permits.tugs slot slot_in
