-- What is told of a command's inputs, whatever their names.
use Rattle.std.specs.Prelude.{◌≡◌, ℕ, List, Option, Some, None, ⊤}
use Rattle.hw_subject.specs.Subjects.{Origin, Topic, flat_text, port_of}

-- what is held under the names of an origin is told: the other one has these bytes in their place
abbrev pub OriginTold : (List ℕ → Option (List ℕ)) → Origin → Origin → Type 0
OriginTold held (flat_text name) (flat_text text) = held name ≡ Some text
OriginTold held (port_of instance tides) (port_of port table) = (held instance ≡ Some port) × (held tides ≡ Some table)
OriginTold held names bytes = ⊥

-- the same of a plan, if there is one
abbrev pub PlanTold : (List ℕ → Option (List ℕ)) → Option (List ℕ) → Option (List ℕ) → Type 0
PlanTold held None None = ⊤
PlanTold held (Some name) (Some plan) = held name ≡ Some plan
PlanTold held name plan = ⊥

-- the same of a topic
abbrev pub IsTold : (List ℕ → Option (List ℕ)) → Topic → Topic → Type 0
IsTold held names bytes = OriginTold held names.origin bytes.origin × PlanTold held names.plan bytes.plan

-- each name holds itself
abbrev pub itself : List ℕ → Option (List ℕ)
itself bytes = Some bytes
