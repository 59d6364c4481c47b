-- The last pass of a route.
use Rattle.std.specs.Prelude.{ℕ, ◌+◌, nat_lt, List, [], ◌∷◌, if◌then◌else◌}
use Rattle.hw_port.specs.declared.parts.Pass.{Pass}
use Rattle.hw_port.specs.Whole.{Parts}
use Rattle.hw_port_model.specs.Numbers.{whole}
use Rattle.hw_port_model.specs.Closed.{is_least}
use Rattle.hw_draft.specs.declared.last.LastPass.{LastPass}

-- the waypoint of a pass, and how many slots after sailing it is made
abbrev pub made_at : Pass → LastPass
made_at pass = record { waypoint = whole pass.waypoint; offset = whole pass.offset }

-- the later of two, and otherwise the first one
abbrev pub later_pass : LastPass → LastPass → LastPass
later_pass a b = if nat_lt a.offset b.offset then b else a

-- the pass of a route that is made last
abbrev pub last_pass : List Pass → LastPass
last_pass [] = record { waypoint = 0; offset = 0 }
last_pass (pass ∷ more) = later_pass (made_at pass) (last_pass more)

-- the last slot whose height judges this last pass of a ship that sails in the slot: that of the pass, or the one after it
abbrev pub judging_slot : Parts → ℕ → LastPass → ℕ
judging_slot p slot last = if is_least p then slot + last.offset + 1 else slot + last.offset
