-- Parts of a port's flat problem keep the limits.
use Rattle.std.proofs.Common.{◌≡◌, ℕ, Bool, List, Option, sym, subst}
use Rattle.hw_model.specs.declared.rule.Rule.{Rule}
use Rattle.hw_model.specs.Limits.{IsFlat}
use Rattle.hw_model.specs.Problem.{Problem}
use Rattle.hw_port.specs.Kept.{PortKept}
use Rattle.hw_port.specs.Whole.{Parts}
use Rattle.hw_tide.specs.Levels.{TideParts}
use Rattle.hw_port_model.specs.Flattened.{flattened}
use Rattle.hw_port_model.specs.Alike.{IsSameProblem}
use Rattle.hw_flat.specs.TextWritten.{IsWritable}
use Rattle.hw_port_laws.proofs.Limits.{flattened_fits_law, staying_is_nothing_law}
use Rattle.hw_port_laws.proofs.Permits.{same_problem_law}

same_parts : (ships ships' slots slots' : ℕ) (stay stay' : Bool) (values values' : List (Option ℕ)) (rules rules' : List Rule) → ships ≡ ships' → slots ≡ slots' → stay ≡ stay' → values ≡ values' → rules ≡ rules'
    → ◌≡◌ {A = Problem} (record { ships = ships; slots = slots; stay = stay; values = values; rules = rules }) (record { ships = ships'; slots = slots'; stay = stay'; values = values'; rules = rules' })
same_parts ships ships' slots slots' stay stay' values values' rules rules' a b c d e = cc

same_problem : (f g : Problem) → f.ships ≡ g.ships → f.slots ≡ g.slots → f.stay ≡ g.stay → f.values ≡ g.values → f.rules ≡ g.rules → f ≡ g
same_problem f g a b c d e = same_parts f.ships g.ships f.slots g.slots f.stay g.stay f.values g.values f.rules g.rules a b c d e

pub assembled_fits : (p : Parts) (h : TideParts) (f : Problem) → PortKept p → f.ships ≡ (flattened p h).ships → f.slots ≡ (flattened p h).slots → f.stay ≡ (flattened p h).stay → f.values ≡ (flattened p h).values → f.rules ≡ (flattened p h).rules → IsFlat f
assembled_fits p h f kept a b c d e = subst IsFlat (sym (same_problem f (flattened p h) a b c d e)) (flattened_fits_law p h kept).0

pub assembled_same : (p : Parts) (h : TideParts) (f : Problem) → PortKept p → f.ships ≡ (flattened p h).ships → f.slots ≡ (flattened p h).slots → f.stay ≡ (flattened p h).stay → f.values ≡ (flattened p h).values → f.rules ≡ (flattened p h).rules → IsSameProblem p h f
assembled_same p h f kept a b c d e = subst (IsSameProblem p h) (sym (same_problem f (flattened p h) a b c d e)) (same_problem_law p h kept)

pub assembled_written : (p : Parts) (h : TideParts) (f : Problem) → PortKept p → f.ships ≡ (flattened p h).ships → f.slots ≡ (flattened p h).slots → f.stay ≡ (flattened p h).stay → f.values ≡ (flattened p h).values → f.rules ≡ (flattened p h).rules → IsWritable f
assembled_written p h f kept a b c d e = subst IsWritable (sym (same_problem f (flattened p h) a b c d e)) (λ ship. staying_is_nothing_law p h ship)
