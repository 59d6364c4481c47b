-- A searcher that has done nothing.
use Rattle.std.proofs.Common.{◌≡◌, List, [], subst, sym}
use Rattle.hw_model.specs.Problem.{Problem}
use Rattle.hw_model.specs.Limits.{IsFlat}
use Rattle.hw_cert_lines.specs.declared.line.Line.{Line}
use Rattle.hw_search_laws.specs.declared.outcome.Branching.{Branching}
use Rattle.hw_search_laws.specs.Searches.{SearchModel, new_search}
use Rattle.hw_turns.specs.Members.{Working}
use Rattle.hw_turns.proofs.Crews.{new_working}

pub works : {f : Problem} {s : SearchModel} {own : List Line} (rule : Branching) → IsFlat f → s ≡ new_search f rule → own ≡ [] → Working f s own
works {f = f} {s = s} rule flat new empty = subst (λ xs. Working f s xs) (sym empty) (subst (λ t. Working f t []) (sym new) (new_working f rule flat))
