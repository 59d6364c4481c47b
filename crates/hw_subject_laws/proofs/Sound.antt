-- What valid lines prove of a port, by its flat problem.
use Rattle.std.proofs.Common.{Option, Some, None, IfSome, IsSomeAnd, sym, ◌∙◌}
use Rattle.hw_model.specs.Timetables.{IsBest}
use Rattle.hw_cert_lines.specs.Lines.{last_table}
use Rattle.hw_cert_lines.specs.Tolled.{bound_of}
use Rattle.hw_port_model.specs.Permitted.{IsPortBest}
use Rattle.hw_port_model.specs.Flattened.{flattened}
use Rattle.hw_port_laws.proofs.Limits.{flattened_fits_law}
use Rattle.hw_port_laws.proofs.Permits.{same_permitted_law, same_cargo_law, same_best_law, same_none_law}
use Rattle.hw_cert_laws.specs.Laws.{IsBound}
use Rattle.hw_cert_laws.proofs.Bounded.{bounds}
use Rattle.hw_cert_laws.proofs.Proved.{optimal, infeasible}
use Rattle.hw_subject_laws.specs.Ports.{SoundPortVerdict, IsPortBound, SoundPortBounds}

some_then : {A : Type 0} (P Q : A → Type 0) (o : Option A) → ((x : A) → P x → Q x) → IsSomeAnd o P → IsSomeAnd o Q
some_then P Q None f h = absurd h
some_then P Q (Some x) f h = f x h

pub sound_port_verdict_law : SoundPortVerdict
sound_port_verdict_law = λ p h all kept fits valid. (
  λ c e. some_then (λ table. IsBest (flattened p h) table c) (λ table. IsPortBest p h table c) (last_table all) (λ table best. (same_best_law p h table c kept).1 best) (optimal (flattened p h) all c (flattened_fits_law p h kept).0 fits valid e),
  λ e. (same_none_law p h kept).1 (infeasible (flattened p h) all (flattened_fits_law p h kept).0 fits valid e),
)

if_then : {A : Type 0} (P Q : A → Type 0) (o : Option A) → ((x : A) → P x → Q x) → IfSome o P → IfSome o Q
if_then P Q None f h = tt
if_then P Q (Some x) f h = f x h

pub sound_port_bounds_law : SoundPortBounds
sound_port_bounds_law = λ p h all kept valid. if_then (IsBound (flattened p h)) (IsPortBound p h) (bound_of all) (λ bound is table c permits worth.
    let same = same_cargo_law p h table kept permits in
    is table c ((same_permitted_law p h table kept).0 permits) (same.2 ∙ (sym same.1 ∙ worth))) (bounds (flattened p h) all (flattened_fits_law p h kept).0 valid)
