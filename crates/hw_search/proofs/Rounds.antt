-- A round over the marked sources.
use Rattle.std.proofs.Common.{◌≡◌, ℕ, ◌<◌, ◌+◌, ◌-◌, ◌≤◌, Bool, List, Some, length, slice_get, ap, sym, subst, ◌∙◌, inl, inr, arith}
use Rattle.std.specs.Prelude.{Contains}
use Rattle.std.proofs.lemmas.Bool.{cases_lt}
use Rattle.std.proofs.lemmas.Option.{slice_get-get_or}
use Rattle.hw_model.specs.declared.source.Source.{Source}
use Rattle.hw_trail_laws.specs.Trails.{most_events}
use Rattle.hw_search_laws.specs.Searches.{SearchModel}
use Rattle.hw_search.specs.Askings.{SourcesQuiet, Gains}
use Rattle.hw_search.specs.Engines.{EngineModel, KeepsEngine}
use Rattle.hw_search_sources.specs.Marks.{ClearWithin}
use Rattle.hw_search_sources.specs.Speaking.{SpeakersModel}
use Rattle.hw_search.proofs.Steps.{left_less}

pub clear_joined : (marks : List Bool) (from upto : ℕ) → ClearWithin marks 0 from → ClearWithin marks from upto → ClearWithin marks 0 upto
clear_joined marks from upto a b place low lt = elim (cases_lt place from) [
  | inl less ↦ a place low less
  | inr more ↦ b place more lt
]

-- where no source is marked, each is quiet
pub sources_quiet : (e : EngineModel) (table : SpeakersModel) (goal : ℕ) (worth : _) (capacity : ℕ) → KeepsEngine e table goal worth capacity → ClearWithin e.marks 0 (length e.marks) → SourcesQuiet e.search
sources_quiet e table goal worth capacity k clear source of =
    let there : Contains e.sources source = k.once.each source of in
    let at : slice_get e.sources there.0 ≡ Some source = slice_get-get_or e.sources there.0 source there.1 ∙ ap (λ x. Some x) there.2 in
    k.quiet there.0 source at (clear there.0 (omega arith) (omega (arith, there.1, k.each_mark)))

-- the same marks, as they were given back
pub kept_same : (e : EngineModel) (table : SpeakersModel) (goal : ℕ) (worth : _) (capacity : ℕ) (marks : List Bool) → KeepsEngine e table goal worth capacity → marks ≡ e.marks → KeepsEngine (record e { marks = marks }) table goal worth capacity
kept_same e table goal worth capacity marks k same = subst (λ xs. KeepsEngine (record e { marks = xs }) table goal worth capacity) (sym same) k

-- an event less may come, or a source less is to be asked
pub less_left : (s after : SearchModel) (sources given : List Source) (from place : ℕ) → Gains s after → sources ≡ given → from ≤ place
    → (most_events after.problem.ships after.problem.slots - length after.trail.events) + (length sources - place) < (most_events s.problem.ships s.problem.slots - length s.trail.events) + (length given - from)
less_left s after sources given from place g same le = omega (arith, left_less s after g, ap length same, le)
