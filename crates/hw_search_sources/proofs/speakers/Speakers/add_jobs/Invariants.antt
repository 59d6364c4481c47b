use Rattle.std.proofs.Common.{false, take}
use Rattle.std.specs.List.{list_any}
use Rattle.hw_search_sources.specs.Speaking.{AddsPlace}
use Rattle.hw_search_sources.proofs.Adding.{of_job}
use Rattle.hw_search_sources.proofs.speakers.Speakers.add_jobs.Given as goal

abbrev pub invariant-loop-job : goal.invariant-loop-job
invariant-loop-job l = AddsPlace l.place (λ u. list_any (of_job u) (take l.job-index l.jobs)) (λ v w. false) l.fn.self l.self
