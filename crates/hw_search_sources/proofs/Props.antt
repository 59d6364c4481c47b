-- Propagators that are made one by one have the sources in order.
use Rattle.std.proofs.Common.{◌≡◌, ℕ, ◌+◌, ◌<◌, List, [], ◌∷◌, ◌++◌, length, get_or, map, take, sym, ap, ◌∙◌}
use Rattle.std.proofs.lemmas.List.{take_more, map-append}
use Rattle.hw_model.specs.declared.source.Source.{Source}
use Rattle.hw_model.specs.Problem.{Problem}
use Rattle.hw_rules.specs.Sources.{AreSourcesOf}
use Rattle.hw_rules.proofs.Listed.{none_twice}
use Rattle.hw_search_laws.specs.Starting.{EachSourceOnce}

pub push_source : {A : Type 0} (f : A → Source) (props new : List A) (one : A) (sources : List Source) (i : ℕ) (d : Source) → i < length sources → new ≡ props ++ one ∷ [] → f one ≡ get_or sources i d → map f props ≡ take i sources → map f new ≡ take (i + 1) sources
push_source f props new one sources i d lt e same h = ap (map f) e ∙ map-append f props (one ∷ []) ∙ ap (λ xs. xs ++ f one ∷ []) h ∙ ap (λ s. take i sources ++ s ∷ []) same ∙ sym (take_more sources i d lt)

pub each_once : (f : Problem) (list : List Source) → AreSourcesOf f list → EachSourceOnce f list
each_once f list h = record { each = h.each; once = none_twice f list h }
