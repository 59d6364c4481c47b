use Rattle.std.proofs.Common.{◌≡◌, ℕ, ◌<◌, List, Some, length, get_or, map, option_map, slice_get, sym, ap, ◌∙◌, subst}
use Rattle.std.specs.Prelude.{IfOk}
use Rattle.std.proofs.Math.Seq.{map-set_same}
use Rattle.std.proofs.lemmas.Option.{slice_get-get_or, slice_get-map}
use Rattle.hw_model.specs.declared.source.Source.{Source}
use Rattle.hw_prop.specs.Finds.{Finds}
use Rattle.hw_search_sources.proofs.asking.ask_at.Goals as goal

-- what a list of values has at a place is the value there
mapped_at : {A : Type 0} (f : A → Source) (xs : List A) (place : ℕ) (d : A) (y : Source) → place < length xs → slice_get (map f xs) place ≡ Some y → f (get_or xs place d) ≡ y
mapped_at f xs place d y lt h = same (f (get_or xs place d)) y (sym (slice_get-map f xs place ∙ ap (option_map f) (slice_get-get_or xs place d lt)) ∙ h)
  where
    same : (a b : Source) → Some a ≡ Some b → a ≡ b
    same a b e = cc

pub returns-clause-sources : goal.returns-clause-sources
returns-clause-sources g c =
    let one = c.index-props-place.result in
    map-set_same g.P.Propagator.source c.args.props.now c.args.place c.ask_one.new.one one c.ask_one.ensures.source

pub returns-clause-found : goal.returns-clause-found
returns-clause-found g c source at =
    let P : Source → Type 0 = λ s. IfOk c.ask_one.result (Finds c.args.flat.now s c.args.best c.args.room.now) in
    subst P (mapped_at g.P.Propagator.source c.args.props.now c.args.place c.index-props-place.result source c.requires.inside at) c.ask_one.ensures.found
