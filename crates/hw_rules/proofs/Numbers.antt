-- The restrictions' numbers and their sources.
use Rattle.std.proofs.Common.{◌≡◌, ℕ, ◌+◌, ◌-◌, ◌<◌, ◌≤◌, true, false, nat_lt, Some, refl, ap, ◌∙◌, arith, inl, inr, subst}
use Rattle.std.proofs.lemmas.Bool.{lt-ltb, le-ltb, cases_lt}
use Rattle.hw_model.specs.declared.source.Source.{Source}
use Rattle.hw_model.specs.declared.source.Source.TheVariants as sources
use Rattle.hw_model.specs.Problem.{Problem}
use Rattle.hw_model.specs.Timetables.{restriction_count}
use Rattle.hw_model.specs.Refuting.{IsSourceOf, source_of}
use Rattle.hw_rules.specs.Sources.{number_of}

pub window_at : (f : Problem) (n : ℕ) → n < f.ships → source_of f n ≡ sources.Window n
window_at f n lt = let t : nat_lt n f.ships ≡ true = lt-ltb n f.ships lt in rw t refl

rule_at : (f : Problem) (n : ℕ) → f.ships ≤ n → source_of f n ≡ sources.Rule (n - f.ships)
rule_at f n le = let t : nat_lt n f.ships ≡ false = le-ltb n f.ships le in rw t refl

pub to_number : (f : Problem) (n : ℕ) → n < restriction_count f → number_of f (source_of f n) ≡ Some n
to_number f n lt = elim (cases_lt n f.ships) [
  | inl few ↦ ap (number_of f) (window_at f n few)
  | inr past ↦
      let e : f.ships + (n - f.ships) ≡ n = omega (arith, past) in
      ap (number_of f) (rule_at f n past) ∙ ap Some e
]

pub to_source : (f : Problem) (source : Source) (n : ℕ) → IsSourceOf f source → number_of f source ≡ Some n → (n < restriction_count f) × (source_of f n ≡ source)
to_source f (sources.Window ship) n of e =
    let same : ship ≡ n = cc in
    let here : (ship < restriction_count f) × (source_of f ship ≡ sources.Window ship) = (omega (arith, of), window_at f ship of) in
    subst (λ m. (m < restriction_count f) × (source_of f m ≡ sources.Window ship)) same here
to_source f (sources.Rule place) n of e =
    let same : f.ships + place ≡ n = cc in
    let back : f.ships + place - f.ships ≡ place = omega arith in
    let here : (f.ships + place < restriction_count f) × (source_of f (f.ships + place) ≡ sources.Rule place) = (omega (arith, of), rule_at f (f.ships + place) (omega arith) ∙ ap sources.Rule back) in
    subst (λ m. (m < restriction_count f) × (source_of f m ≡ sources.Rule place)) same here
to_source f (sources.Order v w x) n of e = absurd cc
to_source f sources.Goal n of e = absurd cc
