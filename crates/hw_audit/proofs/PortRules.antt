-- The rules of a port: on two ships each, but the last one.
use Rattle.std.proofs.Common.{◌≡◌, ℕ, zero, suc, ◌+◌, ◌-◌, List, [], ◌∷◌, ◌++◌, map, Some, slice_get, length, length-append, sym, subst, ◌∙◌, arith, inl, inr}
use Rattle.std.proofs.lemmas.Bool.{cases_lt}
use Rattle.std.proofs.lemmas.Option.{same_Some}
use Rattle.hw_lemmas.proofs.Lists.{get_left, get_right}
use Rattle.hw_model.specs.declared.rule.Hole.{Hole}
use Rattle.hw_model.specs.declared.rule.Job.{Job}
use Rattle.hw_model.specs.declared.rule.Rule.{Rule}
use Rattle.hw_model.specs.declared.rule.Rule.TheVariants.{Pair, After, Tugs}
use Rattle.hw_model.specs.declared.rule.Step.{Step}
use Rattle.hw_port.specs.declared.parts.BerthPair.{BerthPair}
use Rattle.hw_port.specs.declared.parts.AfterPair.{AfterPair}
use Rattle.hw_port.specs.Parts.{ShipParts}
use Rattle.hw_port.specs.Whole.{Parts}
use Rattle.hw_port_model.specs.Flattened.{holes_of, pair_rule, pairs_with, pairs_from, berth_rule, after_rule, jobs_from, tug_rule, rules_of}
use Rattle.hw_port_model.specs.Numbers.{whole}
use Rattle.hw_audit.specs.Keeping.{TugsComeLast}

abbrev pub On2 : Rule → Type 0
On2 (Pair v w holes) = Unit {0}
On2 (After v w gap) = Unit {0}
On2 (Tugs fleet later jobs) = ⊥

abbrev pub Each2 : List Rule → Type 0
Each2 [] = Unit {0}
Each2 (rule ∷ rules) = On2 rule × Each2 rules

joined : (xs ys : List Rule) → Each2 xs → Each2 ys → Each2 (xs ++ ys)
joined [] ys h k = k
joined (x ∷ xs) ys h k = (h.0, joined xs ys h.1 k)

one_pair : (v w : ℕ) (holes : List Hole) → Each2 (pair_rule v w holes)
one_pair v w [] = tt
one_pair v w (hole ∷ holes) = (tt, tt)

with_others : (p : Parts) (v : ℕ) (s : ShipParts) (w : ℕ) (more : List ShipParts) → Each2 (pairs_with p v s w more)
with_others p v s w [] = tt
with_others p v s w (r ∷ more) = joined (pair_rule v w (holes_of p s r)) (pairs_with p v s (w + 1) more) (one_pair v w (holes_of p s r)) (with_others p v s (w + 1) more)

pub all_pairs : (p : Parts) (v : ℕ) (ships : List ShipParts) → Each2 (pairs_from p v ships)
all_pairs p v [] = tt
all_pairs p v (s ∷ more) = joined (pairs_with p v s (v + 1) more) (pairs_from p (v + 1) more) (with_others p v s (v + 1) more) (all_pairs p (v + 1) more)

pub all_berths : (berths : List BerthPair) → Each2 (map berth_rule berths)
all_berths [] = tt
all_berths (b ∷ berths) = (tt, all_berths berths)

pub all_after : (pairs : List AfterPair) → Each2 (map after_rule pairs)
all_after [] = tt
all_after (a ∷ pairs) = (tt, all_after pairs)

not_tugs : (rules : List Rule) (place fleet : ℕ) (later : List Step) (jobs : List Job) → Each2 rules → slice_get rules place ≡ Some (Tugs fleet later jobs) → ⊥
not_tugs [] place fleet later jobs each e = absurd cc
not_tugs (rule ∷ rules) zero fleet later jobs each e = subst On2 (same_Some rule (Tugs fleet later jobs) e) each.0
not_tugs (rule ∷ rules) (suc place) fleet later jobs each e = not_tugs rules place fleet later jobs each.1 e

at_last : (n place fleet : ℕ) (later : List Step) (own jobs : List Job) → slice_get (tug_rule n own) place ≡ Some (Tugs fleet later jobs) → place + 1 ≡ length (tug_rule n own)
at_last n place fleet later [] jobs e = absurd cc
at_last n zero fleet later (job ∷ own) jobs e = omega arith
at_last n (suc place) fleet later (job ∷ own) jobs e = absurd cc

prefixed : (rules last : List Rule) (place fleet : ℕ) (later : List Step) (jobs : List Job) → Each2 rules → ((i : ℕ) → slice_get last i ≡ Some (Tugs fleet later jobs) → i + 1 ≡ length last) → slice_get (rules ++ last) place ≡ Some (Tugs fleet later jobs) → place + 1 ≡ length (rules ++ last)
prefixed rules last place fleet later jobs each own e = elim (cases_lt place (length rules)) [
  | inl lt ↦ absurd (not_tugs rules place fleet later jobs each (sym (get_left rules last place lt) ∙ e))
  | inr le ↦
      let at : place ≡ length rules + (place - length rules) = omega (arith, le) in
      let there = own (place - length rules) (sym (get_right rules last (place - length rules) place at) ∙ e) in
      omega (arith, there, le, length-append rules last)
]

pub tugs_last : (p : Parts) → TugsComeLast (rules_of p)
tugs_last p place fleet later jobs e =
    let tugs = tug_rule (whole p.fleet) (jobs_from p 0 p.ships) in
    prefixed (pairs_from p 0 p.ships) (map berth_rule p.berths ++ (map after_rule p.after ++ tugs)) place fleet later jobs (all_pairs p 0 p.ships)
    (λ i h. prefixed (map berth_rule p.berths) (map after_rule p.after ++ tugs) i fleet later jobs (all_berths p.berths)
    (λ j k. prefixed (map after_rule p.after) tugs j fleet later jobs (all_after p.after) (λ m. at_last (whole p.fleet) m fleet later (jobs_from p 0 p.ships) jobs) k) h) e
