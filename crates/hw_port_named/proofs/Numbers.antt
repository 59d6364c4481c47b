-- What each number of a restriction stands for.
use Rattle.std.proofs.Common.{◌≡◌, ◌↔◌, ℕ, zero, suc, ◌+◌, ◌-◌, ◌<◌, ◌≤◌, nat_lt, List, map, Some, IsTrue, slice_get, length, length-append, refl, sym, ap, ◌∙◌, subst, inl, inr, arith}
use Rattle.std.proofs.lemmas.Bool.{cases_lt, cond-false, le-ltb}
use Rattle.std.proofs.lemmas.List.FromFn.{length-map-range_with_len}
use Rattle.std.proofs.lemmas.Option.{same_Some}
use Rattle.std.specs.List.{range_with_len}
use Rattle.hw_lemmas.proofs.Lists.{get_left, get_right}
use Rattle.hw_model.specs.declared.rule.Rule.{Rule}
use Rattle.hw_model.specs.Problem.{Problem}
use Rattle.hw_model.specs.Rules.{rule_holds}
use Rattle.hw_model.specs.Timetables.{holds_at, restriction_holds}
use Rattle.hw_model_laws.proofs.Broken.{window_at}
use Rattle.hw_port.specs.Kept.{PortKept}
use Rattle.hw_port.specs.Whole.{Parts}
use Rattle.hw_port_model.specs.Flattened.{rules_of, flattened}
use Rattle.hw_port_named.specs.declared.named.Named.{Named}
use Rattle.hw_port_named.specs.declared.named.Named.TheVariants.{Window}
use Rattle.hw_port_named.specs.Restrictions.{windows, rules_named, named_restrictions}
use Rattle.hw_port_named.specs.Meaning.{IsNamed, NamedHolds}
use Rattle.hw_port_named.specs.Laws.{EachIsNamed, NamedByRule, NamedMeans}
use Rattle.hw_port_named.proofs.Parallel.{Stands, same_length, stands_at, rules_stand}
use Rattle.hw_port_named.proofs.Windows.{value_there, window_holds}
use Rattle.hw_port_named.proofs.Means.{stands_means, stands_is}

many_windows : (p : Parts) → length (windows p) ≡ length p.ships
many_windows p = length-map-range_with_len (λ v. Window v) 0 (length p.ships)

many_named : (p : Parts) → PortKept p → length (named_restrictions p) ≡ length p.ships + length (rules_of p)
many_named p kept = length-append (windows p) (rules_named p) ∙ omega (arith, many_windows p, same_length p (rules_named p) (rules_of p) (rules_stand p kept))

pub each_is_named : EachIsNamed
each_is_named p h kept = many_named p kept

-- ---- by number

window_get : (a n i : ℕ) (named : Named) → slice_get (map (λ v. Window v) (range_with_len a n)) i ≡ Some named → (named ≡ Window (a + i)) × (i < n)
window_get a zero i named e = absurd cc
window_get a (suc n) zero named e = let here : a ≡ a + 0 = omega arith in (sym (same_Some (Window a) named e) ∙ ap (λ v. Window v) here, omega arith)
window_get a (suc n) (suc i) named e =
    let r = window_get (a + 1) n i named e in
    let next : a + 1 + i ≡ a + suc i = omega arith in
    (r.0 ∙ ap (λ v. Window v) next, omega (arith, r.1))

-- a window, or a rule and what stands for it
pub data At (p : Parts) (number : ℕ) (named : Named) : Type 0 where
  at_window : named ≡ Window number → number < length p.ships → At p number named
  at_rule : (rule : Rule) → length p.ships ≤ number → slice_get (rules_of p) (number - length p.ships) ≡ Some rule → Stands p named rule → At p number named

pub at_number : (p : Parts) (number : ℕ) (named : Named) → PortKept p → slice_get (named_restrictions p) number ≡ Some named → At p number named
at_number p number named kept e = elim (cases_lt number (length p.ships)) [
  | inl lt ↦
      let here : number < length (windows p) = omega (arith, lt, many_windows p) in
      let w = window_get 0 (length p.ships) number named (sym (get_left (windows p) (rules_named p) number here) ∙ e) in
      let plain : 0 + number ≡ number = omega arith in
      at_window (w.0 ∙ ap (λ v. Window v) plain) lt
  | inr le ↦
      let there : number ≡ length (windows p) + (number - length p.ships) = omega (arith, le, many_windows p) in
      let r = stands_at p (rules_named p) (rules_of p) (number - length p.ships) named (rules_stand p kept) (sym (get_right (windows p) (rules_named p) (number - length p.ships) number there) ∙ e) in
      at_rule r.0 le r.1 r.2
]

pub named_by_rule : NamedByRule
named_by_rule p h number named kept e = by (at_number p number named kept e)
  where
    by : At p number named → IsNamed (flattened p h) number named
    by (at_window is lt) = subst (IsNamed (flattened p h) number) (sym is) (refl, lt)
    by (at_rule rule le there stands) = stands_is p (flattened p h) number named rule kept (record { after_windows = le; there = there }) stands

rule_is : (f : Problem) (table : List ℕ) (n : ℕ) (rule : Rule) → f.ships ≤ n → slice_get f.rules (n - f.ships) ≡ Some rule → restriction_holds f table n ≡ rule_holds f table rule
rule_is f table n rule le there = cond-false (nat_lt n f.ships) _ _ (le-ltb n f.ships le) ∙ ap (holds_at f table) there

pub named_means : NamedMeans
named_means p h table number named kept listed e = by (at_number p number named kept e)
  where
    by : At p number named → IsTrue (restriction_holds (flattened p h) table number) ↔ NamedHolds p h table named
    by (at_window is lt) = subst (λ n. IsTrue (restriction_holds (flattened p h) table number) ↔ NamedHolds p h table n) (sym is) (
      λ holds. window_holds p h table number listed (sym (window_at (flattened p h) table number lt) ∙ holds),
      λ holds. window_at (flattened p h) table number lt ∙ value_there p h table number kept listed lt holds,
    )
    by (at_rule rule le there stands) =
        let says = stands_means p h table named rule kept listed stands in (
          λ holds. says.0 (sym (rule_is (flattened p h) table number rule le there) ∙ holds),
          λ holds. rule_is (flattened p h) table number rule le there ∙ says.1 holds,
        )
