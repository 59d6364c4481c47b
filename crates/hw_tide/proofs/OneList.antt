-- The records of given bytes are one list.
use Rattle.std.proofs.Common.{◌≡◌, ℕ, List, [], ◌∷◌, Option, Some, None, refl, sym, ap, ap₂, ◌∙◌, subst}
use Rattle.csv.specs.Machine.{Read, next_record}
use Rattle.csv.specs.Reading.{Reached, default_config, strip_bom}
use Rattle.csv.specs.declared.parser.Config.{Config}
use Rattle.csv.specs.declared.parser.State.{State}
use Rattle.csv.specs.declared.parser.State.TheVariants as st
use Rattle.hw_tide.specs.Laws.{OneList}

same_read : (p q : Read) → ◌≡◌ {A = Option Read} (Some p) (Some q) → p ≡ q
same_read p q e = cc

once : (cfg : Config) (rs qs : List (List (List ℕ))) (s s1 s2 : State) (xs ys zs : List ℕ) → Reached cfg s xs rs s1 ys → next_record cfg s1 [] [] ys ≡ None → Reached cfg s xs qs s2 zs → next_record cfg s2 [] [] zs ≡ None → rs ≡ qs
unfolding Reached
once cfg [] [] s s1 s2 xs ys zs h end g end_too = refl
once cfg [] (q ∷ qs) s s1 s2 xs ys zs h end g end_too =
    let a : s ≡ s1 = h.0 in
    let b : xs ≡ ys = h.1 in
    let c : next_record cfg s [] [] xs ≡ Some g.0 = g.1 in
    absurd cc
once cfg (r ∷ rs) [] s s1 s2 xs ys zs h end g end_too =
    let a : s ≡ s2 = g.0 in
    let b : xs ≡ zs = g.1 in
    let c : next_record cfg s [] [] xs ≡ Some h.0 = h.1 in
    absurd cc
once cfg (r ∷ rs) (q ∷ qs) s s1 s2 xs ys zs h end g end_too =
    let same : g.0 ≡ h.0 = same_read g.0 h.0 (sym g.1 ∙ h.1) in
    let first : r ≡ q = h.2 ∙ (ap (λ (p : Read). p.0) (sym same) ∙ sym g.2) in
    let rest = subst (λ (p : Read). Reached cfg p.1 p.2 qs s2 zs) same g.3 in
    ap₂ (λ a b. a ∷ b) first (once cfg rs qs h.0.1 s1 s2 h.0.2 ys zs h.3 end rest end_too)

pub one_list_law : OneList
one_list_law = λ bytes records others h g. once default_config records others st.StartRecord h.0 g.0 (strip_bom bytes) h.1 g.1 h.2 h.3 g.2 g.3
