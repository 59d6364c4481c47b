-- The last pass of a route.
use Rattle.std.proofs.Common.{◌≡◌, ◌⊎◌, ◌≤◌, ℕ, suc, Bool, true, false, cond, List, [], ◌∷◌, length, Contains, nat_lt, refl, sym, subst, inl, inr, arith}
use Rattle.std.proofs.lemmas.Bool.{ltb-true, ltb-false}
use Rattle.hw_port.specs.declared.parts.Pass.{Pass}
use Rattle.hw_port_laws.proofs.Eachs.{Each, all_of_each}
use Rattle.hw_port_model.specs.Numbers.{whole}
use Rattle.hw_draft.specs.declared.last.LastPass.{LastPass}
use Rattle.hw_draft.specs.LastPasses.{last_pass, later_pass, made_at}
use Rattle.hw_draft.specs.Laws.{LastPassIsLast}

-- ---- the later of two passes

later_by : (b : Bool) (x y : LastPass) → nat_lt x.offset y.offset ≡ b → (x.offset ≤ (cond b y x).offset) × (y.offset ≤ (cond b y x).offset)
later_by true x y e = let lt = ltb-true x.offset y.offset e in (omega (arith, lt), omega arith)
later_by false x y e = let le = ltb-false x.offset y.offset e in (omega arith, omega (arith, le))

pub later_bounds : (x y : LastPass) → (x.offset ≤ (later_pass x y).offset) × (y.offset ≤ (later_pass x y).offset)
later_bounds x y = later_by (nat_lt x.offset y.offset) x y refl

later_is : (b : Bool) (x y : LastPass) → (cond b y x ≡ x) ⊎ (cond b y x ≡ y)
later_is true x y = inr refl
later_is false x y = inl refl

-- ---- the last pass

raised : (route : List Pass) (a b : ℕ) → a ≤ b → Each (λ pass. whole pass.offset ≤ a) route → Each (λ pass. whole pass.offset ≤ b) route
raised [] a b le each = tt
raised (pass ∷ more) a b le each = (omega (arith, le, each.0), raised more a b le each.1)

latest_each : (route : List Pass) → Each (λ pass. whole pass.offset ≤ (last_pass route).offset) route
latest_each [] = tt
latest_each (pass ∷ more) =
    let both = later_bounds (made_at pass) (last_pass more) in
    (both.0, raised more ((last_pass more).offset) ((last_pass (pass ∷ more)).offset) both.1 (latest_each more))

-- one of the passes is this one
abbrev IsAmong : List Pass → LastPass → Type 0
IsAmong route last = (pass : Pass) × Contains route pass × (made_at pass ≡ last)

here : (pass : Pass) (more : List Pass) (last : LastPass) → made_at pass ≡ last → IsAmong (pass ∷ more) last
here pass more last e = (pass, (0, omega arith, refl), e)

further : (pass : Pass) (more : List Pass) (last : LastPass) → IsAmong more last → IsAmong (pass ∷ more) last
further pass more last found = (found.0, (suc found.1.0, omega (arith, found.1.1), found.1.2), found.2)

only_by : (b : Bool) (x : LastPass) → nat_lt x.offset 0 ≡ b → cond b (record { waypoint = 0; offset = 0 }) x ≡ x
only_by true x e = let lt = ltb-true x.offset 0 e in absurd (omega (arith, lt))
only_by false x e = refl

among_one : (route : List Pass) → 1 ≤ length route → IsAmong route (last_pass route)
among_one [] le = absurd (omega (arith, le))
among_one (pass ∷ []) le = here pass [] (last_pass (pass ∷ [])) (sym (only_by (nat_lt (whole pass.offset) 0) (made_at pass) refl))
among_one (pass ∷ next ∷ more) le = elim (later_is (nat_lt (whole pass.offset) ((last_pass (next ∷ more)).offset)) (made_at pass) (last_pass (next ∷ more))) [
  | inl this ↦ here pass (next ∷ more) (last_pass (pass ∷ next ∷ more)) (sym this)
  | inr that ↦ subst (λ last. IsAmong (pass ∷ next ∷ more) last) (sym that) (further pass (next ∷ more) (last_pass (next ∷ more)) (among_one (next ∷ more) (omega arith)))
]

pub last_pass_law : LastPassIsLast
last_pass_law = λ route le. record {
  among = among_one route le;
  latest = all_of_each (λ pass. whole pass.offset ≤ (last_pass route).offset) route (latest_each route);
}
