-- What tests of blocks tell of a toll.
use Rattle.std.proofs.Common.{◌≡◌, ◌↔◌, ℕ, ◌+◌, ◌<◌, ◌≤◌, Bool, true, false, nat_eq, List, Result, Ok, Err, length, get_or, take, All, AllPairs, IfOk, IsTrue, refl, sym, ap, ◌∙◌, subst, arith, inl, inr}
use Rattle.std.proofs.lemmas.Bool.{cases_lt, eqb-false}
use Rattle.std.proofs.lemmas.List.{get_or-take, get_or_default, length-take}
use Rattle.hw_model.specs.declared.rule.Job.{Job}
use Rattle.hw_model.specs.declared.rule.Rule.{Rule}
use Rattle.hw_model.specs.declared.rule.Rule.TheVariants as rules
use Rattle.hw_model.specs.declared.rule.Step.{Step}
use Rattle.hw_model.specs.Limits.{RuleFits}
use Rattle.hw_model.specs.Problem.{Problem}
use Rattle.hw_model.specs.Rules.{fleet_in}
use Rattle.hw_model.specs.Rooms.{RoomModel}
use Rattle.hw_model.specs.declared.memory.NoMemory.{NoMemory}
use Rattle.hw_price_laws.specs.declared.toll.Block.{Block}
use Rattle.hw_price_laws.specs.declared.toll.Toll.{Toll}
use Rattle.hw_price_laws.specs.declared.toll.Toll.TheVariants.{Narrows, Tugs}
use Rattle.hw_price_laws.specs.Tolls.{IsToll, NarrowsFit, TugsTollFits, Apart, two_blocks}
use Rattle.hw_price_laws.specs.Judged.{is_toll}
use Rattle.hw_price_laws.proofs.Judging.{judged, judges}
use Rattle.hw_price_laws.proofs.Kept.{small_fleet_in}
use Rattle.hw_price_tests.specs.Asked.{SomeRuleRefutes}

pub narrows_told : (f : Problem) (toll : Toll) (blocks given : List Block) (r : Result Bool NoMemory) → toll ≡ Narrows blocks → given ≡ blocks → IfOk r (λ yes. IsTrue yes ↔ NarrowsFit f given) → IfOk r (λ yes. IsTrue yes ↔ IsToll f toll)
narrows_told f toll blocks given r is same h =
    subst (λ t. IfOk r (λ yes. IsTrue yes ↔ IsToll f t)) (sym is) (subst (λ bs. IfOk r (λ yes. IsTrue yes ↔ NarrowsFit f bs)) same h)

-- each two of the first n blocks are apart
abbrev pub ApartBelow : Problem → List Block → ℕ → Type 0
ApartBelow f blocks n = (i j : ℕ) (d : Block) → i < j → j < n → Apart f (get_or blocks i d) (get_or blocks j d)

take_in : (n i : ℕ) (blocks : List Block) → n < length blocks → i < n → i < length (take n blocks)
take_in n i blocks lt less = omega (arith, length-take n blocks, lt, less)

pub one_more : (f : Problem) (blocks : List Block) (n : ℕ) (e : Block) → n < length blocks → All (λ first. Apart f first (get_or blocks n e)) (take n blocks) → ApartBelow f blocks n → ApartBelow f blocks (n + 1)
one_more f blocks n e lt all told = λ i j d ij jn. elim (cases_lt j n) [
  | inl below ↦ told i j d ij below
  | inr past ↦
      let same : n ≡ j = omega (arith, jn, past) in
      let less : i < n = omega (arith, ij, same) in
      let here : Apart f (get_or (take n blocks) i d) (get_or blocks n e) = all i d (take_in n i blocks lt less) in
      let first : Apart f (get_or blocks i d) (get_or blocks n e) = subst (λ b. Apart f b (get_or blocks n e)) (get_or-take n blocks i d less) here in
      let second : Apart f (get_or blocks i d) (get_or blocks n d) = subst (λ b. Apart f (get_or blocks i d) b) (get_or_default blocks n e d lt) first in
      subst (λ m. Apart f (get_or blocks i d) (get_or blocks m d)) same second
]

pub not_apart : (f : Problem) (blocks : List Block) (n : ℕ) (e : Block) (b : Bool) → n < length blocks → b ≡ false → (IsTrue b ↔ All (λ first. Apart f first (get_or blocks n e)) (take n blocks)) → AllPairs (Apart f) blocks → ⊥
not_apart f blocks n e b lt wrong means pairs = clash b wrong (means.1 (λ i d inside.
    let less : i < n = omega (arith, inside, length-take n blocks) in
    let here : Apart f (get_or blocks i d) (get_or blocks n d) = pairs i n d less lt in
    let second : Apart f (get_or blocks i d) (get_or blocks n e) = subst (λ b. Apart f (get_or blocks i d) b) (get_or_default blocks n d e lt) here in
    subst (λ b. Apart f b (get_or blocks n e)) (sym (get_or-take n blocks i d less)) second))
  where
    clash : (b : Bool) → b ≡ false → b ≡ true → ⊥
    clash true p q = cc
    clash false p q = cc

pub not_empty : (n : ℕ) (b : Bool) → b ≡ nat_eq n 0 → b ≡ false → 1 ≤ n
not_empty n b is f = above n (eqb-false n 0 (sym is ∙ f))
  where
    above : (n : ℕ) → (n ≡ 0 → ⊥) → 1 ≤ n
    above n ne = grind arith

pub tugs_told : (f : Problem) (toll : Toll) (n slot most : ℕ) (weights given : List ℕ) (r : Result Bool NoMemory) → toll ≡ Tugs n slot weights most → given ≡ weights → IfOk r (λ yes. IsTrue yes ↔ TugsTollFits f n slot given most) → IfOk r (λ yes. IsTrue yes ↔ IsToll f toll)
tugs_told f toll n slot most weights given r is same h =
    subst (λ t. IfOk r (λ yes. IsTrue yes ↔ IsToll f t)) (sym is) (subst (λ ws. IfOk r (λ yes. IsTrue yes ↔ TugsTollFits f n slot ws most)) same h)

-- an exact answer is that of the test
pub as_judged : (f : Problem) (toll : Toll) (r : Result Bool NoMemory) → IfOk r (λ yes. IsTrue yes ↔ IsToll f toll) → IfOk r (λ yes. yes ≡ is_toll f toll)
as_judged f toll (Err e) h = h
as_judged f toll (Ok b) h = same b (is_toll f toll) (λ t. judges f toll (h.0 t)) (λ t. h.1 (judged f toll t))
  where
    same : (a b : Bool) → (a ≡ true → b ≡ true) → (b ≡ true → a ≡ true) → a ≡ b
    same true b there back = sym (there refl)
    same false true there back = back refl
    same false false there back = refl

-- two blocks of ascending ships are apart where some rule refutes their room
pub apart_told : (f : Problem) (a b : Block) (room : RoomModel) (answer : Bool) → room ≡ two_blocks f a b → a.ship < b.ship → (IsTrue answer ↔ SomeRuleRefutes f room) → (IsTrue answer ↔ Apart f a b)
apart_told f a b room answer is ascends told =
    let here : IsTrue answer ↔ SomeRuleRefutes f (two_blocks f a b) = subst (λ r. IsTrue answer ↔ SomeRuleRefutes f r) is told in (
      λ t.
          let one : SomeRuleRefutes f (two_blocks f a b) = here.0 t in
          record { ascends = ascends; place = one.0; place_in = one.1; refuted = one.2 },
      λ h. here.1 (h.place, h.place_in, h.refuted),
    )

-- the fleet of a rule that fits is small in each slot
pub small_hour : (ships fleet slot n : ℕ) (rule : Rule) (later given : List Step) (jobs : List Job) → rule ≡ rules.Tugs fleet later jobs → given ≡ later → n ≡ fleet_in fleet given slot → RuleFits ships rule → n ≤ 2_560
small_hour ships fleet slot n rule later given jobs is same e fits =
    let told : RuleFits ships (rules.Tugs fleet later jobs) = subst (RuleFits ships) is fits in
    let now : n ≡ fleet_in fleet later slot = e ∙ ap (λ steps. fleet_in fleet steps slot) same in
    omega (arith, now, small_fleet_in later fleet slot told.small_fleet told.each_step)
