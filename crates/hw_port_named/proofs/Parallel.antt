-- The rules of a port's flat problem and what is named for them, one beside the other.
use Rattle.std.proofs.Common.{◌≡◌, ℕ, zero, suc, ◌+◌, Bool, true, false, cond, nat_lt, ◌||◌, List, [], ◌∷◌, ◌++◌, map, filter, length, length-append, Some, slice_get, ℤ, negsuc, ◌≤ℤ◌, ◌<ℤ◌, inl, inr, refl, sym, ap, subst, ◌∙◌, arith}
use Rattle.std.proofs.lemmas.Bool.{cases_Bool, or_parts}
use Rattle.std.proofs.lemmas.Bool.Decides.{Decides-int_eq}
use Rattle.std.proofs.lemmas.Int.{ints}
use Rattle.std.proofs.lemmas.List.{length-map}
use Rattle.std.proofs.lemmas.Option.{same_Some}
use Rattle.std.specs.List.{list_any}
use Rattle.std.specs.Ordering.{int_eq}
use Rattle.hw_model.specs.declared.rule.Hole.{Hole}
use Rattle.hw_model.specs.declared.rule.Job.{Job}
use Rattle.hw_model.specs.declared.rule.Rule.{Rule}
use Rattle.hw_model.specs.declared.rule.Rule.TheVariants as rules
use Rattle.hw_port.specs.declared.parts.Stretch.{Stretch}
use Rattle.hw_port.specs.declared.parts.BerthPair.{BerthPair}
use Rattle.hw_port.specs.declared.parts.AfterPair.{AfterPair}
use Rattle.hw_port.specs.Kept.{Ascends, ShipKept, PortKept}
use Rattle.hw_port.specs.Parts.{ShipParts}
use Rattle.hw_port.specs.Whole.{Parts}
use Rattle.hw_port_model.specs.Numbers.{whole, alike, hold_of}
use Rattle.hw_port_model.specs.Flattened.{separation_hole, section_hole, holes_with, shared_holes, holes_of, pair_rule, pairs_with, pairs_from, berth_rule, after_rule, job_of, jobs_from, tug_rule, rules_of}
use Rattle.hw_port_laws.proofs.Holes.{holes_alike, holes_opposite}
use Rattle.hw_port_laws.proofs.Ships.{ship_kept}
use Rattle.hw_port_named.specs.declared.named.Named.{Named}
use Rattle.hw_port_named.specs.declared.named.Named.TheVariants.{Sections, Tugs}
use Rattle.hw_port_named.specs.Restrictions.{uses, shared_sections, sharing, separation, pair_named, named_with, named_from, berth_named, after_named, has_tugs, tugs_named, rules_named}

-- ---- lists beside each other

-- what stands in one list for a rule in another
pub data Stands (p : Parts) (named : Named) (rule : Rule) : Type 0 where
  by_separation : (v w : ℕ) (s r : ShipParts) → slice_get p.ships v ≡ Some s → slice_get p.ships w ≡ Some r → alike s r ≡ true
      → named ≡ separation p v s w r → rule ≡ rules.Pair v w (separation_hole p s r ∷ []) → Stands p named rule
  by_sections : (v w : ℕ) (s r : ShipParts) → slice_get p.ships v ≡ Some s → slice_get p.ships w ≡ Some r → alike s r ≡ false
      → named ≡ Sections v w (shared_sections s.channel r.channel) → rule ≡ rules.Pair v w (shared_holes s.channel r.channel) → Stands p named rule
  by_berth : (b : BerthPair) → named ≡ berth_named b → rule ≡ berth_rule b → Stands p named rule
  by_after : (a : AfterPair) → named ≡ after_named a → rule ≡ after_rule a → Stands p named rule
  by_tugs : (job : Job) (jobs : List Job) → jobs_from p 0 p.ships ≡ job ∷ jobs → named ≡ Tugs (whole p.fleet) → rule ≡ rules.Tugs (whole p.fleet) [] (job ∷ jobs) → Stands p named rule

abbrev pub Parallel : Parts → List Named → List Rule → Type 0
Parallel p [] [] = Unit {0}
Parallel p [] (rule ∷ more) = ⊥
Parallel p (named ∷ list) [] = ⊥
Parallel p (named ∷ list) (rule ∷ more) = Stands p named rule × Parallel p list more

joined : (p : Parts) (list : List Named) (some : List Rule) (others : List Named) (more : List Rule) → Parallel p list some → Parallel p others more → Parallel p (list ++ others) (some ++ more)
joined p [] [] others more a b = b
joined p [] (rule ∷ some) others more a b = absurd a
joined p (named ∷ list) [] others more a b = absurd a
joined p (named ∷ list) (rule ∷ some) others more a b = (a.0, joined p list some others more a.1 b)

pub same_length : (p : Parts) (list : List Named) (some : List Rule) → Parallel p list some → length list ≡ length some
same_length p [] [] a = refl
same_length p [] (rule ∷ some) a = absurd a
same_length p (named ∷ list) [] a = absurd a
same_length p (named ∷ list) (rule ∷ some) a = ap suc (same_length p list some a.1)

pub stands_at : (p : Parts) (list : List Named) (some : List Rule) (i : ℕ) (named : Named) → Parallel p list some → slice_get list i ≡ Some named → (rule : Rule) × (slice_get some i ≡ Some rule) × Stands p named rule
stands_at p [] [] i named a e = absurd cc
stands_at p [] (rule ∷ some) i named a e = absurd a
stands_at p (x ∷ list) [] i named a e = absurd a
stands_at p (x ∷ list) (rule ∷ some) zero named a e = (rule, refl, subst (λ n. Stands p n rule) (same_Some x named e) a.0)
stands_at p (x ∷ list) (rule ∷ some) (suc i) named a e = stands_at p list some i named a.1 e

-- ---- shared sections

off : (x k : ℤ) → (x ≡ k → ⊥) → int_eq x k ≡ false
off x k other = elim (cases_Bool (int_eq x k)) [
  | inl on ↦ absurd (other ((Decides-int_eq x k).0 on))
  | inr none ↦ none
]

above : (before x k : ℤ) → k ≤ℤ before → before <ℤ x → x ≡ k → ⊥
above before x k le lt e = omega (arith, ints, le, lt, e)

up_to : (before x k : ℤ) → k ≤ℤ before → before <ℤ x → k ≤ℤ x
up_to before x k le lt = omega (arith, ints, le, lt)

at_most : (x k : ℤ) → x ≡ k → k ≤ℤ x
at_most x k e = omega (arith, ints, e)

-- past a section's place no stretch is in it
none_past : (k before : ℤ) (others : List Stretch) → k ≤ℤ before → Ascends before others → (filter (λ b. int_eq b.section k) others ≡ []) × (uses others k ≡ false)
none_past k before [] le up = (refl, refl)
none_past k before (b ∷ others) le up =
    let none : int_eq b.section k ≡ false = off b.section k (above before b.section k le up.0) in
    let rest = none_past k b.section others (up_to before b.section k le up.0) up.1 in
    (rw (none, rest.0) refl, rw (none, rest.1) refl)

-- a channel has at most one stretch in a section
one_there : (k before : ℤ) (others : List Stretch) → Ascends before others → length (filter (λ b. int_eq b.section k) others) ≡ cond (uses others k) 1 0
one_there k before [] up = refl
one_there k before (b ∷ others) up = elim (cases_Bool (int_eq b.section k)) [
  | inl on ↦
      let rest = none_past k b.section others (at_most b.section k ((Decides-int_eq b.section k).0 on)) up.1 in
      rw (on, rest.0) refl
  | inr none ↦ rw none (one_there k b.section others up.1)
]

one_more : (a : Stretch) (kept : List Stretch) (holes more : List Hole) (t : Bool) → length holes ≡ cond t 1 0 → length more ≡ length (map (λ c. whole c.section) kept) → length (holes ++ more) ≡ length (map (λ c. whole c.section) (cond t (a ∷ kept) kept))
one_more a kept holes more true one rest = length-append holes more ∙ omega (arith, one, rest)
one_more a kept holes more false none rest = length-append holes more ∙ omega (arith, none, rest)

-- a hole for each shared section
pub as_many : (channel others : List Stretch) → Ascends (negsuc 0) others → length (shared_holes channel others) ≡ length (shared_sections channel others)
as_many [] others up = refl
as_many (a ∷ channel) others up =
    let one : length (holes_with a others) ≡ cond (uses others a.section) 1 0 = length-map (filter (λ b. int_eq b.section a.section) others) (section_hole a) ∙ one_there a.section (negsuc 0) others up in
    one_more a (filter (λ c. uses others c.section) channel) (holes_with a others) (shared_holes channel others) (uses others a.section) one (as_many channel others up)

-- ---- pairs

sections_stand : (p : Parts) (v w : ℕ) (s r : ShipParts) (sections : List ℕ) (holes : List Hole) → slice_get p.ships v ≡ Some s → slice_get p.ships w ≡ Some r → alike s r ≡ false → sections ≡ shared_sections s.channel r.channel → holes ≡ shared_holes s.channel r.channel → length holes ≡ length sections
    → Parallel p (sharing v w sections) (pair_rule v w holes)
sections_stand p v w s r [] [] e d opposite is are size = tt
sections_stand p v w s r [] (hole ∷ holes) e d opposite is are size = absurd (omega (arith, size))
sections_stand p v w s r (section ∷ sections) [] e d opposite is are size = absurd (omega (arith, size))
sections_stand p v w s r (section ∷ sections) (hole ∷ holes) e d opposite is are size = (by_sections v w s r e d opposite (ap (Sections v w) is) (ap (rules.Pair v w) are), tt)

pair_stands : (p : Parts) (v w : ℕ) (s r : ShipParts) → ShipKept p r → slice_get p.ships v ≡ Some s → slice_get p.ships w ≡ Some r → Parallel p (pair_named p v s w r) (pair_rule v w (holes_of p s r))
pair_stands p v w s r kept e d = elim (cases_Bool (alike s r)) [
  | inl same ↦
      let here : Parallel p (separation p v s w r ∷ []) (pair_rule v w (separation_hole p s r ∷ [])) = (by_separation v w s r e d same refl refl, tt) in
      subst (λ t. Parallel p (cond t (separation p v s w r ∷ []) (sharing v w (shared_sections s.channel r.channel))) (pair_rule v w (holes_of p s r))) (sym same) (subst (λ hs. Parallel p (separation p v s w r ∷ []) (pair_rule v w hs)) (sym (holes_alike p s r same)) here)
  | inr opposite ↦
      let here = sections_stand p v w s r (shared_sections s.channel r.channel) (shared_holes s.channel r.channel) e d opposite refl refl (as_many s.channel r.channel kept.ascends) in
      subst (λ t. Parallel p (cond t (separation p v s w r ∷ []) (sharing v w (shared_sections s.channel r.channel))) (pair_rule v w (holes_of p s r))) (sym opposite) (subst (λ hs. Parallel p (sharing v w (shared_sections s.channel r.channel)) (pair_rule v w hs)) (sym (holes_opposite p s r opposite)) here)
]

-- ships that stand in the port's list from a place on
abbrev Placed : Parts → ℕ → List ShipParts → Type 0
Placed p v ships = (i : ℕ) (s : ShipParts) → slice_get ships i ≡ Some s → slice_get p.ships (v + i) ≡ Some s

placed_first : (p : Parts) (v : ℕ) (s : ShipParts) (more : List ShipParts) → Placed p v (s ∷ more) → slice_get p.ships v ≡ Some s
placed_first p v s more at = let e : v + 0 ≡ v = omega arith in subst (λ n. slice_get p.ships n ≡ Some s) e (at 0 s refl)

placed_rest : (p : Parts) (v : ℕ) (s : ShipParts) (more : List ShipParts) → Placed p v (s ∷ more) → Placed p (v + 1) more
placed_rest p v s more at = λ i r e. let n : v + suc i ≡ v + 1 + i = omega arith in subst (λ k. slice_get p.ships k ≡ Some r) n (at (suc i) r e)

with_stand : (p : Parts) (v w : ℕ) (s : ShipParts) (ships : List ShipParts) → PortKept p → slice_get p.ships v ≡ Some s → Placed p w ships → Parallel p (named_with p v s w ships) (pairs_with p v s w ships)
with_stand p v w s [] kept e at = tt
with_stand p v w s (r ∷ ships) kept e at =
    let d = placed_first p w r ships at in
    joined p (pair_named p v s w r) (pair_rule v w (holes_of p s r)) (named_with p v s (w + 1) ships) (pairs_with p v s (w + 1) ships) (pair_stands p v w s r (ship_kept p w r kept d) e d) (with_stand p v (w + 1) s ships kept e (placed_rest p w r ships at))

from_stand : (p : Parts) (v : ℕ) (ships : List ShipParts) → PortKept p → Placed p v ships → Parallel p (named_from p v ships) (pairs_from p v ships)
from_stand p v [] kept at = tt
from_stand p v (s ∷ ships) kept at =
    joined p (named_with p v s (v + 1) ships) (pairs_with p v s (v + 1) ships) (named_from p (v + 1) ships) (pairs_from p (v + 1) ships) (with_stand p v (v + 1) s ships kept (placed_first p v s ships at) (placed_rest p v s ships at)) (from_stand p (v + 1) ships kept (placed_rest p v s ships at))

-- ---- berths and tugs

berths_stand : (p : Parts) (berths : List BerthPair) → Parallel p (map berth_named berths) (map berth_rule berths)
berths_stand p [] = tt
berths_stand p (b ∷ berths) = (by_berth b refl refl, berths_stand p berths)

afters_stand : (p : Parts) (pairs : List AfterPair) → Parallel p (map after_named pairs) (map after_rule pairs)
afters_stand p [] = tt
afters_stand p (a ∷ pairs) = (by_after a refl refl, afters_stand p pairs)

jobs_by : (p : Parts) (v : ℕ) (s : ShipParts) (more : List Job) (t : Bool) → nat_lt 0 (whole s.tugs) ≡ t → job_of p v s ++ more ≡ cond t ((record { ship = v; tugs = whole s.tugs; hold = hold_of p s }) ∷ more) more
jobs_by p v s more true e = rw e refl
jobs_by p v s more false e = rw e refl

no_jobs : (p : Parts) (v : ℕ) (ships : List ShipParts) → list_any has_tugs ships ≡ false → jobs_from p v ships ≡ []
no_jobs p v [] none = refl
no_jobs p v (s ∷ ships) none =
    let both = or_parts (has_tugs s) (list_any has_tugs ships) none in
    jobs_by p v s (jobs_from p (v + 1) ships) false both.0 ∙ no_jobs p (v + 1) ships both.1

some_jobs : (p : Parts) (v : ℕ) (ships : List ShipParts) → list_any has_tugs ships ≡ true → (job : Job) × (more : List Job) × (jobs_from p v ships ≡ job ∷ more)
some_jobs p v [] some = absurd cc
some_jobs p v (s ∷ ships) some = elim (cases_Bool (has_tugs s)) [
  | inl has ↦ (record { ship = v; tugs = whole s.tugs; hold = hold_of p s }, jobs_from p (v + 1) ships, jobs_by p v s (jobs_from p (v + 1) ships) true has)
  | inr none ↦
      let later : list_any has_tugs ships ≡ true = ap (λ t. t || list_any has_tugs ships) (sym none) ∙ some in
      let rest = some_jobs p (v + 1) ships later in
      (rest.0, rest.1, jobs_by p v s (jobs_from p (v + 1) ships) false none ∙ rest.2)
]

tugs_stand : (p : Parts) → Parallel p (tugs_named p) (tug_rule (whole p.fleet) (jobs_from p 0 p.ships))
tugs_stand p = elim (cases_Bool (list_any has_tugs p.ships)) [
  | inl some ↦
      let jobs = some_jobs p 0 p.ships some in
      let here : Parallel p (Tugs (whole p.fleet) ∷ []) (tug_rule (whole p.fleet) (jobs.0 ∷ jobs.1)) = (by_tugs jobs.0 jobs.1 jobs.2 refl refl, tt) in
      subst (λ t. Parallel p (cond t (Tugs (whole p.fleet) ∷ []) []) (tug_rule (whole p.fleet) (jobs_from p 0 p.ships))) (sym some) (subst (λ js. Parallel p (Tugs (whole p.fleet) ∷ []) (tug_rule (whole p.fleet) js)) (sym jobs.2) here)
  | inr none ↦
      let nothing : Parallel p [] (tug_rule (whole p.fleet) []) = tt in
      subst (λ t. Parallel p (cond t (Tugs (whole p.fleet) ∷ []) []) (tug_rule (whole p.fleet) (jobs_from p 0 p.ships))) (sym none) (subst (λ jobs. Parallel p [] (tug_rule (whole p.fleet) jobs)) (sym (no_jobs p 0 p.ships none)) nothing)
]

-- ---- all rules

pub rules_stand : (p : Parts) → PortKept p → Parallel p (rules_named p) (rules_of p)
rules_stand p kept =
    joined p (named_from p 0 p.ships) (pairs_from p 0 p.ships) (map berth_named p.berths ++ (map after_named p.after ++ tugs_named p)) (map berth_rule p.berths ++ (map after_rule p.after ++ tug_rule (whole p.fleet) (jobs_from p 0 p.ships)))
    (from_stand p 0 p.ships kept (λ i s e. let n : i ≡ 0 + i = omega arith in subst (λ k. slice_get p.ships k ≡ Some s) n e))
    (joined p (map berth_named p.berths) (map berth_rule p.berths) (map after_named p.after ++ tugs_named p) (map after_rule p.after ++ tug_rule (whole p.fleet) (jobs_from p 0 p.ships)) (berths_stand p p.berths)
    (joined p (map after_named p.after) (map after_rule p.after) (tugs_named p) (tug_rule (whole p.fleet) (jobs_from p 0 p.ships)) (afters_stand p p.after) (tugs_stand p)))
