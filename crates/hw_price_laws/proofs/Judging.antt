-- The test of tolls computes which are tolls of a problem.
use Rattle.std.proofs.Common.{◌≡◌, ℕ, suc, ◌≤◌, Bool, true, ◌&&◌, ◌==◌, nat_le, nat_lt, List, [], ◌∷◌, Option, None, Some, length, All, AllPairs, IsSomeAnd, refl, arith, eq-eqb}
use Rattle.std.proofs.lemmas.Bool.{ltb-true, lt-ltb, leb-true, le-leb, eqb-true, and_parts, and_from}
use Rattle.std.proofs.lemmas.List.Elements.{All-nil, All-cons, All-head, All-tail}
use Rattle.std.proofs.lemmas.List.Kept.{AllPairs-cons}
use Rattle.std.specs.List.{list_all}
use Rattle.hw_model.specs.declared.rule.Rule.{Rule}
use Rattle.hw_model.specs.declared.rule.Rule.TheVariants as rules
use Rattle.hw_model.specs.declared.source.Source.TheVariants as sources
use Rattle.hw_model.specs.Problem.{Problem, horizon}
use Rattle.hw_model.specs.RefutingComputed.{refutes}
use Rattle.hw_model_laws.proofs.Counting.{any_of_range, range_any}
use Rattle.hw_model_laws.proofs.Tested.{tested, tests}
use Rattle.hw_price_laws.specs.declared.toll.Block.{Block}
use Rattle.hw_price_laws.specs.declared.toll.Toll.{Toll}
use Rattle.hw_price_laws.specs.declared.toll.Toll.TheVariants.{Narrows, Tugs}
use Rattle.hw_price_laws.specs.Tolls.{IsToll, NarrowsFit, TugsTollFits, BlockFits, Apart, WeighsUpTo, rule_at, two_blocks}
use Rattle.hw_price_laws.specs.Judged.{is_toll, narrows_fit, tugs_fit, block_fits, are_apart, all_apart, weighs_up_to}

-- ---- tests of each element

all_from : {X : Type 0} (p : X → Bool) (P : X → Type 0) (xs : List X) → ((x : X) → p x ≡ true → P x) → list_all p xs ≡ true → All P xs
all_from p P [] each e = All-nil P
all_from p P (x ∷ xs) each e =
    let parts = and_parts (p x) (list_all p xs) e in
    All-cons P x xs (each x parts.0) (all_from p P xs each parts.1)

from_all : {X : Type 0} (p : X → Bool) (P : X → Type 0) (xs : List X) → ((x : X) → P x → p x ≡ true) → All P xs → list_all p xs ≡ true
from_all p P [] each all = refl
from_all p P (x ∷ xs) each all = and_from (p x) (list_all p xs) (each x (All-head P x xs all)) (from_all p P xs each (All-tail P x xs all))

-- ---- narrows

block_told : (f : Problem) (block : Block) → block_fits f block ≡ true → BlockFits f block
block_told f block e =
    let p = and_parts (nat_lt block.ship f.ships) _ e in
    let q = and_parts (nat_le block.low block.high) _ p.1 in
    record { ship_in = ltb-true _ _ p.0; ordered = leb-true _ _ q.0; slot_in = ltb-true _ _ q.1 }

told_block : (f : Problem) (block : Block) → BlockFits f block → block_fits f block ≡ true
told_block f block h = and_from _ _ (lt-ltb _ _ h.ship_in) (and_from _ _ (le-leb _ _ h.ordered) (lt-ltb _ _ h.slot_in))

apart_told : (f : Problem) (a b : Block) → are_apart f a b ≡ true → Apart f a b
apart_told f a b e =
    let p = and_parts (nat_lt a.ship b.ship) _ e in
    let r = any_of_range (λ place. refutes f (sources.Rule place) None (two_blocks f a b)) 0 (length f.rules) p.1 in
    record { ascends = ltb-true _ _ p.0; place = r.0; place_in = omega (arith, r.2); refuted = tested f (sources.Rule r.0) None (two_blocks f a b) r.3 }

told_apart : (f : Problem) (a b : Block) → Apart f a b → are_apart f a b ≡ true
told_apart f a b h =
    and_from _ _ (lt-ltb _ _ h.ascends)
    (range_any (λ place. refutes f (sources.Rule place) None (two_blocks f a b)) 0 (length f.rules) h.place (omega arith) (omega (arith, h.place_in)) (tests f (sources.Rule h.place) None (two_blocks f a b) h.refuted))

pairs_told : (f : Problem) (blocks : List Block) → all_apart f blocks ≡ true → AllPairs (Apart f) blocks
pairs_told f [] e = λ i j d ij inside. absurd (omega (arith, inside))
pairs_told f (b ∷ bs) e =
    let p = and_parts (list_all (are_apart f b) bs) _ e in
    AllPairs-cons (Apart f) b bs (all_from (are_apart f b) (Apart f b) bs (apart_told f b) p.0) (pairs_told f bs p.1)

told_pairs : (f : Problem) (blocks : List Block) → AllPairs (Apart f) blocks → all_apart f blocks ≡ true
told_pairs f [] h = refl
told_pairs f (b ∷ bs) h =
    and_from _ _ (from_all (are_apart f b) (Apart f b) bs (told_apart f b) (λ i d inside. h 0 (suc i) d (omega arith) (omega (arith, inside))))
    (told_pairs f bs (λ i j d ij inside. h (suc i) (suc j) d (omega (arith, ij)) (omega (arith, inside))))

narrows_told : (f : Problem) (blocks : List Block) → narrows_fit f blocks ≡ true → NarrowsFit f blocks
narrows_told f blocks e =
    let p = and_parts (nat_le 1 (length blocks) && nat_le (length blocks) 40) _ e in
    let few = and_parts (nat_le 1 (length blocks)) _ p.0 in
    let q = and_parts (list_all (block_fits f) blocks) _ p.1 in
    record { some_block = leb-true _ _ few.0; few_blocks = leb-true _ _ few.1; each_block = all_from (block_fits f) (BlockFits f) blocks (block_told f) q.0; apart = pairs_told f blocks q.1 }

told_narrows : (f : Problem) (blocks : List Block) → NarrowsFit f blocks → narrows_fit f blocks ≡ true
told_narrows f blocks h =
    and_from _ _ (and_from _ _ (le-leb _ _ h.some_block) (le-leb _ _ h.few_blocks))
    (and_from _ _ (from_all (block_fits f) (BlockFits f) blocks (told_block f) h.each_block) (told_pairs f blocks h.apart))

-- ---- tugs

weighs_told : (slot : ℕ) (weights : List ℕ) (most : ℕ) (o : Option Rule) → weighs_up_to slot weights most o ≡ true → IsSomeAnd o (WeighsUpTo slot weights most)
weighs_told slot weights most None e = absurd cc
weighs_told slot weights most (Some (rules.Pair v w holes)) e = absurd cc
weighs_told slot weights most (Some (rules.After v w gap)) e = absurd cc
weighs_told slot weights most (Some (rules.Tugs fleet later jobs)) e =
    let p = and_parts (length weights == length jobs) _ e in
    (eqb-true _ _ p.0, leb-true _ _ p.1)

told_weighs : (slot : ℕ) (weights : List ℕ) (most : ℕ) (o : Option Rule) → IsSomeAnd o (WeighsUpTo slot weights most) → weighs_up_to slot weights most o ≡ true
told_weighs slot weights most None h = absurd h
told_weighs slot weights most (Some (rules.Pair v w holes)) h = absurd h
told_weighs slot weights most (Some (rules.After v w gap)) h = absurd h
told_weighs slot weights most (Some (rules.Tugs fleet later jobs)) h = and_from _ _ (eq-eqb _ _ h.0) (le-leb _ _ h.1)

tugs_told : (f : Problem) (n slot : ℕ) (weights : List ℕ) (most : ℕ) → tugs_fit f n slot weights most ≡ true → TugsTollFits f n slot weights most
tugs_told f n slot weights most e =
    let o = and_parts (nat_le f.ships n) _ e in
    let p = and_parts (weighs_up_to slot weights most (rule_at f n)) _ o.1 in
    let q = and_parts (nat_lt slot (horizon f)) _ p.1 in
    let r = and_parts (list_all (λ weight. nat_le weight 64) weights) _ q.1 in
    record {
      past_ships = leb-true _ _ o.0;
      weighed = weighs_told slot weights most (rule_at f n) p.0;
      slot_in = ltb-true _ _ q.0;
      small_weights = all_from (λ weight. nat_le weight 64) (λ weight. weight ≤ 64) weights (λ weight s. leb-true weight 64 s) r.0;
      small_most = leb-true _ _ r.1;
    }

told_tugs : (f : Problem) (n slot : ℕ) (weights : List ℕ) (most : ℕ) → TugsTollFits f n slot weights most → tugs_fit f n slot weights most ≡ true
told_tugs f n slot weights most h =
    and_from _ _ (le-leb _ _ h.past_ships)
    (and_from _ _ (told_weighs slot weights most (rule_at f n) h.weighed)
    (and_from _ _ (lt-ltb _ _ h.slot_in)
    (and_from _ _ (from_all (λ weight. nat_le weight 64) (λ weight. weight ≤ 64) weights (λ weight s. le-leb weight 64 s) h.small_weights) (le-leb _ _ h.small_most))))

-- ---- tolls

pub judged : (f : Problem) (toll : Toll) → is_toll f toll ≡ true → IsToll f toll
judged f (Narrows blocks) e = narrows_told f blocks e
judged f (Tugs n slot weights most) e = tugs_told f n slot weights most e

pub judges : (f : Problem) (toll : Toll) → IsToll f toll → is_toll f toll ≡ true
judges f (Narrows blocks) h = told_narrows f blocks h
judges f (Tugs n slot weights most) h = told_tugs f n slot weights most h
