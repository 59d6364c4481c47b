-- Tolls, prices and bounds of a problem fit a text.
use Rattle.std.proofs.Common.{◌≡◌, ◌+◌, ◌-◌, ◌^◌, ◌≤◌, ◌<◌, nat_lt, nat_le, ℕ, suc, Bool, true, List, [], ◌∷◌, length, map, slice_index, All, refl, ◌∙◌, subst, arith}
use Rattle.std.proofs.lemmas.Bool.{lt-ltb, le-leb}
use Rattle.std.proofs.lemmas.List.Elements.{All-head, All-tail}
use Rattle.std.proofs.lemmas.List.Folds.{list_all-append}
use Rattle.std.specs.List.{list_all, flat_map}
use Rattle.std.specs.List.Sorted.{IsStrictlyIncreasing}
use Rattle.hw_model.specs.Limits.{IsFlat}
use Rattle.hw_model.specs.Problem.{Problem, shape_of}
use Rattle.hw_model_laws.proofs.Horizon.{few_slots}
use Rattle.hw_price_laws.specs.declared.toll.Block.{Block}
use Rattle.hw_price_laws.specs.Tolls.{BlockFits}
use Rattle.hw_price_laws.specs.declared.tariff.Due.{Due}
use Rattle.hw_cert.specs.Fits.{rises, block_fits_shape}
use Rattle.hw_cert.specs.Laws.{block_numbers, is_small, is_wide}
use Rattle.hw_cert.proofs.WordBytes.{both_on}
use Rattle.hw_cert.proofs.SmallNumbers.{small, two_on, ascending}

pub wide_number : (n : ℕ) → n < 2 ^ 64 → is_wide n ≡ true
wide_number n lt = le-leb n (2 ^ 64 - 1) (omega (arith, lt))

pub all_pass : {A : Type 0} (p : A → Bool) (xs : List A) → All (λ x. p x ≡ true) xs → list_all p xs ≡ true
all_pass p [] all = refl
all_pass p (x ∷ xs) all = both_on (p x) (list_all p xs) (All-head (λ y. p y ≡ true) x xs all) (all_pass p xs (All-tail (λ y. p y ≡ true) x xs all))

pub block_on : (f : Problem) (block : Block) → BlockFits f block → block_fits_shape (shape_of f) block ≡ true
block_on f block fit = both_on (nat_lt block.ship f.ships) _ (lt-ltb block.ship f.ships fit.ship_in) (both_on (nat_le block.low block.high) _ (le-leb block.low block.high fit.ordered) (lt-ltb block.high f.slots fit.slot_in))

pub risen : (ns : List ℕ) → IsStrictlyIncreasing ns → rises ns ≡ true
risen [] up = refl
risen (n ∷ ns) up = ascending n ns (λ some. up 0 (omega (arith, some))) (λ k lt. shifted k (omega (arith, lt)))
  where
    shifted : (k : ℕ) → suc k + 1 < length (n ∷ ns) → slice_index ns k < slice_index ns (k + 1)
    shifted k lt = let e : suc k + 1 ≡ suc (k + 1) = omega arith in subst (λ m. slice_index ns k < slice_index (n ∷ ns) m) e (up (suc k) lt)

pub blocks_small : (f : Problem) → IsFlat f → (blocks : List Block) → All (BlockFits f) blocks → list_all is_small (flat_map block_numbers blocks) ≡ true
blocks_small f flat [] all = refl
blocks_small f flat (block ∷ blocks) all =
    let fit = All-head (BlockFits f) block blocks all in
    let high : block.high < f.slots = fit.slot_in in
    let low : block.low ≤ block.high = fit.ordered in
    list_all-append is_small (block_numbers block) (flat_map block_numbers blocks) ∙ both_on (list_all is_small (block_numbers block)) (list_all is_small (flat_map block_numbers blocks))
    (both_on (is_small block.ship) _ (small block.ship (omega (arith, fit.ship_in, flat.few_ships))) (two_on block.low block.high (omega (arith, low, high, few_slots f flat)) (omega (arith, high, few_slots f flat))))
    (blocks_small f flat blocks (All-tail (BlockFits f) block blocks all))

pub first_toll : (prices : List Due) → All (λ (due : Due). 0 < due.toll) prices → 0 < length (map (λ (due : Due). due.toll) prices) → 0 < slice_index (map (λ (due : Due). due.toll) prices) 0
first_toll [] all some = absurd (omega (arith, some))
first_toll (due ∷ prices) all some = All-head (λ (one : Due). 0 < one.toll) due prices all

pub tolls_small : (count : ℕ) (prices : List Due) → count ≤ 10_000 → All (λ (due : Due). due.toll ≤ count) prices → list_all is_small (map (λ (due : Due). due.toll) prices) ≡ true
tolls_small count [] few all = refl
tolls_small count (due ∷ prices) few all =
    let within : due.toll ≤ count = All-head (λ (one : Due). one.toll ≤ count) due prices all in
    both_on (is_small due.toll) _ (small due.toll (omega (arith, within, few))) (tolls_small count prices few (All-tail (λ (one : Due). one.toll ≤ count) due prices all))

pub prices_wide : (prices : List Due) → All (λ (due : Due). due.price ≤ 1_000_000_000_000_000_000) prices → list_all is_wide (map (λ (due : Due). due.price) prices) ≡ true
prices_wide [] all = refl
prices_wide (due ∷ prices) all =
    let within : due.price ≤ 1_000_000_000_000_000_000 = All-head (λ (one : Due). one.price ≤ 1_000_000_000_000_000_000) due prices all in
    both_on (is_wide due.price) _ (wide_number due.price (omega (arith, within))) (prices_wide prices (All-tail (λ (one : Due). one.price ≤ 1_000_000_000_000_000_000) due prices all))
