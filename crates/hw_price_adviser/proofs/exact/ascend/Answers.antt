use Rattle.std.proofs.Common.{◌≡◌, ℕ, ◌+◌, ◌<◌, List, length, map, get_or, arith}
use Rattle.std.proofs.lemmas.List.{length-map, get_or-map}
use Rattle.hw_price_laws.specs.declared.tariff.Due.{Due}
use Rattle.hw_price_adviser.proofs.exact.ascend.Goals as goal

-- dues on ascending tolls have ascending tolls
tolls_ascend : (dues : List Due) → ((k : ℕ) (d : Due) → k + 1 < length dues → (get_or dues k d).toll < (get_or dues (k + 1) d).toll) → (k : ℕ) → k + 1 < length (map (λ (due : Due). due.toll) dues) → get_or (map (λ (due : Due). due.toll) dues) k 0 < get_or (map (λ (due : Due). due.toll) dues) (k + 1) 0
tolls_ascend dues rise k inside =
    let none : Due = record { toll = 0; price = 0 } in
    let same : length (map (λ (due : Due). due.toll) dues) ≡ length dues = length-map dues (λ (due : Due). due.toll) in
    let here = get_or-map (λ (due : Due). due.toll) dues k none 0 (omega (arith, same, inside)) in
    let next = get_or-map (λ (due : Due). due.toll) dues (k + 1) none 0 (omega (arith, same, inside)) in
    omega (arith, here, next, rise k none (omega (arith, same, inside)))

pub returns : goal.returns
returns c = record {
  value = λ _. tolls_ascend c.args.dues.now (λ k d inside. c.loop-place.invariant k d (omega (arith, inside, c.loop-place-test.false)));
}
