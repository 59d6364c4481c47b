-- What a search finds among places by ascending numbers.
use Rattle.std.proofs.Common.{◌≡◌, ℕ, ◌≤◌, ◌<◌, false, List, length, get_or, Ok, Err, sym, ap, arith, inl, inr}
use Rattle.std.specs.List.Sorted.{IsSearchInRange, IsBinarySearchResult, IsNonDecreasingBy}
use Rattle.std.specs.Ordering.{nat_cmp, ordering_index}
use Rattle.std.proofs.lemmas.Bool.{cases_lt}
use Rattle.std.proofs.lemmas.Cmp.{ranked}
use Rattle.std.proofs.lemmas.List.Sorted.{IsNonDecreasingBy-from_default}
use Rattle.std.proofs.lemmas.Bool.Decides.{nat_tests}
use Rattle.hw_check.specs.declared.place.Place.{Place}
use Rattle.hw_check.specs.Places.{PlacesAscend, NoneHas, StandsAt}

nowhere : Place
nowhere = record { id = 0; start = 0; len = 0; is_live = false }

rising : (places : List Place) (i j : ℕ) → PlacesAscend places → i ≤ j → j < length places → (get_or places i nowhere).id ≤ (get_or places j nowhere).id
rising places i j up le lt = elim (cases_lt i j) [
  | inl less ↦ omega (arith, up i j nowhere less lt)
  | inr more ↦
      let same : i ≡ j = omega (arith, le, more) in
      omega (arith, ap (λ k. (get_or places k nowhere).id) same)
]

module _ (places : List Place) (up : PlacesAscend places) (id : ℕ) where
  -- the comparisons with the number rise along the list
  comparisons_rise : IsNonDecreasingBy (λ place. ordering_index (nat_cmp place.id id)) places
  comparisons_rise = IsNonDecreasingBy-from_default (λ place. ordering_index (nat_cmp place.id id)) places nowhere (λ i j le lt.
      let ids : (get_or places i nowhere).id ≤ (get_or places j nowhere).id = rising places i j up le lt in
      grind (arith, nat_tests))

  pub found : (i : ℕ) → IsSearchInRange (Ok i) (length places) → IsBinarySearchResult (λ place. nat_cmp place.id id) places (Ok i) → StandsAt places id i
  found i in_range equal = record { in_list = in_range; has_number = λ d. ranked _ id _ (sym (equal d)) }

  pub absent : (i : ℕ) → IsSearchInRange (Err i) (length places) → IsBinarySearchResult (λ place. nat_cmp place.id id) places (Err i) → NoneHas places id
  absent i in_range parted = λ k d lt same. elim (cases_lt k i) [
    | inl less ↦
        let below : (get_or places k d).id < id = ranked _ id _ (sym ((parted comparisons_rise).0 k d (omega arith) less)) in
        omega (arith, below, same)
    | inr more ↦
        let above : id < (get_or places k d).id = ranked _ id _ (sym ((parted comparisons_rise).1 k d more lt)) in
        omega (arith, above, same)
  ]
