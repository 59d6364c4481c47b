use Rattle.std.proofs.Common.{◌≡◌, ℕ, ◌<◌, true, false, get_or, length}
use Rattle.hw_search_sources.specs.Marks.{is_place_marked}
use Rattle.hw_search_sources.proofs.marking.Marks.mark.Given as goal

abbrev pub invariant-loop-place : goal.invariant-loop-place
invariant-loop-place l = record {
  same_length : length l.self ≡ length l.initial.self;
  marked : (k : ℕ) → k < l.place-index → is_place_marked l.self (get_or l.places k 0) ≡ true;
  stays : (place : ℕ) → is_place_marked l.initial.self place ≡ true → is_place_marked l.self place ≡ true;
  only : (place : ℕ) → is_place_marked l.initial.self place ≡ false → is_place_marked l.self place ≡ true → (k : ℕ) × (k < l.place-index) × (get_or l.places k 0 ≡ place);
}
