-- What a cut, and a look at the watches, leave of what is watched.
use Rattle.std.proofs.Common.{◌≡◌, ℕ, ◌<◌, List, [], length, get_or, sym, ◌∙◌, subst, All, Contains}
use Rattle.std.proofs.lemmas.List.{get_or_default}
use Rattle.hw_store.specs.Watches.{WatchedModel, WatchModel, MarksDue, KeepsWatches}
use Rattle.hw_store.specs.Numbering.{bucket_count}
use Rattle.hw_store.proofs.Keeping.{numbers}
use Rattle.hw_store.proofs.Sifting.{drops_twice}
use Rattle.hw_store.proofs.Standing.{forgets_twice}

pub marks_twice : (a b c : WatchedModel) → MarksDue a b → MarksDue b c → MarksDue a c
marks_twice a b c m n = record {
  same_ships = n.same_ships ∙ m.same_ships;
  same_slots = n.same_slots ∙ m.same_slots;
  drops = drops_twice a.watches b.watches c.watches m.drops n.drops;
  forgets = forgets_twice a.stands b.stands c.stands m.forgets n.forgets;
}

-- the places in a list that was read are those of clauses
pub list_inside : (s : WatchModel) (bucket : ℕ) (read : List ℕ) → KeepsWatches s → bucket < length s.lists → read ≡ get_or s.lists bucket read → All (λ p. p < length s.watched.watches) read
list_inside s bucket read k lt same i e inside =
    let p : ℕ = get_or read i e in
    k.among bucket p (subst (λ l. Contains l p) (same ∙ get_or_default s.lists bucket read [] lt) (i, inside, sym (get_or_default read i e p inside)))

-- the number of a bucket is below how many lists there are
pub bucket_inside : (s : WatchModel) (at ships slots : ℕ) → KeepsWatches s → ships ≡ s.watched.ships → slots ≡ s.watched.slots → at < bucket_count ships slots → at < length s.lists
bucket_inside s at ships slots k e f lt = subst (λ n. at < n) (sym k.each_bucket) (numbers (λ a b. at < bucket_count a b) ships slots s.watched.ships s.watched.slots (sym e) (sym f) lt)
