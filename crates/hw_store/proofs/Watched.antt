-- What is kept of the watches of all clauses.
use Rattle.std.proofs.Common.{◌≡◌, ℕ, ◌+◌, ◌^◌, ◌<◌, ◌≤◌, false, List, [], ◌∷◌, ◌++◌, length, get_or, set, refl, sym, ◌∙◌, arith, length-append, length-set}
use Rattle.std.proofs.lemmas.List.{get_or_default}
use Rattle.std.proofs.lemmas.List.Elements.{All-set, All-push}
use Rattle.hw_model.specs.declared.lit.Lit.{Lit}
use Rattle.hw_store.specs.declared.watching.Buckets.{Buckets}
use Rattle.hw_store.specs.declared.watching.Watch.{Watch}
use Rattle.hw_store.specs.declared.watching.Watch.TheVariants.{Due, One, Two}
use Rattle.hw_store.specs.Watches.{WatchedModel, IsWatchOf, is_one, KeepsDue, DropsSome, OnesStay, KeepsWatched, IsLastDue, nowhere}
use Rattle.hw_store.proofs.Drops.{drops_fit}
use Rattle.hw_store.proofs.Ones.{ones_drop, ones_add, ones_one, ones_other, last_not_one}
use Rattle.hw_store.proofs.Adding.{due_push}

-- watches became Due
pub keeps_dropped : (s : WatchedModel) (ones : List ℕ) (room many room' : ℕ) (ws : List Watch) (due : List ℕ) → KeepsWatched s ones room many → DropsSome s.watches ws → OnesStay s.watches ws → KeepsDue ws due room' → KeepsWatched (record s { watches = ws; due = due }) ones room' many
keeps_dropped s ones room many room' ws due k d stay q = record {
  fits = drops_fit s.ships s.watches ws d k.fits;
  beside = k.beside ∙ sym d.same_length;
  due = q;
  ones = ones_drop s.watches ws ones k.ones d stay;
  reserved = omega (arith, d.same_length, k.reserved);
}

-- one more clause is due
pub keeps_one_more : (s : WatchedModel) (ones : List ℕ) (room many room' many' : ℕ) → KeepsWatched s ones room many → length s.watches + 1 ≤ room' → length s.watches + 1 ≤ many' → length s.watches + 1 ≤ 2 ^ 32
    → KeepsWatched (record s { watches = s.watches ++ Due ∷ []; stands = s.stands ++ nowhere ∷ []; due = s.due ++ length s.watches ∷ [] }) ones room' many'
keeps_one_more s ones room many room' many' k long_due wide small =
    let long = length-append s.watches (Due ∷ []) in
    record {
      fits = All-push (IsWatchOf s.ships) s.watches Due k.fits tt;
      beside = omega (arith, long, length-append s.stands (nowhere ∷ []), k.beside);
      due = due_push s.watches s.due room room' k.due long_due small;
      ones = ones_add s.watches ones k.ones;
      reserved = omega (arith, long, wide);
    }

-- the next due clause has no watched literal
pub last_is_due : (s : WatchedModel) (ones : List ℕ) (room many place : ℕ) → KeepsWatched s ones room many → IsLastDue s place → is_one (get_or s.watches place Due) ≡ false
last_is_due s ones room many place k l = last_not_one s.watches s.due room place place k.due l.some l.last

-- it got one watched literal
pub keeps_one : (s : WatchedModel) (ones : List ℕ) (room many room' place : ℕ) (lit : Lit) (due : List ℕ) → KeepsWatched s ones room many → IsLastDue s place → IsWatchOf s.ships (One lit) → KeepsDue (set s.watches place (One lit)) due room' → KeepsWatched (record s { watches = set s.watches place (One lit); due = due }) (ones ++ place ∷ []) room' many
keeps_one s ones room many room' place lit due k l fits q =
    let long = length-set s.watches place (One lit) in
    record {
      fits = All-set (IsWatchOf s.ships) s.watches place (One lit) fits k.fits;
      beside = k.beside ∙ sym long;
      due = q;
      ones = ones_one s.watches ones place lit k.ones l.inside (last_is_due s ones room many place k l);
      reserved = omega (arith, long, k.reserved);
    }

-- it got two
pub keeps_two : (s : WatchedModel) (ones : List ℕ) (room many room' place : ℕ) (a b : Lit) (buckets : Buckets) (due : List ℕ) → KeepsWatched s ones room many → IsLastDue s place → IsWatchOf s.ships (Two a b) → KeepsDue (set s.watches place (Two a b)) due room'
    → KeepsWatched (record s { watches = set s.watches place (Two a b); stands = set s.stands place buckets; due = due }) ones room' many
keeps_two s ones room many room' place a b buckets due k l fits q =
    let long = length-set s.watches place (Two a b) in
    record {
      fits = All-set (IsWatchOf s.ships) s.watches place (Two a b) fits k.fits;
      beside = length-set s.stands place buckets ∙ k.beside ∙ sym long;
      due = q;
      ones = ones_other s.watches ones place (Two a b) k.ones l.inside (last_is_due s ones room many place k l) refl;
      reserved = omega (arith, long, k.reserved);
    }

-- a watch that was read, by the default of the definitions
pub read_at : (ws : List Watch) (place : ℕ) (watch : Watch) → place < length ws → watch ≡ get_or ws place watch → watch ≡ get_or ws place Due
read_at ws place watch lt e = e ∙ get_or_default ws place watch Due lt
