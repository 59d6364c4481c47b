-- Two watched literals of each clause, the lists of watched buckets, and the clauses that are due.
use Rattle.std.specs.Prelude.{◌≡◌, ◌≢◌, ◌⊎◌, ℕ, ◌+◌, ◌-◌, ◌^◌, ◌<◌, ◌≤◌, Bool, true, false, ◌||◌, ◌==◌, List, [], All, Contains, length, get_or, slice_set, cond, ◌∷◌, ◌++◌, ⊤, Option, Some, None}
use Rattle.hw_model.specs.declared.lit.Lit.{Lit}
use Rattle.hw_model.specs.declared.lit.LitTruth.TheVariants.{True, False}
use Rattle.hw_model.specs.Rooms.{RoomModel}
use Rattle.hw_model.specs.Narrowing.{truth}
use Rattle.hw_model.specs.Lits.{IsLitOf}
use Rattle.hw_store.specs.declared.store.Stored.{Stored}
use Rattle.hw_store.specs.declared.watching.Buckets.{Buckets}
use Rattle.hw_store.specs.declared.watching.Watch.{Watch}
use Rattle.hw_store.specs.declared.watching.Watch.TheVariants.{Due, One, Two}
use Rattle.hw_store.specs.Looks.{StandsBefore}
use Rattle.hw_store.specs.declared.watch.Next.{Next}
use Rattle.hw_store.specs.declared.watch.Next.TheVariants as nexts
use Rattle.hw_store.specs.Stores.{KeepsClauses, FindsStored}
use Rattle.hw_store.specs.Numbering.{bucket, bucket_count, hits}

-- what is watched of each clause: `watches` and `stands` have an entry for each clause, `due` has the places of the due clauses, the next one last
pub record WatchedModel : Type 0 where
  pub ships : ℕ
  pub slots : ℕ
  pub watches : List Watch
  pub stands : List Buckets
  pub due : List ℕ

-- `held` and the watches go in step; `lists` has for each bucket the places of the clauses that watch it, and maybe others; `seen` is the room of the last step, at first the whole room
pub record WatchModel : Type 0 where
  pub held : List Stored
  pub watched : WatchedModel
  pub lists : List (List ℕ)
  pub seen : RoomModel

-- ---- watched literals and a cut

-- one of two watched literals becomes False
abbrev pub is_hit : Lit → Watch → Bool
is_hit cutting Due = false
is_hit cutting (One lit) = false
is_hit cutting (Two first second) = hits cutting first || hits cutting second

-- one of two watched literals is in the bucket
abbrev pub is_on : ℕ → ℕ → ℕ → Watch → Bool
is_on ships slots place Due = false
is_on ships slots place (One lit) = false
is_on ships slots place (Two first second) = bucket ships slots first == place || bucket ships slots second == place

-- ---- watches

abbrev pub is_due : Watch → Bool
is_due Due = true
is_due (One lit) = false
is_due (Two first second) = false

abbrev pub is_one : Watch → Bool
is_one Due = false
is_one (One lit) = true
is_one (Two first second) = false

-- how many are due
abbrev pub count_due : List Watch → ℕ
count_due [] = 0
count_due (watch ∷ more) = cond (is_due watch) 1 0 + count_due more

-- how many have one literal
abbrev pub count_one : List Watch → ℕ
count_one [] = 0
count_one (watch ∷ more) = cond (is_one watch) 1 0 + count_one more

-- the watched literals are of this many ships
abbrev pub IsWatchOf : ℕ → Watch → Type 0
IsWatchOf ships Due = ⊤
IsWatchOf ships (One lit) = IsLitOf ships lit
IsWatchOf ships (Two first second) = IsLitOf ships first × IsLitOf ships second

-- the watched literals stand in the clause
abbrev pub Watches : List Lit → Watch → Type 0
Watches clause Due = ⊤
Watches clause (One lit) = Contains clause lit
Watches clause (Two first second) = StandsBefore first second clause

-- the clause's place is in the lists of both watched literals
abbrev pub Listed : ℕ → ℕ → List (List ℕ) → ℕ → Watch → Type 0
Listed ships slots lists place Due = ⊤
Listed ships slots lists place (One lit) = ⊤
Listed ships slots lists place (Two first second) = Contains (get_or lists (bucket ships slots first) []) place × Contains (get_or lists (bucket ships slots second) []) place

-- the watched literals show that the clause is quiet: one is True, or two aren't False
abbrev pub Shows : RoomModel → Watch → Type 0
Shows room Due = ⊤
Shows room (One lit) = truth room lit ≡ True
Shows room (Two first second) = (truth room first ≢ False) × (truth room second ≢ False)

abbrev pub ShowsAll : RoomModel → List Watch → Type 0
ShowsAll room watches = All (Shows room) watches

-- the same for each clause with one watched literal
abbrev pub ShowsOnes : RoomModel → List Watch → Type 0
ShowsOnes room watches = (i : ℕ) → is_one (get_or watches i Due) ≡ true → Shows room (get_or watches i Due)

-- a watch that shows its clause to be quiet stays
abbrev pub StayShown : RoomModel → List Watch → List Watch → Type 0
StayShown room old new = (i : ℕ) → Shows room (get_or old i Due) → get_or new i Due ≡ get_or old i Due

-- neither of two watched literals is False
abbrev pub IsOpenWatch : RoomModel → Watch → Type 0
IsOpenWatch room Due = ⊤
IsOpenWatch room (One lit) = ⊤
IsOpenWatch room (Two first second) = (truth room first ≢ False) × (truth room second ≢ False)

-- ---- what is kept

-- the due clauses are in `due`, which has room for all clauses
pub record KeepsDue (watches : List Watch) (due : List ℕ) (capacity : ℕ) : Type 0 where
  pub has : (i : ℕ) → i < length watches → get_or watches i Due ≡ Due → Contains due i
  pub among : All (λ i. i < length watches) due
  pub few : length due ≤ count_due watches
  pub reserved : length watches ≤ capacity
  pub small : length watches ≤ 2 ^ 32

-- the clauses with one watched literal are in `ones`
pub record KeepsOnes (watches : List Watch) (ones : List ℕ) : Type 0 where
  pub has : (i : ℕ) → is_one (get_or watches i Due) ≡ true → Contains ones i
  pub among : All (λ i. i < length watches) ones
  pub few : length ones ≤ count_one watches

-- in the room that was seen neither of two watched literals is False
pub record KeepsSeen (ships : ℕ) (seen : RoomModel) (watches : List Watch) : Type 0 where
  pub same_ships : seen.ships ≡ ships
  pub open_all : (i : ℕ) → IsOpenWatch seen (get_or watches i Due)

-- each watch stays or becomes Due
pub record DropsSome (old new : List Watch) : Type 0 where
  pub same_length : length new ≡ length old
  pub each : (i : ℕ) → (get_or new i Due ≡ get_or old i Due) ⊎ (get_or new i Due ≡ Due)

-- one watched literal stays one
pub record OnesStay (old new : List Watch) : Type 0 where
  pub each : (i : ℕ) → is_one (get_or old i Due) ≡ true → is_one (get_or new i Due) ≡ true

-- a bucket's list after a cut: no clause in it has a watch that is hit, the places of those that still watch the bucket stay, and none is new
pub record Sifted (ships slots place : ℕ) (cutting : Lit) (ws : List Watch) (old new : List ℕ) : Type 0 where
  pub missed : (p : ℕ) → Contains old p → is_hit cutting (get_or ws p Due) ≡ false
  pub stays : (p : ℕ) → Contains old p → is_on ships slots place (get_or ws p Due) ≡ true → Contains new p
  pub only : (p : ℕ) → Contains new p → Contains old p

-- one bucket's list is sifted, and the others stay
pub record SiftsOne (ships slots place : ℕ) (cutting : Lit) (ws : List Watch) (old new : List (List ℕ)) : Type 0 where
  pub same_length : length new ≡ length old
  pub others : (n : ℕ) → n ≢ place → get_or new n [] ≡ get_or old n []
  pub one : Sifted ships slots place cutting ws (get_or old place []) (get_or new place [])

-- no clause in the lists of these buckets, without the end, has a watch that the cut hits
abbrev pub MissedRun : ℕ → ℕ → Lit → List Watch → List (List ℕ) → Type 0
MissedRun first end cutting ws lists = (n p : ℕ) → first ≤ n → n < end → Contains (get_or lists n []) p → is_hit cutting (get_or ws p Due) ≡ false

-- the lists gain this place alone, and lose nothing
pub record GainsPlace (place : ℕ) (old new : List (List ℕ)) : Type 0 where
  pub same_length : length new ≡ length old
  pub kept : (s p : ℕ) → Contains (get_or old s []) p → Contains (get_or new s []) p
  pub only : (s p : ℕ) → Contains (get_or new s []) p → Contains (get_or old s []) p ⊎ (p ≡ place)

-- ---- where a clause's place is known to stand

abbrev pub is_bucket : Option ℕ → ℕ → Bool
is_bucket None n = false
is_bucket (Some bucket) n = bucket == n

abbrev pub is_among : Buckets → ℕ → Bool
is_among buckets n = is_bucket buckets.first n || is_bucket buckets.second n

abbrev pub other_bucket : Option ℕ → ℕ → Option ℕ
other_bucket None n = None
other_bucket (Some bucket) n = cond (bucket == n) None (Some bucket)

abbrev pub nowhere : Buckets
nowhere = record { first = None; second = None }

-- the place is in the lists of these buckets
abbrev pub StandsInBuckets : List (List ℕ) → ℕ → Buckets → Type 0
StandsInBuckets lists place buckets = (n : ℕ) → is_among buckets n ≡ true → Contains (get_or lists n []) place

-- the same for each clause
abbrev pub KeepsBuckets : List (List ℕ) → List Buckets → Type 0
KeepsBuckets lists stands = (i : ℕ) → StandsInBuckets lists i (get_or stands i nowhere)

-- no bucket is added
pub record Forgets (old new : List Buckets) : Type 0 where
  pub same_length : length new ≡ length old
  pub only : (i n : ℕ) → is_among (get_or new i nowhere) n ≡ true → is_among (get_or old i nowhere) n ≡ true

-- a place that left the bucket's list isn't known to stand there
pub record Leaves (bucket : ℕ) (stands : List Buckets) (old new : List ℕ) : Type 0 where
  pub each : (p : ℕ) → Contains old p → Contains new p ⊎ (is_among (get_or stands p nowhere) bucket ≡ false)

-- ---- what is watched of each clause

-- its invariant; `places` are those of the clauses with one watched literal
pub record KeepsWatched (s : WatchedModel) (places : List ℕ) (due_capacity ones_capacity : ℕ) : Type 0 where
  pub fits : All (IsWatchOf s.ships) s.watches
  pub beside : length s.stands ≡ length s.watches
  pub due : KeepsDue s.watches s.due due_capacity
  pub ones : KeepsOnes s.watches places
  pub reserved : length s.watches ≤ ones_capacity

-- nothing is watched yet
abbrev pub IsUnwatched : ℕ → ℕ → WatchedModel → Type 0
IsUnwatched ships slots s = s ≡ record { ships = ships; slots = slots; watches = []; stands = []; due = [] }

-- one more clause, which is due
pub record IsOneMore (old new : WatchedModel) : Type 0 where
  pub same_ships : new.ships ≡ old.ships
  pub same_slots : new.slots ≡ old.slots
  pub watches : new.watches ≡ old.watches ++ Due ∷ []
  pub stands : new.stands ≡ old.stands ++ nowhere ∷ []

-- some watches became Due, and some places are no longer known to stand where they stood
pub record MarksDue (old new : WatchedModel) : Type 0 where
  pub same_ships : new.ships ≡ old.ships
  pub same_slots : new.slots ≡ old.slots
  pub drops : DropsSome old.watches new.watches
  pub forgets : Forgets old.stands new.stands

-- this is the place of the next due clause
pub record IsLastDue (s : WatchedModel) (place : ℕ) : Type 0 where
  pub inside : place < length s.watches
  pub beside : place < length s.stands
  pub some : 0 < length s.due
  pub last : place ≡ get_or s.due (length s.due - 1) place

-- the place of the next due clause, or none if no clause is due
abbrev pub IsNextDue : WatchedModel → Option ℕ → Type 0
IsNextDue s None = (i : ℕ) → i < length s.watches → get_or s.watches i Due ≢ Due
IsNextDue s (Some place) = IsLastDue s place

-- the next due clause got this watch
pub record GetsWatch (place : ℕ) (watch : Watch) (old new : WatchedModel) : Type 0 where
  pub same_ships : new.ships ≡ old.ships
  pub same_slots : new.slots ≡ old.slots
  pub watches : new.watches ≡ slice_set old.watches place watch
  pub fewer : length new.due < length old.due

-- ---- what the store keeps for every room

pub record KeepsWatches (s : WatchModel) : Type 0 where
  pub clauses : KeepsClauses s.watched.ships s.held
  pub each_clause : length s.watched.watches ≡ length s.held
  pub each_bucket : length s.lists ≡ bucket_count s.watched.ships s.watched.slots
  pub among : (bucket place : ℕ) → Contains (get_or s.lists bucket []) place → place < length s.watched.watches
  pub watched : (i : ℕ) (d : Stored) → i < length s.held → Watches (get_or s.held i d).clause (get_or s.watched.watches i Due)
  pub listed : (i : ℕ) → i < length s.watched.watches → Listed s.watched.ships s.watched.slots s.lists i (get_or s.watched.watches i Due)
  pub known : KeepsBuckets s.lists s.watched.stands
  pub seen : KeepsSeen s.watched.ships s.seen s.watched.watches

-- the clauses and the room that was seen are the same
pub record SameClauses (old new : WatchModel) : Type 0 where
  pub held : new.held ≡ old.held
  pub seen : new.seen ≡ old.seen

abbrev pub watch_ships : WatchModel → ℕ
watch_ships s = s.watched.ships

abbrev pub watch_clauses : WatchModel → List Stored
watch_clauses s = s.held

-- every clause that isn't due is shown to be quiet in the room
abbrev pub WatchReady : WatchModel → RoomModel → Type 0
WatchReady s room = (room.ships ≡ s.watched.ships) × ShowsAll room s.watched.watches

-- a step is done, or fewer clauses are due
abbrev pub NextIs : WatchModel → WatchModel → RoomModel → Next → Type 0
NextIs old new room (nexts.Found found) = FindsStored old.held room found
NextIs old new room nexts.Went = length new.watched.due < length old.watched.due

-- without clauses, and ready for every room
abbrev pub IsNewWatch : ℕ → WatchModel → Type 0
IsNewWatch ships s = (s.watched.ships ≡ ships) × (s.held ≡ []) × ((room : RoomModel) → room.ships ≡ ships → WatchReady s room)
