-- What a store that watches literals keeps.
use Rattle.std.proofs.Common.{◌≡◌, ◌≢◌, ℕ, ◌<◌, ◌≤◌, ◌||◌, ◌==◌, Bool, true, false, List, [], ◌∷◌, ◌++◌, length, take, get_or, set, refl, sym, ap, ◌∙◌, subst, arith, All, Contains, inl, inr, length-set, get_or-set_same, get_or-set_other}
use Rattle.std.proofs.lemmas.List.{get_or_default}
use Rattle.std.proofs.lemmas.List.Elements.{All-contains, All-set, Contains-append_left, Contains-append_right}
use Rattle.std.proofs.lemmas.Bool.{cases_eq, eq-eqb, or_right}
use Rattle.hw_lemmas.proofs.Truths.{neither}
use Rattle.hw_model.specs.declared.lit.Lit.{Lit}
use Rattle.hw_model.specs.declared.lit.LitTruth.TheVariants.{False, Free}
use Rattle.hw_model.specs.Lits.{IsLitOf}
use Rattle.hw_model.specs.Rooms.{RoomModel, IsRoom}
use Rattle.hw_model.specs.Narrowing.{truth, cut}
use Rattle.hw_model.specs.Replay.{QuietClause}
use Rattle.hw_store.specs.declared.store.Stored.{Stored}
use Rattle.hw_store.specs.declared.watching.Watch.{Watch}
use Rattle.hw_store.specs.declared.watching.Watch.TheVariants.{Due, One, Two}
use Rattle.hw_store.specs.Looks.{StandsBefore}
use Rattle.hw_store.specs.Numbering.{bucket, bucket_count, hits, HitsWithin}
use Rattle.hw_store.specs.Stores.{KeepsClauses}
use Rattle.hw_store.specs.Watches.{WatchModel, WatchedModel, is_hit, is_on, IsWatchOf, Watches, Listed, Shows, ShowsAll, DropsSome, GainsPlace, SiftsOne, MissedRun, KeepsBuckets, KeepsSeen, IsOpenWatch, MarksDue, GetsWatch, KeepsWatches, WatchReady}
use Rattle.hw_store.proofs.Views.{sure_quiet, two_quiet}
use Rattle.hw_store.proofs.Drops.{dropped}
use Rattle.hw_store.proofs.Cuts.{cut_sure, cut_open}
use Rattle.hw_store.proofs.Standing.{grown, forgotten}
use Rattle.hw_store.proofs.Seen.{seen_drop, seen_set}

-- ---- the watched literals are of the problem's ships

fits_watch : (ships : ℕ) (clause : List Lit) (w : Watch) → All (IsLitOf ships) clause → Watches clause w → IsWatchOf ships w
fits_watch ships clause Due h k = tt
fits_watch ships clause (One lit) h k = All-contains (IsLitOf ships) clause lit h k
fits_watch ships clause (Two a b) h k = (
  All-contains (IsLitOf ships) clause a h (subst (λ l. Contains l a) (sym k.split) (Contains-append_left k.before k.after a k.has_first)),
  All-contains (IsLitOf ships) clause b h (subst (λ l. Contains l b) (sym k.split) (Contains-append_right k.before k.after b k.has_second)),
)

pub watch_at : (s : WatchModel) (i : ℕ) → KeepsWatches s → i < length s.watched.watches → IsWatchOf s.watched.ships (get_or s.watched.watches i Due)
watch_at s i k lt =
    let inside : i < length s.held = omega (arith, lt, k.each_clause) in
    let d : Stored = record { number = 0; clause = [] } in
    fits_watch s.watched.ships (get_or s.held i d).clause (get_or s.watched.watches i Due) (k.clauses.fits i d inside) (k.watched i d inside)

-- the place of a clause has the clause, whose literals are of the problem's ships
pub clause_in : (s : WatchModel) (place : ℕ) (one : Stored) → KeepsWatches s → place < length s.watched.watches → one ≡ get_or s.held place one → Contains s.held one × All (IsLitOf s.watched.ships) one.clause
clause_in s place one k lt e =
    let inside : place < length s.held = omega (arith, lt, k.each_clause) in
    ((place, inside, sym e), subst (λ (x : Stored). All (IsLitOf s.watched.ships) x.clause) (sym e) (k.clauses.fits place one inside))

pub two_fit : (ships : ℕ) (clause : List Lit) (a b : Lit) → All (IsLitOf ships) clause → StandsBefore a b clause → IsLitOf ships a × IsLitOf ships b
two_fit ships clause a b h k = fits_watch ships clause (Two a b) h k

-- of a clause that was read, by any other default
pub stands_in : (s : WatchModel) (place : ℕ) (one : Stored) (w : Watch) → KeepsWatches s → place < length s.watched.watches → one ≡ get_or s.held place one → Watches one.clause w → (d : Stored) → Watches (get_or s.held place d).clause w
stands_in s place one w k lt e h d = subst (λ (x : Stored). Watches x.clause w) (e ∙ get_or_default s.held place one d (omega (arith, lt, k.each_clause))) h

-- ---- quiet

shown_quiet : (room : RoomModel) (clause : List Lit) (w : Watch) → w ≢ Due → Watches clause w → Shows room w → QuietClause clause room
shown_quiet room clause Due n k h = absurd (n refl)
shown_quiet room clause (One lit) n k h = sure_quiet room clause lit k h
shown_quiet room clause (Two a b) n k h = two_quiet room clause a b k h.0 h.1

-- nothing is due: every clause is quiet
pub all_quiet : (s : WatchModel) (room : RoomModel) → KeepsWatches s → WatchReady s room → ((i : ℕ) → i < length s.watched.watches → get_or s.watched.watches i Due ≢ Due) → All (λ (one : Stored). QuietClause one.clause room) s.held
all_quiet s room k r none i d lt =
    let inside : i < length s.watched.watches = omega (arith, lt, k.each_clause) in
    shown_quiet room (get_or s.held i d).clause (get_or s.watched.watches i Due) (none i inside) (k.watched i d lt) (r.1 i Due inside)

-- ---- a cut

missed : (ships slots : ℕ) (lists : List (List ℕ)) (room : RoomModel) (run : ℕ × ℕ) (i : ℕ) (lit m : Lit) (b : Bool) → HitsWithin ships slots room lit run → truth room m ≢ False → Contains (get_or lists (bucket ships slots m) []) i → ((n : ℕ) → run.0 ≤ n → n < run.1 → Contains (get_or lists n []) i → hits lit m ≡ false) → hits lit m ≡ b → hits lit m ≡ false
missed ships slots lists room run i lit m false within still c f e = e
missed ships slots lists room run i lit m true within still c f e =
    let at = within m e still in
    f (bucket ships slots m) at.0 at.1 c

cut_shows : (ships slots : ℕ) (lists : List (List ℕ)) (room : RoomModel) (run : ℕ × ℕ) (lit : Lit) (i : ℕ) (w : Watch) → IsRoom room → room.ships ≡ ships → IsLitOf ships lit → truth room lit ≡ Free → IsWatchOf ships w → HitsWithin ships slots room lit run → Listed ships slots lists i w → ((n : ℕ) → run.0 ≤ n → n < run.1 → Contains (get_or lists n []) i → is_hit lit w ≡ false) → Shows room w → Shows (cut lit room) w
cut_shows ships slots lists room run lit i Due is e of free fits within listed f h = tt
cut_shows ships slots lists room run lit i (One m) is e of free fits within listed f h = cut_sure room lit m is (subst (λ n. IsLitOf n lit) (sym e) of) (subst (λ n. IsLitOf n m) (sym e) fits) free h
cut_shows ships slots lists room run lit i (Two a b) is e of free fits within listed f h =
    let of' : IsLitOf room.ships lit = subst (λ n. IsLitOf n lit) (sym e) of in
    let one : hits lit a ≡ false = missed ships slots lists room run i lit a (hits lit a) within h.0 listed.0 (λ n x y c. (neither (hits lit a) (hits lit b) (f n x y c)).0) refl in
    let two : hits lit b ≡ false = missed ships slots lists room run i lit b (hits lit b) within h.1 listed.1 (λ n x y c. (neither (hits lit a) (hits lit b) (f n x y c)).1) refl in
    (cut_open room lit a is of' (subst (λ n. IsLitOf n a) (sym e) fits.0) free one h.0, cut_open room lit b is of' (subst (λ n. IsLitOf n b) (sym e) fits.1) free two h.1)

pub marked_shows : (s : WatchModel) (room : RoomModel) (run : ℕ × ℕ) (lit : Lit) (ws : List Watch) → KeepsWatches s → WatchReady s room → IsRoom room → IsLitOf s.watched.ships lit → truth room lit ≡ Free → DropsSome s.watched.watches ws → HitsWithin s.watched.ships s.watched.slots room lit run → MissedRun run.0 run.1 lit ws s.lists → ShowsAll (cut lit room) ws
marked_shows s room run lit ws k r is of free d within marked i e lt = subst (Shows (cut lit room)) (get_or_default ws i Due e lt) (elim (d.each i) [
  | inr due ↦ subst (Shows (cut lit room)) (sym due) tt
  | inl same ↦ (
      let inside : i < length s.watched.watches = omega (arith, lt, d.same_length) in
      subst (Shows (cut lit room)) (sym same) (cut_shows s.watched.ships s.watched.slots s.lists room run lit i (get_or s.watched.watches i Due) is r.0 of free (watch_at s i k inside) within (k.listed i inside)
      (λ n x y c. subst (λ w. is_hit lit w ≡ false) same (marked n i x y c)) (r.1 i Due inside)))
])

-- ---- changes of what is kept

-- the same under other names of the numbers
pub numbers : (P : ℕ → ℕ → Type 0) (a b c d : ℕ) → c ≡ a → d ≡ b → P a b → P c d
numbers P a b c d e f h = subst (λ n. P n d) (sym e) (subst (P a) (sym f) h)

pub keeps_marks : (s : WatchModel) (w : WatchedModel) → KeepsWatches s → MarksDue s.watched w → KeepsWatches (record s { watched = w })
keeps_marks s w k m =
    let d = m.drops in
    let by : (P : ℕ → ℕ → Type 0) → P s.watched.ships s.watched.slots → P w.ships w.slots = λ P h. numbers P s.watched.ships s.watched.slots w.ships w.slots m.same_ships m.same_slots h in
    record {
      clauses = by (λ ships slots. KeepsClauses ships s.held) k.clauses;
      each_clause = d.same_length ∙ k.each_clause;
      each_bucket = by (λ ships slots. length s.lists ≡ bucket_count ships slots) k.each_bucket;
      among = λ n place h. subst (λ x. place < x) (sym d.same_length) (k.among n place h);
      watched = λ i e lt. dropped (Watches (get_or s.held i e).clause) s.watched.watches w.watches i d tt (k.watched i e lt);
      listed = λ i lt. by (λ ships slots. Listed ships slots s.lists i (get_or w.watches i Due))
          (dropped (Listed s.watched.ships s.watched.slots s.lists i) s.watched.watches w.watches i d tt (k.listed i (subst (λ n. i < n) d.same_length lt)));
      known = forgotten s.lists s.watched.stands w.stands m.forgets k.known;
      seen = by (λ ships slots. KeepsSeen ships s.seen w.watches) (seen_drop s.watched.ships s.seen s.watched.watches w.watches k.seen d);
    }

-- a step saw another room
pub keeps_seen : (s : WatchModel) (seen : RoomModel) → KeepsWatches s → KeepsSeen s.watched.ships seen s.watched.watches → KeepsWatches (record s { seen = seen })
keeps_seen s seen k h = record {
  clauses = k.clauses;
  each_clause = k.each_clause;
  each_bucket = k.each_bucket;
  among = k.among;
  watched = k.watched;
  listed = k.listed;
  known = k.known;
  seen = h;
}

on_first : (ships slots : ℕ) (a b : Lit) → is_on ships slots (bucket ships slots a) (Two a b) ≡ true
on_first ships slots a b = ap (λ x. x || bucket ships slots b == bucket ships slots a) (eq-eqb (bucket ships slots a) (bucket ships slots a) refl)

on_second : (ships slots : ℕ) (a b : Lit) → is_on ships slots (bucket ships slots b) (Two a b) ≡ true
on_second ships slots a b = or_right (bucket ships slots a == bucket ships slots b) (bucket ships slots b == bucket ships slots b) (eq-eqb (bucket ships slots b) (bucket ships slots b) refl)

-- a place stays in the lists of the literals that its clause watches
list_stays : (ships slots at n i : ℕ) (cutting : Lit) (ws : List Watch) (old new : List (List ℕ)) → SiftsOne ships slots at cutting ws old new → is_on ships slots n (get_or ws i Due) ≡ true → Contains (get_or old n []) i → Contains (get_or new n []) i
list_stays ships slots at n i cutting ws old new f on h = elim (cases_eq n at) [
  | inl e ↦ subst (λ m. Contains (get_or new m []) i) (sym e) (f.one.stays i (subst (λ m. Contains (get_or old m []) i) e h) (subst (λ m. is_on ships slots m (get_or ws i Due) ≡ true) e on))
  | inr ne ↦ subst (λ l. Contains l i) (sym (f.others n ne)) h
]

list_only : (ships slots at n i : ℕ) (cutting : Lit) (ws : List Watch) (old new : List (List ℕ)) → SiftsOne ships slots at cutting ws old new → Contains (get_or new n []) i → Contains (get_or old n []) i
list_only ships slots at n i cutting ws old new f h = elim (cases_eq n at) [
  | inl e ↦ subst (λ m. Contains (get_or old m []) i) (sym e) (f.one.only i (subst (λ m. Contains (get_or new m []) i) e h))
  | inr ne ↦ subst (λ l. Contains l i) (f.others n ne) h
]

listed_sifts : (ships slots at i : ℕ) (cutting : Lit) (ws : List Watch) (old new : List (List ℕ)) (w : Watch) → SiftsOne ships slots at cutting ws old new → get_or ws i Due ≡ w → Listed ships slots old i w → Listed ships slots new i w
listed_sifts ships slots at i cutting ws old new Due f e h = tt
listed_sifts ships slots at i cutting ws old new (One lit) f e h = tt
listed_sifts ships slots at i cutting ws old new (Two a b) f e h = (
  list_stays ships slots at (bucket ships slots a) i cutting ws old new f (ap (is_on ships slots (bucket ships slots a)) e ∙ on_first ships slots a b) h.0,
  list_stays ships slots at (bucket ships slots b) i cutting ws old new f (ap (is_on ships slots (bucket ships slots b)) e ∙ on_second ships slots a b) h.1,
)

-- a list was gone through after a cut
pub keeps_sifts : (s : WatchModel) (at : ℕ) (cutting : Lit) (w : WatchedModel) (lists : List (List ℕ)) → KeepsWatches s → MarksDue s.watched w → SiftsOne s.watched.ships s.watched.slots at cutting w.watches s.lists lists → KeepsBuckets lists w.stands → KeepsWatches (record s { watched = w; lists = lists })
keeps_sifts s at cutting w lists k m f known =
    let h = keeps_marks s w k m in
    let g : SiftsOne w.ships w.slots at cutting w.watches s.lists lists = numbers (λ ships slots. SiftsOne ships slots at cutting w.watches s.lists lists) s.watched.ships s.watched.slots w.ships w.slots m.same_ships m.same_slots f in
    record {
      clauses = h.clauses;
      each_clause = h.each_clause;
      each_bucket = g.same_length ∙ h.each_bucket;
      among = λ n p c. h.among n p (list_only w.ships w.slots at n p cutting w.watches s.lists lists g c);
      watched = h.watched;
      listed = λ i lt. listed_sifts w.ships w.slots at i cutting w.watches s.lists lists (get_or w.watches i Due) g refl (h.listed i lt);
      known = known;
      seen = h.seen;
    }

listed_more : (ships slots place i : ℕ) (old new : List (List ℕ)) (w : Watch) → GainsPlace place old new → Listed ships slots old i w → Listed ships slots new i w
listed_more ships slots place i old new Due g h = tt
listed_more ships slots place i old new (One lit) g h = tt
listed_more ships slots place i old new (Two a b) g h = (g.kept (bucket ships slots a) i h.0, g.kept (bucket ships slots b) i h.1)

-- a place was put into a list
pub keeps_lists : (s : WatchModel) (place : ℕ) (lists : List (List ℕ)) → KeepsWatches s → GainsPlace place s.lists lists → place < length s.watched.watches → KeepsWatches (record s { lists = lists })
keeps_lists s place lists k g lt = record {
  clauses = k.clauses;
  each_clause = k.each_clause;
  each_bucket = g.same_length ∙ k.each_bucket;
  among = λ n p h. elim (g.only n p h) [
    | inl old ↦ k.among n p old
    | inr e ↦ subst (λ x. x < length s.watched.watches) (sym e) lt
  ];
  watched = k.watched;
  listed = λ i inside. listed_more s.watched.ships s.watched.slots place i s.lists lists (get_or s.watched.watches i Due) g (k.listed i inside);
  known = grown place s.lists lists s.watched.stands g k.known;
  seen = k.seen;
}

at_set : (P : Watch → Type 0) (ws : List Watch) (place i : ℕ) (watch : Watch) → place < length ws → (i ≡ place → P watch) → (i ≢ place → P (get_or ws i Due)) → P (get_or (set ws place watch) i Due)
at_set P ws place i watch lt here there = elim (cases_eq i place) [
  | inl q ↦ subst P (sym (ap (λ n. get_or (set ws place watch) n Due) q ∙ get_or-set_same ws place watch Due lt)) (here q)
  | inr n ↦ subst P (sym (get_or-set_other ws place i watch Due n)) (there n)
]

-- a clause got a watch
pub keeps_watch : (s : WatchModel) (place : ℕ) (watch : Watch) (w : WatchedModel) → KeepsWatches s → place < length s.watched.watches → GetsWatch place watch s.watched w → ((d : Stored) → Watches (get_or s.held place d).clause watch) → Listed s.watched.ships s.watched.slots s.lists place watch → KeepsBuckets s.lists w.stands → IsOpenWatch s.seen watch → KeepsWatches (record s { watched = w })
keeps_watch s place watch w k lt g stands listed known still =
    let by : (P : ℕ → ℕ → Type 0) → P s.watched.ships s.watched.slots → P w.ships w.slots = λ P h. numbers P s.watched.ships s.watched.slots w.ships w.slots g.same_ships g.same_slots h in
    let long : length w.watches ≡ length s.watched.watches = ap length g.watches ∙ length-set s.watched.watches place watch in
    record {
      clauses = by (λ ships slots. KeepsClauses ships s.held) k.clauses;
      each_clause = long ∙ k.each_clause;
      each_bucket = by (λ ships slots. length s.lists ≡ bucket_count ships slots) k.each_bucket;
      among = λ n p h. subst (λ x. p < x) (sym long) (k.among n p h);
      watched = λ i d inside. subst (λ (ws : List Watch). Watches (get_or s.held i d).clause (get_or ws i Due)) (sym g.watches)
          (at_set (Watches (get_or s.held i d).clause) s.watched.watches place i watch lt (λ q. subst (λ n. Watches (get_or s.held n d).clause watch) (sym q) (stands d)) (λ n. k.watched i d inside));
      listed = λ i inside. by (λ ships slots. Listed ships slots s.lists i (get_or w.watches i Due))
          (subst (λ (ws : List Watch). Listed s.watched.ships s.watched.slots s.lists i (get_or ws i Due)) (sym g.watches)
          (at_set (Listed s.watched.ships s.watched.slots s.lists i) s.watched.watches place i watch lt (λ q. subst (λ n. Listed s.watched.ships s.watched.slots s.lists n watch) (sym q) listed) (λ n. k.listed i (omega (arith, inside, long)))));
      known = known;
      seen = by (λ ships slots. KeepsSeen ships s.seen w.watches) (subst (KeepsSeen s.watched.ships s.seen) (sym g.watches) (seen_set s.watched.ships s.seen s.watched.watches place watch k.seen lt still));
    }

shows_resolve : (room : RoomModel) (ws : List Watch) (place : ℕ) (watch : Watch) → ShowsAll room ws → Shows room watch → ShowsAll room (set ws place watch)
shows_resolve room ws place watch h p = All-set (Shows room) ws place watch p h

pub watch_shows : (room : RoomModel) (place : ℕ) (watch : Watch) (old new : WatchedModel) → GetsWatch place watch old new → ShowsAll room old.watches → Shows room watch → ShowsAll room new.watches
watch_shows room place watch old new g h p = subst (ShowsAll room) (sym g.watches) (shows_resolve room old.watches place watch h p)

-- ---- as the code has it

pub of_view : (inside now : WatchModel) (P : WatchModel → Type 0) → inside ≡ now → P now → P inside
of_view inside now P e h = subst P (sym e) h

-- what a slice of a whole list was made is the list
pub written : {X : Type 0} (n : ℕ) (m rest : List X) → n ≡ length m → take n (m ++ rest) ≡ m
written n m rest e = ap (λ k. take k (m ++ rest)) e ∙ front m rest
  where
    front : {X : Type 0} (xs ys : List X) → take (length xs) (xs ++ ys) ≡ xs
    front [] ys = refl
    front (x ∷ xs) ys = ap (λ l. x ∷ l) (front xs ys)
