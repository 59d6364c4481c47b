-- What the type of a list of clauses keeps, through each change.
use Rattle.std.proofs.Common.{◌≡◌, ℕ, zero, suc, ◌+◌, ◌-◌, ◌<◌, ◌≤◌, ◌==◌, ◌||◌, Bool, true, false, not, cond, List, [], ◌∷◌, ◌++◌, Some, None, length, get_or, set, take, drop, map, filter, All, refl, sym, ap, ◌∙◌, arith, length-append, append_assoc, append-nil}
use Rattle.std.specs.List.{cons_option, list_any}
use Rattle.std.proofs.lemmas.List.Folds.{list_any-append}
use Rattle.std.proofs.lemmas.List.{drop_more, get_or-map, get_or_default, length-map, length-set, map_push, take_more}
use Rattle.std.proofs.lemmas.List.Elements.{All-nil, All-cons, All-append, All-set, All-filter, filter_more}
use Rattle.std.proofs.lemmas.List.Kept.{AllPairs-filter}
use Rattle.std.proofs.lemmas.List.Quantifiers.{all_pairs_push}
use Rattle.hw_model.specs.declared.lit.Lit.{Lit}
use Rattle.hw_cert_lines.specs.Kept.{NumberedClause, without}
use Rattle.hw_check.specs.declared.place.Place.{Place}
use Rattle.hw_check.specs.States.{ClauseStore, FewDeadClauses, literals}
use Rattle.hw_check.specs.Places.{lits_at, clauses_at, new_place, PlaceFits, PlacesAscend, StandsAt, IsStored, Gathers}
use Rattle.hw_check.proofs.Places.{clauses_few, pushed_at, literals_push, one_less, literals_less, removed_at, IsRead}

-- lists of the same numbers
same_number : (xs ys : List Place) (i : ℕ) (d : Place) → map (λ place. place.id) xs ≡ map (λ place. place.id) ys → i < length xs → i < length ys → (get_or xs i d).id ≡ (get_or ys i d).id
same_number xs ys i d e lx ly = sym (get_or-map (λ (place : Place). place.id) xs i d 0 lx) ∙ ap (λ ns. get_or ns i 0) e ∙ get_or-map (λ (place : Place). place.id) ys i d 0 ly

same_length : (xs ys : List Place) → map (λ place. place.id) xs ≡ map (λ place. place.id) ys → length xs ≡ length ys
same_length xs ys e = sym (length-map xs (λ (place : Place). place.id)) ∙ ap length e ∙ length-map ys (λ (place : Place). place.id)

ascends_same : (xs ys : List Place) → map (λ place. place.id) xs ≡ map (λ place. place.id) ys → PlacesAscend ys → PlacesAscend xs
ascends_same xs ys e up = λ i j d lt within.
    let size : length xs ≡ length ys = same_length xs ys e in
    let inside : j < length ys = omega (arith, size, within) in
    omega (arith, same_number xs ys i d e (omega (arith, lt, within)) (omega (arith, lt, inside)), same_number xs ys j d e within inside, up i j d lt inside)

given_same : (xs ys : List Place) (count : ℕ) → map (λ place. place.id) xs ≡ map (λ place. place.id) ys → All (λ place. place.id ≤ count) ys → All (λ place. place.id ≤ count) xs
given_same xs ys count e all = λ k d lt.
    let size : length xs ≡ length ys = same_length xs ys e in
    omega (arith, same_number xs ys k d e lt (omega (arith, size, lt)), all k d (omega (arith, size, lt)))

-- ---- one more

fit_more : (places : List Place) (a b : ℕ) → a ≤ b → All (PlaceFits a) places → All (PlaceFits b) places
fit_more places a b le all = λ k d lt. omega (arith, le, all k d lt)

pub stored_push : (lits more : List Lit) (places : List Place) (count held live_lits id : ℕ) → id ≡ count + 1 → IsStored lits places count held live_lits → IsStored (lits ++ more) (places ++ new_place id lits more ∷ []) id (held + 1) (live_lits + length more)
stored_push lits more places count held live_lits id is_next is =
    let size : length (lits ++ more) ≡ length lits + length more = length-append lits more in
    let same = pushed_at lits more places id is.fit in
    record {
      fit = All-append (PlaceFits (length (lits ++ more))) places (new_place id lits more ∷ []) (fit_more places (length lits) (length (lits ++ more)) (omega (arith, size)) is.fit) (All-cons (PlaceFits (length (lits ++ more))) (new_place id lits more) [] (omega (arith, size)) (All-nil (PlaceFits (length (lits ++ more)))));
      ascend = all_pairs_push (λ (a b : Place). a.id < b.id) places (new_place id lits more) is.ascend (λ k d lt. omega (arith, is_next, is.given k d lt));
      given = All-append (λ (place : Place). place.id ≤ id) places (new_place id lits more ∷ []) (λ k d lt. omega (arith, is_next, is.given k d lt)) (All-cons (λ (place : Place). place.id ≤ id) (new_place id lits more) [] (omega arith) (All-nil (λ (place : Place). place.id ≤ id)));
      few = omega (arith, length-append places (new_place id lits more ∷ []), is.few, is_next);
      counted = ap (λ n. n + 1) is.counted ∙ sym (ap length same ∙ length-append (clauses_at lits places) ((record { id = id; clause = more }) ∷ []));
      weighed = ap (λ n. n + length more) is.weighed ∙ sym (ap literals same ∙ literals_push (clauses_at lits places) id more);
      among = omega (arith, size, is.among);
    }

-- ---- one less

ids_set : (places : List Place) (i : ℕ) (d dead : Place) → i < length places → dead.id ≡ (get_or places i d).id → map (λ place. place.id) (set places i dead) ≡ map (λ place. place.id) places
ids_set [] i d dead lt e = refl
ids_set (p ∷ ps) zero d dead lt e = ap (λ n. n ∷ map (λ (place : Place). place.id) ps) e
ids_set (p ∷ ps) (suc i) d dead lt e = ap (λ ns. p.id ∷ ns) (ids_set ps i d dead (omega (arith, lt)) e)

pub stored_less : (lits : List Lit) (places : List Place) (count held live_lits i : ℕ) (d dead : Place) → i < length places → (get_or places i d).is_live ≡ true → dead.is_live ≡ false → dead.id ≡ (get_or places i d).id → dead.start + dead.len ≤ (get_or places i d).start + (get_or places i d).len → (less fewer : ℕ) → less + 1 ≡ held → fewer + (get_or places i d).len ≡ live_lits → IsStored lits places count held live_lits → IsStored lits (set places i dead) count less fewer
stored_less lits places count held live_lits i d dead lt live is_dead same_id ends less fewer one lits_gone is =
    let numbers = ids_set places i d dead lt same_id in
    let here : PlaceFits (length lits) (get_or places i d) = is.fit i d lt in
    record {
      fit = All-set (PlaceFits (length lits)) places i dead (omega (arith, ends, here)) is.fit;
      ascend = ascends_same (set places i dead) places numbers is.ascend;
      given = given_same (set places i dead) places count numbers is.given;
      few = omega (arith, length-set places i dead, is.few);
      counted = omega (arith, one, is.counted, one_less lits places i d dead lt live is_dead);
      weighed = omega (arith, lits_gone, is.weighed, literals_less lits places i d dead lt live is_dead here);
      among = omega (arith, lits_gone, is.among);
    }

-- a live clause is one of those that are counted
pub some_held : (lits : List Lit) (places : List Place) (count held live_lits i : ℕ) (d : Place) → i < length places → (get_or places i d).is_live ≡ true → IsStored lits places count held live_lits → (1 ≤ held) × ((get_or places i d).len ≤ live_lits)
some_held lits places count held live_lits i d lt live is =
    let p = get_or places i d in
    let dead : Place = record { id = p.id; start = p.start; len = p.len; is_live = false } in
    (omega (arith, is.counted, one_less lits places i d dead lt live refl), omega (arith, is.weighed, literals_less lits places i d dead lt live refl (is.fit i d lt)))

-- ---- moved together

pub record IsGathering (lits : List Lit) (places : List Place) (new_lits : List Lit) (new_places : List Place) (i : ℕ) : Type 0 where
  pub same : clauses_at new_lits new_places ++ clauses_at lits (drop i places) ≡ clauses_at lits places
  pub numbers : map (λ place. place.id) new_places ≡ map (λ place. place.id) (filter (λ place. place.is_live) (take i places))
  pub fit : All (PlaceFits (length new_lits)) new_places
  pub no_other : length new_places ≡ length (clauses_at new_lits new_places)
  pub no_more : length new_lits ≡ literals (clauses_at new_lits new_places)

-- a dead place is passed over
pub gathering_dead : (lits : List Lit) (places : List Place) (new_lits : List Lit) (new_places : List Place) (i : ℕ) (d : Place) → i < length places → (get_or places i d).is_live ≡ false → IsGathering lits places new_lits new_places i → IsGathering lits places new_lits new_places (i + 1)
gathering_dead lits places new_lits new_places i d lt is_dead is = record {
  same = ap (λ xs. clauses_at new_lits new_places ++ xs) (sym (ap (clauses_at lits) (drop_more places i d lt) ∙ ap (λ b. cons_option (cond b (Some (record { id = (get_or places i d).id; clause = lits_at lits (get_or places i d) })) None) (clauses_at lits (drop (i + 1) places))) is_dead)) ∙ is.same;
  numbers = is.numbers ∙ sym (ap (map (λ (place : Place). place.id)) (filter_more (λ (place : Place). place.is_live) places i d lt ∙ ap (λ b. filter (λ (place : Place). place.is_live) (take i places) ++ cond b (get_or places i d ∷ []) []) is_dead ∙ append-nil (filter (λ (place : Place). place.is_live) (take i places))));
  fit = is.fit;
  no_other = is.no_other;
  no_more = is.no_more;
}

-- a live clause is added after the others
pub gathering_live : (lits : List Lit) (places : List Place) (new_lits : List Lit) (new_places : List Place) (i : ℕ) (d : Place) → i < length places → (get_or places i d).is_live ≡ true → IsGathering lits places new_lits new_places i → IsGathering lits places (new_lits ++ lits_at lits (get_or places i d)) (new_places ++ new_place (get_or places i d).id new_lits (lits_at lits (get_or places i d)) ∷ []) (i + 1)
gathering_live lits places new_lits new_places i d lt live is =
    let p = get_or places i d in
    let part = lits_at lits p in
    let one : NumberedClause = record { id = p.id; clause = part } in
    let added = pushed_at new_lits part new_places p.id is.fit in
    let size : length (new_lits ++ part) ≡ length new_lits + length part = length-append new_lits part in
    record {
      same = ap (λ xs. xs ++ clauses_at lits (drop (i + 1) places)) added ∙ append_assoc (clauses_at new_lits new_places) (one ∷ []) (clauses_at lits (drop (i + 1) places)) ∙ ap (λ xs. clauses_at new_lits new_places ++ xs) (sym (ap (clauses_at lits) (drop_more places i d lt) ∙ ap (λ b. cons_option (cond b (Some one) None) (clauses_at lits (drop (i + 1) places))) live)) ∙ is.same;
      numbers = map_push (λ (place : Place). place.id) new_places (new_place p.id new_lits part) ∙ ap (λ ns. ns ++ p.id ∷ []) is.numbers ∙ sym (ap (map (λ (place : Place). place.id)) (filter_more (λ (place : Place). place.is_live) places i d lt ∙ ap (λ b. filter (λ (place : Place). place.is_live) (take i places) ++ cond b (p ∷ []) []) live) ∙ map_push (λ (place : Place). place.id) (filter (λ (place : Place). place.is_live) (take i places)) p);
      fit = All-append (PlaceFits (length (new_lits ++ part))) new_places (new_place p.id new_lits part ∷ []) (fit_more new_places (length new_lits) (length (new_lits ++ part)) (omega (arith, size)) is.fit) (All-cons (PlaceFits (length (new_lits ++ part))) (new_place p.id new_lits part) [] (omega (arith, size)) (All-nil (PlaceFits (length (new_lits ++ part)))));
      no_other = length-append new_places (new_place p.id new_lits part ∷ []) ∙ ap (λ n. n + 1) is.no_other ∙ sym (ap length added ∙ length-append (clauses_at new_lits new_places) (one ∷ []));
      no_more = size ∙ ap (λ n. n + length part) is.no_more ∙ sym (ap literals added ∙ literals_push (clauses_at new_lits new_places) p.id part);
    }

pub stored_gathered : (lits : List Lit) (places : List Place) (new_lits : List Lit) (new_places : List Place) (count held live_lits : ℕ) → Gathers lits places new_lits new_places → IsStored lits places count held live_lits → IsStored new_lits new_places count held live_lits
stored_gathered lits places new_lits new_places count held live_lits all is = record {
  fit = all.fit;
  ascend = ascends_same new_places (filter (λ place. place.is_live) places) all.numbers (AllPairs-filter (λ (a b : Place). a.id < b.id) (λ (place : Place). place.is_live) places is.ascend);
  given = given_same new_places (filter (λ place. place.is_live) places) count all.numbers (All-filter (λ (place : Place). place.is_live) (λ (place : Place). place.id ≤ count) places is.given);
  few = omega (arith, all.no_other, clauses_few lits places, is.few);
  counted = is.counted ∙ sym (ap length all.same);
  weighed = is.weighed ∙ sym (ap literals all.same);
  among = omega (arith, is.weighed, all.no_more);
}

-- ---- the list of clauses as it is seen

-- the live numbers are no more than the numbers given
pub held_few : (lits : List Lit) (places : List Place) (count held live_lits : ℕ) → IsStored lits places count held live_lits → held ≤ count
held_few lits places count held live_lits is = omega (arith, is.counted, clauses_few lits places, is.few)

-- no more is needed than is kept
pub needed_few : (lits : List Lit) (places : List Place) (count held live_lits : ℕ) → IsStored lits places count held live_lits → live_lits + held ≤ length lits + length places
needed_few lits places count held live_lits is = omega (arith, is.counted, clauses_few lits places, is.among)

abbrev pub seen : List Lit → List Place → ℕ → ClauseStore
seen lits places count = record { live = clauses_at lits places; next = count + 1; kept_lits = length lits; kept_places = length places }

pub pushed_store : (lits more : List Lit) (places : List Place) (count : ℕ) → All (PlaceFits (length lits)) places → seen (lits ++ more) (places ++ new_place (count + 1) lits more ∷ []) (count + 1) ≡ record { live = clauses_at lits places ++ (record { id = count + 1; clause = more }) ∷ []; next = count + 1 + 1; kept_lits = length lits + length more; kept_places = length places + 1 }
pushed_store lits more places count fit =
    let all : ClauseStore = seen (lits ++ more) (places ++ new_place (count + 1) lits more ∷ []) (count + 1) in
    let held = clauses_at lits places ++ (record { id = count + 1; clause = more }) ∷ [] in
    ap (λ xs. store xs (count + 1 + 1) (length (lits ++ more)) (length (places ++ new_place (count + 1) lits more ∷ []))) (pushed_at lits more places (count + 1) fit)
    ∙ ap (λ n. store held (count + 1 + 1) n (length (places ++ new_place (count + 1) lits more ∷ []))) (length-append lits more)
    ∙ ap (λ n. store held (count + 1 + 1) (length lits + length more) n) (length-append places (new_place (count + 1) lits more ∷ []))
  where
    store : List NumberedClause → ℕ → ℕ → ℕ → ClauseStore
    store live next kept_lits kept_places = record { live = live; next = next; kept_lits = kept_lits; kept_places = kept_places }

-- ---- deletions

without_none : (held : List NumberedClause) → without [] held ≡ held
without_none [] = refl
without_none (one ∷ held) = ap (λ xs. one ∷ xs) (without_none held)

without_more : (ids : List ℕ) (id : ℕ) (held : List NumberedClause) → without (id ∷ []) (without ids held) ≡ without (ids ++ id ∷ []) held
without_more ids id [] = refl
without_more ids id (one ∷ held) = by (list_any (λ k. k == one.id) ids) refl (without_more ids id held)
  where
    test : list_any (λ k. k == one.id) (ids ++ id ∷ []) ≡ (list_any (λ k. k == one.id) ids || ((id == one.id) || false))
    test = list_any-append (λ k. k == one.id) ids (id ∷ [])

    by : (a : Bool) → list_any (λ k. k == one.id) ids ≡ a → without (id ∷ []) (without ids held) ≡ without (ids ++ id ∷ []) held → without (id ∷ []) (without ids (one ∷ held)) ≡ without (ids ++ id ∷ []) (one ∷ held)
    by true x rest = ap (without (id ∷ [])) (ap (λ c. cond (not c) (one ∷ without ids held) (without ids held)) x) ∙ rest ∙ sym (ap (λ c. cond (not c) (one ∷ without (ids ++ id ∷ []) held) (without (ids ++ id ∷ []) held)) (test ∙ ap (λ c. c || ((id == one.id) || false)) x))
    by false x rest = ap (without (id ∷ [])) (ap (λ c. cond (not c) (one ∷ without ids held) (without ids held)) x) ∙ ap (λ xs. cond (not ((id == one.id) || false)) (one ∷ xs) xs) rest ∙ sym (ap (λ c. cond (not c) (one ∷ without (ids ++ id ∷ []) held) (without (ids ++ id ∷ []) held)) (test ∙ ap (λ c. c || ((id == one.id) || false)) x))

pub removed_none : (s : ClauseStore) → s ≡ record { live = without [] s.live; next = s.next; kept_lits = s.kept_lits; kept_places = s.kept_places }
removed_none s = ap (λ held. record { live = held; next = s.next; kept_lits = s.kept_lits; kept_places = s.kept_places }) (sym (without_none s.live))

pub removed_next : (old now new : ClauseStore) (ids : List ℕ) (i d : ℕ) → i < length ids → now ≡ record { live = without (take i ids) old.live; next = old.next; kept_lits = old.kept_lits; kept_places = old.kept_places } → new ≡ record { live = without (get_or ids i d ∷ []) now.live; next = now.next; kept_lits = now.kept_lits; kept_places = now.kept_places } → new ≡ record { live = without (take (i + 1) ids) old.live; next = old.next; kept_lits = old.kept_lits; kept_places = old.kept_places }
removed_next old now new ids i d lt before step =
    step
    ∙ ap (λ (s : ClauseStore). (record { live = without (get_or ids i d ∷ []) s.live; next = s.next; kept_lits = s.kept_lits; kept_places = s.kept_places })) before
    ∙ ap (λ held. record { live = held; next = old.next; kept_lits = old.kept_lits; kept_places = old.kept_places }) (without_more (take i ids) (get_or ids i d) old.live ∙ ap (λ ks. without ks old.live) (sym (take_more ids i d lt)))

-- a clause that isn't there
pub unchanged : (s : ClauseStore) (held : List NumberedClause) → held ≡ s.live → s ≡ record { live = held; next = s.next; kept_lits = s.kept_lits; kept_places = s.kept_places }
unchanged s held e = ap (λ xs. record { live = xs; next = s.next; kept_lits = s.kept_lits; kept_places = s.kept_places }) (sym e)

pub removed_store : (lits : List Lit) (places : List Place) (count id i : ℕ) (dead : Place) → PlacesAscend places → StandsAt places id i → dead.is_live ≡ false → seen lits (set places i dead) count ≡ record { live = without (id ∷ []) (clauses_at lits places); next = count + 1; kept_lits = length lits; kept_places = length places }
removed_store lits places count id i dead up stands is_dead =
    ap (λ xs. store xs (length (set places i dead))) (removed_at lits places id i dead dead up stands.in_list (stands.has_number dead) is_dead)
    ∙ ap (store (without (id ∷ []) (clauses_at lits places))) (length-set places i dead)
  where
    store : List NumberedClause → ℕ → ClauseStore
    store live kept_places = record { live = live; next = count + 1; kept_lits = length lits; kept_places = kept_places }

pub one_held : (lits : List Lit) (places : List Place) (count held live_lits i : ℕ) (p : Place) → i < length places → IsRead places i p → p.is_live ≡ true → IsStored lits places count held live_lits → (1 ≤ held) × (p.len ≤ live_lits)
one_held lits places count held live_lits i p lt read live is =
    let some = some_held lits places count held live_lits i p lt (ap (λ (q : Place). q.is_live) (sym read) ∙ live) is in
    (some.0, omega (arith, some.1, ap (λ (q : Place). q.len) read))

pub stored_dead : (lits : List Lit) (places : List Place) (count held live_lits i : ℕ) (p q : Place) → i < length places → IsRead places i p → IsRead places i q → p.is_live ≡ true → IsStored lits places count held live_lits → IsStored lits (set places i (record { id = q.id; start = q.start; len = q.len; is_live = false })) count (held - 1) (live_lits - p.len)
stored_dead lits places count held live_lits i p q lt read read_too live is =
    let some = one_held lits places count held live_lits i p lt read live is in
    let same : q ≡ get_or places i p = read_too ∙ get_or_default places i q p lt in
    stored_less lits places count held live_lits i p (record { id = q.id; start = q.start; len = q.len; is_live = false }) lt (ap (λ (x : Place). x.is_live) (sym read) ∙ live) refl (ap (λ (x : Place). x.id) same) (omega (arith, ap (λ (x : Place). x.start) same, ap (λ (x : Place). x.len) same)) (held - 1) (live_lits - p.len) (omega (arith, some.0)) (omega (arith, some.1, ap (λ (x : Place). x.len) read)) is

-- ---- what a checker keeps

pub bounded_push : (s : ClauseStore) (id next : ℕ) (more : List Lit) → FewDeadClauses s → FewDeadClauses (record { live = s.live ++ (record { id = id; clause = more }) ∷ []; next = next; kept_lits = s.kept_lits + length more; kept_places = s.kept_places + 1 })
bounded_push s id next more is = omega (arith, is, length-append s.live ((record { id = id; clause = more }) ∷ []), literals_push s.live id more)
