-- Clauses in one list of literals: found by number, one less, one more.
use Rattle.std.proofs.Common.{◌≡◌, ◌≢◌, ℕ, zero, suc, ◌+◌, ◌-◌, ◌<◌, ◌≤◌, ◌==◌, Bool, true, false, not, ◌||◌, cond, List, [], ◌∷◌, ◌++◌, Option, Some, None, length, get_or, set, take, drop, find, option_map, All, refl, sym, ap, ◌∙◌, arith, append-nil, length-drop}
use Rattle.std.specs.List.{cons_option}
use Rattle.std.proofs.lemmas.Bool.{eq-eqb, ne_eqb}
use Rattle.std.proofs.lemmas.List.{take-append-le, drop-append-le, length-take}
use Rattle.std.proofs.lemmas.List.Elements.{All-head, All-tail, filter_map-append}
use Rattle.std.proofs.lemmas.List.Sums.{sum_by-cons, sum_by-append}
use Rattle.std.proofs.Math.Seq.{take-append_seam, drop-append_seam}
use Rattle.hw_model.specs.declared.lit.Lit.{Lit}
use Rattle.hw_cert_lines.specs.Kept.{NumberedClause, clause_under, without}
use Rattle.hw_check.specs.declared.place.Place.{Place}
use Rattle.hw_check.specs.States.{literals}
use Rattle.hw_check.specs.Places.{lits_at, clause_at_place, clauses_at, new_place, PlaceFits, PlacesAscend, NoneHas, StandsAt}

-- the clause at a place, dead or live
abbrev pub whole_at : List Lit → Place → NumberedClause
whole_at lits place = record { id = place.id; clause = lits_at lits place }

-- ---- found by number

hits : (one : NumberedClause) (rest : List NumberedClause) (id : ℕ) → (one.id == id) ≡ true → clause_under (one ∷ rest) id ≡ Some one.clause
hits one rest id e = ap (λ b. option_map (λ (x : NumberedClause). x.clause) (cond b (Some one) (find (λ (x : NumberedClause). x.id == id) rest))) e

passes : (one : NumberedClause) (rest : List NumberedClause) (id : ℕ) → (one.id == id) ≡ false → clause_under (one ∷ rest) id ≡ clause_under rest id
passes one rest id e = ap (λ b. option_map (λ (x : NumberedClause). x.clause) (cond b (Some one) (find (λ (x : NumberedClause). x.id == id) rest))) e

skipped : (b : Bool) (one : NumberedClause) (rest : List NumberedClause) (id : ℕ) → (one.id == id) ≡ false → clause_under (cons_option (cond b (Some one) None) rest) id ≡ clause_under rest id
skipped true one rest id e = passes one rest id e
skipped false one rest id e = refl

pub ascends_tail : (p : Place) (ps : List Place) → PlacesAscend (p ∷ ps) → PlacesAscend ps
ascends_tail p ps up = λ i j d lt within. up (suc i) (suc j) d (omega (arith, lt)) (omega (arith, within))

-- the numbers after the first one are greater
none_later : (p : Place) (ps : List Place) (id : ℕ) → PlacesAscend (p ∷ ps) → p.id ≡ id → NoneHas ps id
none_later p ps id up e = λ k d lt same. omega (arith, e, same, up 0 (suc k) d (omega arith) (omega (arith, lt)))

first_less : (p : Place) (ps : List Place) (i : ℕ) (d : Place) → PlacesAscend (p ∷ ps) → i < length ps → p.id < (get_or ps i d).id
first_less p ps i d up lt = up 0 (suc i) d (omega arith) (omega (arith, lt))

pub none_under : (lits : List Lit) (places : List Place) (id : ℕ) → NoneHas places id → clause_under (clauses_at lits places) id ≡ None
none_under lits [] id none = refl
none_under lits (p ∷ ps) id none =
    skipped p.is_live (whole_at lits p) (clauses_at lits ps) id (ne_eqb p.id id (All-head (λ place. place.id ≢ id) p ps none))
    ∙ none_under lits ps id (All-tail (λ place. place.id ≢ id) p ps none)

pub found_at : (lits : List Lit) (places : List Place) (id i : ℕ) (d : Place) → PlacesAscend places → i < length places → (get_or places i d).id ≡ id → clause_under (clauses_at lits places) id ≡ option_map (λ one. one.clause) (clause_at_place lits (get_or places i d))
found_at lits [] id i d up lt e = absurd (omega (arith, lt))
found_at lits (p ∷ ps) id zero d up lt e = here p.is_live
  where
    here : (b : Bool) → clause_under (cons_option (cond b (Some (whole_at lits p)) None) (clauses_at lits ps)) id ≡ option_map (λ (one : NumberedClause). one.clause) (cond b (Some (whole_at lits p)) None)
    here true = hits (whole_at lits p) (clauses_at lits ps) id (eq-eqb p.id id e)
    here false = none_under lits ps id (none_later p ps id up e)
found_at lits (p ∷ ps) id (suc i) d up lt e =
    skipped p.is_live (whole_at lits p) (clauses_at lits ps) id (ne_eqb p.id id (λ same. omega (arith, same, e, first_less p ps i d up (omega (arith, lt)))))
    ∙ found_at lits ps id i d (ascends_tail p ps up) (omega (arith, lt)) e

-- by the place that was read there
abbrev pub IsRead : List Place → ℕ → Place → Type 0
IsRead places i p = p ≡ get_or places i p

pub live_under : (lits : List Lit) (places : List Place) (id i : ℕ) (p : Place) → PlacesAscend places → StandsAt places id i → IsRead places i p → p.is_live ≡ true → clause_under (clauses_at lits places) id ≡ Some (lits_at lits p)
live_under lits places id i p up stands read live =
    found_at lits places id i p up stands.in_list (stands.has_number p)
    ∙ ap (λ q. option_map (λ (one : NumberedClause). one.clause) (clause_at_place lits q)) (sym read)
    ∙ ap (λ b. option_map (λ (one : NumberedClause). one.clause) (cond b (Some (whole_at lits p)) None)) live

pub dead_under : (lits : List Lit) (places : List Place) (id i : ℕ) (p : Place) → PlacesAscend places → StandsAt places id i → IsRead places i p → p.is_live ≡ false → clause_under (clauses_at lits places) id ≡ None
dead_under lits places id i p up stands read is_dead =
    found_at lits places id i p up stands.in_list (stands.has_number p)
    ∙ ap (λ q. option_map (λ (one : NumberedClause). one.clause) (clause_at_place lits q)) (sym read)
    ∙ ap (λ b. option_map (λ (one : NumberedClause). one.clause) (cond b (Some (whole_at lits p)) None)) is_dead

-- ---- one less

drops : (one : NumberedClause) (rest : List NumberedClause) (id : ℕ) → (id == one.id) ≡ true → without (id ∷ []) (one ∷ rest) ≡ without (id ∷ []) rest
drops one rest id e = ap (λ b. cond (not (b || false)) (one ∷ without (id ∷ []) rest) (without (id ∷ []) rest)) e

keeps : (one : NumberedClause) (rest : List NumberedClause) (id : ℕ) → (id == one.id) ≡ false → without (id ∷ []) (one ∷ rest) ≡ one ∷ without (id ∷ []) rest
keeps one rest id e = ap (λ b. cond (not (b || false)) (one ∷ without (id ∷ []) rest) (without (id ∷ []) rest)) e

keeps_any : (b : Bool) (one : NumberedClause) (rest : List NumberedClause) (id : ℕ) → (id == one.id) ≡ false → without (id ∷ []) (cons_option (cond b (Some one) None) rest) ≡ cons_option (cond b (Some one) None) (without (id ∷ []) rest)
keeps_any true one rest id e = keeps one rest id e
keeps_any false one rest id e = refl

drops_any : (b : Bool) (one : NumberedClause) (rest : List NumberedClause) (id : ℕ) → (id == one.id) ≡ true → without (id ∷ []) (cons_option (cond b (Some one) None) rest) ≡ without (id ∷ []) rest
drops_any true one rest id e = drops one rest id e
drops_any false one rest id e = refl

pub none_gone : (lits : List Lit) (places : List Place) (id : ℕ) → NoneHas places id → without (id ∷ []) (clauses_at lits places) ≡ clauses_at lits places
none_gone lits [] id none = refl
none_gone lits (p ∷ ps) id none =
    keeps_any p.is_live (whole_at lits p) (clauses_at lits ps) id (ne_eqb id p.id (λ e. All-head (λ place. place.id ≢ id) p ps none (sym e)))
    ∙ ap (cons_option (clause_at_place lits p)) (none_gone lits ps id (All-tail (λ place. place.id ≢ id) p ps none))

dead_none : (lits : List Lit) (p : Place) (rest : List NumberedClause) → p.is_live ≡ false → cons_option (clause_at_place lits p) rest ≡ rest
dead_none lits p rest e = ap (λ b. cons_option (cond b (Some (whole_at lits p)) None) rest) e

live_some : (lits : List Lit) (p : Place) (rest : List NumberedClause) → p.is_live ≡ true → cons_option (clause_at_place lits p) rest ≡ whole_at lits p ∷ rest
live_some lits p rest e = ap (λ b. cons_option (cond b (Some (whole_at lits p)) None) rest) e

-- a dead place in the place of one
pub removed_at : (lits : List Lit) (places : List Place) (id i : ℕ) (d dead : Place) → PlacesAscend places → i < length places → (get_or places i d).id ≡ id → dead.is_live ≡ false → clauses_at lits (set places i dead) ≡ without (id ∷ []) (clauses_at lits places)
removed_at lits [] id i d dead up lt e is_dead = absurd (omega (arith, lt))
removed_at lits (p ∷ ps) id zero d dead up lt e is_dead =
    dead_none lits dead (clauses_at lits ps) is_dead
    ∙ sym (none_gone lits ps id (none_later p ps id up e))
    ∙ sym (drops_any p.is_live (whole_at lits p) (clauses_at lits ps) id (eq-eqb id p.id (sym e)))
removed_at lits (p ∷ ps) id (suc i) d dead up lt e is_dead =
    ap (cons_option (clause_at_place lits p)) (removed_at lits ps id i d dead (ascends_tail p ps up) (omega (arith, lt)) e is_dead)
    ∙ sym (keeps_any p.is_live (whole_at lits p) (clauses_at lits ps) id (ne_eqb id p.id (λ same. omega (arith, same, e, first_less p ps i d up (omega (arith, lt))))))

-- where it is dead already, nothing goes
pub dead_already : (lits : List Lit) (places : List Place) (id i : ℕ) (d : Place) → PlacesAscend places → i < length places → (get_or places i d).id ≡ id → (get_or places i d).is_live ≡ false → without (id ∷ []) (clauses_at lits places) ≡ clauses_at lits places
dead_already lits [] id i d up lt e is_dead = absurd (omega (arith, lt))
dead_already lits (p ∷ ps) id zero d up lt e is_dead =
    drops_any p.is_live (whole_at lits p) (clauses_at lits ps) id (eq-eqb id p.id (sym e))
    ∙ none_gone lits ps id (none_later p ps id up e)
    ∙ sym (dead_none lits p (clauses_at lits ps) is_dead)
dead_already lits (p ∷ ps) id (suc i) d up lt e is_dead =
    keeps_any p.is_live (whole_at lits p) (clauses_at lits ps) id (ne_eqb id p.id (λ same. omega (arith, same, e, first_less p ps i d up (omega (arith, lt)))))
    ∙ ap (cons_option (clause_at_place lits p)) (dead_already lits ps id i d (ascends_tail p ps up) (omega (arith, lt)) e is_dead)

pub dead_now : (lits : List Lit) (places : List Place) (id i : ℕ) (p : Place) → PlacesAscend places → StandsAt places id i → IsRead places i p → p.is_live ≡ false → without (id ∷ []) (clauses_at lits places) ≡ clauses_at lits places
dead_now lits places id i p up stands read is_dead = dead_already lits places id i p up stands.in_list (stands.has_number p) (ap (λ (q : Place). q.is_live) (sym read) ∙ is_dead)

-- ---- how many, and with how many literals

length_any : (o : Option NumberedClause) (xs ys : List NumberedClause) → length xs + 1 ≡ length ys → length (cons_option o xs) + 1 ≡ length (cons_option o ys)
length_any None xs ys e = e
length_any (Some one) xs ys e = omega (arith, e)

pub one_less : (lits : List Lit) (places : List Place) (i : ℕ) (d dead : Place) → i < length places → (get_or places i d).is_live ≡ true → dead.is_live ≡ false → length (clauses_at lits (set places i dead)) + 1 ≡ length (clauses_at lits places)
one_less lits [] i d dead lt live is_dead = absurd (omega (arith, lt))
one_less lits (p ∷ ps) zero d dead lt live is_dead =
    ap (λ xs. length xs + 1) (dead_none lits dead (clauses_at lits ps) is_dead) ∙ more (clauses_at lits ps) ∙ sym (ap length (live_some lits p (clauses_at lits ps) live))
  where
    more : (xs : List NumberedClause) → length xs + 1 ≡ length (whole_at lits p ∷ xs)
    more xs = omega arith
one_less lits (p ∷ ps) (suc i) d dead lt live is_dead = length_any (clause_at_place lits p) _ _ (one_less lits ps i d dead (omega (arith, lt)) live is_dead)

literals-cons : (one : NumberedClause) (xs : List NumberedClause) → literals (one ∷ xs) ≡ length one.clause + literals xs
literals-cons one xs = sum_by-cons (λ (x : NumberedClause). length x.clause) one xs

literals_any : (o : Option NumberedClause) (n : ℕ) (xs ys : List NumberedClause) → literals xs + n ≡ literals ys → literals (cons_option o xs) + n ≡ literals (cons_option o ys)
literals_any None n xs ys e = e
literals_any (Some one) n xs ys e = omega (arith, e, literals-cons one xs, literals-cons one ys)

pub length-lits_at : (lits : List Lit) (p : Place) → p.start + p.len ≤ length lits → length (lits_at lits p) ≡ p.len
length-lits_at lits p le = length_part lits p.start p.len le
  where
    length_part : (xs : List Lit) (a n : ℕ) → a + n ≤ length xs → length (take (a + n - a) (drop a xs)) ≡ n
    length_part xs a n le = grind (arith, length-drop, length-take)

pub literals_less : (lits : List Lit) (places : List Place) (i : ℕ) (d dead : Place) → i < length places → (get_or places i d).is_live ≡ true → dead.is_live ≡ false → PlaceFits (length lits) (get_or places i d) → literals (clauses_at lits (set places i dead)) + (get_or places i d).len ≡ literals (clauses_at lits places)
literals_less lits [] i d dead lt live is_dead fits = absurd (omega (arith, lt))
literals_less lits (p ∷ ps) zero d dead lt live is_dead fits =
    ap (λ xs. literals xs + p.len) (dead_none lits dead (clauses_at lits ps) is_dead) ∙ more ∙ sym (ap literals (live_some lits p (clauses_at lits ps) live))
  where
    more : literals (clauses_at lits ps) + p.len ≡ literals (whole_at lits p ∷ clauses_at lits ps)
    more = omega (arith, literals-cons (whole_at lits p) (clauses_at lits ps), length-lits_at lits p fits)
literals_less lits (p ∷ ps) (suc i) d dead lt live is_dead fits = literals_any (clause_at_place lits p) (get_or ps i d).len _ _ (literals_less lits ps i d dead (omega (arith, lt)) live is_dead fits)

pub clauses_few : (lits : List Lit) (places : List Place) → length (clauses_at lits places) ≤ length places
clauses_few lits [] = omega arith
clauses_few lits (p ∷ ps) = by (clause_at_place lits p) (clauses_few lits ps)
  where
    by : (o : Option NumberedClause) → length (clauses_at lits ps) ≤ length ps → length (cons_option o (clauses_at lits ps)) ≤ length (p ∷ ps)
    by None le = omega (arith, le)
    by (Some one) le = omega (arith, le)

-- ---- one more

still_there : (lits more : List Lit) (place : Place) → place.start + place.len ≤ length lits → lits_at (lits ++ more) place ≡ lits_at lits place
still_there lits more place le =
    let size : place.start + place.len - place.start ≤ length (drop place.start lits) = omega (arith, le, length-drop place.start lits) in
    ap (take (place.start + place.len - place.start)) (drop-append-le place.start lits more (omega (arith, le))) ∙ take-append-le (place.start + place.len - place.start) (drop place.start lits) more size

pub more_lits : (lits more : List Lit) (places : List Place) → All (PlaceFits (length lits)) places → clauses_at (lits ++ more) places ≡ clauses_at lits places
more_lits lits more [] all = refl
more_lits lits more (p ∷ ps) all =
    ap (λ part. cons_option (cond p.is_live (Some (record { id = p.id; clause = part })) None) (clauses_at (lits ++ more) ps)) (still_there lits more p (All-head (PlaceFits (length lits)) p ps all))
    ∙ ap (cons_option (clause_at_place lits p)) (more_lits lits more ps (All-tail (PlaceFits (length lits)) p ps all))

-- the literals after a list
back_part : (lits more : List Lit) → take (length lits + length more - length lits) (drop (length lits) (lits ++ more)) ≡ more
back_part lits more =
    let size : length lits + length more - length lits ≡ length more = omega arith in
    rw (size, drop-append_seam lits more) (ap (take (length more)) (sym (append-nil more)) ∙ take-append_seam more [])

pub pushed_at : (lits more : List Lit) (places : List Place) (id : ℕ) → All (PlaceFits (length lits)) places → clauses_at (lits ++ more) (places ++ new_place id lits more ∷ []) ≡ clauses_at lits places ++ (record { id = id; clause = more }) ∷ []
pushed_at lits more places id all =
    filter_map-append (clause_at_place (lits ++ more)) places (new_place id lits more ∷ [])
    ∙ ap (λ part. clauses_at (lits ++ more) places ++ (record { id = id; clause = part }) ∷ []) (back_part lits more)
    ∙ ap (λ xs. xs ++ (record { id = id; clause = more }) ∷ []) (more_lits lits more places all)

pub literals_push : (xs : List NumberedClause) (id : ℕ) (more : List Lit) → literals (xs ++ (record { id = id; clause = more }) ∷ []) ≡ literals xs + length more
literals_push xs id more = sum_by-append (λ (x : NumberedClause). length x.clause) xs ((record { id = id; clause = more }) ∷ []) ∙ ap (λ n. literals xs + n) (literals-cons (record { id = id; clause = more }) [] ∙ plus_none (length more))
  where
    plus_none : (n : ℕ) → n + literals [] ≡ n
    plus_none n = omega arith
