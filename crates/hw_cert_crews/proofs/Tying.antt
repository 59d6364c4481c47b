-- What is handed on of a valid own line is valid where it comes, and all pages stay tied.
use Rattle.std.proofs.Common.{◌≡◌, ◌⊎◌, ℕ, zero, suc, ◌+◌, ◌^◌, ◌<◌, ◌≤◌, ◌==◌, Bool, true, false, ◌||◌, cond, List, [], ◌∷◌, ◌++◌, Option, Some, None, length, get_or, map, All, IsSome, IfSome, IsSomeAnd, IsTrue, refl, sym, ap, ◌∙◌, subst, inl, inr, arith, length-append}
use Rattle.std.specs.Prelude.{Contains}
use Rattle.std.specs.List.{list_any, cons_option}
use Rattle.std.specs.List.Sorted.{IsStrictlyIncreasing}
use Rattle.std.specs.Option.{option_map_or}
use Rattle.std.proofs.lemmas.Bool.{cases_lt, eq-eqb, ne_eqb, eqb-true, ltb-true, lt-ltb, le-ltb}
use Rattle.std.proofs.lemmas.List.{length-map}
use Rattle.std.proofs.lemmas.List.Elements.{All-nil, All-cons, All-head, All-tail, All-push, All-weaker, All-map}
use Rattle.std.proofs.lemmas.List.Folds.{list_any_none}
use Rattle.hw_lemmas.proofs.Truths.{chosen}
use Rattle.hw_lemmas.proofs.Lists.{front_at}
use Rattle.hw_model.specs.declared.lit.Lit.{Lit}
use Rattle.hw_model.specs.declared.source.Source.{Source}
use Rattle.hw_model.specs.declared.source.Source.TheVariants as sources
use Rattle.hw_model.specs.Problem.{Problem}
use Rattle.hw_model.specs.Timetables.{cargo, beats}
use Rattle.hw_model.specs.Rooms.{RoomModel}
use Rattle.hw_model.specs.Refuting.{Refutes, source_of}
use Rattle.hw_model.specs.Replay.{replay}
use Rattle.hw_model_laws.proofs.Rises.{rising}
use Rattle.hw_cert_lines.specs.declared.line.Line.{Line}
use Rattle.hw_cert_lines.specs.declared.line.Line.TheVariants as lines
use Rattle.hw_cert_lines.specs.Tolled.{is_plain}
use Rattle.hw_cert_lines.specs.Lines.{clause_of, clause_count, clause_at, deletes, live, best_of, is_closed}
use Rattle.hw_cert_lines.specs.Valid.{LineFits, ValidAfter, Valid, Holds, denied_room, hinted}
use Rattle.hw_cert_lines.specs.Lemmas.{IsHinted}
use Rattle.hw_cert_lines.specs.Laws.{ClauseAdded}
use Rattle.hw_cert_lines.proofs.Pushed.{clause_added, table_added, numbers_deleted}
use Rattle.hw_cert_lines.proofs.Deleted.{live_in, valid_deletes}
use Rattle.hw_cert_lines.proofs.Live.{valid_push, live_above}
use Rattle.hw_cert_crews.specs.Pages.{Page, blank_page, shared_number, handed, AtMost, Tied, NumbersApart}
use Rattle.hw_cert_crews.specs.Laws.{Relayed, OtherKept}
use Rattle.hw_cert_crews.proofs.Numbers.{at_last, rising_push, same_number, last_number, number_holds, number_among, numbers_rise, numbers_differ, live_low, live_high, of_some}

-- ---- small facts

pub blank_tied : (f : Problem) (shared : List Line) → Tied f blank_page shared
blank_tied f shared = record {
  valid = tt;
  each = refl;
  rising = λ i j d lt in'. absurd (omega (arith, in'));
  within = λ k d lt. absurd (omega (arith, lt));
  stands = λ id clause e. absurd (omega (arith, live_low [] id clause e, live_high [] id clause e));
  best = tt;
}

own_push : (f : Problem) (own : List Line) (line : Line) → Valid f own → ValidAfter f own line → Valid f (own ++ line ∷ [])
own_push f own line valid after = valid_push f own [] line valid after

-- a best that is at most another
pub most_itself : (a : Option ℕ) → AtMost a a
most_itself None = tt
most_itself (Some a) = omega arith

rises_on : (f : Problem) (source : Source) (a b : Option ℕ) (room : RoomModel) → AtMost a b → Refutes f source a room → Refutes f source b room
rises_on f source None None room most h = h
rises_on f source None (Some b) room most h = rising f source None b room refl h
rises_on f source (Some a) None room most h = absurd most
rises_on f source (Some a) (Some b) room most h = elim (cases_lt a b) [
  | inl lt ↦ rising f source (Some a) b room (lt-ltb a b lt) h
  | inr le ↦ subst (λ c. Refutes f source (Some c) room) (let same : a ≡ b = omega (arith, most, le) in same) h
]

-- ---- live clauses

live_same : {A : Type 0} (o p : Option A) → IsSome o → ((x : A) → o ≡ Some x → p ≡ Some x) → p ≡ o
live_same None p some h = absurd cc
live_same (Some x) p some h = h x refl

same_live : (f : Problem) (page : Page) (shared : List Line) (id : ℕ) → Tied f page shared → IsSome (live page.lines id) → live shared (shared_number page.numbers id) ≡ live page.lines id
same_live f page shared id t some = live_same (live page.lines id) (live shared (shared_number page.numbers id)) some (λ clause e. t.stands id clause e)

still_some : (f : Problem) (page : Page) (shared : List Line) (id : ℕ) → Tied f page shared → IsSome (live page.lines id) → IsSome (live shared (shared_number page.numbers id))
still_some f page shared id t some = subst IsSome (sym (same_live f page shared id t some)) some

all_some : (f : Problem) (page : Page) (shared : List Line) (ids : List ℕ) → Tied f page shared → All (λ id. IsSome (live page.lines id)) ids → All (λ id. IsSome (live shared id)) (map (shared_number page.numbers) ids)
all_some f page shared ids t all = All-map (λ id. IsSome (live shared id)) (shared_number page.numbers) ids (All-weaker (λ id. IsSome (live page.lines id)) (λ id. IsSome (live shared (shared_number page.numbers id))) (λ id some. still_some f page shared id t some) ids all)

hinted_on : (f : Problem) (page : Page) (shared : List Line) (hints : List ℕ) → Tied f page shared → All (λ id. IsSome (live page.lines id)) hints → hinted shared (map (shared_number page.numbers) hints) ≡ hinted page.lines hints
hinted_on f page shared [] t all = refl
hinted_on f page shared (id ∷ hints) t all =
    let P : ℕ → Type 0 = λ id. IsSome (live page.lines id) in
    ap (λ o. cons_option o (hinted shared (map (shared_number page.numbers) hints))) (same_live f page shared id t (All-head P id hints all))
    ∙ ap (cons_option (live page.lines id)) (hinted_on f page shared hints t (All-tail P id hints all))

-- ---- a live own number is in range

in_high : (f : Problem) (page : Page) (shared : List Line) (id : ℕ) → Tied f page shared → IsSome (live page.lines id) → id ≤ length page.numbers
in_high f page shared id t some = omega (arith, live_in page.lines id some, t.each)

-- ---- numbers that are deleted

deleted_rise : (f : Problem) (page : Page) (shared : List Line) (ids : List ℕ) → Tied f page shared → All (λ id. IsSome (live page.lines id)) ids → IsStrictlyIncreasing ids → IsStrictlyIncreasing (map (shared_number page.numbers) ids)
deleted_rise f page shared ids t all up = λ k lt.
    let m : length (map (shared_number page.numbers) ids) ≡ length ids = length-map ids (shared_number page.numbers) in
    let lt' : k + 1 < length ids = omega (arith, lt, m) in
    let first : get_or (map (shared_number page.numbers) ids) k 0 ≡ shared_number page.numbers (get_or ids k 0) = mapped ids k (omega (arith, lt')) in
    let second : get_or (map (shared_number page.numbers) ids) (k + 1) 0 ≡ shared_number page.numbers (get_or ids (k + 1) 0) = mapped ids (k + 1) lt' in
    let low : 1 ≤ get_or ids k 0 = live_above page.lines (get_or ids k 0) (all k 0 (omega (arith, lt'))) in
    let high : get_or ids (k + 1) 0 ≤ length page.numbers = in_high f page shared (get_or ids (k + 1) 0) t (all (k + 1) 0 lt') in
    omega (arith, first, second, numbers_rise page.numbers (get_or ids k 0) (get_or ids (k + 1) 0) t.rising low (up k lt') high)
  where
    mapped : (ids : List ℕ) (k : ℕ) → k < length ids → get_or (map (shared_number page.numbers) ids) k 0 ≡ shared_number page.numbers (get_or ids k 0)
    mapped [] k lt = absurd (omega (arith, lt))
    mapped (id ∷ ids) zero lt = refl
    mapped (id ∷ ids) (suc k) lt = mapped ids k (omega (arith, lt))

deleted_fits : (f : Problem) (page : Page) (shared : List Line) (ids : List ℕ) → Tied f page shared → All (λ id. IsSome (live page.lines id)) ids → LineFits f (lines.Delete ids) → LineFits f (lines.Delete (map (shared_number page.numbers) ids))
deleted_fits f page shared [] t all fits = absurd (omega (arith, fits.0))
deleted_fits f page shared (id ∷ ids) t all fits =
    let P : ℕ → Type 0 = λ id. IsSome (live page.lines id) in
    let some = All-head P id ids all in
    let in' = number_holds (λ number. (1 ≤ number) × (number ≤ clause_count shared)) page.numbers id t.within (live_above page.lines id some) (in_high f page shared id t some) in
    (omega arith, omega (arith, in'.0), deleted_rise f page shared (id ∷ ids) t all fits.2)

-- the shared number of a live own number isn't among those of other ones
among_none : (numbers ids : List ℕ) (k : ℕ) → All (λ id. shared_number numbers id ≡ k → ⊥) ids → list_any (λ other. other == k) (map (shared_number numbers) ids) ≡ false
among_none numbers ids k all = list_any_none (λ other. other == k) (map (shared_number numbers) ids) (All-map (λ other. (other == k) ≡ false) (shared_number numbers) ids (All-weaker (λ id. shared_number numbers id ≡ k → ⊥) (λ id. (shared_number numbers id == k) ≡ false) (λ id ne. ne_eqb (shared_number numbers id) k ne) ids all))

not_in : (ids : List ℕ) (k : ℕ) → list_any (λ other. other == k) ids ≡ false → All (λ id. id ≡ k → ⊥) ids
not_in [] k e = All-nil (λ id. id ≡ k → ⊥)
not_in (id ∷ ids) k e = All-cons (λ id. id ≡ k → ⊥) id ids (λ same. both (id == k) (list_any (λ other. other == k) ids) e (eq-eqb id k same)) (not_in ids k (rest (id == k) (list_any (λ other. other == k) ids) e))
  where
    both : (a b : Bool) → (a || b) ≡ false → a ≡ true → ⊥
    both true b e f = cc
    both false b e f = cc

    rest : (a b : Bool) → (a || b) ≡ false → b ≡ false
    rest true b e = absurd cc
    rest false b e = e

-- ---- cases of a test

-- ---- a clause line

-- the number of the new clause line, and those below
pub at_new : (f : Problem) (shared after : List Line) (clause : List Lit) (n : ℕ) → ClauseAdded f shared after clause → n ≡ clause_count shared + 1 → live after n ≡ Some clause
at_new f shared after clause n added e = added.live_ones n ∙ ap (λ b. cond b (Some clause) (live shared n)) (eq-eqb n (clause_count shared + 1) e)

pub below_new : (f : Problem) (shared after : List Line) (clause : List Lit) (n : ℕ) → ClauseAdded f shared after clause → n ≤ clause_count shared → live after n ≡ live shared n
below_new f shared after clause n added le = added.live_ones n ∙ ap (λ b. cond b (Some clause) (live shared n)) (ne_eqb n (clause_count shared + 1) (λ e. omega (arith, e, le)))

-- a live number of a page is one of the shared lines before the new one
pub shared_in : (f : Problem) (page : Page) (shared : List Line) (id : ℕ) (clause : List Lit) → Tied f page shared → live page.lines id ≡ Some clause → shared_number page.numbers id ≤ clause_count shared
shared_in f page shared id clause t e = (number_holds (λ number. (1 ≤ number) × (number ≤ clause_count shared)) page.numbers id t.within (live_low page.lines id clause e) (omega (arith, live_high page.lines id clause e, t.each))).1

within_more : (numbers : List ℕ) (a b : ℕ) → a ≤ b → All (λ number. (1 ≤ number) × (number ≤ a)) numbers → All (λ number. (1 ≤ number) × (number ≤ b)) numbers
within_more numbers a b le all = All-weaker (λ number. (1 ≤ number) × (number ≤ a)) (λ number. (1 ≤ number) × (number ≤ b)) (λ number h. (h.0, omega (arith, h.1, le))) numbers all

pub clause_tied : (f : Problem) (page : Page) (shared : List Line) (line line' : Line) (clause : List Lit) → Tied f page shared → Valid f shared → ValidAfter f page.lines line → clause_of line ≡ Some clause → clause_of line' ≡ Some clause
    → Tied f (record { lines = page.lines ++ line ∷ []; numbers = page.numbers ++ (clause_count shared + 1) ∷ [] }) (shared ++ line' ∷ [])
clause_tied f page shared line line' clause t valid after of of' =
    let own = clause_added f page.lines line clause (valid_deletes f page.lines t.valid) of in
    let all = clause_added f shared line' clause (valid_deletes f shared valid) of' in
    let n = clause_count shared + 1 in
    record {
      valid = own_push f page.lines line t.valid after;
      each = omega (arith, length-append page.numbers (n ∷ []), t.each, own.count);
      rising = rising_push page.numbers n t.rising (All-weaker (λ number. (1 ≤ number) × (number ≤ clause_count shared)) (λ number. number < n) (λ number h. omega (arith, h.1)) page.numbers t.within);
      within = All-push (λ number. (1 ≤ number) × (number ≤ clause_count (shared ++ line' ∷ []))) page.numbers n (within_more page.numbers (clause_count shared) (clause_count (shared ++ line' ∷ [])) (omega (arith, all.count)) t.within) (omega arith, omega (arith, all.count));
      stands = λ id c e. elim (chosen (id == clause_count page.lines + 1) (Some clause) (live page.lines id) (Some c) (sym (own.live_ones id) ∙ e)) [
        | inl new ↦
            let is : id ≡ clause_count page.lines + 1 = eqb-true id (clause_count page.lines + 1) new.0 in
            at_new f shared (shared ++ line' ∷ []) clause (shared_number (page.numbers ++ n ∷ []) id) all (last_number page.numbers n id (omega (arith, is, t.each))) ∙ new.1
        | inr old ↦
            let high : id ≤ length page.numbers = omega (arith, live_high page.lines id c old.1, t.each) in
            ap (live (shared ++ line' ∷ [])) (same_number page.numbers (n ∷ []) id high) ∙ below_new f shared (shared ++ line' ∷ []) clause (shared_number page.numbers id) all (shared_in f page shared id c t old.1) ∙ t.stands id c old.1
      ];
      best = subst (λ b. AtMost b (best_of f (shared ++ line' ∷ []))) (sym own.best) (subst (AtMost (best_of f page.lines)) (sym all.best) t.best);
    }

-- ---- a deletion

pub deletion_tied : (f : Problem) (page : Page) (shared : List Line) (ids : List ℕ) → Tied f page shared → ValidAfter f page.lines (lines.Delete ids)
    → Tied f (record { lines = page.lines ++ lines.Delete ids ∷ []; numbers = page.numbers }) (shared ++ lines.Delete (map (shared_number page.numbers) ids) ∷ [])
deletion_tied f page shared ids t after =
    let own = numbers_deleted f page.lines ids in
    let gone = map (shared_number page.numbers) ids in
    let all = numbers_deleted f shared gone in
    record {
      valid = own_push f page.lines (lines.Delete ids) t.valid after;
      each = t.each ∙ sym own.count;
      rising = t.rising;
      within = within_more page.numbers (clause_count shared) (clause_count (shared ++ lines.Delete gone ∷ [])) (omega (arith, all.count)) t.within;
      stands = λ id c e. elim (chosen (list_any (λ other. other == id) ids) None (live page.lines id) (Some c) (sym (own.live_ones id) ∙ e)) [
        | inl new ↦ absurd (let no : None ≡ Some c = new.1 in cc)
        | inr old ↦
            let ne = not_in ids id old.0 in
            let low = live_low page.lines id c old.1 in
            let high : id ≤ length page.numbers = omega (arith, live_high page.lines id c old.1, t.each) in
            let spared : list_any (λ other. other == shared_number page.numbers id) gone ≡ false = among_none page.numbers ids (shared_number page.numbers id) (λ k d lt same.
            numbers_differ page.numbers (get_or ids k d) id t.rising (live_above page.lines (get_or ids k d) (after.claim k d lt)) (in_high f page shared (get_or ids k d) t (after.claim k d lt)) low high (ne k d lt) same) in
            all.live_ones (shared_number page.numbers id) ∙ ap (λ b. cond b None (live shared (shared_number page.numbers id))) spared ∙ t.stands id c old.1
      ];
      best = subst (λ b. AtMost b (best_of f (shared ++ lines.Delete gone ∷ []))) (sym own.best) (subst (AtMost (best_of f page.lines)) (sym all.best) t.best);
    }

-- ---- a table

table_handed : (f : Problem) (page : Page) (shared : List Line) (table : List ℕ) → Tied f page shared → ValidAfter f page.lines (lines.Table table)
    → Tied f (record { lines = page.lines ++ lines.Table table ∷ []; numbers = page.numbers }) (shared ++ lines.Table table ∷ [])
table_handed f page shared table t after =
    let own = table_added f page.lines table in
    let all = table_added f shared table in
    record {
      valid = own_push f page.lines (lines.Table table) t.valid after;
      each = t.each ∙ sym own.count;
      rising = t.rising;
      within = within_more page.numbers (clause_count shared) (clause_count (shared ++ lines.Table table ∷ [])) (omega (arith, all.count)) t.within;
      stands = λ id c e. all.live_ones (shared_number page.numbers id) ∙ t.stands id c (sym (own.live_ones id) ∙ e);
      best = subst (λ b. AtMost b (best_of f (shared ++ lines.Table table ∷ []))) (sym own.best) (subst (AtMost (cargo f table)) (sym all.best) (most_itself (cargo f table)));
    }

table_dropped : (f : Problem) (page : Page) (shared : List Line) (table : List ℕ) → Tied f page shared → ValidAfter f page.lines (lines.Table table) → AtMost (cargo f table) (best_of f shared)
    → Tied f (record { lines = page.lines ++ lines.Table table ∷ []; numbers = page.numbers }) shared
table_dropped f page shared table t after most =
    let own = table_added f page.lines table in
    record {
      valid = own_push f page.lines (lines.Table table) t.valid after;
      each = t.each ∙ sym own.count;
      rising = t.rising;
      within = t.within;
      stands = λ id c e. t.stands id c (sym (own.live_ones id) ∙ e);
      best = subst (λ b. AtMost b (best_of f shared)) (sym own.best) most;
    }

-- ---- lean lines

-- a live clause stands at its number
live_at : (before : List Line) (id : ℕ) (clause : List Lit) → live before id ≡ Some clause → clause_at before id ≡ Some clause
live_at before id clause e = elim (chosen (list_any (deletes id) before) None (clause_at before id) (Some clause) e) [
  | inl gone ↦ absurd (let no : None ≡ Some clause = gone.1 in cc)
  | inr here ↦ here.1
]

is_some_and : {A : Type 0} (o : Option A) (x : A) (P : A → Type 0) → o ≡ Some x → IsSomeAnd o P → P x
is_some_and None x P e h = absurd h
is_some_and (Some y) x P e h = subst P (let same : y ≡ x = cc in same) h

and_some : {A : Type 0} (o : Option A) (x : A) (P : A → Type 0) → o ≡ Some x → P x → IsSomeAnd o P
and_some o x P e h = subst (λ p. IsSomeAnd p P) (sym e) h

hinted_lit : (f : Problem) (page : Page) (shared : List Line) (hints : List ℕ) (lit : Lit) → Tied f page shared → All (λ id. IsSome (live page.lines id)) hints → IsHinted page.lines hints lit → IsHinted shared (map (shared_number page.numbers) hints) lit
hinted_lit f page shared hints lit t all h =
    let id = h.1 in
    let some : IsSome (live page.lines id) = subst (λ n. IsSome (live page.lines n)) h.3 (all h.0 id h.2) in
    let c = of_some (live page.lines id) some in
    let has : Contains c.0 lit = is_some_and (clause_at page.lines id) c.0 (λ clause. Contains clause lit) (live_at page.lines id c.0 c.1) h.4 in
    let there : clause_at shared (shared_number page.numbers id) ≡ Some c.0 = live_at shared (shared_number page.numbers id) c.0 (t.stands id c.0 c.1) in
    (h.0, shared_number page.numbers id, omega (arith, h.2, length-map hints (shared_number page.numbers)), mapped_at hints h.0 id h.2 ∙ ap (shared_number page.numbers) h.3, and_some (clause_at shared (shared_number page.numbers id)) c.0 (λ clause. Contains clause lit) there has)
  where
    mapped_at : (ids : List ℕ) (k d : ℕ) → k < length ids → get_or (map (shared_number page.numbers) ids) k (shared_number page.numbers d) ≡ shared_number page.numbers (get_or ids k d)
    mapped_at [] k d lt = absurd (omega (arith, lt))
    mapped_at (id ∷ ids) zero d lt = refl
    mapped_at (id ∷ ids) (suc k) d lt = mapped_at ids k d (omega (arith, lt))

-- ---- each kind of line

going_on : (f : Problem) (shared : List Line) (line : Line) → is_closed shared ≡ false → clause_count shared + 1 < 2 ^ 32 → Holds f shared line → ValidAfter f shared line
going_on f shared line going few claim = record { goes_on = going; numbered = by (clause_of line); claim = claim }
  where
    by : (o : Option (List Lit)) → IfSome o (λ clause. clause_count shared + 1 < 2 ^ 32)
    by None = tt
    by (Some clause) = few

-- a table beats the shared best, or its cargo is at most that
table_by : (f : Problem) (page : Page) (shared : List Line) (table : List ℕ) (o : Option ℕ) (best : Option ℕ) → cargo f table ≡ o → best_of f shared ≡ best → IsSome o
    → (option_map_or (λ c. beats c best) o false ≡ true) × IsSomeAnd (cargo f table) (λ c. IsTrue (beats c (best_of f shared))) ⊎ (option_map_or (λ c. beats c best) o false ≡ false) × AtMost (cargo f table) (best_of f shared)
table_by f page shared table None best e b some = absurd cc
table_by f page shared table (Some c) None e b some = inl (refl, subst (λ o. IsSomeAnd o (λ c. IsTrue (beats c (best_of f shared)))) (sym e) (subst (λ best. IsTrue (beats c best)) (sym b) refl))
table_by f page shared table (Some c) (Some best) e b some = elim (cases_lt best c) [
  | inl lt ↦ inl (lt-ltb best c lt, subst (λ o. IsSomeAnd o (λ c. IsTrue (beats c (best_of f shared)))) (sym e) (subst (λ best. IsTrue (beats c best)) (sym b) (lt-ltb best c lt)))
  | inr le ↦ inr (le-ltb best c le, subst (λ o. AtMost o (best_of f shared)) (sym e) (subst (AtMost (Some c)) (sym b) le))
]

some_and : {A : Type 0} (o : Option A) (P : A → Type 0) → IsSomeAnd o P → IsSome o
some_and None P h = absurd h
some_and (Some x) P h = refl

table_relayed : (f : Problem) (page : Page) (shared : List Line) (table : List ℕ) → Tied f page shared → is_closed shared ≡ false → clause_count shared + 1 < 2 ^ 32 → LineFits f (lines.Table table) → ValidAfter f page.lines (lines.Table table) → Relayed f page shared (lines.Table table) (handed f (best_of f shared) page.numbers (lines.Table table))
table_relayed f page shared table t going few fits after = elim (table_by f page shared table (cargo f table) (best_of f shared) refl refl (some_and (cargo f table) (λ c. IsTrue (beats c (best_of f page.lines))) after.claim.1)) [
  | inl above ↦ subst (λ b. Relayed f page shared (lines.Table table) (cond b (Some (lines.Table table)) None)) (sym above.0) (record {
    plain = refl;
    fits = fits;
    valid = going_on f shared (lines.Table table) going few (after.claim.0, above.1);
    lean = λ lean. tt;
    tied = table_handed f page shared table t after;
  })
  | inr most ↦ subst (λ b. Relayed f page shared (lines.Table table) (cond b (Some (lines.Table table)) None)) (sym most.0) (record {
    plain = tt;
    fits = tt;
    valid = tt;
    lean = λ lean. tt;
    tied = table_dropped f page shared table t after most.1;
  })
]

pub line_relayed : (f : Problem) (page : Page) (shared : List Line) (line : Line) → Tied f page shared → Valid f shared → is_closed shared ≡ false → clause_count shared + 1 < 2 ^ 32 → is_plain line ≡ true → LineFits f line → ValidAfter f page.lines line
    → Relayed f page shared line (handed f (best_of f shared) page.numbers line)
line_relayed f page shared (lines.Table table) t valid going few plain fits after = table_relayed f page shared table t going few fits after
line_relayed f page shared (lines.Explain n clause) t valid going few plain fits after = record {
  plain = refl;
  fits = fits;
  valid = going_on f shared (lines.Explain n clause) going few (rises_on f (source_of f n) (best_of f page.lines) (best_of f shared) (denied_room f clause) t.best after.claim);
  lean = λ lean. lean;
  tied = clause_tied f page shared (lines.Explain n clause) (lines.Explain n clause) clause t valid after refl refl;
}
line_relayed f page shared (lines.Order v w x clause) t valid going few plain fits after = record {
  plain = refl;
  fits = fits;
  valid = going_on f shared (lines.Order v w x clause) going few (rises_on f (sources.Order v w x) (best_of f page.lines) (best_of f shared) (denied_room f clause) t.best after.claim);
  lean = λ lean. lean;
  tied = clause_tied f page shared (lines.Order v w x clause) (lines.Order v w x clause) clause t valid after refl refl;
}
line_relayed f page shared (lines.Goal clause) t valid going few plain fits after = record {
  plain = refl;
  fits = fits;
  valid = going_on f shared (lines.Goal clause) going few (rises_on f sources.Goal (best_of f page.lines) (best_of f shared) (denied_room f clause) t.best after.claim);
  lean = λ lean. lean;
  tied = clause_tied f page shared (lines.Goal clause) (lines.Goal clause) clause t valid after refl refl;
}
line_relayed f page shared (lines.Lemma clause hints) t valid going few plain fits after = record {
  plain = refl;
  fits = fits;
  valid = going_on f shared (lines.Lemma clause (map (shared_number page.numbers) hints)) going few (all_some f page shared hints t after.claim.0, ap (replay (denied_room f clause)) (hinted_on f page shared hints t after.claim.0) ∙ after.claim.1);
  lean = λ lean. All-weaker (IsHinted page.lines hints) (IsHinted shared (map (shared_number page.numbers) hints)) (λ lit h. hinted_lit f page shared hints lit t after.claim.0 h) clause lean;
  tied = clause_tied f page shared (lines.Lemma clause hints) (lines.Lemma clause (map (shared_number page.numbers) hints)) clause t valid after refl refl;
}
line_relayed f page shared (lines.Delete ids) t valid going few plain fits after = record {
  plain = refl;
  fits = deleted_fits f page shared ids t after.claim fits;
  valid = going_on f shared (lines.Delete (map (shared_number page.numbers) ids)) going few (all_some f page shared ids t after.claim);
  lean = λ lean. tt;
  tied = deletion_tied f page shared ids t after;
}
line_relayed f page shared (lines.Toll toll) t valid going few plain fits after = absurd cc
line_relayed f page shared (lines.Tariff tariff) t valid going few plain fits after = absurd cc
line_relayed f page shared (lines.Priced clause) t valid going few plain fits after = absurd cc
line_relayed f page shared (lines.Bound bound) t valid going few plain fits after = absurd cc

-- ---- another page

other_clause : (f : Problem) (page other : Page) (shared : List Line) (line line' : Line) (clause : List Lit) → Tied f other shared → NumbersApart page other → Valid f shared → clause_of line' ≡ Some clause
    → Tied f other (shared ++ line' ∷ []) × NumbersApart (record { lines = page.lines ++ line ∷ []; numbers = page.numbers ++ (clause_count shared + 1) ∷ [] }) other
other_clause f page other shared line line' clause t apart valid of =
    let all = clause_added f shared line' clause (valid_deletes f shared valid) of in (
      record {
        valid = t.valid;
        each = t.each;
        rising = t.rising;
        within = within_more other.numbers (clause_count shared) (clause_count (shared ++ line' ∷ [])) (omega (arith, all.count)) t.within;
        stands = λ id c e. below_new f shared (shared ++ line' ∷ []) clause (shared_number other.numbers id) all (shared_in f other shared id c t e) ∙ t.stands id c e;
        best = subst (AtMost (best_of f other.lines)) (sym all.best) t.best;
      },
      λ number mine his. elim (cases_lt mine.0 (length page.numbers)) [
        | inl lt ↦ apart number (mine.0, lt, sym (front_at page.numbers ((clause_count shared + 1) ∷ []) mine.0 number lt) ∙ mine.2) his
        | inr le ↦
            let new : number ≡ clause_count shared + 1 = sym mine.2 ∙ at_last page.numbers (clause_count shared + 1) mine.0 number (omega (arith, mine.1, le, length-append page.numbers ((clause_count shared + 1) ∷ []))) in
            let old = t.within his.0 number his.1 in
            omega (arith, new, his.2, old.1)
      ],
    )

other_deletion : (f : Problem) (page other : Page) (shared : List Line) (ids : List ℕ) → Tied f page shared → Tied f other shared → NumbersApart page other → ValidAfter f page.lines (lines.Delete ids) → Tied f other (shared ++ lines.Delete (map (shared_number page.numbers) ids) ∷ [])
other_deletion f page other shared ids p t apart after =
    let gone = map (shared_number page.numbers) ids in
    let all = numbers_deleted f shared gone in
    record {
      valid = t.valid;
      each = t.each;
      rising = t.rising;
      within = within_more other.numbers (clause_count shared) (clause_count (shared ++ lines.Delete gone ∷ [])) (omega (arith, all.count)) t.within;
      stands = λ id c e.
          let his : Contains other.numbers (shared_number other.numbers id) = number_among other.numbers id (live_low other.lines id c e) (omega (arith, live_high other.lines id c e, t.each)) in
          let spared : list_any (λ k. k == shared_number other.numbers id) gone ≡ false = among_none page.numbers ids (shared_number other.numbers id) (λ k d lt same.
          apart (shared_number other.numbers id) (subst (Contains page.numbers) same (number_among page.numbers (get_or ids k d) (live_above page.lines (get_or ids k d) (after.claim k d lt)) (in_high f page shared (get_or ids k d) p (after.claim k d lt)))) his) in
          all.live_ones (shared_number other.numbers id) ∙ ap (λ b. cond b None (live shared (shared_number other.numbers id))) spared ∙ t.stands id c e;
      best = subst (AtMost (best_of f other.lines)) (sym all.best) t.best;
    }

-- a table that beats the shared best
higher : (a b : Option ℕ) (o : Option ℕ) → AtMost a b → IsSomeAnd o (λ c. IsTrue (beats c b)) → AtMost a o
higher None b o most above = tt
higher (Some a) b None most above = absurd above
higher (Some a) None (Some c) most above = absurd most
higher (Some a) (Some b) (Some c) most above = let lt : b < c = ltb-true b c above in omega (arith, most, lt)

other_table : (f : Problem) (other : Page) (shared : List Line) (table : List ℕ) → Tied f other shared → IsSomeAnd (cargo f table) (λ c. IsTrue (beats c (best_of f shared))) → Tied f other (shared ++ lines.Table table ∷ [])
other_table f other shared table t above =
    let all = table_added f shared table in
    record {
      valid = t.valid;
      each = t.each;
      rising = t.rising;
      within = within_more other.numbers (clause_count shared) (clause_count (shared ++ lines.Table table ∷ [])) (omega (arith, all.count)) t.within;
      stands = λ id c e. all.live_ones (shared_number other.numbers id) ∙ t.stands id c e;
      best = subst (AtMost (best_of f other.lines)) (sym all.best) (higher (best_of f other.lines) (best_of f shared) (cargo f table) t.best above);
    }

table_other : (f : Problem) (page other : Page) (shared : List Line) (table : List ℕ) → Tied f other shared → NumbersApart page other → ValidAfter f page.lines (lines.Table table) → OtherKept f page other shared (lines.Table table) (handed f (best_of f shared) page.numbers (lines.Table table))
table_other f page other shared table t apart after = elim (table_by f page shared table (cargo f table) (best_of f shared) refl refl (some_and (cargo f table) (λ c. IsTrue (beats c (best_of f page.lines))) after.claim.1)) [
  | inl above ↦ subst (λ b. OtherKept f page other shared (lines.Table table) (cond b (Some (lines.Table table)) None)) (sym above.0) (record { tied = other_table f other shared table t above.1; apart = apart })
  | inr most ↦ subst (λ b. OtherKept f page other shared (lines.Table table) (cond b (Some (lines.Table table)) None)) (sym most.0) (record { tied = t; apart = apart })
]

pub other_kept : (f : Problem) (page other : Page) (shared : List Line) (line : Line) → Tied f page shared → Tied f other shared → NumbersApart page other → Valid f shared → is_plain line ≡ true → ValidAfter f page.lines line
    → OtherKept f page other shared line (handed f (best_of f shared) page.numbers line)
other_kept f page other shared (lines.Table table) p t apart valid plain after = table_other f page other shared table t apart after
other_kept f page other shared (lines.Explain n clause) p t apart valid plain after = let r = other_clause f page other shared (lines.Explain n clause) (lines.Explain n clause) clause t apart valid refl in record { tied = r.0; apart = r.1 }
other_kept f page other shared (lines.Order v w x clause) p t apart valid plain after = let r = other_clause f page other shared (lines.Order v w x clause) (lines.Order v w x clause) clause t apart valid refl in record { tied = r.0; apart = r.1 }
other_kept f page other shared (lines.Goal clause) p t apart valid plain after = let r = other_clause f page other shared (lines.Goal clause) (lines.Goal clause) clause t apart valid refl in record { tied = r.0; apart = r.1 }
other_kept f page other shared (lines.Lemma clause hints) p t apart valid plain after = let r = other_clause f page other shared (lines.Lemma clause hints) (lines.Lemma clause (map (shared_number page.numbers) hints)) clause t apart valid refl in record { tied = r.0; apart = r.1 }
other_kept f page other shared (lines.Delete ids) p t apart valid plain after = record { tied = other_deletion f page other shared ids p t apart after; apart = apart }
other_kept f page other shared (lines.Toll toll) p t apart valid plain after = absurd cc
other_kept f page other shared (lines.Tariff tariff) p t apart valid plain after = absurd cc
other_kept f page other shared (lines.Priced clause) p t apart valid plain after = absurd cc
other_kept f page other shared (lines.Bound bound) p t apart valid plain after = absurd cc
