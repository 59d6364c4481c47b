-- Which literal a branching rule chooses.
use Rattle.std.proofs.Common.{◌≡◌, ℕ, zero, suc, ◌+◌, ◌<◌, ◌≤◌, Bool, true, false, not, cond, nat_lt, nat_le, ◌&&◌, List, [], ◌∷◌, ◌++◌, Option, Some, None, find, filter, refl, sym, ap, ◌∙◌, subst, arith, inl, inr}
use Rattle.std.specs.List.{list_all, range_with_len}
use Rattle.std.proofs.lemmas.Bool.{cases_lt, and_parts, and_from, leb-true, lt-ltb, le-leb}
use Rattle.std.proofs.lemmas.List.Folds.{list_all-append}
use Rattle.hw_lemmas.proofs.Lists.{filter_range}
use Rattle.hw_model.specs.Problem.{Problem}
use Rattle.hw_model.specs.Rooms.{RoomModel, low_of, high_of}
use Rattle.hw_search_laws.specs.Branches.{greatest_in}
use Rattle.hw_search_sources.specs.Branching.{BestAmong}

-- ---- the first of a range that passes

pub find_at : (p : ℕ → Bool) (a n k : ℕ) → a ≤ k → k < a + n → ((j : ℕ) → a ≤ j → j < k → p j ≡ false) → p k ≡ true → find p (range_with_len a n) ≡ Some k
find_at p a zero k le lt h e = absurd (omega (arith, le, lt))
find_at p a (suc n) k le lt h e = elim (cases_lt a k) [
  | inl less ↦ by (p a) (h a (omega arith) less) (find_at p (a + 1) n k (omega (arith, less)) (omega (arith, lt)) (λ j x y. h j (omega (arith, x)) y) e)
  | inr more ↦ (let same : a ≡ k = omega (arith, le, more) in here (p a) same (ap p same ∙ e))
]
  where
    by : (b : Bool) → b ≡ false → find p (range_with_len (a + 1) n) ≡ Some k → cond b (Some a) (find p (range_with_len (a + 1) n)) ≡ Some k
    by true f k' = absurd cc
    by false f k' = k'

    here : (b : Bool) → a ≡ k → b ≡ true → cond b (Some a) (find p (range_with_len (a + 1) n)) ≡ Some k
    here true same f = ap (λ (x : ℕ). Some x) same
    here false same f = absurd cc

-- ---- the first of a list with the most

abbrev most_of : (ℕ → ℕ) → List ℕ → ℕ → Bool
most_of g xs x = list_all (λ y. nat_le (g y) (g x)) xs

find_keeps : (p q : ℕ → Bool) (xs ys : List ℕ) (s : ℕ) → find p xs ≡ Some s → ((x : ℕ) → q x ≡ true → p x ≡ true) → q s ≡ true → find q (xs ++ ys) ≡ Some s
find_keeps p q [] ys s e h t = absurd cc
find_keeps p q (x ∷ xs) ys s e h t = by (p x) (q x) refl refl (λ f. find_keeps p q xs ys s f h t) e
  where
    by : (b c : Bool) → p x ≡ b → q x ≡ c → (find p xs ≡ Some s → find q (xs ++ ys) ≡ Some s) → cond b (Some x) (find p xs) ≡ Some s → cond c (Some x) (find q (xs ++ ys)) ≡ Some s
    by true true i j k f = f
    by true false i j k f = absurd (let same : x ≡ s = cc in let z : true ≡ false = sym (ap q same ∙ t) ∙ j in cc)
    by false true i j k f = absurd (let z : true ≡ false = sym (h x j) ∙ i in cc)
    by false false i j k f = k f

find_true : (p : ℕ → Bool) (xs : List ℕ) (s : ℕ) → find p xs ≡ Some s → p s ≡ true
find_true p [] s e = absurd cc
find_true p (x ∷ xs) s e = by (p x) refl (find_true p xs s) e
  where
    by : (b : Bool) → p x ≡ b → (find p xs ≡ Some s → p s ≡ true) → cond b (Some x) (find p xs) ≡ Some s → p s ≡ true
    by true i k f = let same : x ≡ s = cc in ap p (sym same) ∙ i
    by false i k f = k f

find_last : (q : ℕ → Bool) (xs : List ℕ) (w : ℕ) → list_all (λ x. not (q x)) xs ≡ true → q w ≡ true → find q (xs ++ w ∷ []) ≡ Some w
find_last q [] w h t = ap (λ b. cond b (Some w) None) t
find_last q (x ∷ xs) w h t = let p = and_parts (not (q x)) (list_all (λ x. not (q x)) xs) h in by (q x) p.0 (find_last q xs w p.1 t)
  where
    by : (b : Bool) → not b ≡ true → find q (xs ++ w ∷ []) ≡ Some w → cond b (Some x) (find q (xs ++ w ∷ [])) ≡ Some w
    by true e k = absurd cc
    by false e k = k

all_weaker : (p q : ℕ → Bool) (xs : List ℕ) → ((x : ℕ) → p x ≡ true → q x ≡ true) → list_all p xs ≡ true → list_all q xs ≡ true
all_weaker p q [] h e = refl
all_weaker p q (x ∷ xs) h e = let r = and_parts (p x) (list_all p xs) e in and_from (q x) (list_all q xs) (h x r.0) (all_weaker p q xs h r.1)

most_parts : (g : ℕ → ℕ) (xs : List ℕ) (w x : ℕ) → most_of g (xs ++ w ∷ []) x ≡ true → (most_of g xs x ≡ true) × (g w ≤ g x)
most_parts g xs w x e =
    let r = and_parts (most_of g xs x) (nat_le (g w) (g x) && true) (sym (list_all-append (λ y. nat_le (g y) (g x)) xs (w ∷ [])) ∙ e) in
    (r.0, leb-true (g w) (g x) (and_parts (nat_le (g w) (g x)) true r.1).0)

most_from : (g : ℕ → ℕ) (xs : List ℕ) (w x : ℕ) → most_of g xs x ≡ true → g w ≤ g x → most_of g (xs ++ w ∷ []) x ≡ true
most_from g xs w x e le = list_all-append (λ y. nat_le (g y) (g x)) xs (w ∷ []) ∙ and_from (most_of g xs x) (nat_le (g w) (g x) && true) e (and_from (nat_le (g w) (g x)) true (le-leb (g w) (g x) le) refl)

most_kept : (g : ℕ → ℕ) (xs : List ℕ) (w s : ℕ) → find (most_of g xs) xs ≡ Some s → g w ≤ g s → find (most_of g (xs ++ w ∷ [])) (xs ++ w ∷ []) ≡ Some s
most_kept g xs w s e le = find_keeps (most_of g xs) (most_of g (xs ++ w ∷ [])) xs (w ∷ []) s e (λ x t. (most_parts g xs w x t).0) (most_from g xs w s (find_true (most_of g xs) xs s e) le)

most_new : (g : ℕ → ℕ) (xs : List ℕ) (w s : ℕ) → find (most_of g xs) xs ≡ Some s → g s < g w → find (most_of g (xs ++ w ∷ [])) (xs ++ w ∷ []) ≡ Some w
most_new g xs w s e lt =
    let all = find_true (most_of g xs) xs s e in
    find_last (most_of g (xs ++ w ∷ [])) xs w
    (all_weaker (λ x. nat_le (g x) (g s)) (λ x. not (most_of g (xs ++ w ∷ []) x)) xs (λ x t. fails x (leb-true (g x) (g s) t) (most_of g (xs ++ w ∷ []) x) refl) all)
    (most_from g xs w w (all_weaker (λ x. nat_le (g x) (g s)) (λ x. nat_le (g x) (g w)) xs (λ x t. le-leb (g x) (g w) (let u = leb-true (g x) (g s) t in omega (arith, u, lt))) all) (omega arith))
  where
    fails : (x : ℕ) → g x ≤ g s → (b : Bool) → most_of g (xs ++ w ∷ []) x ≡ b → not b ≡ true
    fails x le true t = absurd (let r = most_parts g xs w x t in omega (arith, le, r.1, lt))
    fails x le false t = refl

-- ---- the best of the ships

abbrev next : RoomModel → ℕ → List ℕ
next room ship = cond (nat_lt (low_of room ship) (high_of room ship)) (ship ∷ []) []

one_more : (room : RoomModel) (ship : ℕ) → low_of room ship < high_of room ship → next room ship ≡ ship ∷ []
one_more room ship lt = ap (λ b. cond b (ship ∷ []) []) (lt-ltb (low_of room ship) (high_of room ship) lt)

pub stays_best : (f : Problem) (room : RoomModel) (ship value : ℕ) (best : ℕ × ℕ) → low_of room ship < high_of room ship → value ≡ greatest_in f room ship → value ≤ best.1 → (ships : List ℕ) → BestAmong f room ships (Some best) → BestAmong f room (ships ++ next room ship) (Some best)
stays_best f room ship value best wide is le ships h =
    let g = greatest_in f room in
    subst (λ xs. BestAmong f room (ships ++ xs) (Some best)) (sym (one_more room ship wide)) (most_kept g ships ship best.0 h.0 (omega (arith, is, le, h.1)), h.1, h.2)

pub becomes_best : (f : Problem) (room : RoomModel) (ship value : ℕ) (best : ℕ × ℕ) → low_of room ship < high_of room ship → ship < f.ships → value ≡ greatest_in f room ship → best.1 < value → (ships : List ℕ) → BestAmong f room ships (Some best) → BestAmong f room (ships ++ next room ship) (Some (ship, value))
becomes_best f room ship value best wide lt is less ships h =
    let g = greatest_in f room in
    subst (λ xs. BestAmong f room (ships ++ xs) (Some (ship, value))) (sym (one_more room ship wide)) (most_new g ships ship best.0 h.0 (omega (arith, is, less, h.1)), is, lt)

-- ---- from one ship to the next

pub best_more : (f : Problem) (room : RoomModel) (n : ℕ) (best : Option (ℕ × ℕ)) → BestAmong f room (filter (λ ship. nat_lt (low_of room ship) (high_of room ship)) (range_with_len 0 n) ++ next room n) best → BestAmong f room (filter (λ ship. nat_lt (low_of room ship) (high_of room ship)) (range_with_len 0 (n + 1))) best
best_more f room n best h = subst (λ xs. BestAmong f room xs best) (sym (filter_range (λ ship. nat_lt (low_of room ship) (high_of room ship)) n)) h
