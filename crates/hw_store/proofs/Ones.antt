-- The clauses with one watched literal, and a pass over them.
use Rattle.std.proofs.Common.{◌≡◌, ◌≢◌, ◌⊎◌, ℕ, zero, suc, ◌+◌, ◌-◌, ◌<◌, ◌≤◌, Bool, true, false, cond, List, [], ◌∷◌, ◌++◌, length, take, get_or, set, refl, sym, ap, ◌∙◌, subst, arith, All, Contains, inl, inr, length-append, length-set, get_or-set_same, get_or-set_other, get_or-take, length-take-le}
use Rattle.std.proofs.lemmas.List.{get_or_default}
use Rattle.std.proofs.lemmas.List.Elements.{All-push, All-weaker, Contains-append_left, Contains-push}
use Rattle.std.proofs.lemmas.Bool.{cases_eq}
use Rattle.hw_model.specs.declared.lit.Lit.{Lit}
use Rattle.hw_model.specs.declared.lit.Lit.TheVariants as lits
use Rattle.hw_model.specs.Rooms.{RoomModel}
use Rattle.hw_store.specs.declared.watching.Watch.{Watch}
use Rattle.hw_store.specs.declared.watching.Watch.TheVariants.{Due, One, Two}
use Rattle.hw_store.specs.Watches.{is_hit, is_due, is_one, count_one, Shows, ShowsOnes, DropsSome, OnesStay, KeepsDue, KeepsOnes}
use Rattle.hw_store.proofs.Dues.{last_due}

false_true : false ≡ true → ⊥
false_true e = cc

-- a new clause is to be looked at
pub due_pushed : (ws : List Watch) (i : ℕ) → get_or (ws ++ Due ∷ []) i Due ≡ get_or ws i Due
due_pushed [] zero = refl
due_pushed [] (suc i) = refl
due_pushed (w ∷ ws) zero = refl
due_pushed (w ∷ ws) (suc i) = due_pushed ws i

-- ---- how many they are

count_most : (ws : List Watch) → count_one ws ≤ length ws
count_most [] = omega arith
count_most (w ∷ ws) = by (is_one w) (count_most ws)
  where
    by : (b : Bool) → count_one ws ≤ length ws → cond b 1 0 + count_one ws ≤ suc (length ws)
    by true h = omega (arith, h)
    by false h = omega (arith, h)

count_set : (ws : List Watch) (i : ℕ) (y : Watch) → i < length ws → count_one (set ws i y) + cond (is_one (get_or ws i Due)) 1 0 ≡ count_one ws + cond (is_one y) 1 0
count_set [] i y lt = absurd (omega (arith, lt))
count_set (w ∷ ws) zero y lt = by (cond (is_one y) 1 0) (cond (is_one w) 1 0) (count_one ws)
  where
    by : (a b n : ℕ) → a + n + b ≡ b + n + a
    by a b n = omega arith
count_set (w ∷ ws) (suc i) y lt = by (cond (is_one w) 1 0) (cond (is_one (get_or ws i Due)) 1 0) (cond (is_one y) 1 0) (count_set ws i y (omega (arith, lt)))
  where
    by : (a b c : ℕ) → count_one (set ws i y) + b ≡ count_one ws + c → a + count_one (set ws i y) + b ≡ a + count_one ws + c
    by a b c h = omega (arith, h)

count_add : (ws : List Watch) → count_one (ws ++ Due ∷ []) ≡ count_one ws
count_add [] = refl
count_add (w ∷ ws) = ap (λ n. cond (is_one w) 1 0 + n) (count_add ws)

count_stay : (ws vs : List Watch) → length vs ≡ length ws → ((i : ℕ) → is_one (get_or ws i Due) ≡ true → is_one (get_or vs i Due) ≡ true) → count_one ws ≤ count_one vs
count_stay [] vs e f = omega arith
count_stay (w ∷ ws) [] e f = absurd (omega (arith, e))
count_stay (w ∷ ws) (v ∷ vs) e f = by (is_one w) (is_one v) (f zero) (count_stay ws vs (omega (arith, e)) (λ i. f (suc i)))
  where
    by : (a b : Bool) → (a ≡ true → b ≡ true) → count_one ws ≤ count_one vs → cond a 1 0 + count_one ws ≤ cond b 1 0 + count_one vs
    by false b g h = omega (arith, h)
    by true true g h = omega (arith, h)
    by true false g h = absurd (false_true (g refl))

-- ---- those that stay

pub stay_due : (ws : List Watch) (place : ℕ) → is_one (get_or ws place Due) ≡ false → OnesStay ws (set ws place Due)
stay_due ws place none = record {
  each = λ i e. elim (cases_eq i place) [
    | inl q ↦ absurd (false_true (sym none ∙ ap (λ n. is_one (get_or ws n Due)) (sym q) ∙ e))
    | inr n ↦ ap is_one (get_or-set_other ws place i Due Due n) ∙ e
  ];
}

pub hit_two : (cutting : Lit) (w : Watch) → is_hit cutting w ≡ true → is_one w ≡ false
hit_two cutting Due e = refl
hit_two cutting (One lit) e = absurd (false_true e)
hit_two cutting (Two a b) e = refl

pub due_not_one : (w : Watch) → is_due w ≡ true → is_one w ≡ false
due_not_one Due e = refl
due_not_one (One lit) e = absurd (false_true e)
due_not_one (Two a b) e = refl

pub last_not_one : (ws : List Watch) (due : List ℕ) (capacity place d : ℕ) → KeepsDue ws due capacity → 0 < length due → place ≡ get_or due (length due - 1) d → is_one (get_or ws place Due) ≡ false
last_not_one ws due capacity place d k some at = due_not_one (get_or ws place Due) (last_due ws due capacity place d k some at)

-- where all that has one literal shows it, and what shows stays
pub stay_shown : (room : RoomModel) (w v : List Watch) → ShowsOnes room w → ((i : ℕ) → Shows room (get_or w i Due) → get_or v i Due ≡ get_or w i Due) → OnesStay w v
stay_shown room w v h f = record { each = λ i e. ap is_one (f i (h i e)) ∙ e }

-- ---- the list of them

pub ones_drop : (w v : List Watch) (ones : List ℕ) → KeepsOnes w ones → DropsSome w v → OnesStay w v → KeepsOnes v ones
ones_drop w v ones k d stay = record {
  has = λ i e. elim (d.each i) [
    | inl same ↦ k.has i (sym (ap is_one same) ∙ e)
    | inr due ↦ absurd (false_true (sym (ap is_one due) ∙ e))
  ];
  among = subst (λ n. All (λ i. i < n) ones) (sym d.same_length) k.among;
  few = (let h = count_stay w v d.same_length stay.each in omega (arith, h, k.few));
}

pub ones_add : (ws : List Watch) (ones : List ℕ) → KeepsOnes ws ones → KeepsOnes (ws ++ Due ∷ []) ones
ones_add ws ones k =
    let long = length-append ws (Due ∷ []) in
    record {
      has = λ i e. k.has i (sym (ap is_one (due_pushed ws i)) ∙ e);
      among = All-weaker (λ i. i < length ws) (λ i. i < length (ws ++ Due ∷ [])) (λ i lt. omega (arith, lt, long)) ones k.among;
      few = (let same = count_add ws in omega (arith, same, k.few));
    }

-- a clause got another watch than one literal
pub ones_other : (ws : List Watch) (ones : List ℕ) (place : ℕ) (watch : Watch) → KeepsOnes ws ones → place < length ws → is_one (get_or ws place Due) ≡ false → is_one watch ≡ false → KeepsOnes (set ws place watch) ones
ones_other ws ones place watch k lt was none = record {
  has = λ i e. elim (cases_eq i place) [
    | inl q ↦ absurd (false_true (sym none ∙ sym (ap is_one (ap (λ n. get_or (set ws place watch) n Due) q ∙ get_or-set_same ws place watch Due lt)) ∙ e))
    | inr n ↦ k.has i (sym (ap is_one (get_or-set_other ws place i watch Due n)) ∙ e)
  ];
  among = subst (λ n. All (λ i. i < n) ones) (sym (length-set ws place watch)) k.among;
  few = (let same = count_set ws place watch lt in let old = ap {B = ℕ} (λ b. cond b 1 0) was in let new = ap {B = ℕ} (λ b. cond b 1 0) none in omega (arith, same, old, new, k.few));
}

-- a clause got one watched literal
pub ones_one : (ws : List Watch) (ones : List ℕ) (place : ℕ) (lit : Lit) → KeepsOnes ws ones → place < length ws → is_one (get_or ws place Due) ≡ false → KeepsOnes (set ws place (One lit)) (ones ++ place ∷ [])
ones_one ws ones place lit k lt was = record {
  has = λ i e. elim (cases_eq i place) [
    | inl q ↦ subst (λ n. Contains (ones ++ place ∷ []) n) (sym q) (Contains-push ones place)
    | inr n ↦ Contains-append_left ones (place ∷ []) i (k.has i (sym (ap is_one (get_or-set_other ws place i (One lit) Due n)) ∙ e))
  ];
  among = subst (λ n. All (λ i. i < n) (ones ++ place ∷ [])) (sym (length-set ws place (One lit))) (All-push (λ i. i < length ws) ones place k.among lt);
  few = (let same = count_set ws place (One lit) lt in let old = ap {B = ℕ} (λ b. cond b 1 0) was in let longer = length-append ones (place ∷ []) in omega (arith, same, old, longer, k.few));
}

-- so there is room for one more
pub room_for_one : (ws : List Watch) (ones : List ℕ) (place : ℕ) → KeepsOnes ws ones → place < length ws → is_one (get_or ws place Due) ≡ false → length ones < length ws
room_for_one ws ones place k lt was =
    let lit : Lit = lits.Before 0 0 in
    let same = count_set ws place (One lit) lt in
    let old = ap {B = ℕ} (λ b. cond b 1 0) was in
    let most = count_most (set ws place (One lit)) in
    let long = length-set ws place (One lit) in
    omega (arith, same, old, most, long, k.few)

-- ---- a pass

-- each clause with one watched literal is among the first `kept` of the new list and shown to be quiet, or from a place of the old one on
pub record Passing (room : RoomModel) (ws : List Watch) (old now : List ℕ) (at kept : ℕ) : Type 0 where
  pub same_length : length now ≡ length old
  pub few : kept ≤ at
  pub same_after : (i : ℕ) → at ≤ i → get_or now i 0 ≡ get_or old i 0
  pub each : (p : ℕ) → is_one (get_or ws p Due) ≡ true → (((j : ℕ) × (j < kept) × (get_or now j 0 ≡ p)) × Shows room (get_or ws p Due)) ⊎ ((j : ℕ) × (at ≤ j) × (j < length old) × (get_or old j 0 ≡ p))
  pub among : (j : ℕ) → j < kept → get_or now j 0 < length ws
  pub count : kept + length old ≤ count_one ws + at

pub pass_starts : (room : RoomModel) (ws : List Watch) (old : List ℕ) → KeepsOnes ws old → Passing room ws old old 0 0
pass_starts room ws old k = record {
  same_length = refl;
  few = omega arith;
  same_after = λ i le. refl;
  each = λ p e. (let h = k.has p e in inr (h.0, omega arith, h.1, get_or_default old h.0 0 p h.1 ∙ h.2));
  among = λ j lt. absurd (omega (arith, lt));
  count = omega (arith, k.few);
}

-- the place stays
pub pass_keeps : (room : RoomModel) (ws : List Watch) (old now : List ℕ) (at kept : ℕ) → Passing room ws old now at kept → at < length old → get_or old at 0 < length ws → Shows room (get_or ws (get_or old at 0) Due) → Passing room ws old (set now kept (get_or old at 0)) (at + 1) (kept + 1)
pass_keeps room ws old now at kept s inside lt shown =
    let place : ℕ = get_or old at 0 in
    let within : kept < length now = omega (arith, s.few, inside, s.same_length) in
    record {
      same_length = length-set now kept place ∙ s.same_length;
      few = omega (arith, s.few);
      same_after = λ i le. let ne : i ≢ kept = omega (arith, le, s.few) in get_or-set_other now kept i place 0 ne ∙ s.same_after i (omega (arith, le));
      each = λ p e. elim (s.each p e) [
        | inl h ↦ (
            let ne : h.0.0 ≢ kept = omega (arith, h.0.1) in
            inl ((h.0.0, omega (arith, h.0.1), get_or-set_other now kept h.0.0 place 0 ne ∙ h.0.2), h.1))
        | inr h ↦ elim (cases_eq h.0 at) [
          | inl q ↦ (
              let same : place ≡ p = ap (λ n. get_or old n 0) (sym q) ∙ h.3 in
              inl ((kept, omega arith, get_or-set_same now kept place 0 within ∙ same), subst (λ n. Shows room (get_or ws n Due)) same shown))
          | inr n ↦ inr (h.0, omega (arith, h.1, n), h.2, h.3)
        ]
      ];
      among = λ j lt2. elim (cases_eq j kept) [
        | inl q ↦ subst (λ n. n < length ws) (sym (ap (λ n. get_or (set now kept place) n 0) q ∙ get_or-set_same now kept place 0 within)) lt
        | inr n ↦ subst (λ m. m < length ws) (sym (get_or-set_other now kept j place 0 n)) (s.among j (omega (arith, lt2, n)))
      ];
      count = omega (arith, s.count);
    }

-- the clause is to be looked at
pub pass_drops : (room : RoomModel) (ws : List Watch) (old now : List ℕ) (at kept : ℕ) → Passing room ws old now at kept → get_or old at 0 < length ws → Passing room (set ws (get_or old at 0) Due) old now (at + 1) kept
pass_drops room ws old now at kept s lt =
    let place : ℕ = get_or old at 0 in
    record {
      same_length = s.same_length;
      few = omega (arith, s.few);
      same_after = λ i le. s.same_after i (omega (arith, le));
      each = λ p e. elim (cases_eq p place) [
        | inl q ↦ absurd (false_true (sym (ap is_one (ap (λ n. get_or (set ws place Due) n Due) q ∙ get_or-set_same ws place Due Due lt)) ∙ e))
        | inr n ↦ (
            let other : get_or (set ws place Due) p Due ≡ get_or ws p Due = get_or-set_other ws place p Due Due n in
            elim (s.each p (sym (ap is_one other) ∙ e)) [
              | inl h ↦ inl (h.0, subst (Shows room) (sym other) h.1)
              | inr h ↦ elim (cases_eq h.0 at) [
                | inl q ↦ absurd (n (sym h.3 ∙ ap (λ m. get_or old m 0) q))
                | inr m ↦ inr (h.0, omega (arith, h.1, m), h.2, h.3)
              ]
            ])
      ];
      among = λ j lt2. subst (λ n. get_or now j 0 < n) (sym (length-set ws place Due)) (s.among j lt2);
      count = (let same = count_set ws place Due lt in by (is_one (get_or ws place Due)) same);
    }
  where
    by : (b : Bool) → count_one (set ws (get_or old at 0) Due) + cond b 1 0 ≡ count_one ws + 0 → kept + length old ≤ count_one (set ws (get_or old at 0) Due) + (at + 1)
    by true same = omega (arith, same, s.count)
    by false same = omega (arith, same, s.count)

pub pass_ends : (room : RoomModel) (ws : List Watch) (old now : List ℕ) (at kept : ℕ) → Passing room ws old now at kept → at ≡ length old → KeepsOnes ws (take kept now)
pass_ends room ws old now at kept s end = record {
  has = λ p e. elim (s.each p e) [
    | inl h ↦ (h.0.0, omega (arith, h.0.1, short), get_or-take kept now h.0.0 p h.0.1 ∙ get_or_default now h.0.0 p 0 (omega (arith, h.0.1, few)) ∙ h.0.2)
    | inr h ↦ absurd (omega (arith, h.1, h.2, end))
  ];
  among = λ i d lt. (
      let inside : i < kept = omega (arith, lt, short) in
      subst (λ n. n < length ws) (sym (get_or-take kept now i d inside ∙ get_or_default now i d 0 (omega (arith, inside, few)))) (s.among i inside));
  few = omega (arith, short, s.count, end);
}
  where
    few : kept ≤ length now
    few = omega (arith, s.few, end, s.same_length)

    short : length (take kept now) ≡ kept
    short = length-take-le kept now few

pub pass_shows : (room : RoomModel) (ws : List Watch) (old now : List ℕ) (at kept : ℕ) → Passing room ws old now at kept → at ≡ length old → ShowsOnes room ws
pass_shows room ws old now at kept s end p e = elim (s.each p e) [
  | inl h ↦ h.1
  | inr h ↦ absurd (omega (arith, h.1, h.2, end))
]
