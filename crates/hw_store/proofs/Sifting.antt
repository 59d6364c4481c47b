-- A list of places gone through after a cut, and what stays in it.
use Rattle.std.proofs.Common.{◌≡◌, ◌≢◌, ℕ, ◌+◌, ◌<◌, ◌≤◌, true, false, List, [], length, take, get_or, set, refl, sym, ap, ◌∙◌, subst, arith, Contains, inl, inr, length-set, get_or-set_same, get_or-set_other, get_or-take, length-take-le}
use Rattle.std.proofs.lemmas.List.{get_or_default}
use Rattle.std.proofs.lemmas.Bool.{cases_eq}
use Rattle.hw_model.specs.declared.lit.Lit.{Lit}
use Rattle.hw_store.specs.declared.watching.Watch.{Watch}
use Rattle.hw_store.specs.declared.watching.Watch.TheVariants.{Due}
use Rattle.hw_store.specs.Watches.{is_hit, is_on, DropsSome, Sifted, SiftsOne, MissedRun}
use Rattle.hw_store.proofs.Drops.{dropped}

false_true : false ≡ true → ⊥
false_true e = cc

pub drops_twice : (a b c : List Watch) → DropsSome a b → DropsSome b c → DropsSome a c
drops_twice a b c g h = record {
  same_length = h.same_length ∙ g.same_length;
  each = λ i. elim (h.each i) [
    | inl e ↦ elim (g.each i) [
      | inl f ↦ inl (e ∙ f)
      | inr f ↦ inr (e ∙ f)
    ]
    | inr e ↦ inr e
  ];
}

still_on : (ships slots bucket : ℕ) (w v : List Watch) (p : ℕ) → DropsSome w v → is_on ships slots bucket (get_or v p Due) ≡ true → is_on ships slots bucket (get_or w p Due) ≡ true
still_on ships slots bucket w v p d on = elim (d.each p) [
  | inl same ↦ sym (ap (is_on ships slots bucket) same) ∙ on
  | inr due ↦ absurd (false_true (sym (ap (is_on ships slots bucket) due) ∙ on))
]

-- up to a place of the old list no watch is hit, and what watches the bucket is among the first `kept` of the new one
pub record Sifting (ships slots bucket : ℕ) (cutting : Lit) (ws : List Watch) (old now : List ℕ) (at kept : ℕ) : Type 0 where
  pub same_length : length now ≡ length old
  pub few : kept ≤ at
  pub same_after : (i : ℕ) → at ≤ i → get_or now i 0 ≡ get_or old i 0
  pub missed : (i : ℕ) → i < at → is_hit cutting (get_or ws (get_or old i 0) Due) ≡ false
  pub stays : (i : ℕ) → i < at → is_on ships slots bucket (get_or ws (get_or old i 0) Due) ≡ true → (j : ℕ) × (j < kept) × (get_or now j 0 ≡ get_or old i 0)
  pub only : (j : ℕ) → j < kept → (i : ℕ) × (i < at) × (get_or old i 0 ≡ get_or now j 0)

missed_more : (cutting : Lit) (w v : List Watch) (old : List ℕ) (at : ℕ) → DropsSome w v → is_hit cutting (get_or v (get_or old at 0) Due) ≡ false → ((i : ℕ) → i < at → is_hit cutting (get_or w (get_or old i 0) Due) ≡ false) → (i : ℕ) → i < at + 1 → is_hit cutting (get_or v (get_or old i 0) Due) ≡ false
missed_more cutting w v old at d here before i lt = elim (cases_eq i at) [
  | inl e ↦ subst (λ n. is_hit cutting (get_or v (get_or old n 0) Due) ≡ false) (sym e) here
  | inr n ↦ dropped (λ x. is_hit cutting x ≡ false) w v (get_or old i 0) d refl (before i (omega (arith, lt, n)))
]

-- the place doesn't stay
pub sift_passes : (ships slots bucket : ℕ) (cutting : Lit) (w v : List Watch) (old now : List ℕ) (at kept : ℕ) → Sifting ships slots bucket cutting w old now at kept → DropsSome w v → is_hit cutting (get_or v (get_or old at 0) Due) ≡ false → is_on ships slots bucket (get_or v (get_or old at 0) Due) ≡ false → Sifting ships slots bucket cutting v old now (at + 1) kept
sift_passes ships slots bucket cutting w v old now at kept s d miss off = record {
  same_length = s.same_length;
  few = omega (arith, s.few);
  same_after = λ i le. s.same_after i (omega (arith, le));
  missed = missed_more cutting w v old at d miss s.missed;
  stays = λ i lt on. elim (cases_eq i at) [
    | inl e ↦ absurd (false_true (sym off ∙ subst (λ n. is_on ships slots bucket (get_or v (get_or old n 0) Due) ≡ true) e on))
    | inr n ↦ s.stays i (omega (arith, lt, n)) (still_on ships slots bucket w v (get_or old i 0) d on)
  ];
  only = λ j lt. let o = s.only j lt in (o.0, omega (arith, o.1), o.2);
}

-- the place stays
pub sift_keeps : (ships slots bucket : ℕ) (cutting : Lit) (w v : List Watch) (old now : List ℕ) (at kept : ℕ) → Sifting ships slots bucket cutting w old now at kept → at < length old → DropsSome w v → is_hit cutting (get_or v (get_or old at 0) Due) ≡ false → Sifting ships slots bucket cutting v old (set now kept (get_or old at 0)) (at + 1) (kept + 1)
sift_keeps ships slots bucket cutting w v old now at kept s inside d miss =
    let place : ℕ = get_or old at 0 in
    let within : kept < length now = omega (arith, s.few, inside, s.same_length) in
    record {
      same_length = length-set now kept place ∙ s.same_length;
      few = omega (arith, s.few);
      same_after = λ i le. let ne : i ≢ kept = omega (arith, le, s.few) in get_or-set_other now kept i place 0 ne ∙ s.same_after i (omega (arith, le));
      missed = missed_more cutting w v old at d miss s.missed;
      stays = λ i lt on. elim (cases_eq i at) [
        | inl e ↦ (kept, omega arith, get_or-set_same now kept place 0 within ∙ ap (λ n. get_or old n 0) (sym e))
        | inr n ↦ (
            let o = s.stays i (omega (arith, lt, n)) (still_on ships slots bucket w v (get_or old i 0) d on) in
            let ne : o.0 ≢ kept = omega (arith, o.1) in
            (o.0, omega (arith, o.1), get_or-set_other now kept o.0 place 0 ne ∙ o.2))
      ];
      only = λ j lt. elim (cases_eq j kept) [
        | inl e ↦ (at, omega arith, sym (ap (λ n. get_or (set now kept place) n 0) e ∙ get_or-set_same now kept place 0 within))
        | inr n ↦ (
            let o = s.only j (omega (arith, lt, n)) in
            (o.0, omega (arith, o.1), o.2 ∙ sym (get_or-set_other now kept j place 0 n)))
      ];
    }

pub sift_ends : (ships slots bucket : ℕ) (cutting : Lit) (ws : List Watch) (old now : List ℕ) (at kept : ℕ) → Sifting ships slots bucket cutting ws old now at kept → at ≡ length old → Sifted ships slots bucket cutting ws old (take kept now)
sift_ends ships slots bucket cutting ws old now at kept s end = record {
  missed = λ p c. subst (λ n. is_hit cutting (get_or ws n Due) ≡ false) (held old p c) (s.missed c.0 (omega (arith, c.1, end)));
  stays = λ p c on. (
      let o = s.stays c.0 (omega (arith, c.1, end)) (subst (λ n. is_on ships slots bucket (get_or ws n Due) ≡ true) (sym (held old p c)) on) in
      (o.0, omega (arith, o.1, short), get_or-take kept now o.0 p o.1 ∙ get_or_default now o.0 p 0 (omega (arith, o.1, few)) ∙ o.2 ∙ held old p c));
  only = λ p c. (
      let lt : c.0 < kept = omega (arith, c.1, short) in
      let o = s.only c.0 lt in
      (o.0, omega (arith, o.1, end), get_or_default old o.0 p 0 (omega (arith, o.1, end)) ∙ o.2 ∙ get_or_default now c.0 0 p (omega (arith, lt, few)) ∙ sym (get_or-take kept now c.0 p lt) ∙ c.2));
}
  where
    few : kept ≤ length now
    few = omega (arith, s.few, end, s.same_length)

    short : length (take kept now) ≡ kept
    short = length-take-le kept now few

    held : (xs : List ℕ) (p : ℕ) (c : Contains xs p) → get_or xs c.0 0 ≡ p
    held xs p c = get_or_default xs c.0 0 p c.1 ∙ c.2

-- one list of all
pub sifts_one : (ships slots bucket : ℕ) (cutting : Lit) (ws : List Watch) (lists : List (List ℕ)) (new : List ℕ) → bucket < length lists → Sifted ships slots bucket cutting ws (get_or lists bucket []) new → SiftsOne ships slots bucket cutting ws lists (set lists bucket new)
sifts_one ships slots bucket cutting ws lists new lt s = record {
  same_length = length-set lists bucket new;
  others = λ n ne. get_or-set_other lists bucket n new [] ne;
  one = subst (Sifted ships slots bucket cutting ws (get_or lists bucket [])) (sym (get_or-set_same lists bucket new [] lt)) s;
}

-- ---- one list after another

-- the lists from a bucket on weren't gone through
abbrev pub Ahead : ℕ → List (List ℕ) → List (List ℕ) → Type 0
Ahead at old new = (n : ℕ) → at ≤ n → get_or new n [] ≡ get_or old n []

pub ahead_more : (ships slots at : ℕ) (cutting : Lit) (ws : List Watch) (a b c : List (List ℕ)) → SiftsOne ships slots at cutting ws b c → Ahead at a b → Ahead (at + 1) a c
ahead_more ships slots at cutting ws a b c s h n le =
    let ne : n ≢ at = omega (arith, le) in
    s.others n ne ∙ h n (omega (arith, le))

pub run_more : (ships slots first at : ℕ) (cutting : Lit) (w v : List Watch) (a b c : List (List ℕ)) → MissedRun first at cutting w a → Ahead at a b → DropsSome w v → SiftsOne ships slots at cutting v b c → MissedRun first (at + 1) cutting v a
run_more ships slots first at cutting w v a b c r ahead d s n p le lt h = elim (cases_eq n at) [
  | inl e ↦ s.one.missed p (subst (λ l. Contains l p) (ap (λ m. get_or a m []) e ∙ sym (ahead at (omega arith))) h)
  | inr ne ↦ dropped (λ x. is_hit cutting x ≡ false) w v p d refl (r n p le (omega (arith, lt, ne)) h)
]
