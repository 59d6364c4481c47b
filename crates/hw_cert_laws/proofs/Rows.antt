-- The worked rows of lean lines and of new lemmas.
use Rattle.std.proofs.Common.{◌≡◌, ℕ, zero, suc, ◌<◌, ◌≤◌, true, false, List, [], ◌∷◌, get_or, AllPairs, Contains, IsSomeAnd, refl, sym, ap, subst, arith, inl, ◌⊎◌}
use Rattle.std.proofs.lemmas.Bool.{and_parts, and_from}
use Rattle.std.proofs.lemmas.List.Elements.{All-nil, All-cons, All-head, All-tail}
use Rattle.std.specs.List.{list_all}
use Rattle.hw_lemmas.proofs.Truths.{clash}
use Rattle.hw_model.specs.declared.lit.Lit.{Lit}
use Rattle.hw_model.specs.declared.lit.Lit.TheVariants.{AtOrAfter, Before, First, NotFirst}
use Rattle.hw_model.specs.declared.source.Source.{Source}
use Rattle.hw_model.specs.declared.source.Source.TheVariants as sources
use Rattle.hw_model.specs.Problem.{Problem}
use Rattle.hw_model.specs.Lits.{lit_holds}
use Rattle.hw_model.specs.declared.order.Order.TheVariants as orders
use Rattle.hw_model.specs.Rooms.{RoomModel, RoomWithin, low_of, high_of, order_of}
use Rattle.hw_model.specs.Quiet.{names_lit, SpeaksOnlyOf}
use Rattle.hw_model_laws.specs.Rows.{two_apart, three_ships}
use Rattle.hw_cert_lines.specs.declared.line.Line.TheVariants as lines
use Rattle.hw_cert_lines.specs.Lemmas.{IsHinted, LeanAfter}
use Rattle.hw_cert_lines.specs.Lines.{clause_at}
use Rattle.hw_cert_lines.specs.Valid.{denied_room}
use Rattle.hw_cert_laws.specs.Rows.{LeanRows, NewRows, RenewedRows, second_slot, third_slot}

speaks : (f : Problem) (source : Source) (clause : List Lit) → list_all (names_lit f source) clause ≡ true → SpeaksOnlyOf f source clause
speaks f source [] e = All-nil (λ lit. names_lit f source lit ≡ true)
speaks f source (lit ∷ more) e =
    let p = and_parts (names_lit f source lit) _ e in
    All-cons (λ lit. names_lit f source lit ≡ true) lit more p.0 (speaks f source more p.1)

spoken : (f : Problem) (source : Source) (clause : List Lit) → SpeaksOnlyOf f source clause → list_all (names_lit f source) clause ≡ true
spoken f source [] all = refl
spoken f source (lit ∷ more) all = and_from (names_lit f source lit) _ (All-head (λ lit. names_lit f source lit ≡ true) lit more all) (spoken f source more (All-tail (λ lit. names_lit f source lit ≡ true) lit more all))

silent : (f : Problem) (source : Source) (clause : List Lit) → list_all (names_lit f source) clause ≡ false → SpeaksOnlyOf f source clause → ⊥
silent f source clause e all = clash _ (spoken f source clause all) e

hinted : LeanAfter two_apart (lines.Goal second_slot ∷ []) (lines.Lemma second_slot (1 ∷ []))
hinted = All-cons (IsHinted (lines.Goal second_slot ∷ []) (1 ∷ [])) (AtOrAfter 0 1) [] (0, 1, omega arith, refl, (0, omega arith, refl)) (All-nil (IsHinted (lines.Goal second_slot ∷ []) (1 ∷ [])))

other_slot : (k : ℕ) → k < 1 → get_or second_slot k (AtOrAfter 0 2) ≡ AtOrAfter 0 2 → ⊥
other_slot zero lt e = clash (lit_holds (1 ∷ 0 ∷ []) (AtOrAfter 0 2)) (sym (ap (lit_holds (1 ∷ 0 ∷ [])) e)) refl
other_slot (suc k) lt e = absurd (omega (arith, lt))

no_hint : (k id : ℕ) → k < 1 → get_or (1 ∷ []) k id ≡ id → IsSomeAnd (clause_at (lines.Goal second_slot ∷ []) id) (λ clause. Contains clause (AtOrAfter 0 2)) → ⊥
no_hint zero id lt e c =
    let here : Contains second_slot (AtOrAfter 0 2) = subst (λ i. IsSomeAnd (clause_at (lines.Goal second_slot ∷ []) i) (λ clause. Contains clause (AtOrAfter 0 2))) (sym e) c in
    other_slot here.0 here.1 here.2
no_hint (suc k) id lt e c = absurd (omega (arith, lt))

unhinted : LeanAfter two_apart (lines.Goal second_slot ∷ []) (lines.Lemma third_slot (1 ∷ [])) → ⊥
unhinted all =
    let r = All-head (IsHinted (lines.Goal second_slot ∷ []) (1 ∷ [])) (AtOrAfter 0 2) [] all in
    no_hint r.0 r.1 r.2 r.3 r.4

pub lean_rows : LeanRows
lean_rows = record {
  goal_of_ships = speaks two_apart sources.Goal (AtOrAfter 1 1 ∷ []) refl;
  goal_of_an_order = silent two_apart sources.Goal (First 0 1 ∷ []) refl;
  prices_of_ships = speaks two_apart sources.Goal (AtOrAfter 1 1 ∷ []) refl;
  prices_of_an_order = silent two_apart sources.Goal (First 0 1 ∷ []) refl;
  rule_of_its_ships_and_order = speaks two_apart (sources.Rule 0) (Before 0 1 ∷ First 0 1 ∷ []) refl;
  window_of_another_ship = silent two_apart (sources.Window 0) (Before 0 1 ∷ Before 1 1 ∷ []) refl;
  orders_of_three = speaks three_ships (sources.Order 0 1 2) (NotFirst 0 1 ∷ First 0 2 ∷ NotFirst 1 2 ∷ []) refl;
  order_of_a_ship = silent three_ships (sources.Order 0 1 2) (AtOrAfter 0 1 ∷ []) refl;
  lemma_of_its_hint = hinted;
  lemma_of_no_hint = unhinted;
}

-- ---- new lemmas

-- a room of two ships inside another that sets no order
inside_two : (inner outer : RoomModel) → outer.ships ≡ 2 → low_of outer 0 ≤ low_of inner 0 → low_of outer 1 ≤ low_of inner 1 → high_of inner 0 ≤ high_of outer 0 → high_of inner 1 ≤ high_of outer 1 → order_of outer 0 1 ≡ orders.Unset → RoomWithin inner outer
inside_two inner outer two a b c d o = record { lows = λ ship lt. low ship (omega (arith, lt, two)); highs = λ ship lt. high ship (omega (arith, lt, two)); orders = λ v w vw lt. pair v w vw (omega (arith, lt, two)) }
  where
    low : (ship : ℕ) → ship < 2 → low_of outer ship ≤ low_of inner ship
    low zero lt = a
    low (suc zero) lt = b
    low (suc (suc ship)) lt = absurd (omega (arith, lt))

    high : (ship : ℕ) → ship < 2 → high_of inner ship ≤ high_of outer ship
    high zero lt = c
    high (suc zero) lt = d
    high (suc (suc ship)) lt = absurd (omega (arith, lt))

    pair : (v w : ℕ) → v < w → w < 2 → (order_of outer v w ≡ orders.Unset) ⊎ (order_of inner v w ≡ order_of outer v w)
    pair zero zero vw lt = absurd (omega (arith, vw))
    pair zero (suc zero) vw lt = inl o
    pair zero (suc (suc w)) vw lt = absurd (omega (arith, lt))
    pair (suc v) w vw lt = absurd (omega (arith, vw, lt))

-- of two lemmas in order
two_lemmas : (R : List Lit → List Lit → Type 0) (a b : List Lit) → R a b → AllPairs R (a ∷ b ∷ [])
two_lemmas R a b h zero zero d lt many = absurd (omega (arith, lt))
two_lemmas R a b h zero (suc zero) d lt many = h
two_lemmas R a b h zero (suc (suc j)) d lt many = absurd (omega (arith, many))
two_lemmas R a b h (suc i) j d lt many = absurd (omega (arith, lt, many))

wider : RoomWithin (denied_room two_apart third_slot) (denied_room two_apart second_slot) → ⊥
wider w =
    let high : 1 ≤ 0 = w.highs 0 (omega arith) in
    omega (arith, high)

narrower : RoomWithin (denied_room two_apart second_slot) (denied_room two_apart third_slot)
narrower = inside_two _ (denied_room two_apart third_slot) refl (omega arith) (omega arith) (omega arith) (omega arith) refl

itself : RoomWithin (denied_room two_apart second_slot) (denied_room two_apart second_slot)
itself = inside_two _ (denied_room two_apart second_slot) refl (omega arith) (omega arith) (omega arith) (omega arith) refl

pub new_rows : NewRows
new_rows = record {
  wider_later = two_lemmas (λ earlier later. RoomWithin (denied_room two_apart later) (denied_room two_apart earlier) → ⊥) second_slot third_slot wider;
  narrower_later = λ new. new 0 1 [] (omega arith) (omega arith) narrower;
  the_same_twice = λ new. new 0 1 [] (omega arith) (omega arith) itself;
  reasons_are_no_lemmas = λ i j d lt many. absurd (omega (arith, lt, many));
}

pub renewed_rows : RenewedRows
renewed_rows = record {
  one_never_named = refl;
  all_named_at_the_end = refl;
  other_deletions_go = refl;
  deleted_after_the_last_hint = refl;
  both_deletions = refl;
  tolls_and_prices_stay = refl;
  priced_and_named = refl;
  no_lines = refl;
}
