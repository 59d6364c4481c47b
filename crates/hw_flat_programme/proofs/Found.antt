-- A satisfying point has one slot for each ship, and the values of a table's slots add up to its cargo.
use Rattle.std.proofs.Common.{◌≡◌, ℕ, zero, suc, ◌+◌, ◌-◌, ◌<◌, ◌≤◌, Bool, true, false, cond, nat_eq, List, [], ◌∷◌, Option, Some, None, length, get_or, slice_index, is_some, IsSome, unwrap_or, refl, sym, ◌∙◌, ap, subst, arith, inl, inr, ◌⊎◌}
use Rattle.std.proofs.lemmas.Bool.{cases_eq, eq-eqb, ne_eqb, eqb-true, both_ways}
use Rattle.std.proofs.lemmas.Option.{same_Some}
use Rattle.std.proofs.lemmas.List.{same_lists, get_or_default}
use Rattle.std.proofs.lemmas.List.Elements.{All-from_get_or}
use Rattle.hw_model.specs.Limits.{IsFlat}
use Rattle.hw_model.specs.Problem.{Problem, value_at}
use Rattle.hw_model.specs.Timetables.{Permits, cargo, cargo_from, plus}
use Rattle.hw_model_laws.proofs.Sound.{value_le}
use Rattle.hw_flat_programme.specs.declared.format.Format.{Format}
use Rattle.hw_flat_programme.specs.declared.format.Format.TheVariants.{Lp, Opb}
use Rattle.hw_flat_programme.specs.Laws.{IsPointOf}
use Rattle.hw_flat_programme.specs.Programmes.{Point, total, Satisfies, SatisfiesRows}
use Rattle.hw_flat_programme.specs.Rows.{term_at, terms_from, span_terms, whole_span, ship_rows, rules_rows, programme_of, counts, most, most_from, value_terms, ships_terms, SpanFits}
use Rattle.hw_flat_programme.proofs.Sums.{total-append, satisfies-append, satisfies_parts}
use Rattle.hw_flat_programme.proofs.Sits.{Sits, in_span, values_inside}
use Rattle.hw_flat_programme.proofs.Grouped.{Seated}
use Rattle.hw_flat_programme.proofs.Kept.{rules_satisfied, rules_kept}
use Rattle.hw_flat_programme.proofs.Cleared.{keeps_clear}

-- ---- one slot of a ship

-- the one variable of these slots that is 1
record IsOne (f : Problem) (p : Point) (ship slot count x : ℕ) : Type 0 where
  pub from : slot ≤ x
  pub to : x < slot + count
  pub sails : IsSome (value_at f ship x)
  pub point : (k : ℕ) → slot ≤ k → k < slot + count → IsSome (value_at f ship k) → p ship k ≡ nat_eq x k

one_or_none : (f : Problem) (p : Point) (ship slot : ℕ) → ((total p (term_at f 1 ship slot) ≡ 1) × IsSome (value_at f ship slot) × (p ship slot ≡ true)) ⊎ ((total p (term_at f 1 ship slot) ≡ 0) × (IsSome (value_at f ship slot) → p ship slot ≡ false))
one_or_none f p ship slot = by (is_some (value_at f ship slot)) refl (p ship slot) refl
  where
    by : (b : Bool) → is_some (value_at f ship slot) ≡ b → (c : Bool) → p ship slot ≡ c → ((total p (cond b (record { weight = 1; ship = ship; slot = slot } ∷ []) []) ≡ 1) × IsSome (value_at f ship slot) × (p ship slot ≡ true)) ⊎ ((total p (cond b (record { weight = 1; ship = ship; slot = slot } ∷ []) []) ≡ 0) × (IsSome (value_at f ship slot) → p ship slot ≡ false))
    by false e c g = inr (refl, λ some. absurd (both_ways _ e some))
    by true e true g = inl (let one : ◌≡◌ {A = ℕ} (cond (p ship slot) 1 0) 1 = ap (λ (b : Bool). cond b 1 0) g in omega (arith, one), e, g)
    by true e false g = inr (let none : ◌≡◌ {A = ℕ} (cond (p ship slot) 1 0) 0 = ap (λ (b : Bool). cond b 1 0) g in omega (arith, none), λ some. g)

none_set : (f : Problem) (p : Point) (ship slot count : ℕ) → total p (terms_from f 1 ship slot count) ≡ 0 → (k : ℕ) → slot ≤ k → k < slot + count → IsSome (value_at f ship k) → p ship k ≡ false
none_set f p ship slot zero e k le lt some = absurd (omega (arith, le, lt))
none_set f p ship slot (suc more) e k le lt some = by (one_or_none f p ship slot) (cases_eq k slot) (none_set f p ship (slot + 1) more)
  where
    both : total p (term_at f 1 ship slot) + total p (terms_from f 1 ship (slot + 1) more) ≡ 0
    both = sym (total-append p (term_at f 1 ship slot) (terms_from f 1 ship (slot + 1) more)) ∙ e

    later : (k : ℕ) → slot ≤ k → (k ≡ slot → ⊥) → slot + 1 ≤ k
    later k le ne = grind arith

    by : ((total p (term_at f 1 ship slot) ≡ 1) × IsSome (value_at f ship slot) × (p ship slot ≡ true)) ⊎ ((total p (term_at f 1 ship slot) ≡ 0) × (IsSome (value_at f ship slot) → p ship slot ≡ false)) → (k ≡ slot) ⊎ (k ≡ slot → ⊥) → (total p (terms_from f 1 ship (slot + 1) more) ≡ 0 → (k : ℕ) → slot + 1 ≤ k → k < (slot + 1) + more → IsSome (value_at f ship k) → p ship k ≡ false) → p ship k ≡ false
    by (inl one) either rest = absurd (omega (arith, both, one.0))
    by (inr none) (inl same) rest = ap (p ship) same ∙ none.1 (subst (λ (n : ℕ). IsSome (value_at f ship n)) same some)
    by (inr none) (inr ne) rest = rest (omega (arith, both, none.0)) k (later k le ne) (omega (arith, lt)) some

one_set : (f : Problem) (p : Point) (ship slot count : ℕ) → total p (terms_from f 1 ship slot count) ≡ 1 → (x : ℕ) × IsOne f p ship slot count x
one_set f p ship slot zero e = absurd (omega (arith, e))
one_set f p ship slot (suc more) e = by (one_or_none f p ship slot) (one_set f p ship (slot + 1) more)
  where
    both : total p (term_at f 1 ship slot) + total p (terms_from f 1 ship (slot + 1) more) ≡ 1
    both = sym (total-append p (term_at f 1 ship slot) (terms_from f 1 ship (slot + 1) more)) ∙ e

    later : (k : ℕ) → slot ≤ k → (slot ≡ k → ⊥) → slot + 1 ≤ k
    later k le ne = grind arith

    here : (p ship slot ≡ true) → total p (terms_from f 1 ship (slot + 1) more) ≡ 0 → (k : ℕ) → slot ≤ k → k < slot + suc more → IsSome (value_at f ship k) → (slot ≡ k) ⊎ (slot ≡ k → ⊥) → p ship k ≡ nat_eq slot k
    here set rest k le lt some (inl same) = ap (p ship) (sym same) ∙ set ∙ sym (eq-eqb slot k same)
    here set rest k le lt some (inr ne) = none_set f p ship (slot + 1) more rest k (later k le ne) (omega (arith, lt)) some ∙ sym (ne_eqb slot k ne)

    past : (x : ℕ) → IsOne f p ship (slot + 1) more x → (IsSome (value_at f ship slot) → p ship slot ≡ false) → (k : ℕ) → slot ≤ k → k < slot + suc more → IsSome (value_at f ship k) → (slot ≡ k) ⊎ (slot ≡ k → ⊥) → p ship k ≡ nat_eq x k
    past x one none k le lt some (inl same) =
        ap (p ship) (sym same) ∙ none (subst (λ (n : ℕ). IsSome (value_at f ship n)) (sym same) some) ∙ sym (ne_eqb x k (λ e. omega (arith, one.from, same, e)))
    past x one none k le lt some (inr ne) = one.point k (later k le ne) (omega (arith, lt)) some

    by : ((total p (term_at f 1 ship slot) ≡ 1) × IsSome (value_at f ship slot) × (p ship slot ≡ true)) ⊎ ((total p (term_at f 1 ship slot) ≡ 0) × (IsSome (value_at f ship slot) → p ship slot ≡ false)) → (total p (terms_from f 1 ship (slot + 1) more) ≡ 1 → (x : ℕ) × IsOne f p ship (slot + 1) more x) → (x : ℕ) × IsOne f p ship slot (suc more) x
    by (inl one) rest = (slot, record { from = omega arith; to = omega arith; sails = one.1; point = λ k le lt some. here one.2 (omega (arith, both, one.0)) k le lt some (cases_eq slot k) })
    by (inr none) rest =
        let found = rest (omega (arith, both, none.0)) in
        (found.0, record { from = omega (arith, found.1.from); to = omega (arith, found.1.to); sails = found.1.sails; point = λ k le lt some. past found.0 found.1 none.1 k le lt some (cases_eq slot k) })

-- ---- the rows of the ships

whole_fits : (f : Problem) (ship : ℕ) → ship < f.ships → SpanFits f (whole_span f ship)
whole_fits f ship lt = record { ship_in = lt; slots_in = omega arith; small = omega arith }

ships_satisfied : (f : Problem) (p : Point) (table : List ℕ) (ship count : ℕ) → Seated f p table → ship + count ≤ f.ships → SatisfiesRows p (ship_rows f ship count)
ships_satisfied f p table ship zero seated le = tt
ships_satisfied f p table ship (suc more) seated le =
    let lt : ship < f.ships = omega (arith, le) in
    let sits = seated ship lt in
    (in_span f p (slice_index table ship) (whole_span f ship) (whole_fits f ship lt) sits (omega arith, sits.slot_in), ships_satisfied f p table (ship + 1) more seated (omega (arith, le)))

ship_sits : (f : Problem) (p : Point) (ship : ℕ) → total p (span_terms f (whole_span f ship)) ≡ 1 → (x : ℕ) × Sits f p ship x
ship_sits f p ship e =
    let found = one_set f p ship 0 (f.slots - 0) e in
    (found.0, record { slot_in = omega (arith, found.1.to); sails = found.1.sails; point = λ slot lt some. found.1.point slot (omega arith) (omega (arith, lt)) some })

-- a list of slots for these ships
record IsListed (f : Problem) (p : Point) (ship count : ℕ) (slots : List ℕ) : Type 0 where
  pub each : length slots ≡ count
  pub sits : (k : ℕ) → k < count → Sits f p (ship + k) (get_or slots k 0)

ships_sit : (f : Problem) (p : Point) (ship count : ℕ) → SatisfiesRows p (ship_rows f ship count) → (slots : List ℕ) × IsListed f p ship count slots
ships_sit f p ship zero satisfied = ([], record { each = refl; sits = λ k lt. absurd (omega (arith, lt)) })
ships_sit f p ship (suc more) satisfied =
    let first = ship_sits f p ship satisfied.0 in
    let rest = ships_sit f p (ship + 1) more satisfied.1 in
    (first.0 ∷ rest.0, record { each = omega (arith, rest.1.each); sits = listed first.0 rest.0 first.1 rest.1 })
  where
    listed : (x : ℕ) (slots : List ℕ) → Sits f p ship x → IsListed f p (ship + 1) more slots → (k : ℕ) → k < suc more → Sits f p (ship + k) (get_or (x ∷ slots) k 0)
    listed x slots sits rest zero lt = let same : ship ≡ ship + 0 = omega arith in subst (λ (s : ℕ). Sits f p s x) same sits
    listed x slots sits rest (suc k) lt = let same : (ship + 1) + k ≡ ship + suc k = omega arith in subst (λ (s : ℕ). Sits f p s (get_or slots k 0)) same (rest.sits k (omega (arith, lt)))

-- ---- the laws

permitted_seated : (f : Problem) (table : List ℕ) (p : Point) → Permits f table → IsPointOf f table p → Seated f p table
permitted_seated f table p permits point ship lt = record {
  slot_in = permits.listed.each_slot ship 0 (omega (arith, lt, permits.listed.each_ship));
  sails = permits.sails ship lt;
  point = λ slot slot_in some. point ship slot lt slot_in some;
}

pub satisfied : (format : Format) (f : Problem) (table : List ℕ) (p : Point) → IsFlat f → Permits f table → IsPointOf f table p → Satisfies p (programme_of format f)
satisfied format f table p flat permits point =
    let seated = permitted_seated f table p permits point in
    satisfies-append p (ship_rows f 0 f.ships) (rules_rows f f.rules) (ships_satisfied f p table 0 f.ships seated (omega arith)) (rules_satisfied f p table f.rules seated (keeps_clear f table permits.keeps) flat.each_rule permits.keeps)

pub permitted : (format : Format) (f : Problem) (p : Point) → IsFlat f → Satisfies p (programme_of format f) → (table : List ℕ) × Permits f table × IsPointOf f table p
permitted format f p flat satisfies =
    let parts = satisfies_parts p (ship_rows f 0 f.ships) (rules_rows f f.rules) satisfies in
    let listed = ships_sit f p 0 f.ships parts.0 in
    let seated : Seated f p listed.0 = λ ship lt. seat listed.0 listed.1 ship lt in (
      listed.0,
      record {
        listed = record { each_ship = listed.1.each; each_slot = All-from_get_or (λ slot. slot < f.slots) listed.0 0 (λ i lt. (seated i (omega (arith, lt, listed.1.each))).slot_in) };
        sails = λ ship lt. (seated ship lt).sails;
        keeps = rules_kept f p listed.0 f.rules seated flat.each_rule parts.1;
      },
      λ ship slot lt slot_in some. (seated ship lt).point slot slot_in some,
    )
  where
    seat : (slots : List ℕ) → IsListed f p 0 f.ships slots → Seated f p slots
    seat slots listed ship lt = let same : 0 + ship ≡ ship = omega arith in subst (λ (s : ℕ). Sits f p s (get_or slots ship 0)) same (listed.sits ship lt)

pub same_table : (f : Problem) (table other : List ℕ) (p : Point) → Permits f table → Permits f other → IsPointOf f table p → IsPointOf f other p → table ≡ other
same_table f table other p permits permits' point point' =
    same_lists table other (permits.listed.each_ship ∙ sym permits'.listed.each_ship)
    (λ k d lt. any_default table other k d lt (omega (arith, lt, permits.listed.each_ship, permits'.listed.each_ship)) (one k (omega (arith, lt, permits.listed.each_ship))))
  where
    one : (ship : ℕ) → ship < f.ships → slice_index table ship ≡ slice_index other ship
    one ship lt =
        let seated = permitted_seated f table p permits point ship lt in
        let set : p ship (slice_index table ship) ≡ true = point ship (slice_index table ship) lt seated.slot_in seated.sails ∙ eq-eqb (slice_index table ship) (slice_index table ship) refl in
        sym (eqb-true (slice_index other ship) (slice_index table ship) (sym (point' ship (slice_index table ship) lt seated.slot_in seated.sails) ∙ set))

    any_default : (xs ys : List ℕ) (k d : ℕ) → k < length xs → k < length ys → get_or xs k 0 ≡ get_or ys k 0 → get_or xs k d ≡ get_or ys k d
    any_default xs ys k d a b e = get_or_default xs k d 0 a ∙ e ∙ sym (get_or_default ys k d 0 b)

-- ---- the objective

-- ships from one on, each in its slot of the list
abbrev IsSeated : Problem → Point → ℕ → List ℕ → Type 0
IsSeated f p ship slots = (k : ℕ) → k < length slots → Sits f p (ship + k) (get_or slots k 0)

seated_first : (f : Problem) (p : Point) (ship x : ℕ) (slots : List ℕ) → IsSeated f p ship (x ∷ slots) → Sits f p ship x
seated_first f p ship x slots sits = let same : ship + 0 ≡ ship = omega arith in subst (λ (s : ℕ). Sits f p s x) same (sits 0 (omega arith))

seated_rest : (f : Problem) (p : Point) (ship x : ℕ) (slots : List ℕ) → IsSeated f p ship (x ∷ slots) → IsSeated f p (ship + 1) slots
seated_rest f p ship x slots sits k lt = let same : ship + suc k ≡ (ship + 1) + k = omega arith in subst (λ (s : ℕ). Sits f p s (get_or slots k 0)) same (sits (suc k) (omega (arith, lt)))

ship_worth : (format : Format) (f : Problem) (p : Point) (ship x : ℕ) → Sits f p ship x → total p (value_terms format f ship 0 f.slots) ≡ counts format (most f ship) (unwrap_or (value_at f ship x) 0)
ship_worth format f p ship x own = values_inside format f p ship x 0 f.slots own (λ k le lt. omega (arith, lt)) (omega arith) (omega (arith, own.slot_in))

ships_worth : (f : Problem) (p : Point) (ship : ℕ) (slots : List ℕ) → IsSeated f p ship slots → cargo_from f ship slots ≡ Some (total p (ships_terms Lp f ship (length slots)))
ships_worth f p ship [] sits = refl
ships_worth f p ship (x ∷ slots) sits =
    let own = seated_first f p ship x slots sits in
    let rest = ships_worth f p (ship + 1) slots (seated_rest f p ship x slots sits) in
    added (value_at f ship x) (cargo_from f (ship + 1) slots) _ _ own.sails (sym (ship_worth Lp f p ship x own)) rest ∙ ap Some (sym (total-append p (value_terms Lp f ship 0 f.slots) (ships_terms Lp f (ship + 1) (length slots))))
  where
    added : (a b : Option ℕ) (m n : ℕ) → IsSome a → unwrap_or a 0 ≡ m → b ≡ Some n → plus a b ≡ Some (m + n)
    added None b m n some e g = absurd (cc)
    added (Some v) b m n some e g = ap (plus (Some v)) g ∙ ap (λ (k : ℕ). Some (k + n)) e

-- what ships lack of the most that they may carry, and what they carry, is that most
ships_lack : (f : Problem) (p : Point) (ship : ℕ) (slots : List ℕ) → IsSeated f p ship slots → total p (ships_terms Opb f ship (length slots)) + total p (ships_terms Lp f ship (length slots)) ≡ most_from f ship (length slots)
ships_lack f p ship [] sits = refl
ships_lack f p ship (x ∷ slots) sits =
    let own = seated_first f p ship x slots sits in
    let rest = ships_lack f p (ship + 1) slots (seated_rest f p ship x slots sits) in
    let few : unwrap_or (value_at f ship x) 0 ≤ most f ship = value_le f ship 0 (f.slots - 1) x (omega arith) (omega (arith, own.slot_in)) in
    omega (arith, rest, few, ship_worth Lp f p ship x own, ship_worth Opb f p ship x own, total-append p (value_terms Lp f ship 0 f.slots) (ships_terms Lp f (ship + 1) (length slots)), total-append p (value_terms Opb f ship 0 f.slots) (ships_terms Opb f (ship + 1) (length slots)))

table_seated : (f : Problem) (table : List ℕ) (p : Point) → Permits f table → IsPointOf f table p → IsSeated f p 0 table
table_seated f table p permits point k lt =
    let seated = permitted_seated f table p permits point k (omega (arith, lt, permits.listed.each_ship)) in
    let same : k ≡ 0 + k = omega arith in
    subst (λ (s : ℕ). Sits f p s (get_or table k 0)) same seated

pub objective : (f : Problem) (table : List ℕ) (p : Point) → Permits f table → IsPointOf f table p → cargo f table ≡ Some (total p (ships_terms Lp f 0 f.ships))
objective f table p permits point =
    ships_worth f p 0 table (table_seated f table p permits point) ∙ ap (λ (n : ℕ). Some (total p (ships_terms Lp f 0 n))) permits.listed.each_ship

pub lacks : (f : Problem) (table : List ℕ) (p : Point) (c : ℕ) → Permits f table → IsPointOf f table p → cargo f table ≡ Some c → total p (ships_terms Opb f 0 f.ships) + c ≡ most_from f 0 f.ships
lacks f table p c permits point e =
    let same : total p (ships_terms Lp f 0 f.ships) ≡ c = same_Some _ _ (sym (objective f table p permits point) ∙ e) in
    let all = subst (λ (n : ℕ). total p (ships_terms Opb f 0 n) + total p (ships_terms Lp f 0 n) ≡ most_from f 0 n) permits.listed.each_ship (ships_lack f p 0 table (table_seated f table p permits point)) in
    omega (arith, same, all)
