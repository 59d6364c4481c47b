-- What is charged stays so, and what a book of prices keeps.
use Rattle.std.proofs.Common.{◌≡◌, ℕ, zero, suc, ◌+◌, ◌-◌, ◌<◌, Bool, List, [], ◌∷◌, ◌++◌, Option, Some, None, length, fold, option_map, All, IfSome, refl, sym, ap, ◌∙◌, subst, arith, length-append}
use Rattle.std.proofs.lemmas.List.Elements.{All-push}
use Rattle.std.specs.List.{range_with_len}
use Rattle.hw_model.specs.Problem.{Problem, value_at}
use Rattle.hw_model.specs.Rooms.{RoomModel}
use Rattle.hw_price_laws.specs.declared.tariff.Tariff.{Tariff}
use Rattle.hw_price_laws.specs.declared.toll.Toll.{Toll}
use Rattle.hw_price_laws.specs.Tolls.{IsToll}
use Rattle.hw_price_laws.specs.Prices.{DueFits}
use Rattle.hw_price_laws.specs.Computed.{balance, best_balance, better, prices_refute}
use Rattle.hw_price_laws.proofs.More.{same_allowance, same_pays, fits_more}
use Rattle.hw_price_tests.specs.InForce.{Charged, IsCharged}
use Rattle.hw_price_tests.specs.PriceStates.{PriceState, AreGood, tariff_in_force}
use Rattle.hw_price_tests.proofs.Charged.{balance_by}

-- passes with equal steps end equal
same_fold : {X : Type 0} (g h : X → ℕ → X) (so_far : X) (from count : ℕ) → ((x : X) (k : ℕ) → g x k ≡ h x k) → fold g so_far (range_with_len from count) ≡ fold h so_far (range_with_len from count)
same_fold g h so_far from zero same = refl
same_fold g h so_far from (suc count) same = same_fold g h (g so_far from) (from + 1) count same ∙ ap (λ x. fold h x (range_with_len (from + 1) count)) (same so_far from)

best_stays : (f : Problem) (tolls more : List Toll) (tariff : Tariff) (ship low high : ℕ) → All (DueFits (length tolls)) tariff.dues → best_balance f (tolls ++ more) tariff ship low high ≡ best_balance f tolls tariff ship low high
best_stays f tolls more tariff ship low high fit =
    same_fold (λ most slot. better most (balance f (tolls ++ more) tariff ship slot)) (λ most slot. better most (balance f tolls tariff ship slot)) None low (high + 1 - low)
    (λ most slot. ap (λ cost. better most (option_map (balance_by tariff.scale cost) (value_at f ship slot))) (same_pays f tolls more tariff.dues ship slot fit))

pub charged_stays : (f : Problem) (tolls more : List Toll) (c : Charged) → IsCharged f tolls c → IsCharged f (tolls ++ more) c
charged_stays f tolls more c is = record {
  fits = fits_more tolls more c.tariff is.fits;
  allowed = is.allowed ∙ sym (same_allowance tolls more c.tariff.dues is.fits.each_due);
  costs = record {
    each_ship = is.costs.each_ship;
    ships = λ ship lt. record {
      each_slot = (is.costs.ships ship lt).each_slot;
      paid = λ slot inside. (is.costs.ships ship lt).paid slot inside ∙ sym (same_pays f tolls more c.tariff.dues ship slot is.fits.each_due);
    };
  };
  tops = record { each_ship = is.tops.each_ship; ships = λ ship lt. is.tops.ships ship lt ∙ sym (best_stays f tolls more c.tariff ship 0 (f.slots - 1) is.fits.each_due) };
}

stays_charged : (f : Problem) (tolls more : List Toll) (o : Option Charged) → IfSome o (IsCharged f tolls) → IfSome o (IsCharged f (tolls ++ more))
stays_charged f tolls more None h = h
stays_charged f tolls more (Some c) h = charged_stays f tolls more c h

-- a book with one more toll
pub one_more_toll : (f : Problem) (state : PriceState) (tolls pushed : List Toll) (o : Option Charged) (bound : Option ℕ) (toll : Toll) → record { tolls = tolls; charged = o; bound = bound } ≡ state → pushed ≡ tolls ++ toll ∷ [] → AreGood f state → IsToll f toll → length state.tolls < 10_000
    → AreGood f (record { tolls = pushed; charged = o; bound = bound })
one_more_toll f state tolls pushed o bound toll view is good one below =
    let was : AreGood f (record { tolls = tolls; charged = o; bound = bound }) = subst (AreGood f) (sym view) good in
    let few : length tolls < 10_000 = subst (λ (s : PriceState). length s.tolls < 10_000) (sym view) below in
    let next : AreGood f (record { tolls = tolls ++ toll ∷ []; charged = o; bound = bound }) =
    record { few = omega (arith, few, length-append tolls (toll ∷ [])); tolls = All-push (IsToll f) tolls toll was.tolls one; charged = stays_charged f tolls (toll ∷ []) o was.charged }
    in
    subst (λ ts. AreGood f (record { tolls = ts; charged = o; bound = bound })) (sym is) next

-- what the tariff in force refutes
pub in_force_refutes : (f : Problem) (state : PriceState) (tolls given : List Toll) (o : Option Charged) (bound best : Option ℕ) (room : RoomModel) (prices : Charged) (b : Bool) → record { tolls = tolls; charged = o; bound = bound } ≡ state → given ≡ tolls → o ≡ Some prices
    → b ≡ prices_refute f given prices.tariff best room → Some b ≡ option_map (λ t. prices_refute f state.tolls t best room) (tariff_in_force state)
in_force_refutes f state tolls given o bound best room prices b view same at is =
    let told : Some b ≡ option_map (λ t. prices_refute f tolls t best room) (option_map (λ (c : Charged). c.tariff) o) =
    ap Some (is ∙ ap (λ ts. prices_refute f ts prices.tariff best room) same) ∙ ap (λ x. option_map (λ t. prices_refute f tolls t best room) (option_map (λ (c : Charged). c.tariff) x)) (sym at)
    in
    subst (λ (s : PriceState). Some b ≡ option_map (λ t. prices_refute f s.tolls t best room) (tariff_in_force s)) view told
