-- More tolls at the end change nothing.
use Rattle.std.proofs.Common.{◌≡◌, ◌↔◌, ℕ, zero, suc, ◌*◌, ◌≤◌, List, ◌++◌, Option, length, get_or, All, refl, ap, arith, length-append}
use Rattle.hw_lemmas.proofs.Lists.{get_left}
use Rattle.hw_model.specs.Problem.{Problem}
use Rattle.hw_model.specs.Rooms.{RoomModel}
use Rattle.hw_price_laws.specs.declared.tariff.Due.{Due}
use Rattle.hw_price_laws.specs.declared.tariff.Tariff.{Tariff}
use Rattle.hw_price_laws.specs.declared.toll.Toll.{Toll}
use Rattle.hw_price_laws.specs.Prices.{DueFits, TariffFits, PricesRefute, toll_at, usage_at, capacity_at, paid, allowance}
use Rattle.hw_price_laws.specs.Computed.{takes_at, pays}
use Rattle.hw_price_laws.proofs.Sums.{sum_same}

-- the toll of a number that is declared stays the same
same_toll : (tolls more : List Toll) (number : ℕ) → number ≤ length tolls → toll_at (tolls ++ more) number ≡ toll_at tolls number
same_toll tolls more zero le = refl
same_toll tolls more (suc place) le = get_left tolls more place (omega (arith, le))

same_paid : (f : Problem) (tolls more : List Toll) (dues : List Due) (table : List ℕ) → All (DueFits (length tolls)) dues → paid f (tolls ++ more) dues table ≡ paid f tolls dues table
same_paid f tolls more dues table fit =
    sum_same (λ (due : Due). due.price * usage_at f (toll_at (tolls ++ more) due.toll) table) (λ (due : Due). due.price * usage_at f (toll_at tolls due.toll) table) dues
    (λ i d lt. ap (λ o. (get_or dues i d).price * usage_at f o table) (same_toll tolls more (get_or dues i d).toll (fit i d lt).toll_in))

pub same_allowance : (tolls more : List Toll) (dues : List Due) → All (DueFits (length tolls)) dues → allowance (tolls ++ more) dues ≡ allowance tolls dues
same_allowance tolls more dues fit =
    sum_same (λ (due : Due). due.price * capacity_at (toll_at (tolls ++ more) due.toll)) (λ (due : Due). due.price * capacity_at (toll_at tolls due.toll)) dues
    (λ i d lt. ap (λ o. (get_or dues i d).price * capacity_at o) (same_toll tolls more (get_or dues i d).toll (fit i d lt).toll_in))

pub same_pays : (f : Problem) (tolls more : List Toll) (dues : List Due) (ship slot : ℕ) → All (DueFits (length tolls)) dues → pays f (tolls ++ more) dues ship slot ≡ pays f tolls dues ship slot
same_pays f tolls more dues ship slot fit =
    sum_same (λ (due : Due). due.price * takes_at f (toll_at (tolls ++ more) due.toll) ship slot) (λ (due : Due). due.price * takes_at f (toll_at tolls due.toll) ship slot) dues
    (λ i d lt. ap (λ o. (get_or dues i d).price * takes_at f o ship slot) (same_toll tolls more (get_or dues i d).toll (fit i d lt).toll_in))

pub fits_more : (tolls more : List Toll) (tariff : Tariff) → TariffFits (length tolls) tariff → TariffFits (length (tolls ++ more)) tariff
fits_more tolls more tariff fits = record {
  small_scale = fits.small_scale;
  few_dues = fits.few_dues;
  each_due = λ i d lt. record { from_one = (fits.each_due i d lt).from_one; toll_in = omega (arith, (fits.each_due i d lt).toll_in, length-append tolls more); small_price = (fits.each_due i d lt).small_price };
}

pub more_tolls : (f : Problem) (tolls more : List Toll) (tariff : Tariff) (best : Option ℕ) (room : RoomModel) → TariffFits (length tolls) tariff → (PricesRefute f (tolls ++ more) tariff best room ↔ PricesRefute f tolls tariff best room)
more_tolls f tolls more tariff best room fits = (
  λ h table c in' e. omega (arith, h table c in' e, same_paid f tolls more tariff.dues table fits.each_due, same_allowance tolls more tariff.dues fits.each_due),
  λ h table c in' e. omega (arith, h table c in' e, same_paid f tolls more tariff.dues table fits.each_due, same_allowance tolls more tariff.dues fits.each_due),
)
