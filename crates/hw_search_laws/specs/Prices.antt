-- What a search keeps of tolls and prices, and the lines that tell it.
use Rattle.std.specs.Prelude.{◌≡◌, ℕ, ◌≤◌, List, [], ◌∷◌, ◌++◌, Option, Some, None, All, IfSome, IsSomeAnd, length, map}
use Rattle.std.specs.List.Sorted.{IsStrictlyIncreasing}
use Rattle.hw_model.specs.Problem.{Problem}
use Rattle.hw_price_laws.specs.declared.limits.TheConstants.{MOST_TOLLS}
use Rattle.hw_price_laws.specs.declared.tariff.Tariff.{Tariff}
use Rattle.hw_price_laws.specs.declared.toll.Toll.{Toll}
use Rattle.hw_price_laws.specs.Tolls.{IsToll}
use Rattle.hw_price_laws.specs.Prices.{TariffFits, PricesBound}
use Rattle.hw_cert_lines.specs.declared.line.Line.{Line}
use Rattle.hw_cert_lines.specs.Tolled.{tolls_of, tariff_of, bound_of}
use Rattle.hw_cert_laws.specs.Laws.{IsBound}

-- the tolls that were declared, the tariff in force, the last bound in tenths of a tonne, and an older tariff, which shows that bound, where the one in force need not
pub record PriceModel : Type 0 where
  pub tolls : List Toll
  pub tariff : Option Tariff
  pub bound : Option ℕ
  pub older : Option Tariff

-- no tolls, no tariff and no bound
abbrev pub unpriced_model : PriceModel
unpriced_model = record { tolls = []; tariff = None; bound = None; older = None }

-- the older tariff, and where there is none the one in force
abbrev pub older_or : Option Tariff → Option Tariff → Option Tariff
older_or None tariff = tariff
older_or (Some older) tariff = Some older

-- the tariff that shows the last bound
abbrev pub bound_tariff : PriceModel → Option Tariff
bound_tariff p = older_or p.older p.tariff

-- the dues are on tolls of ascending numbers
abbrev pub DuesAscend : Tariff → Type 0
DuesAscend tariff = IsStrictlyIncreasing (map (λ due. due.toll) tariff.dues)

-- a tariff on these tolls that may be in force, and by which the whole problem has this bound
pub record HoldsBound (f : Problem) (tolls : List Toll) (bound : ℕ) (tariff : Tariff) : Type 0 where
  pub fits : TariffFits (length tolls) tariff
  pub ascend : DuesAscend tariff
  pub scaled : 1 ≤ tariff.scale
  pub bounds : PricesBound f tolls tariff bound

-- at most 10,000 tolls of the problem, a tariff that fits them, and a bound that no permitted timetable passes, with a tariff that shows it
pub record ArePrices (f : Problem) (p : PriceModel) : Type 0 where
  pub few : length p.tolls ≤ MOST_TOLLS
  pub tolls : All (IsToll f) p.tolls
  pub tariff : IfSome p.tariff (TariffFits (length p.tolls))
  pub ascend : IfSome p.tariff DuesAscend
  pub bound : IfSome p.bound (IsBound f)
  pub shown : IfSome p.bound (λ bound. IsSomeAnd (bound_tariff p) (HoldsBound f p.tolls bound))

-- lines tell these prices
pub record PricesTold (all : List Line) (p : PriceModel) : Type 0 where
  pub tolls : tolls_of all ≡ p.tolls
  pub tariff : tariff_of all ≡ p.tariff
  pub bound : bound_of all ≡ p.bound

-- ---- what one line changes

-- one more toll
abbrev pub prices_with_toll : PriceModel → Toll → PriceModel
prices_with_toll p toll = record p { tolls = p.tolls ++ toll ∷ [] }

-- another tariff in force; the one that shows the last bound is kept
abbrev pub with_tariff : PriceModel → Tariff → PriceModel
with_tariff p tariff = record p { tariff = Some tariff; older = bound_tariff p }

-- another bound, which the tariff in force shows
abbrev pub with_bound : PriceModel → ℕ → PriceModel
with_bound p bound = record p { bound = Some bound; older = None }
