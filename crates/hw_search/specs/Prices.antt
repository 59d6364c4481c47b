-- What a search keeps of tolls and prices, as laws see it.
use Rattle.hw_search_laws.specs.Prices.{PriceModel}
use Rattle.hw_search.specs.declared.prices.Declared.{Declared}

-- the tolls and prices that were told
abbrev pub prices_of : Declared → PriceModel
prices_of d = record { tolls = d.tolls.items; tariff = d.tariff; bound = d.bound; older = d.older }
