-- A value for each feed.
use Rattle.hw_desk.specs.declared.desk.Feed.{Feed}
use Rattle.hw_desk.specs.declared.desk.Feed.TheVariants.{Flat, Instance, Tides, Certificate, Plan, Events, Clash, Split}
use Rattle.hw_desk.specs.declared.feeds.Feeds.{Feeds}

module _ {T : Type 0} where
  -- the value of a feed
  abbrev pub place : Feeds T → Feed → T
  place v Flat = v.flat
  place v Instance = v.instance
  place v Tides = v.tides
  place v Certificate = v.certificate
  place v Plan = v.plan
  place v Events = v.events
  place v Clash = v.clash
  place v Split = v.split

  -- the values with another one at a feed
  abbrev pub with_place : Feeds T → Feed → T → Feeds T
  with_place v Flat x = record v { flat = x }
  with_place v Instance x = record v { instance = x }
  with_place v Tides x = record v { tides = x }
  with_place v Certificate x = record v { certificate = x }
  with_place v Plan x = record v { plan = x }
  with_place v Events x = record v { events = x }
  with_place v Clash x = record v { clash = x }
  with_place v Split x = record v { split = x }

-- each value seen another way
abbrev pub map_feeds : {A B : Type 0} → (A → B) → Feeds A → Feeds B
map_feeds f v = record { flat = f v.flat; instance = f v.instance; tides = f v.tides; certificate = f v.certificate; plan = f v.plan; events = f v.events; clash = f v.clash; split = f v.split }

-- the same value for each feed
abbrev pub everywhere : {A : Type 0} → A → Feeds A
everywhere x = record { flat = x; instance = x; tides = x; certificate = x; plan = x; events = x; clash = x; split = x }
