-- A feed is one of a problem, or another one.
use Rattle.std.proofs.Common.{◌⊎◌, inl, inr}
use Rattle.hw_desk.specs.Places.{place}
use Rattle.hw_desk.specs.declared.desk.Feed.{Feed}
use Rattle.hw_desk.specs.declared.desk.Feed.TheVariants.{Flat, Instance, Tides, Certificate, Plan, Events, Clash, Split}
use Rattle.hw_desk.specs.declared.feeds.Feeds.{Feeds}
use Rattle.hw_host.specs.Opened.{IsFeed, IsOpenAs, IsOther, IsProblem}
use Rattle.hw_host.specs.declared.files.FileId.{FileId}
use Rattle.hw_host.specs.declared.files.HostFile.{HostFile}

pub found : (feeds : Feeds HostFile) (id : FileId) → IsProblem feeds id ⊎ IsOther feeds id → IsFeed feeds id
found feeds id (inl (inl is)) = (Flat, is)
found feeds id (inl (inr (inl is))) = (Instance, is)
found feeds id (inl (inr (inr is))) = (Tides, is)
found feeds id (inr (inl (inl is))) = (Plan, is)
found feeds id (inr (inl (inr is))) = (Events, is)
found feeds id (inr (inr (inl is))) = (Certificate, is)
found feeds id (inr (inr (inr (inl is)))) = (Clash, is)
found feeds id (inr (inr (inr (inr is)))) = (Split, is)

by_feed : (feeds : Feeds HostFile) (id : FileId) (feed : Feed) → IsOpenAs (place feeds feed) id → IsProblem feeds id ⊎ IsOther feeds id
by_feed feeds id Flat is = inl (inl is)
by_feed feeds id Instance is = inl (inr (inl is))
by_feed feeds id Tides is = inl (inr (inr is))
by_feed feeds id Plan is = inr (inl (inl is))
by_feed feeds id Events is = inr (inl (inr is))
by_feed feeds id Certificate is = inr (inr (inl is))
by_feed feeds id Clash is = inr (inr (inr (inl is)))
by_feed feeds id Split is = inr (inr (inr (inr is)))

pub parted : (feeds : Feeds HostFile) (id : FileId) → IsFeed feeds id → IsProblem feeds id ⊎ IsOther feeds id
parted feeds id read = by_feed feeds id read.0 read.1
