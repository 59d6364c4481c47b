-- The values of the feeds after the borrow of one of them has ended.
use Rattle.std.specs.Borrow.{Lends, MutBor, Fml, RattleType}
use Rattle.hw_desk.specs.declared.desk.Feed.{Feed}
use Rattle.hw_desk.specs.declared.feeds.Feeds.{Feeds}
use Rattle.hw_desk.specs.contracts.feeds.Feeds.{the_row}
use Rattle.hw_desk.specs.Places.{with_place}

-- once the borrow r ends, the feed has the last value written through r
abbrev pub LendsPlace : (T : RattleType) → MutBor (Feeds T.Denot) → Feed → MutBor T.Denot → Fml
LendsPlace T v feed r = Lends (the_row T) T v r (with_place v.now feed)
