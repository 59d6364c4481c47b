-- One value for each feed: what a look at one shows after a change of one.
use Rattle.std.proofs.Common.{◌≡◌, cond, refl}
use Rattle.hw_desk.specs.State.{FeedState, put_feed, same_feed}
use Rattle.hw_desk.specs.Places.{place, with_place, map_feeds}
use Rattle.hw_desk.specs.declared.desk.Feed.{Feed}
use Rattle.hw_desk.specs.declared.desk.Feed.TheVariants.{Flat, Instance, Tides, Certificate, Plan, Events, Clash, Split}
use Rattle.hw_desk.specs.declared.feeds.Feeds.{Feeds}

-- where each value is seen another way, so is the value of a feed
pub place_map : {A B : Type 0} (g : A → B) (v : Feeds A) (feed : Feed) → place (map_feeds g v) feed ≡ g (place v feed)
place_map g v Flat = refl
place_map g v Instance = refl
place_map g v Tides = refl
place_map g v Certificate = refl
place_map g v Plan = refl
place_map g v Events = refl
place_map g v Clash = refl
place_map g v Split = refl

-- a change is seen at its feed
pub map_put : {A B : Type 0} (g : A → B) (v : Feeds A) (feed : Feed) (x : A) → map_feeds g (with_place v feed x) ≡ with_place (map_feeds g v) feed (g x)
map_put g v Flat x = refl
map_put g v Instance x = refl
map_put g v Tides x = refl
map_put g v Certificate x = refl
map_put g v Plan x = refl
map_put g v Events x = refl
map_put g v Clash x = refl
map_put g v Split x = refl

told_at : {A : Type 0} (tell : A → FeedState) (v : Feeds A) (x : A) (feed f : Feed) → tell (place (with_place v feed x) f) ≡ cond (same_feed f feed) (tell x) (tell (place v f))
told_at tell v x Flat = elim [ Flat ↦ refl | Instance ↦ refl | Tides ↦ refl | Certificate ↦ refl | Plan ↦ refl | Events ↦ refl | Clash ↦ refl | Split ↦ refl ]
told_at tell v x Instance = elim [ Flat ↦ refl | Instance ↦ refl | Tides ↦ refl | Certificate ↦ refl | Plan ↦ refl | Events ↦ refl | Clash ↦ refl | Split ↦ refl ]
told_at tell v x Tides = elim [ Flat ↦ refl | Instance ↦ refl | Tides ↦ refl | Certificate ↦ refl | Plan ↦ refl | Events ↦ refl | Clash ↦ refl | Split ↦ refl ]
told_at tell v x Certificate = elim [ Flat ↦ refl | Instance ↦ refl | Tides ↦ refl | Certificate ↦ refl | Plan ↦ refl | Events ↦ refl | Clash ↦ refl | Split ↦ refl ]
told_at tell v x Plan = elim [ Flat ↦ refl | Instance ↦ refl | Tides ↦ refl | Certificate ↦ refl | Plan ↦ refl | Events ↦ refl | Clash ↦ refl | Split ↦ refl ]
told_at tell v x Events = elim [ Flat ↦ refl | Instance ↦ refl | Tides ↦ refl | Certificate ↦ refl | Plan ↦ refl | Events ↦ refl | Clash ↦ refl | Split ↦ refl ]
told_at tell v x Clash = elim [ Flat ↦ refl | Instance ↦ refl | Tides ↦ refl | Certificate ↦ refl | Plan ↦ refl | Events ↦ refl | Clash ↦ refl | Split ↦ refl ]
told_at tell v x Split = elim [ Flat ↦ refl | Instance ↦ refl | Tides ↦ refl | Certificate ↦ refl | Plan ↦ refl | Events ↦ refl | Clash ↦ refl | Split ↦ refl ]

-- told, a change is one of that feed alone
pub told_put : {A : Type 0} (tell : A → FeedState) (v : Feeds A) (feed : Feed) (x : A) → (λ f. tell (place (with_place v feed x) f)) ≡ put_feed (λ f. tell (place v f)) feed (tell x)
told_put tell v feed x = λ i f. told_at tell v x feed f i
