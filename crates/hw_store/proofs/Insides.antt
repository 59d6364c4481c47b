-- The fields of a store and of what is watched, as the clauses see them.
use Rattle.hw_store.specs.declared.watch.WatchStore.TheInside.{Inside as InsideStore}
use Rattle.hw_store.specs.declared.watching.Watched.TheInside.{Inside as InsideWatched}
use Rattle.hw_store.specs.Watches.{WatchModel, WatchedModel}

abbrev pub watched_of : InsideWatched → WatchedModel
watched_of s = record { ships = s.buckets.ships; slots = s.buckets.slots; watches = s.watches.items; stands = s.stands.items; due = s.due.items }

abbrev pub store_of : InsideStore → WatchModel
store_of s = record { held = s.held.items; watched = s.watched; lists = s.lists.items; seen = s.seen }
