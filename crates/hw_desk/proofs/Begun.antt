-- A begin and a read of a desk in memory, told.
use Rattle.std.proofs.Common.{◌≡◌, ◌≤◌, ◌<◌, ◌^◌, ◌⊎◌, ◌++◌, ◌↔◌, inl, inr, ℕ, List, [], refl, sym, subst, ap, ◌∙◌, true, false, Option, Some, None, Result, Ok, Err, IfSome, OnOk, OnErr, IsErr, IsNone, MatchResult, length, take, arith}
use Rattle.std.proofs.lemmas.Grind.{common_steps}
use Rattle.hw_desk.specs.State.{FeedState, TrayState, DeskState, Rose, put_feed, bounded_count}
use Rattle.hw_desk.specs.Calls.{Begins, Reads}
use Rattle.hw_desk.specs.Files.{held_in, left_at, left_of, file_named}
use Rattle.hw_desk.specs.Feeds.{FeedModel, feed_of, told_feed}
use Rattle.hw_desk.specs.Names.{kept_name}
use Rattle.hw_desk.specs.Memory.{next_count}
use Rattle.hw_desk.specs.Places.{place, with_place, map_feeds}
use Rattle.hw_desk.specs.declared.desk.Feed.{Feed}
use Rattle.hw_desk.specs.declared.desk.Feed.TheVariants.{Flat, Instance, Tides, Certificate, Plan, Events, Clash, Split}
use Rattle.hw_desk.specs.declared.desk.Tray.{Tray}
use Rattle.hw_desk.specs.declared.feeds.Feeds.{Feeds}
use Rattle.hw_desk.specs.declared.slots.NamedBytes.{NamedBytes}
use Rattle.hw_desk.specs.declared.slots.FeedSlot.{FeedSlot}
use Rattle.hw_desk.proofs.Places.{map_put, place_map, told_put}

-- what the slots of a desk in memory tell
abbrev pub seen : List NamedBytes → Feeds FeedSlot → Feed → FeedState
seen files v = λ f. told_feed (place (map_feeds (feed_of files) v) f)

pub seen_put : (files : List NamedBytes) (v : Feeds FeedSlot) (feed : Feed) (s : FeedSlot) → seen files (with_place v feed s) ≡ put_feed (seen files v) feed (told_feed (feed_of files s))
seen_put files v feed s =
    let P : Feeds FeedModel → Type 0 = λ m. (λ f. told_feed (place m f)) ≡ put_feed (seen files v) feed (told_feed (feed_of files s))
    in subst P (sym (map_put (feed_of files) v feed s)) (told_put told_feed (map_feeds (feed_of files) v) feed (feed_of files s))

pub put_same : (feeds : Feed → FeedState) (feed : Feed) (s : FeedState) → put_feed feeds feed s feed ≡ s
put_same feeds Flat s = refl
put_same feeds Instance s = refl
put_same feeds Tides s = refl
put_same feeds Certificate s = refl
put_same feeds Plan s = refl
put_same feeds Events s = refl
put_same feeds Clash s = refl
put_same feeds Split s = refl

-- a count that a desk tells goes on as the count itself does
pub told_count : {E T : Type 0} (result : Result T E) (a b : ℕ) → MatchResult result (λ _. b ≡ a) (λ _. b ≡ next_count a) → MatchResult result (λ _. bounded_count b ≡ bounded_count a) (λ _. bounded_count b ≡ next_count (bounded_count a))
told_count (Ok x) a b h = rw h refl
told_count (Err e) a b h = omega arith

pub bounded_small : (n : ℕ) → bounded_count n < 2 ^ 64
bounded_small n = omega arith

later : {E T : Type 0} (result : Result T E) (a b : ℕ) → a < 2 ^ 64 → MatchResult result (λ _. b ≡ a) (λ _. b ≡ next_count a) → a ≤ b
later (Ok x) a b r h = omega arith
later (Err e) a b r h = omega arith

cause : {E T : Type 0} (result : Result T E) (a b : ℕ) → MatchResult result (λ _. b ≡ a) (λ _. b ≡ next_count a) → OnErr result (Rose a b)
cause (Ok x) a b h = tt
cause (Err e) a b h = omega arith

kept : {E T : Type 0} (result : Result T E) (a b : ℕ) → MatchResult result (λ _. b ≡ a) (λ _. b ≡ next_count a) → OnOk result (b ≡ a)
kept (Ok x) a b h = h
kept (Err e) a b h = tt

-- a begin, where one feed alone is put
begins_put : {E : Type 0} (feed : Feed) (name : List ℕ) (old : DeskState) (s : FeedState) (rf : ℕ) (result : Result Unit E) → old.read_faults < 2 ^ 64 → MatchResult result (λ _. rf ≡ old.read_faults) (λ _. rf ≡ next_count old.read_faults) → s.begun ≡ true → IfSome s.name (λ n. n ≡ name) → OnOk result (s.left ≡ old.held name) → OnErr result (s.left ≡ (old.feeds feed).left) → Begins feed name old (record old { feeds = put_feed old.feeds feed s; read_faults = rf }) result
begins_put feed name old s rf result r h b n o e = record {
  only = record { held = refl; feeds = rw (put_same old.feeds feed s) refl; trays = refl; write_faults = refl; later = later result old.read_faults rf r h };
  begun = rw (put_same old.feeds feed s) b;
  named = rw (put_same old.feeds feed s) n;
  opened = rw (put_same old.feeds feed s) o;
  failed = rw (put_same old.feeds feed s) e;
  cause = cause result old.read_faults rf h;
  kept = kept result old.read_faults rf h;
}

opened_some : {E : Type 0} (result : Result Unit E) (files : List NamedBytes) (name : List ℕ) (file : Option ℕ) → IsErr result ↔ IsNone file → (file ≡ None) ⊎ (file ≡ file_named files name) → OnOk result (Some (left_at files file 0) ≡ held_in files name)
opened_some (Err e) files name file x y = tt
opened_some (Ok u) files name None x y = grind (arith, common_steps)
opened_some (Ok u) files name (Some i) x (inl h) = grind (arith, common_steps)
opened_some (Ok u) files name (Some i) x (inr h) = rw (← h) refl

failed_none : {E : Type 0} (result : Result Unit E) (files : List NamedBytes) (m : FeedModel) (file : Option ℕ) → IsErr result ↔ IsNone file → m.begun ≡ false → OnErr result (Some (left_at files file 0) ≡ (told_feed m).left)
failed_none (Ok u) files m file x b = tt
failed_none (Err e) files m None x b = rw b refl
failed_none (Err e) files m (Some i) x b = grind (arith, common_steps)

named : (name : List ℕ) → IfSome (kept_name name) (λ n. n ≡ name)
named name = grind (arith, common_steps)

-- a begin on a file or on none
pub begins : {E : Type 0} (files : List NamedBytes) (v : Feeds FeedSlot) (feed : Feed) (name : List ℕ) (file : Option ℕ) (slot : FeedSlot) (trays : Tray → TrayState) (wf rf rf' : ℕ) (result : Result Unit E) → rf < 2 ^ 64 → MatchResult result (λ _. rf' ≡ rf) (λ _. rf' ≡ next_count rf) → slot ≡ record { begun = true; name = kept_name name; file = file; at = 0 } → IsErr result ↔ IsNone file → (file ≡ None) ⊎ (file ≡ file_named files name) → (seen files v feed).begun ≡ false → Begins feed name (record { held = held_in files; feeds = seen files v; trays = trays; read_faults = rf; write_faults = wf }) (record { held = held_in files; feeds = seen files (with_place v feed slot); trays = trays; read_faults = rf'; write_faults = wf }) result
begins files v feed name file slot trays wf rf rf' result r h s x y f =
    rw (seen_put files v feed slot, s)
    (begins_put feed name (record { held = held_in files; feeds = seen files v; trays = trays; read_faults = rf; write_faults = wf }) (told_feed (feed_of files (record { begun = true; name = kept_name name; file = file; at = 0 }))) rf' result r h refl (named name) (opened_some result files name file x y) (failed_none result files (place (map_feeds (feed_of files) v) feed) file x f))

-- a read, where one feed alone is put
reads_put : {E : Type 0} (feed : Feed) (into : List ℕ) (n : ℕ) (before after : List ℕ) (old : DeskState) (s : FeedState) → s.begun ≡ (old.feeds feed).begun → s.name ≡ (old.feeds feed).name → (old.feeds feed).left ≡ Some before → s.left ≡ Some after → before ≡ take n into ++ after → n ≤ length into → (n ≡ 0 → after ≡ []) → Reads {E = E} feed into old (record old { feeds = put_feed old.feeds feed s }) (Ok n)
reads_put feed into n before after old s g m x y l b z = record {
  moved = record {
    only = record { held = refl; feeds = rw (put_same old.feeds feed s) refl; trays = refl; write_faults = refl; later = omega arith };
    begun = rw (put_same old.feeds feed s) g;
    named = rw (put_same old.feeds feed s) m;
    left = rw (put_same old.feeds feed s, x, y, l) refl;
  };
  bound = b;
  ended = rw (put_same old.feeds feed s, y) z;
  cause = tt;
  kept = refl;
}

told_left : (m : FeedModel) → m.begun ≡ true → (told_feed m).left ≡ Some m.left
told_left m b = rw b refl

begun_same : (files : List NamedBytes) (m : FeedModel) (o slot : FeedSlot) → m ≡ feed_of files o → slot ≡ record o { at = slot.at } → slot.begun ≡ m.begun
begun_same files m o slot e s = rw e (ap (λ x. x.begun) s)

name_same : (files : List NamedBytes) (m : FeedModel) (o slot : FeedSlot) → m ≡ feed_of files o → slot ≡ record o { at = slot.at } → slot.name ≡ m.name
name_same files m o slot e s = rw e (ap (λ x. x.name) s)

left_old : (files : List NamedBytes) (m : FeedModel) (o : FeedSlot) → m ≡ feed_of files o → m.begun ≡ true → (told_feed m).left ≡ Some (left_of files o)
left_old files m o e b = told_left m b ∙ ap (λ x. Some x.left) e

-- a read of some of what is left of a file
pub reads : {E : Type 0} (files : List NamedBytes) (v : Feeds FeedSlot) (feed : Feed) (into : List ℕ) (n : ℕ) (slot : FeedSlot) (held : List ℕ → Option (List ℕ)) (trays : Tray → TrayState) (wf rf : ℕ) → slot ≡ record (place v feed) { at = slot.at } → n ≤ length into → left_of files (place v feed) ≡ take n into ++ left_of files slot → (n ≡ 0 → left_of files slot ≡ []) → (seen files v feed).begun ≡ true → Reads {E = E} feed into (record { held = held; feeds = seen files v; trays = trays; read_faults = rf; write_faults = wf }) (record { held = held; feeds = seen files (with_place v feed slot); trays = trays; read_faults = rf; write_faults = wf }) (Ok n)
reads files v feed into n slot held trays wf rf s b l z f =
    let m : FeedModel = place (map_feeds (feed_of files) v) feed in
    let e : m ≡ feed_of files (place v feed) = place_map (feed_of files) v feed in
    let g : slot.begun ≡ m.begun = begun_same files m (place v feed) slot e s in
    rw (seen_put files v feed slot)
    (reads_put feed into n (left_of files (place v feed)) (left_of files slot) (record { held = held; feeds = seen files v; trays = trays; read_faults = rf; write_faults = wf }) (told_feed (feed_of files slot)) g (name_same files m (place v feed) slot e s) (left_old files m (place v feed) e f) (told_left (feed_of files slot) (g ∙ f)) l b z)
