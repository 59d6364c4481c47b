-- A desk in memory, as a contract sees it.
use Rattle.std.specs.Prelude.{◌≡◌, ◌+◌, ◌++◌, ◌-◌, ◌^◌, ◌&&◌, ◌==◌, ℕ, List, [], Bool, true, false, Some, None, Result, Ok, Err, IfSome, cond, min, refl}
use Rattle.std.specs.List.{list_any}
use Rattle.std.proofs.Math.Nat.{min-le_right}
use Rattle.hw_desk.specs.State.{FeedState, TrayState, DeskState, IsFresh, IsBounded, bounded_count}
use Rattle.hw_desk.specs.Files.{held_in}
use Rattle.hw_desk.specs.Feeds.{FeedModel, told_feed}
use Rattle.hw_desk.specs.Sent.{SentModel}
use Rattle.hw_desk.specs.declared.desk.Feed.{Feed}
use Rattle.hw_desk.specs.Places.{place, everywhere}
use Rattle.hw_desk.specs.declared.feeds.Feeds.{Feeds}
use Rattle.hw_desk.specs.declared.desk.Tray.{Tray}
use Rattle.hw_desk.specs.declared.desk.Tray.TheVariants.{Report, Proof}
use Rattle.hw_desk.specs.declared.slots.NamedBytes.{NamedBytes}
use Rattle.hw_desk.specs.declared.memory.FailAt.{FailAt}
use Rattle.hw_desk.specs.declared.memory.DeskCall.{DeskCall}
use Rattle.hw_desk.specs.declared.memory.DeskCall.TheVariants as call
use Rattle.hw_desk.specs.declared.memory.TraySlot.{TraySlot}
use Rattle.hw_desk.specs.declared.memory.Calls.{Calls}

-- the files, the most bytes that a call moves, the calls that are to fail, the numbers of calls, the feeds, the trays and the counts of faults
pub record MemoryModel : Type 0 where
  pub files : List NamedBytes
  pub most : ℕ
  pub fails : List FailAt
  pub calls : Calls
  pub feeds : Feeds FeedModel
  pub report : TraySlot
  pub proof : TraySlot
  pub read_faults : ℕ
  pub write_faults : ℕ

abbrev pub feeds_of : MemoryModel → Feed → FeedState
feeds_of d feed = told_feed (place d.feeds feed)

-- nothing was sent to a proof that wasn't made
abbrev pub trays_of : MemoryModel → Tray → TrayState
trays_of d Report = record { made = d.report.made; name = d.report.name; sent = Some d.report.sent.bytes }
trays_of d Proof = record { made = d.proof.made; name = d.proof.name; sent = Some (cond d.proof.made d.proof.sent.bytes []) }

-- the state of a desk in memory that fails where it is told to
abbrev pub memory_state : MemoryModel → DeskState
memory_state d = record {
  held = held_in d.files;
  feeds = feeds_of d;
  trays = trays_of d;
  read_faults = bounded_count d.read_faults;
  write_faults = bounded_count d.write_faults;
}

-- a feed that wasn't begun, and a tray that wasn't made
abbrev pub fresh_feed : FeedModel
fresh_feed = record { begun = false; name = None; left = [] }

abbrev pub fresh_tray : ℕ → TraySlot
fresh_tray room = record { made = false; name = None; sent = record { room = room; bytes = [] } }

abbrev pub no_calls : Calls
no_calls = record { begins = 0; reads = 0; makes = 0; report_writes = 0; proof_writes = 0 }

-- a new desk, with room for `room` bytes in each tray
abbrev pub new_memory : List NamedBytes → ℕ → ℕ → List FailAt → MemoryModel
new_memory files most room fails = record {
  files = files;
  most = most;
  fails = fails;
  calls = no_calls;
  feeds = everywhere fresh_feed;
  report = fresh_tray room;
  proof = fresh_tray room;
  read_faults = 0;
  write_faults = 0;
}

-- the bytes sent to a tray, and how many have room there
abbrev pub sent_to : MemoryModel → Tray → SentModel
sent_to d Report = d.report.sent
sent_to d Proof = d.proof.sent

-- a tray with more bytes sent to it
abbrev pub with_sent : TraySlot → List ℕ → TraySlot
with_sent tray bytes = record tray { sent = record tray.sent { bytes = tray.sent.bytes ++ bytes } }

abbrev pub same_call : DeskCall → DeskCall → Bool
same_call call.Begin call.Begin = true
same_call call.Read call.Read = true
same_call call.Make call.Make = true
same_call call.WriteReport call.WriteReport = true
same_call call.WriteProof call.WriteProof = true
same_call _ _ = false

-- the list has the call of this kind and place
abbrev pub fails_at : List FailAt → DeskCall → ℕ → Bool
fails_at fails c place = list_any (λ f. same_call f.call c && (f.place == place)) fails

-- how many calls of a kind there were
abbrev pub calls_of : Calls → DeskCall → ℕ
calls_of c call.Begin = c.begins
calls_of c call.Read = c.reads
calls_of c call.Make = c.makes
calls_of c call.WriteReport = c.report_writes
calls_of c call.WriteProof = c.proof_writes

-- a count with one more, which stops at its greatest value
abbrev pub next_count : ℕ → ℕ
next_count n = min (n + 1) (2 ^ 64 - 1)

-- the counts with one more call of a kind
abbrev pub counted_call : Calls → DeskCall → Calls
counted_call c call.Begin = record c { begins = next_count c.begins }
counted_call c call.Read = record c { reads = next_count c.reads }
counted_call c call.Make = record c { makes = next_count c.makes }
counted_call c call.WriteReport = record c { report_writes = next_count c.report_writes }
counted_call c call.WriteProof = record c { proof_writes = next_count c.proof_writes }

-- the next call of a kind is to fail
abbrev pub is_listed : MemoryModel → DeskCall → Bool
is_listed d c = fails_at d.fails c (next_count (calls_of d.calls c))

-- the kind of a write to a tray
abbrev pub write_call : Tray → DeskCall
write_call Report = call.WriteReport
write_call Proof = call.WriteProof

-- a call of a kind was counted, and what a desk is made with stays
pub record CountsCall (c : DeskCall) (old new : MemoryModel) : Type 0 where
  pub files : new.files ≡ old.files
  pub most : new.most ≡ old.most
  pub fails : new.fails ≡ old.fails
  pub report_room : new.report.sent.room ≡ old.report.sent.room
  pub proof_room : new.proof.sent.room ≡ old.proof.sent.room
  pub calls : new.calls ≡ counted_call old.calls c

-- a count of faults after an answer: one more after a failure
abbrev pub after_answer : {T E : Type 0} → Result T E → ℕ → ℕ
after_answer (Ok x) n = n
after_answer (Err e) n = next_count n

-- what an answer of a begin or a read does to both counts of faults
pub record ReadFaults {T E : Type 0} (old new : MemoryModel) (result : Result T E) : Type 0 where
  pub reads : new.read_faults ≡ after_answer result old.read_faults
  pub writes : new.write_faults ≡ old.write_faults

-- what an answer of a make or a write does to both counts of faults
pub record WriteFaults {T E : Type 0} (old new : MemoryModel) (result : Result T E) : Type 0 where
  pub reads : new.read_faults ≡ old.read_faults
  pub writes : new.write_faults ≡ after_answer result old.write_faults

unbegun : (d : MemoryModel) (f : Feed) → (feeds_of d f).begun ≡ false → IfSome (feeds_of d f).left (λ bytes. bytes ≡ [])
unbegun d f h = rw h refl

-- neither count of faults of such a desk passes the last `u64`, as IsBounded says
pub memory_bounded : (d : MemoryModel) → IsBounded (memory_state d)
memory_bounded d = record { reads = min-le_right d.read_faults (2 ^ 64 - 1); writes = min-le_right d.write_faults (2 ^ 64 - 1) }

-- such a desk is fresh, as IsFresh says
pub memory_fresh : (d : MemoryModel) → IsFresh (memory_state d)
memory_fresh d = record {
  left = unbegun d;
  sent = λ h. rw h refl;
}
