use Rattle.std.proofs.Common.{◌≡◌, drop}
use Rattle.serde_json.specs.View.{items_view}
use Rattle.hw_read.specs.Walk.{form_fault, each_fault, form_long, each_long}
use Rattle.hw_read.proofs.walking.+walk.Given as goal

abbrev pub invariant-loop-i : goal.invariant-loop-i
invariant-loop-i l = (each_fault (form_fault l.version l.inner.now) l.stars l.i (items_view (drop l.i l.items)) ≡ each_fault (form_fault l.version l.inner.now) l.stars 0 (items_view l.items)) × (each_long (form_long l.version l.inner.now) l.i (items_view (drop l.i l.items)) ≡ each_long (form_long l.version l.inner.now) 0 (items_view l.items))
