use Rattle.std.proofs.Common.{◌≡◌, not, take, sym, ◌∙◌}
use Rattle.std.specs.List.{range_with_len}
use Rattle.std.proofs.lemmas.List.Elements.{filter_agree}
use Rattle.hw_model.specs.Timetables.{restriction_count}
use Rattle.hw_audit.specs.Audits.{state_of}
use Rattle.hw_audit.specs.Keeping.{kept_holds}
use Rattle.hw_audit.specs.Watching.{is_broken, broken_now}
use Rattle.hw_audit.proofs.Keeping.{kept_is}
use Rattle.hw_audit.proofs.audit.Audit.broken.Goals as goal

pub returns : goal.returns
returns c =
    let a = c.self.inside in
    let s = state_of a.table.items a.sailed.items a.withdrawn in
    let now : take a.many a.broken.items ≡ broken_now a.flat s =
    c.self.invariant.listed.listed ∙ filter_agree (λ n. not (kept_holds a.flat a.table.items a.holds.items n)) (is_broken a.flat s) (kept_is a.flat a.table.items a.withdrawn a.holds.items c.self.invariant.kept.marks) (range_with_len 0 (restriction_count a.flat)) in
    record { value = rw (c.deref.ensures.value, sym c.self.view_is) now }
