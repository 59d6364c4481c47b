use Rattle.std.proofs.Common.{sym, ◌∙◌}
use Rattle.hw_text.specs.Parts.{parts_of}
use Rattle.hw_flat.proofs.TextRows.{text_read, text_is}
use Rattle.hw_flat.proofs.flat.Flat.read.Goals as goal

pub flat_of-requires-clause-limits : goal.flat_of-requires-clause-limits
flat_of-requires-clause-limits c =
    (text_read _ _
    (text_is (parts_of 10 c.args.bytes.now) c.in_ok-line.line.now (parts_of 10 c.in_ok-line.rest.now) (c.in-Some.stay, c.in-Some.hours) c.in_ok-line-2.line.now (parts_of 10 c.in_ok-line-2.rest.now) (c.in-Some-size_of.ships, c.in-Some-size_of.slots) c.in_ok-values.values.items
    (parts_of 10 c.in_ok-values.rest.now) c.in_ok-rules.rules.items (parts_of 10 c.in_ok-rules.rest.now) c.in_ok-line.ensures (sym c.in-Some.ensures) c.in_ok-line-2.ensures (sym c.in-Some-size_of.ensures.form) c.in_ok-values.ensures (rw c.from.ensures at c.in_ok-rules.ensures) (rw c.deref.ensures.value at (sym c.hours_needed.ensures ∙ c.if-not-hours_needed.false)) (sym c.is_end.ensures ∙ c.if-not-is_end.false))).limits
