use Rattle.std.proofs.Common.{◌≡◌, ◌+◌, ◌-◌, ◌∙◌, sym, arith}
use Rattle.hw_cert_lines.specs.Lines.{clause_of}
use Rattle.hw_check.proofs.Marking.{number_below, hints_below, one_at_least, one_written, numbered_one, numbered_none, numbers_of}
use Rattle.hw_check.proofs.renewing.renewed_backwards.Goals as goal

pub put_line-requires-clause-number : goal.put_line-requires-clause-number
put_line-requires-clause-number c = rw c.deref_mut.ensures.value (number_below _ _ _ _ _ c.loop-line.invariant)

pub put_line-requires-clause-hints : goal.put_line-requires-clause-hints
put_line-requires-clause-hints c = rw c.deref_mut.ensures.value (hints_below _ _ _ _ _ _ _ c.loop-line.invariant c.requires.numbered c.in-Some.ensures.items)

pub overflow_sub-number : goal.overflow_sub-number
overflow_sub-number c =
    let counted = one_at_least _ _ _ _ _ _ _ c.loop-line.invariant c.in-Some.ensures.items in
    let one = numbered_one _ (sym c.has_number-is_numbered.ensures.value ∙ c.if-is_numbered.true) in
    omega (arith, counted, one)

pub loop-line-preserved-then-is_numbered : goal.loop-line-preserved-then-is_numbered
loop-line-preserved-then-is_numbered c =
    let counted = one_at_least _ _ _ _ _ _ _ c.loop-line.invariant c.in-Some.ensures.items in
    let one = numbered_one _ (sym c.has_number-is_numbered.ensures.value ∙ c.if-is_numbered.true) in
    let at : c.loop-line.number ≡ c.loop-line.number - 1 + numbers_of (clause_of c.in-Some.line) = omega (arith, counted, one) in
    one_written _ _ _ _ _ _ _ _ _ _ _ _ c.loop-line.invariant c.in-Some.ensures.items at c.deref_mut.ensures.value (sym c.deref_mut.ensures.len) c.put_line.auto.marked c.in_ok-put_line.ensures.marked c.in_ok-put_line.ensures.put

pub loop-line-preserved : goal.loop-line-preserved
loop-line-preserved c =
    let none = numbered_none _ (sym c.has_number-is_numbered.ensures.value ∙ c.if-is_numbered.false) in
    let at : c.loop-line.number ≡ c.loop-line.number + numbers_of (clause_of c.in-Some.line) = omega (arith, none) in
    one_written _ _ _ _ _ _ _ _ _ _ _ _ c.loop-line.invariant c.in-Some.ensures.items at c.deref_mut.ensures.value (sym c.deref_mut.ensures.len) c.put_line.auto.marked c.in_ok-put_line.ensures.marked c.in_ok-put_line.ensures.put
