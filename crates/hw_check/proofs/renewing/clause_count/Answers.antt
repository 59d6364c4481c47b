use Rattle.std.proofs.Common.{◌+◌, ◌∙◌, sym, arith}
use Rattle.hw_cert_lines.proofs.Live.{count_front}
use Rattle.hw_check.proofs.Marking.{count_next, numbered_one, numbered_none}
use Rattle.hw_check.proofs.renewing.clause_count.Goals as goal
use Rattle.hw_check.proofs.renewing.clause_count.Goals.{then-has_number, else-has_number}

pub overflow_add-count : goal.overflow_add-count
overflow_add-count c =
    let next = count_next c.args.lines.now c.loop-line.line-index c.line-item.result c.loop-line-test.true c.line-item.is in
    let one = numbered_one _ (sym c.has_number.ensures.value ∙ c.if-has_number.true) in
    omega (arith, next, one, count_front c.args.lines.now (c.loop-line.line-index + 1), c.requires.few, c.loop-line.invariant)

pub loop-line-preserved : goal.loop-line-preserved
loop-line-preserved c =
    let next = count_next c.args.lines.now c.loop-line.line-index c.line-item.result c.loop-line-test.true c.line-item.is in
    elim c.if-has_number.branch [
      | then-has_number w ↦
          let one = numbered_one _ (sym c.has_number.ensures.value ∙ w.if-has_number.true) in
          omega (arith, next, one, w.count-is, c.loop-line.invariant)
      | else-has_number w ↦
          let none = numbered_none _ (sym c.has_number.ensures.value ∙ w.if-has_number.false) in
          omega (arith, next, none, w.count-is, c.loop-line.invariant)
    ]
