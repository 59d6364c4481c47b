use Rattle.std.proofs.Common.{◌∙◌, ap, not, false, filter, get_or}
use Rattle.hw_check.proofs.Marking.{last_unmarked}
use Rattle.hw_check.proofs.renewing.last_named.Goals as goal

pub returns : goal.returns
returns c = record {
  value = λ later marks. last_unmarked c.args.line.now later c.args.marked.now c.in_ok-ids.ids.items c.sort_once.new.ids.items c.requires.hints marks (c.in_ok-ids.ensures.value ∙ ap (filter (λ id. not (get_or c.args.marked.now id false))) c.hints_of.ensures.value) c.sort_once.ensures.ascends c.sort_once.ensures.same;
}
