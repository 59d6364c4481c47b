use Rattle.std.proofs.Common.{◌≡◌, ◌<◌, ◌≤◌, Some, slice_get, length, get_or-set_other, length-set, sym, ◌∙◌, arith}
use Rattle.hw_lemmas.proofs.Lists.{get_within}
use Rattle.hw_audit.proofs.Keeping.{kept_decides, marked_more, marked_kept, rule_at}
use Rattle.hw_audit.proofs.marks.mend_marks.Goals as goal
use Rattle.hw_audit.proofs.marks.mend_marks.Goals.{then-concerns, else-concerns}

pub loop-place-preserved : goal.loop-place-preserved
loop-place-preserved c =
    let f = c.args.flat.now in
    let place = c.loop-place.place in
    let lt : place < length f.rules = rw c.rules-rules.ensures.value at c.loop-place-test.true in
    let there : slice_get f.rules place ≡ Some c.index-rules-place.result = rule_at f.rules place c.index-rules-place.result lt (rw c.rules-rules.ensures.value at c.index-rules-place.is) in
    elim c.if-concerns.branch [
      | then-concerns w ↦
          rw w.holds-is (record {
            size = length-set c.loop-place.holds.items place w.decided.result ∙ c.loop-place.invariant.size;
            done = marked_more f c.args.table.now c.args.withdrawn place c.index-rules-place.result w.decided.result c.loop-place.holds.items
                (omega (arith, lt, c.loop-place.invariant.size, c.requires.others.each_rule))
                there
                (w.decided.ensures.value ∙ kept_decides f c.args.table.now c.args.held.now c.args.withdrawn place c.index-rules-place.result c.requires.tugs_last c.requires.held there)
                c.loop-place.invariant.done;
            rest = λ k le. get_or-set_other c.loop-place.holds.items place k w.decided.result _ (λ e. omega (arith, le, e)) ∙ c.loop-place.invariant.rest k (omega (arith, le));
          })
      | else-concerns w ↦
          rw w.holds-is (record {
            size = c.loop-place.invariant.size;
            done = marked_kept f c.args.table.now c.args.withdrawn place c.index-rules-place.result c.loop-place.holds.items
                there
                (c.loop-place.invariant.rest place (omega arith) ∙ c.requires.others.told place c.index-rules-place.result there (sym c.concerns.ensures ∙ w.if-concerns.false))
                c.loop-place.invariant.done;
            rest = λ k le. c.loop-place.invariant.rest k (omega (arith, le));
          })
    ]

pub returns : goal.returns
returns c = record {
  marks = record {
    each_rule = c.loop-place.invariant.size ∙ c.requires.others.each_rule;
    told = λ k rule at.
        let within : k < length c.args.flat.now.rules = get_within c.args.flat.now.rules k rule at in
        let most : length c.args.flat.now.rules ≤ c.loop-place.place = rw c.rules-rules.ensures.value at c.loop-place-test.false in
        c.loop-place.invariant.done k rule (omega (arith, within, most)) at;
  };
}
