use Rattle.std.proofs.Common.{◌≡◌, ◌∙◌, ap, ◌+◌, ◌++◌, ◌∷◌, [], true, rules, arith, Err}
use Rattle.std.specs.Result.{is_ok}
use Rattle.std.proofs.lemmas.Result.{err_from_is_err_and}
use Rattle.csv.specs.Records.{fields_of}
use Rattle.hw_tide.specs.Levels.{LevelsParts}
use Rattle.hw_tide.proofs.ComingRecords.{one_further, at_last}
use Rattle.hw_tide.proofs.TideRead.{all_good, bad_read, good_read}
use Rattle.hw_tide.proofs.levels.all_levels.Goals as goal

pub returns-in_err-one : goal.returns-in_err-one
returns-in_err-one c =
    let so_far = c.loop-levels.invariant in
    let takes = rw c.in-Some.is at c.in_ok-record.ensures.takes in
    let p = err_from_is_err_and c.from_residual-in_err-one.result c.from_residual-in_err-one.ensures.1 in
    bad_read _ c.args.records.now c.loop-levels.records c.next_record.new.records c.args.kind c.args.columns (c.len.result + 1) c.loop-levels.last c.loop-levels.levels.items c.in-Some.record so_far.0 c.in_err-one.field-0.0 c.from_residual-in_err-one.result so_far.1 takes (rw c.len.ensures so_far.2) c.in_err-one.ensures (p.1 ∙ ap (λ f. Err f) p.2)

pub loop-levels-preserved : goal.loop-levels-preserved
loop-levels-preserved c =
    let so_far = c.loop-levels.invariant in
    let takes = rw c.in-Some.is at c.in_ok-record.ensures.takes in
    let good : is_ok c.push.result ≡ true = search rules in
    let items = rw good at c.push.ensures.items in
    let size = rw good at c.push.ensures.len in
    (so_far.0 ++ fields_of c.in-Some.record ∷ [], one_further c.args.records.now c.loop-levels.records c.next_record.new.records so_far.0 c.in-Some.record so_far.1 takes, λ coming. good_read c.args.kind c.args.columns (c.len.result + 1) _ c.one.inside.slot c.loop-levels.last c.loop-levels.levels.items c.push.new.self.items (fields_of c.in-Some.record) c.in_ok-one.one so_far.0 coming (omega (arith, size, c.len.ensures)) items (ap (λ (l : LevelsParts). l.slot) c.one.view_is) c.in_ok-one.ensures (rw c.len.ensures so_far.2))

pub returns : goal.returns
returns c =
    let so_far = c.loop-levels.invariant in
    let takes = rw c.in_default.is at c.in_ok-record.ensures.takes in
    (so_far.0, at_last c.args.records.now c.loop-levels.records c.next_record.new.records so_far.0 so_far.1 takes, all_good c.args.kind c.args.columns _ c.loop-levels.last c.loop-levels.levels.items so_far.0 so_far.2)
