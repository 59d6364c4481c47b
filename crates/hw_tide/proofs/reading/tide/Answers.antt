use Rattle.std.proofs.Common.{◌≡◌, ◌∙◌, ap, sym, length, subst, map, [], Err, Vec, Global, rules, unwrap_or}
use Rattle.std.proofs.lemmas.List.{length-map}
use Rattle.std.proofs.lemmas.Result.{err_from_is_err_and}
use Rattle.hw_tide.specs.declared.levels.Levels.{Levels}
use Rattle.hw_tide.specs.Tides.{IsTable, tide_of}
use Rattle.hw_tide.specs.Whole.{TideReads, kind_said}
use Rattle.hw_tide.proofs.Kept.{table_kept}
use Rattle.hw_tide.proofs.TideRead.{all_records, no_header, tide_read, tide_refused}
use Rattle.hw_tide.proofs.reading.tide.Goals as goal

pub tide_of_levels-requires : goal.tide_of_levels-requires
tide_of_levels-requires c =
    let t = table_kept c.kind_or_said-kind.result _ _ c.in_ok-levels.levels.items c.in_ok-levels.ensures.2 in
    let many : length (map (λ w. w.name) c.deref.result.now) ≡ c.len.result = length-map c.deref.result.now _ ∙ c.deref.ensures.len ∙ sym c.len.ensures in
    record { table = rw c.deref-2.ensures.value (subst (λ n. IsTable c.kind_or_said-kind.result n c.in_ok-levels.levels.items) many t) }

pub returns-in_default-clause-tide : goal.returns-in_default-clause-tide
returns-in_default-clause-tide c =
    let takes = rw c.in_default.is at c.in_ok-header.ensures.takes in
    ([], all_records c.records_of-records.result c.args.bytes.now [] c.records_of-records.ensures takes, no_header _ _)

pub returns-in_err-levels-clause-tide : goal.returns-in_err-levels-clause-tide
returns-in_err-levels-clause-tide c =
    let p = err_from_is_err_and c.from_residual-in_err-levels.result c.from_residual-in_err-levels.ensures.1 in
    let same : c.deref.result.now ≡ c.args.port.now.waypoints = search rules in
    let takes = rw c.in-Some.is at c.in_ok-header.ensures.takes in
    subst (λ ws. TideReads c.args.bytes.now (λ records. tide_of (unwrap_or c.args.wanted (kind_said records)) (map (λ w. w.name) ws) records) c.from_residual-in_err-levels.result) same (tide_refused (λ (v : Vec Levels Global). v.items) c.args.bytes.now c.args.wanted c.kind_or_said-kind.result _ c.records_of-records.result c.next_record.new.records c.in-Some.header c.in_err-levels.field-0.0 c.from_residual-in_err-levels.result c.records_of-records.ensures takes c.kind_or_said-kind.ensures c.in_err-levels.ensures (p.1 ∙ ap (λ f. Err f) p.2))

pub returns-clause-tide : goal.returns-clause-tide
returns-clause-tide c =
    let many : length (map (λ w. w.name) c.deref.result.now) ≡ c.len.result = length-map c.deref.result.now _ ∙ c.deref.ensures.len ∙ sym c.len.ensures in
    let same : c.deref.result.now ≡ c.args.port.now.waypoints = search rules in
    let takes = rw c.in-Some.is at c.in_ok-header.ensures.takes in
    let tide = rw c.deref-2.ensures.value at c.tide_of_levels.ensures.tide in
    subst (λ ws. TideReads c.args.bytes.now (λ records. tide_of (unwrap_or c.args.wanted (kind_said records)) (map (λ w. w.name) ws) records) c.tide_of_levels.result) same (tide_read c.args.bytes.now c.args.wanted c.kind_or_said-kind.result c.len.result _ c.records_of-records.result c.next_record.new.records c.in-Some.header c.in_ok-levels.levels.items c.tide_of_levels.result c.records_of-records.ensures takes c.kind_or_said-kind.ensures (sym many) c.in_ok-levels.ensures tide)
