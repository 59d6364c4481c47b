use Rattle.std.proofs.Common.{◌∙◌, ap, Err}
use Rattle.std.proofs.lemmas.Result.{err_from_is_err_and}
use Rattle.hw_tide.proofs.TideRead.{bad_header}
use Rattle.hw_tide.proofs.table.table.Goals as goal

pub returns-in_err-test_header : goal.returns-in_err-test_header
returns-in_err-test_header c =
    let p = err_from_is_err_and c.from_residual.result c.from_residual.ensures.1 in
    bad_header _ c.args.records.now c.args.kind _ _ c.in_err-test_header.field-0.0 c.from_residual.result c.requires.reading c.in_err-test_header.ensures.tests (p.1 ∙ ap (λ f. Err f) p.2)
