use Rattle.std.proofs.Common.{◌<◌, length, subst, sym, arith}
use Rattle.hw_model.specs.Problem.{Problem}
use Rattle.hw_cert_lines.specs.declared.line.Line.{Line}
use Rattle.hw_cert_lines.specs.Valid.{LineFits}
use Rattle.hw_price_adviser_tests.proofs.checked.checked.Goals as goal

pub borrowed_line-requires : goal.borrowed_line-requires
borrowed_line-requires c =
    let lt : c.loop-line.line-index < length c.args.lines.now = omega arith in
    let here : LineFits c.args.flat.now c.line-item.result = subst (λ (line : Line). LineFits c.args.flat.now line) (sym c.line-item.is) (c.requires.fit c.loop-line.line-index c.line-item.result lt) in
    record { fits = subst (λ (p : Problem). LineFits p c.line-item.result) (sym c.loop-line.invariant) here }
