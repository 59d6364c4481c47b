use Rattle.std.proofs.Common.{◌≡◌, ◌∙◌, ◌-◌, Bool, true, cond, is_some, [], ap, sym}
use Rattle.hw_desk.proofs.Written.{puts_on, puts_same, puts_nothing}
use Rattle.hw_chart_port.specs.Heads.{columns, places}
use Rattle.hw_chart_port.specs.declared.places.Places.{Places}
use Rattle.hw_chart_port.proofs.head.put_columns_where.Goals as goal

pub returns-then-has_table : goal.returns-then-has_table
returns-then-has_table g c =
    let there : is_some c.args.chart.now.table ≡ true = sym c.has_table.ensures ∙ c.if-has_table.true in
    let y = c.saturating_sub-y.ensures ∙ ap (λ n. n - 8) (c.from.ensures ∙ ap (λ (p : Places). p.rows) (c.places_of-rows.ensures.value ∙ ap places c.parts.ensures.parts)) in
    let lines = puts_on (rw y at c.put_line.ensures) (puts_on (rw y at c.put_line-then-has_table.ensures) (puts_on (rw y at c.put_line-then-has_table-2.ensures) (puts_on (rw y at c.put_line-then-has_table-3.ensures) (puts_on (rw y at c.put_line-then-has_table-4.ensures) (puts_nothing _))))) in
    puts_same _ (ap (λ (b : Bool). cond b (columns ((places c.args.chart.now.port).rows - 8)) []) there) lines
