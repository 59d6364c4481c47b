use Rattle.std.proofs.Common.{◌≡◌, ◌+◌, ◌++◌, ◌∷◌, ℕ, Bool, List, true, false, cond, codes, decimal, nat_lt, [], append-nil, ap}
use Rattle.std.proofs.lemmas.Bool.{le-ltb, lt-ltb}
use Rattle.hw_desk.proofs.Written.{puts_on, puts_same}
use Rattle.std.specs.List.{concat}
use Rattle.hw_chart_svg.specs.Lettering.{line}
use Rattle.hw_chart_flat.specs.Rows.{flat_figures, row_top}
use Rattle.hw_chart_flat.specs.Values.{most_carried}
use Rattle.hw_chart_flat.proofs.labels.put_figures.Goals as goal
use Rattle.hw_flat.specs.Carried.{worth}

pub returns-then-top-gt0 : goal.returns-then-top-gt0
unfolding flat_figures
returns-then-top-gt0 g c =
    let y = c.row_y.ensures.value in
    let most = most_carried c.args.flat.now c.args.row.ship in
    let cargo = worth c.args.flat.now c.args.row.ship c.args.slot in
    let some : nat_lt 0 most ≡ true = lt-ltb 0 _ (rw c.most-top.ensures at c.if-top-gt0.true) in
    let slot = rw (c.from-y.ensures, y, c.from.ensures, append-nil (decimal c.args.slot)) at c.put_line.ensures in
    let value = rw (c.from-y.ensures, y, c.carried-value.ensures, append-nil (decimal cargo)) at c.put_line-then-top-gt0.ensures in
    let of_most = rw (c.from-y.ensures, y, c.most-top.ensures) at c.put_line-then-top-gt0-2.ensures in
    let says : List ℕ = line (codes "r b") 1268 (row_top c.args.row + 17) (decimal cargo) ++ line (codes "r m") 1268 (row_top c.args.row + 33) (concat (codes "of " ∷ decimal most ∷ [])) in
    puts_on slot (puts_same _ (ap (λ (b : Bool). cond b says []) some) (puts_on value of_most))

pub returns-else-top-gt0 : goal.returns-else-top-gt0
unfolding flat_figures
returns-else-top-gt0 g c =
    let y = c.row_y.ensures.value in
    let most = most_carried c.args.flat.now c.args.row.ship in
    let cargo = worth c.args.flat.now c.args.row.ship c.args.slot in
    let none : nat_lt 0 most ≡ false = le-ltb 0 _ (rw c.most-top.ensures at c.if-top-gt0.false) in
    let slot = rw (c.from-y.ensures, y, c.from.ensures, append-nil (decimal c.args.slot)) at c.put_line.ensures in
    let says : List ℕ = line (codes "r b") 1268 (row_top c.args.row + 17) (decimal cargo) ++ line (codes "r m") 1268 (row_top c.args.row + 33) (concat (codes "of " ∷ decimal most ∷ [])) in
    puts_on slot (puts_same _ (ap (λ (b : Bool). cond b says []) none) c.put.ensures.puts)
