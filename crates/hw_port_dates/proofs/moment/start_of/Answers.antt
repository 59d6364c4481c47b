use Rattle.std.proofs.Common.{◌+◌, ◌*◌, sym, subst}
use Rattle.hw_port_dates.specs.Moments.{IsMoment}
use Rattle.hw_port_dates.proofs.Texts.{start_kept}
use Rattle.hw_port_dates.proofs.moment.start_of.Goals as goal

pub returns-clause-kept : goal.returns-clause-kept
returns-clause-kept c =
    let century = sym c.pair_at.ensures.value in
    let year = sym c.pair_at-2.ensures.value in
    let month = sym c.pair_at-3.ensures.value in
    let day = sym c.pair_at-4.ensures.value in
    let hour = sym c.pair_at-5.ensures.value in
    let minute = sym c.pair_at-6.ensures.value in
    subst IsMoment (λ i. record { date = record { year = 100 * century i + year i; month = month i; day = day i }; hour = hour i; minute = minute i }) (start_kept c.args.text.now c.requires)
