use Rattle.std.proofs.Common.{rules, ◌+◌, ◌<◌, subst, sym, ◌∙◌, arith}
use Rattle.hw_model.specs.declared.lit.Lit.{Lit}
use Rattle.hw_model.specs.declared.lit.Lit.TheVariants as lits
use Rattle.hw_model.specs.Lits.{IsLitOf}
use Rattle.hw_trail_laws.specs.Knowing.{knows, always}
use Rattle.hw_trail_laws.specs.Passes.{MostOf, NothingOf}
use Rattle.hw_trail_laws.proofs.Mosts.{nothing_low, most_low, nothing_high, most_high, nothing_first, most_first, nothing_not_first, most_not_first}
use Rattle.hw_learn.proofs.sides.most.Goals as goal

pub returns-then-slot-eq0-clause-most : goal.returns-then-slot-eq0-clause-most
returns-then-slot-eq0-clause-most c =
    subst (λ (x : Lit). NothingOf (always c.args.room.now.ships c.args.room.now.slots) (knows c.args.room.now) x) (sym c.in-AtOrAfter.is)
    (nothing_low c.args.room.now c.in-AtOrAfter.ship c.in-AtOrAfter.slot c.low-slot.result c.low-slot.ensures.value c.if-slot-eq0.true)

pub returns-else-slot-eq0-clause-most : goal.returns-else-slot-eq0-clause-most
returns-else-slot-eq0-clause-most c =
    let f : IsLitOf c.args.room.now.ships (lits.AtOrAfter c.in-AtOrAfter.ship c.in-AtOrAfter.slot) = rw c.in-AtOrAfter.is at c.requires.fits in
    subst (λ (x : Lit). MostOf (always c.args.room.now.ships c.args.room.now.slots) (knows c.args.room.now) x (lits.AtOrAfter c.in-AtOrAfter.ship c.low-slot.result)) (sym c.in-AtOrAfter.is)
    (most_low c.args.room.now c.in-AtOrAfter.ship c.in-AtOrAfter.slot c.low-slot.result f.0 c.low-slot.ensures.value c.if-slot-eq0.false)

pub returns-then-slot-slots-clause-most : goal.returns-then-slot-slots-clause-most
returns-then-slot-slots-clause-most c =
    subst (λ (x : Lit). NothingOf (always c.args.room.now.ships c.args.room.now.slots) (knows c.args.room.now) x) (sym c.in-Before.is)
    (nothing_high c.args.room.now c.in-Before.ship c.in-Before.slot c.high-slot.result c.high-slot.ensures.value (c.if-slot-slots.true ∙ c.slots-slots.ensures.value))

pub returns-else-slot-slots-clause-most : goal.returns-else-slot-slots-clause-most
returns-else-slot-slots-clause-most c =
    let f : IsLitOf c.args.room.now.ships (lits.Before c.in-Before.ship c.in-Before.slot) = rw c.in-Before.is at c.requires.fits in
    let less : c.high-slot.result + 1 < c.args.room.now.slots = omega arith in
    subst (λ (x : Lit). MostOf (always c.args.room.now.ships c.args.room.now.slots) (knows c.args.room.now) x (lits.Before c.in-Before.ship (c.high-slot.result + 1))) (sym c.in-Before.is)
    (most_high c.args.room.now c.in-Before.ship c.in-Before.slot c.high-slot.result f.0 c.high-slot.ensures.value less)

pub returns-then-eq-clause-most : goal.returns-then-eq-clause-most
returns-then-eq-clause-most c =
    let f : IsLitOf c.args.room.now.ships (lits.First c.in-First.v c.in-First.w) = rw c.in-First.is at c.requires.fits in
    subst (λ (x : Lit). MostOf (always c.args.room.now.ships c.args.room.now.slots) (knows c.args.room.now) x (lits.First c.in-First.v c.in-First.w)) (sym c.in-First.is)
    (most_first c.args.room.now c.in-First.v c.in-First.w f.0 f.1 (search rules))

pub returns-else-eq-clause-most : goal.returns-else-eq-clause-most
returns-else-eq-clause-most c =
    subst (λ (x : Lit). NothingOf (always c.args.room.now.ships c.args.room.now.slots) (knows c.args.room.now) x) (sym c.in-First.is)
    (nothing_first c.args.room.now c.in-First.v c.in-First.w (search rules))

pub returns-then-eq-2-clause-most : goal.returns-then-eq-2-clause-most
returns-then-eq-2-clause-most c =
    let f : IsLitOf c.args.room.now.ships (lits.NotFirst c.in-NotFirst.v c.in-NotFirst.w) = rw c.in-NotFirst.is at c.requires.fits in
    subst (λ (x : Lit). MostOf (always c.args.room.now.ships c.args.room.now.slots) (knows c.args.room.now) x (lits.NotFirst c.in-NotFirst.v c.in-NotFirst.w)) (sym c.in-NotFirst.is)
    (most_not_first c.args.room.now c.in-NotFirst.v c.in-NotFirst.w f.0 f.1 (search rules))

pub returns-else-eq-2-clause-most : goal.returns-else-eq-2-clause-most
returns-else-eq-2-clause-most c =
    subst (λ (x : Lit). NothingOf (always c.args.room.now.ships c.args.room.now.slots) (knows c.args.room.now) x) (sym c.in-NotFirst.is)
    (nothing_not_first c.args.room.now c.in-NotFirst.v c.in-NotFirst.w (search rules))
