use Rattle.std.proofs.Common.{◌≡◌, ◌+◌, ◌++◌, ◌∙◌, List, sym, ap, subst, arith}
use Rattle.hw_model.specs.declared.lit.Lit.{Lit}
use Rattle.hw_lits.specs.Said.{above_said, below_said, turned_said, one_or_none}
use Rattle.hw_lits.proofs.SaidRooms.{Said, said_ship, said_pair, said_all}
use Rattle.hw_lits.proofs.spelling.lits_of.Goals as goal

pub loop-ship-preserved : goal.loop-ship-preserved
loop-ship-preserved c =
    let room = c.args.room.now in
    let v = c.loop-ship.ship in
    let e : c.push_some-in-loop-ship.new.out.items ≡ (c.loop-ship.out.items ++ one_or_none (above_said room v)) ++ one_or_none (below_said room v) =
    c.in_ok-push_some-2.ensures ∙ ap (λ o. c.push_some.new.out.items ++ one_or_none o) c.below.ensures ∙ ap (λ (xs : List Lit). xs ++ one_or_none (below_said room v)) (c.in_ok-push_some.ensures ∙ ap (λ o. c.loop-ship.out.items ++ one_or_none o) c.above.ensures) in
    subst (Said room (v + 1) (v + 1) 0 0 (0, v + 1, 0)) (sym e) (said_ship room v c.loop-ship.out.items c.ships-ships.ensures.room (omega (arith, c.loop-ship-test.true, c.ships-ships.ensures.value)) c.loop-ship.invariant)

pub loop-w-preserved : goal.loop-w-preserved
loop-w-preserved c =
    let room = c.args.room.now in
    let v = c.loop-v.v in
    let w = c.loop-w.w in
    let e : c.push_some-in-loop-w.new.out.items ≡ c.loop-w.out.items ++ one_or_none (turned_said room v w) = c.in_ok-push_some-3.ensures ∙ ap (λ o. c.loop-w.out.items ++ one_or_none o) c.order_turned.ensures in
    subst (Said room room.ships room.ships v (w + 1) (1, v, w + 1)) (sym e) (said_pair room room.ships v w c.loop-w.out.items (omega (arith, c.loop-w.auto.w)) (omega (arith, c.loop-w-test.true, c.ships-ships.ensures.value)) c.loop-w.invariant)

pub returns-clause-denies : goal.returns-clause-denies
returns-clause-denies c = said_all c.args.room.now c.loop-v.v c.loop-v.out.items c.ships-ships.ensures.room (omega (arith, c.loop-v-test.false, c.loop-v.auto.v-end, c.ships-ships.ensures.value)) c.loop-v.invariant
