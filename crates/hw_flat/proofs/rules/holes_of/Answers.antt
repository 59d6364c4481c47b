use Rattle.std.proofs.Common.{◌≡◌, ◌<◌, ◌++◌, [], ◌∷◌, length, sym, arith}
use Rattle.hw_flat.specs.TextForms.{items_of, hole_form}
use Rattle.hw_flat.proofs.Rows.{more_fit, items_fail, items_go_on, some_fail}
use Rattle.hw_flat.proofs.rules.holes_of.Goals as goal

pub returns-in_default-hole_of : goal.returns-in_default-hole_of
returns-in_default-hole_of c =
    let room : length c.loop-word.holes.items < 8 = omega (arith, c.if-len-eq-MOST_HOLES.false, c.len.ensures, c.loop-word.invariant.few) in
    some_fail hole_form 8 c.args.words
    (items_fail hole_form c.loop-word.holes.items 8 c.loop-word.words c.in-Some.word.now c.word.new.self (items_of hole_form 8 c.args.words) room c.in-Some.ensures (sym c.in_default-hole_of.ensures) c.loop-word.invariant.told)

pub loop-word-preserved : goal.loop-word-preserved
loop-word-preserved c =
    let room : length c.loop-word.holes.items < 8 = omega (arith, c.if-len-eq-MOST_HOLES.false, c.len.ensures, c.loop-word.invariant.few) in
    let grown : c.push.new.self.items ≡ c.loop-word.holes.items ++ c.in-Some-hole_of.hole ∷ [] = c.in_ok-push.ensures.items in
    record {
      few = more_fit c.loop-word.holes.items c.push.new.self.items c.in-Some-hole_of.hole 8 room grown;
      told = items_go_on hole_form c.loop-word.holes.items c.push.new.self.items c.in-Some-hole_of.hole 8 c.loop-word.words c.in-Some.word.now c.word.new.self (items_of hole_form 8 c.args.words)
          room c.in-Some.ensures (sym c.in-Some-hole_of.ensures) grown c.loop-word.invariant.told;
    }
