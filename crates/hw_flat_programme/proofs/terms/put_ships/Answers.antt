use Rattle.std.proofs.Common.{◌<◌, ◌≤◌, refl, arith, ap}
use Rattle.hw_model.specs.declared.shape.Shape.{Shape}
use Rattle.hw_desk.proofs.Written.{puts_on, puts_same, puts_nothing}
use Rattle.hw_flat_programme.specs.declared.format.Sense.TheVariants.{Exactly}
use Rattle.hw_flat_programme.specs.Rows.{ships_terms, value_terms}
use Rattle.hw_flat_programme.specs.Texts.{mark_of, terms_text}
use Rattle.hw_flat_programme.proofs.Onward.{terms_text-append, texts_next, texts_end}
use Rattle.hw_flat_programme.proofs.terms.put_ships.Goals as goal

pub loop-ship-preserved : goal.loop-ship-preserved
loop-ship-preserved g c =
    let lt : c.loop-ship.ship < c.args.flat.now.ships = omega (arith, ap (λ (s : Shape). s.ships) c.shape-ship-end.ensures.value, c.loop-ship-test.true) in
    λ end h. c.loop-ship.invariant end (puts_same _ (texts_next (terms_text c.args.flat.now.slots (mark_of c.args.format Exactly)) (terms_text-append c.args.flat.now.slots (mark_of c.args.format Exactly)) (λ ship. value_terms c.args.format c.args.flat.now ship 0 c.args.flat.now.slots) (ships_terms c.args.format c.args.flat.now) (λ k more. refl) c.loop-ship.ship (c.args.flat.now.ships) lt) (puts_on c.put_values.ensures h))

pub returns : goal.returns
returns g c =
    let le : c.args.flat.now.ships ≤ c.loop-ship.ship = omega (arith, ap (λ (s : Shape). s.ships) c.shape-ship-end.ensures.value, c.loop-ship-test.false) in
    c.loop-ship.invariant _ (puts_same _ (texts_end (terms_text c.args.flat.now.slots (mark_of c.args.format Exactly)) (ships_terms c.args.format c.args.flat.now) refl (λ k. refl) c.loop-ship.ship (c.args.flat.now.ships) le) (puts_nothing _))
