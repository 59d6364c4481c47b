use Rattle.std.proofs.Common.{◌≡◌, ◌<◌, ◌++◌, ◌∷◌, [], cond, nat_lt, subst, sym, ap, ◌∙◌, arith}
use Rattle.hw_model.specs.Refuting.{greatest_value}
use Rattle.hw_model.specs.Rooms.{low_of, high_of}
use Rattle.hw_search_laws.specs.Branches.{greatest_in}
use Rattle.hw_search_sources.specs.Branching.{BestAmong}
use Rattle.hw_search_sources.proofs.Choosing.{stays_best, becomes_best}
use Rattle.hw_search_sources.proofs.branching.better.Goals as goal

pub returns-then-value-most : goal.returns-then-value-most
returns-then-value-most c =
    let f = c.args.flat.now in
    let room = c.args.room.now in
    let ship = c.args.ship in
    let wide : low_of room ship < high_of room ship = omega arith in
    let is : c.greatest_value-value.result ≡ greatest_in f room ship = c.greatest_value-value.ensures.value ∙ ap (λ l. greatest_value f ship l c.high-high.result) c.low-low.ensures.value ∙ ap (λ h. greatest_value f ship (low_of room ship) h) c.high-high.ensures.value in
    record { best = λ ships h. subst (BestAmong f room (ships ++ cond (nat_lt (low_of room ship) (high_of room ship)) (ship ∷ []) [])) (sym c.in-Some.is) (stays_best f room ship c.greatest_value-value.result (c.in-Some._ship, c.in-Some.most) wide is c.if-value-most.true ships (subst (BestAmong f room ships) c.in-Some.is h)) }

pub returns-else-value-most : goal.returns-else-value-most
returns-else-value-most c =
    let f = c.args.flat.now in
    let room = c.args.room.now in
    let ship = c.args.ship in
    let wide : low_of room ship < high_of room ship = omega arith in
    let is : c.greatest_value-value.result ≡ greatest_in f room ship = c.greatest_value-value.ensures.value ∙ ap (λ l. greatest_value f ship l c.high-high.result) c.low-low.ensures.value ∙ ap (λ h. greatest_value f ship (low_of room ship) h) c.high-high.ensures.value in
    record { best = λ ships h. becomes_best f room ship c.greatest_value-value.result (c.in-Some._ship, c.in-Some.most) wide c.requires.ship_in is c.if-value-most.false ships (subst (BestAmong f room ships) c.in-Some.is h) }
