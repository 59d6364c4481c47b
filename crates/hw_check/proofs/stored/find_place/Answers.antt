use Rattle.std.proofs.Common.{rules}
use Rattle.std.proofs.lemmas.List.Sorted.{answers_always}
use Rattle.hw_check.proofs.Searched.{found, absent}
use Rattle.hw_check.proofs.stored.find_place.Goals as goal

-- the closure gives a place's number
pub returns-in-Ok : goal.returns-in-Ok
returns-in-Ok c =
    let facts = c.in-Ok.ensures in
    let by_key = facts.position (λ place. place.id) (answers_always _ _ _ (λ f a r g called. search rules)) in
    record { found = found c.args.places.now c.requires.ascend c.args.id c.in-Ok.index facts.bound by_key }

pub returns-in-Err : goal.returns-in-Err
returns-in-Err c =
    let facts = c.in-Err.ensures in
    let by_key = facts.position (λ place. place.id) (answers_always _ _ _ (λ f a r g called. search rules)) in
    record { found = absent c.args.places.now c.requires.ascend c.args.id _ facts.bound by_key }
