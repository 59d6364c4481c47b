use Rattle.std.proofs.Common.{◌≡◌, ◌∙◌, ◌+◌, ◌<◌, ◌≤◌, ◌^◌, sym, subst, ap, arith, List, ℕ, [], ◌∷◌, ◌++◌, length, vec_capacity}
use Rattle.hw_store.specs.declared.watching.Buckets.{Buckets}
use Rattle.hw_store.specs.declared.watching.Watch.{Watch}
use Rattle.hw_store.specs.declared.watching.Watch.TheVariants.{Due}
use Rattle.hw_store.specs.Watches.{WatchedModel, nowhere}
use Rattle.hw_store.proofs.Insides.{watched_of}
use Rattle.hw_store.proofs.Watched.{keeps_one_more}
use Rattle.hw_store.proofs.watching.Watched.add.Goals as goal

pub invariant_of-self-2 : goal.invariant_of-self-2
invariant_of-self-2 c =
    let m : WatchedModel = watched_of c.self.inside in
    let at : c.len-place.result ≡ length m.watches = omega (arith, c.reserve.ensures.len) in
    let few : length m.watches < 2 ^ 32 = subst (λ (s : WatchedModel). length s.watches < 2 ^ 32) (sym c.self.view_is) c.requires.few in
    let ws : c.push_reserved.new.self.items ≡ m.watches ++ Due ∷ [] = c.push_reserved.ensures.items ∙ ap (λ (l : List Watch). l ++ Due ∷ []) c.reserve.ensures.items in
    let stands : c.push_reserved-2.new.self.items ≡ m.stands ++ nowhere ∷ [] = c.push_reserved-2.ensures.items ∙ ap (λ (l : List Buckets). l ++ nowhere ∷ []) c.reserve-2.ensures.items in
    let due : c.push_reserved-3.new.self.items ≡ m.due ++ length m.watches ∷ [] = c.push_reserved-3.ensures.items ∙ ap (λ (l : List ℕ). l ++ c.len-place.result ∷ []) c.reserve-4.ensures.items ∙ ap (λ n. m.due ++ n ∷ []) at in
    let room : length m.watches + 1 ≤ vec_capacity c.push_reserved-3.new.self = omega (arith, at, c.in_ok-reserve-4.ensures.ok, c.push_reserved-3.ensures.capacity) in
    let many : length m.watches + 1 ≤ vec_capacity c.reserve-3.new.self = omega (arith, at, c.in_ok-reserve-3.ensures.ok) in
    rw (ws, stands, due, c.reserve-3.ensures.items)
    (keeps_one_more m c.self.inside.ones.items (vec_capacity c.self.inside.due) (vec_capacity c.self.inside.ones) (vec_capacity c.push_reserved-3.new.self) (vec_capacity c.reserve-3.new.self) c.self.invariant room many (omega (arith, few)))
