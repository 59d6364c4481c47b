-- Which rules may keep two blocks apart that keep neither out alone.
use Rattle.std.proofs.Common.{◌≡◌, ◌≢◌, ◌⊎◌, Bool, true, false, None, IsTrue, refl, ap, subst, arith, inl, inr}
use Rattle.std.proofs.lemmas.List.{set_comm}
use Rattle.hw_model.specs.declared.source.Source.TheVariants as sources
use Rattle.hw_model.specs.Narrowing.{with_range}
use Rattle.hw_model.specs.Problem.{shape_of}
use Rattle.hw_model.specs.Quiet.{names_ship}
use Rattle.hw_model.specs.Refuting.{Refutes}
use Rattle.hw_model.specs.Rooms.{RoomModel, whole_room}
use Rattle.hw_model_laws.proofs.Unspoken.{unspoken}
use Rattle.hw_price_laws.specs.declared.toll.Block.{Block}
use Rattle.hw_price_tests.specs.Asked.{NamedOrAlone, one_block}

-- the two blocks may be set in either order
swapped : (room : RoomModel) (a b : Block) → a.ship ≢ b.ship → with_range (with_range room a.ship a.low a.high) b.ship b.low b.high ≡ with_range (with_range room b.ship b.low b.high) a.ship a.low a.high
swapped room a b ne = ap (λ ranges. record room { ranges = ranges }) (set_comm room.ranges a.ship b.ship (a.low, a.high) (b.low, b.high) ne)

pub named_or_alone : NamedOrAlone
named_or_alone f a b place ascends inside h = by (names_ship f (sources.Rule place) a.ship) (names_ship f (sources.Rule place) b.ship) refl refl
  where
    apart : a.ship ≢ b.ship
    apart = λ e. omega (arith, ascends, e)

    by : (first second : Bool) → names_ship f (sources.Rule place) a.ship ≡ first → names_ship f (sources.Rule place) b.ship ≡ second
        → (IsTrue (names_ship f (sources.Rule place) a.ship) × IsTrue (names_ship f (sources.Rule place) b.ship)) ⊎ (Refutes f (sources.Rule place) None (one_block f a) ⊎ Refutes f (sources.Rule place) None (one_block f b))
    by true true first second = inl (first, second)
    by first false e second = inr (inl (unspoken f (sources.Rule place) None (one_block f a) b.ship b.low b.high inside second h))
    by false true first second = inr (inr (unspoken f (sources.Rule place) None (one_block f b) a.ship a.low a.high (omega (arith, ascends, inside)) first (subst (Refutes f (sources.Rule place) None) (swapped (whole_room (shape_of f)) a b apart) h)))
