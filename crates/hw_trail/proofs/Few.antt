-- A trail has few events, and room for one more where a literal is open.
use Rattle.std.proofs.Common.{◌≡◌, ℕ, ◌+◌, ◌-◌, ◌*◌, ◌<◌, ◌≤◌, true, List, [], ◌∷◌, ◌++◌, Some, None, length, arith, length-append, sym, ap, ◌∙◌, subst}
use Rattle.hw_lemmas.proofs.Numbers.{product}
use Rattle.hw_model.specs.declared.lit.Lit.{Lit}
use Rattle.hw_model.specs.declared.lit.LitTruth.TheVariants.{Free}
use Rattle.hw_model.specs.declared.narrowing.Narrowed.TheVariants.{Cut}
use Rattle.hw_model.specs.Lits.{lit_fits, IsClause}
use Rattle.hw_model.specs.Rooms.{RoomModel}
use Rattle.hw_model.specs.Narrowing.{truth, cut}
use Rattle.hw_model.specs.Replay.{narrowing}
use Rattle.hw_model.specs.Lits.{IsLitOf}
use Rattle.hw_model_laws.proofs.Denials.{lit_of}
use Rattle.hw_trail_laws.specs.declared.event.Event.{Event}
use Rattle.hw_trail_laws.specs.declared.event.Why.{Why}
use Rattle.hw_trail_laws.specs.Trails.{TrailModel, trail_shape, reason_clause, room_of, decided, most_events}
use Rattle.hw_model.specs.Rooms.{IsRoomOf}
use Rattle.hw_trail_laws.proofs.Trails.{room_known, room_end}
use Rattle.hw_trail_laws.proofs.Kept.{decided_kept, implied_kept, more_room, level_most}
use Rattle.hw_trail_laws.proofs.Many.{few_events}
use Rattle.hw_trail.specs.Kept.{KeepsTrail}

pub most_few : (ships slots : ℕ) → ships ≤ 40 → slots ≤ 513 → most_events ships slots ≤ 21260
most_few ships slots few small =
    let a : ships * (slots - 1) ≤ 40 * 512 = product ships 40 (slots - 1) 512 few (omega (arith, small)) in
    let b : ships * (ships - 1) ≤ 40 * 39 = product ships 40 (ships - 1) 39 few (omega (arith, few)) in
    omega (arith, a, b)

pub events_few : (t : TrailModel) (room : RoomModel) (capacity : ℕ) → KeepsTrail t room capacity → length t.events ≤ 21260
events_few t room capacity k = omega (arith, few_events t k.trail, most_few t.ships t.slots k.trail.shape.few_ships k.trail.shape.few_slots)

pub level_small : (t : TrailModel) (room : RoomModel) (capacity : ℕ) → KeepsTrail t room capacity → t.level ≤ 21260
level_small t room capacity k = omega (arith, events_few t room capacity k, level_most t k.trail)

-- where a literal is open there is room for one more event
pub one_more : (t : TrailModel) (room : RoomModel) (capacity : ℕ) (lit : Lit) → KeepsTrail t room capacity → lit_fits (trail_shape t) lit ≡ true → truth (room_of t) lit ≡ Free → length t.events < capacity
one_more t room capacity lit k fits free =
    let more = few_events (decided t lit) (decided_kept t lit k.trail fits free) in
    let e : Event = record { lit = lit; level = t.level + 1; why = None } in
    omega (arith, more, length-append t.events (e ∷ []), k.reserved)

-- the room has the trail's number of ships
pub room_ships : (t : TrailModel) (room : RoomModel) (capacity : ℕ) → KeepsTrail t room capacity → room.ships ≡ t.ships
room_ships t room capacity k =
    let o : IsRoomOf (trail_shape t) (room_of t) = subst (IsRoomOf (trail_shape t)) (room_end t) (room_known t k.trail (length t.events) (omega arith)).of in
    ap (λ (r : RoomModel). r.ships) k.same_room ∙ o.same_ships

pub lit_in_room : (t : TrailModel) (room : RoomModel) (capacity : ℕ) (lit : Lit) → KeepsTrail t room capacity → lit_fits (trail_shape t) lit ≡ true → IsLitOf room.ships lit
lit_in_room t room capacity lit k fits = subst (λ n. IsLitOf n lit) (sym (room_ships t room capacity k)) (lit_of (trail_shape t) lit fits)

-- one more event
pub decide_keeps : (t : TrailModel) (room new : RoomModel) (capacity capacity' : ℕ) (lit : Lit) (items : List Event) → KeepsTrail t room capacity → lit_fits (trail_shape t) lit ≡ true → truth (room_of t) lit ≡ Free → items ≡ t.events ++ record { lit = lit; level = t.level + 1; why = None } ∷ [] → new ≡ cut lit room → capacity' ≡ capacity
    → KeepsTrail (record { ships = t.ships; slots = t.slots; events = items; level = t.level + 1 }) new capacity'
decide_keeps t room new capacity capacity' lit items k fits free e r c =
    subst (λ es. KeepsTrail (record { ships = t.ships; slots = t.slots; events = es; level = t.level + 1 }) new capacity') (sym e) (record {
      trail = decided_kept t lit k.trail fits free;
      same_room = r ∙ ap (cut lit) k.same_room ∙ sym (more_room t (record { lit = lit; level = t.level + 1; why = None }));
      reserved = omega (arith, k.reserved, c);
    })

pub imply_keeps : (t : TrailModel) (room new : RoomModel) (capacity capacity' : ℕ) (lit : Lit) (why : Why) (items : List Event) → KeepsTrail t room capacity → lit_fits (trail_shape t) lit ≡ true → IsClause (trail_shape t) (reason_clause why) → truth (room_of t) lit ≡ Free → narrowing (reason_clause why) (room_of t) ≡ Cut lit → items ≡ t.events ++ record { lit = lit; level = t.level; why = Some why } ∷ [] → new ≡ cut lit room → capacity' ≡ capacity
    → KeepsTrail (record { ships = t.ships; slots = t.slots; events = items; level = t.level }) new capacity'
imply_keeps t room new capacity capacity' lit why items k fits clause free cuts e r c =
    subst (λ es. KeepsTrail (record { ships = t.ships; slots = t.slots; events = es; level = t.level }) new capacity') (sym e) (record {
      trail = implied_kept t lit why k.trail fits clause free cuts;
      same_room = r ∙ ap (cut lit) k.same_room ∙ sym (more_room t (record { lit = lit; level = t.level; why = Some why }));
      reserved = omega (arith, k.reserved, c);
    })

-- in the words of a call: what is asked of the view is so of the parts
pub of_view : (t u : TrailModel) (P : TrailModel → Type 0) → t ≡ u → P u → P t
of_view t u P e h = subst P (sym e) h
