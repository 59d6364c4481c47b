-- Going back: the events that stay, and the room that they leave.
use Rattle.std.proofs.Common.{◌≡◌, ℕ, ◌<◌, ◌≤◌, List, length, take, filter, get_or, nat_le, refl, sym, ap, ◌∙◌, subst, arith}
use Rattle.hw_model.specs.declared.lit.LitTruth.TheVariants.{Free}
use Rattle.hw_model.specs.Rooms.{RoomModel}
use Rattle.hw_model.specs.Narrowing.{truth}
use Rattle.hw_model.specs.Lits.{IsLitOf}
use Rattle.hw_model_laws.proofs.Denials.{lit_of}
use Rattle.hw_flat.specs.Opened.{opened}
use Rattle.hw_trail_laws.specs.declared.event.Event.{Event}
use Rattle.hw_trail_laws.specs.Trails.{TrailModel, trail_shape, room_before, room_of, IsTrail, back_to}
use Rattle.hw_trail_laws.specs.Bridge.{event_at}
use Rattle.hw_model.specs.Rooms.{IsRoomOf}
use Rattle.hw_trail_laws.proofs.Trails.{room_known, room_end, told_at}
use Rattle.hw_trail_laws.proofs.Kept.{front_of, back_kept}
use Rattle.std.proofs.lemmas.List.{length-take-le}
use Rattle.hw_trail.specs.Kept.{KeepsTrail, trail_in}
use Rattle.hw_trail.proofs.Few.{room_ships}
use Rattle.hw_trail.specs.Bounds.{KeepsBounds}
use Rattle.hw_trail.proofs.Made.{bounds_first}
use Rattle.hw_trail.proofs.Finds.{read}

-- the event at a place cuts the room before it
pub at_place : (t : TrailModel) → IsTrail t → (i : ℕ) → i < length t.events → (e : Event) → e ≡ get_or t.events i e → (room : RoomModel) → room ≡ room_before t i → IsLitOf room.ships e.lit × (truth room e.lit ≡ Free)
at_place t is i lt e at room same =
    let k = room_known t is i (omega (arith, lt)) in
    let h = told_at t is i lt in
    let x : event_at t i ≡ e = sym (read t.events i e lt at) in
    let ships : room.ships ≡ t.ships = ap (λ (r : RoomModel). r.ships) same ∙ k.of.same_ships in (
      subst (λ n. IsLitOf n e.lit) (sym ships) (subst (λ (y : Event). IsLitOf t.ships y.lit) x (lit_of (trail_shape t) (event_at t i).lit h.fits)),
      subst (λ r. truth r e.lit ≡ Free) (sym same) (subst (λ (y : Event). truth (room_before t i) y.lit ≡ Free) x h.free),
    )

-- as many events as are of the level or below are those that stay
stay : (t : TrailModel) (level : ℕ) → IsTrail t → take (length (filter (λ (event : Event). nat_le event.level level) t.events)) t.events ≡ (back_to t level).events
stay t level is =
    let f = front_of t is level in
    let n : length (filter (λ (event : Event). nat_le event.level level) t.events) ≡ f.count = ap length f.first ∙ length-take-le f.count t.events f.among in
    ap (λ k. take k t.events) n ∙ sym f.first

room_slots : (t : TrailModel) (room : RoomModel) (capacity : ℕ) → KeepsTrail t room capacity → room.slots ≡ t.slots
room_slots t room capacity k =
    let o : IsRoomOf (trail_shape t) (room_of t) = subst (IsRoomOf (trail_shape t)) (room_end t) (room_known t k.trail (length t.events) (omega arith)).of in
    ap (λ (r : RoomModel). r.slots) k.same_room ∙ o.same_slots

same_trail : (t : TrailModel) (level ships slots : ℕ) (items : List Event) → ships ≡ t.ships → slots ≡ t.slots → items ≡ (back_to t level).events → record { ships = ships; slots = slots; events = items; level = level } ≡ back_to t level
same_trail t level ships slots items a b c =
    let x : (n : ℕ) → TrailModel = λ n. record { ships = n; slots = slots; events = items; level = level } in
    let y : (n : ℕ) → TrailModel = λ n. record { ships = t.ships; slots = n; events = items; level = level } in
    let z : (es : List Event) → TrailModel = λ es. record { ships = t.ships; slots = t.slots; events = es; level = level } in
    ap x a ∙ ap y b ∙ ap z c

pub kept_trail : (t : TrailModel) (room : RoomModel) (capacity level : ℕ) (items : List Event) (new : RoomModel) → KeepsTrail t room capacity → items ≡ take (length (filter (λ (event : Event). nat_le event.level level) t.events)) t.events → new ≡ opened room → trail_in new items level ≡ back_to t level
kept_trail t room capacity level items new k e r =
    same_trail t level new.ships new.slots items (ap (λ (x : RoomModel). x.ships) r ∙ room_ships t room capacity k) (ap (λ (x : RoomModel). x.slots) r ∙ room_slots t room capacity k) (e ∙ stay t level k.trail)

pub back_is : (t : TrailModel) (room : RoomModel) (capacity level : ℕ) (items : List Event) (new : RoomModel) → KeepsTrail t room capacity → level ≤ t.level → items ≡ take (length (filter (λ (event : Event). nat_le event.level level) t.events)) t.events → new ≡ opened room → IsTrail (trail_in new items level)
back_is t room capacity level items new k le e r = subst IsTrail (sym (kept_trail t room capacity level items new k e r)) (back_kept t level k.trail le)

pub same_back : (t : TrailModel) (level : ℕ) (items : List Event) → IsTrail t → items ≡ take (length (filter (λ (event : Event). nat_le event.level level) t.events)) t.events → record { ships = t.ships; slots = t.slots; events = items; level = level } ≡ back_to t level
same_back t level items is e = same_trail t level t.ships t.slots items refl refl (e ∙ stay t level is)

pub back_keeps : (t : TrailModel) (room : RoomModel) (capacity capacity' level : ℕ) (items : List Event) (fresh new : RoomModel) → KeepsTrail t room capacity → level ≤ t.level → items ≡ take (length (filter (λ (event : Event). nat_le event.level level) t.events)) t.events → fresh ≡ opened room → new ≡ room_of (trail_in fresh items level) → capacity' ≡ capacity
    → KeepsTrail (record { ships = t.ships; slots = t.slots; events = items; level = level }) new capacity'
back_keeps t room capacity capacity' level items fresh new k le e r n c =
    subst (λ (u : TrailModel). KeepsTrail u new capacity') (sym (same_back t level items k.trail e)) (record {
      trail = back_kept t level k.trail le;
      same_room = n ∙ ap room_of (kept_trail t room capacity level items fresh k e r);
      reserved = omega (arith, k.reserved, c);
    })

-- the bounds of the events that stay
pub bounds_back : (t : TrailModel) (bounds : List ℕ) (capacity capacity' level : ℕ) (items : List Event) (first : List ℕ) → KeepsBounds t bounds capacity → IsTrail t → items ≡ take (length (filter (λ (event : Event). nat_le event.level level) t.events)) t.events → first ≡ take (length (filter (λ (event : Event). nat_le event.level level) t.events)) bounds → capacity' ≡ capacity
    → KeepsBounds (record { ships = t.ships; slots = t.slots; events = items; level = level }) first capacity'
bounds_back t bounds capacity capacity' level items first k is e b c =
    let f = front_of t is level in
    let n : length (filter (λ (event : Event). nat_le event.level level) t.events) ≡ f.count = ap length f.first ∙ length-take-le f.count t.events f.among in
    subst (λ (es : List Event). KeepsBounds (record { ships = t.ships; slots = t.slots; events = es; level = level }) first capacity') (sym (e ∙ ap (λ k. take k t.events) n))
    (subst (λ xs. KeepsBounds (record { ships = t.ships; slots = t.slots; events = take f.count t.events; level = level }) xs capacity') (sym (b ∙ ap (λ k. take k bounds) n))
    (bounds_first t bounds capacity capacity' level f.count k f.among c))
