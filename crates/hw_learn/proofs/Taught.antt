-- What the walk back from a conflict finds is what the conflict teaches.
use Rattle.std.proofs.Common.{◌≡◌, ℕ, true, List, [], None, All, sym, subst}
use Rattle.hw_model.specs.declared.lit.Lit.{Lit}
use Rattle.hw_model.specs.declared.shape.Shape.{Shape}
use Rattle.hw_model.specs.Lits.{lit_fits, IsClause}
use Rattle.hw_model.specs.Rooms.{RoomModel, IsRoom, whole_room}
use Rattle.hw_flat.specs.Opened.{shape_in}
use Rattle.hw_trail_laws.specs.Replays.{Facts, Narrower}
use Rattle.hw_trail_laws.specs.Stories.{Story, room_at}
use Rattle.hw_trail_laws.specs.Walks.{InClause, Walk, Denies, SpellsLemma, WalkGives}
use Rattle.hw_trail_laws.specs.Passes.{DeniesAll, Walks}
use Rattle.hw_trail_laws.specs.Knowing.{knows, always}
use Rattle.hw_trail_laws.specs.Trails.{TrailModel, trail_shape, IsTrail}
use Rattle.hw_trail_laws.specs.Learning.{Learns}
use Rattle.hw_trail_laws.specs.Bridge.{story_of}
use Rattle.hw_trail_laws.proofs.Knowing.{know_world, know_basic}
use Rattle.hw_trail_laws.proofs.Ends.{walk_start, walk_end}
use Rattle.hw_trail_laws.proofs.Passes.{denies_from}
use Rattle.hw_trail_laws.proofs.Denials.{in_fits, whole_knows}
use Rattle.hw_trail_laws.proofs.Levels.{fits_fresh}
use Rattle.hw_trail_laws.proofs.Learnt.{learns_from, all_in}
use Rattle.hw_learn.specs.Sames.{OfTrail}
use Rattle.hw_learn.specs.Starts.{IsLastFalsified, IsLevelOf, IsFirst, IsBack}
use Rattle.hw_learn.proofs.Hits.{start_is}
use Rattle.hw_learn.proofs.Starts.{bounds_of, top_from, goes_back, back_ground}
use Rattle.hw_trail.proofs.Shapes.{shape_same}

pub lemma_clause : (t : TrailModel) (held : RoomModel) (lemma : List Lit) → OfTrail t held → IsClause (shape_in held) lemma → IsClause (trail_shape t) lemma
lemma_clause t held lemma of normal = subst (λ (s : Shape). IsClause s lemma) (shape_same t held of.ships of.slots) normal

pub all_fit : (shape : Shape) (c : List Lit) → IsClause shape c → All (λ lit. lit_fits shape lit ≡ true) c
all_fit shape c is = all_in (λ lit. lit_fits shape lit ≡ true) c (in_fits shape c 0 None is)

pub taught : (t : TrailModel) → IsTrail t → (clause lemma : List Lit) (last top first back : ℕ) (places : List ℕ) (begun held : RoomModel) → IsClause (trail_shape t) clause
    → IsLastFalsified t clause last → IsLevelOf t last top → IsFirst t last top first → OfTrail t begun → IsRoom begun → DeniesAll (knows (whole_room (trail_shape t))) (knows begun) clause
    → Walks (story_of t) last top first 0 (knows begun) (knows held) places → OfTrail t held → SpellsLemma (always held.ships held.slots) (knows held) lemma → IsClause (shape_in held) lemma
    → IsBack t top lemma back → Learns t clause lemma back places
taught t is clause lemma last top first back places begun held cf l level f of0 room0 d walks of spells normal ib =
    let s : Story = story_of t in
    let b = bounds_of t is last top first l.inside level f in
    let fits : (x : Lit) → InClause x clause → lit_fits (trail_shape t) x ≡ true = in_fits (trail_shape t) clause 0 None cf in
    let it = top_from t is last top first b.0 clause fits l level b.1 in
    let basic : Narrower (knows begun) s.start = λ m y. know_basic begun room0 m (subst (λ (r : Facts). r m ≡ true) (sym (start_is t begun.ships begun.slots of0.ships of0.slots)) y) in
    let denies : Denies s.start (room_at s last) clause (knows begun) = denies_from s last b.1.story clause (knows (whole_room (trail_shape t))) (knows begun) (whole_knows (trail_shape t) is.shape.some_slot) l.known d in
    let w0 : Walk s last top first b.0 clause last (knows begun) [] = walk_start s last top first b.0 clause (knows begun) b.1 it (λ x i. fits_fresh (trail_shape t) x (fits x i)) (know_world begun room0) basic denies in
    let w = walks b.0 clause b.1 w0 in
    let sp : SpellsLemma s.start (knows held) lemma = subst (λ (r : Facts). SpellsLemma r (knows held) lemma) (start_is t held.ships held.slots of.ships of.slots) spells in
    let cl : IsClause (trail_shape t) lemma = lemma_clause t held lemma of normal in
    let h : WalkGives s last top clause lemma back places = walk_end s last top first b.0 clause (knows held) places back b.1 w lemma sp in
    let gb = goes_back t is last l.inside top back lemma (in_fits (trail_shape t) lemma 0 None cl) h.all_false ib in
    learns_from t is last l.inside top clause lemma back places cf l.known it cl (back_ground t top back lemma ib) gb h
