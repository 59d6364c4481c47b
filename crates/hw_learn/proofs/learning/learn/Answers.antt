use Rattle.std.proofs.Common.{◌≡◌, ◌≤◌, arith, ◌∙◌, List, None, All, true, sym, subst}
use Rattle.hw_model.specs.declared.lit.Lit.{Lit}
use Rattle.hw_model.specs.Lits.{lit_fits}
use Rattle.hw_model.specs.Lits.{IsLitOf}
use Rattle.hw_trail_laws.specs.Trails.{trail_shape}
use Rattle.hw_trail_laws.specs.Passes.{DeniesAll}
use Rattle.hw_trail_laws.specs.Knowing.{knows}
use Rattle.hw_model.specs.Rooms.{whole_room}
use Rattle.hw_lits.proofs.Forms.{lits_from}
use Rattle.hw_learn.specs.Sames.{OfTrail}
use Rattle.hw_learn.specs.Starts.{IsLastFalsified, IsBack}
use Rattle.hw_learn.proofs.Spelled.{spelled}
use Rattle.hw_learn.proofs.Taught.{all_fit, lemma_clause, taught}
use Rattle.hw_learn.proofs.learning.learn.Goals as goal

pub last_of-last-requires-clause-fits : goal.last_of-last-requires-clause-fits
last_of-last-requires-clause-fits c =
    subst (λ (x : List Lit). All (λ lit. lit_fits (trail_shape c.args.trail.now) lit ≡ true) x) (sym c.as_slice.ensures.value) (all_fit (trail_shape c.args.trail.now) c.args.conflict.now c.requires.clause)

pub denied_by-requires : goal.denied_by-requires
denied_by-requires c = record {
  fits = subst (λ (x : List Lit). All (IsLitOf c.args.trail.now.ships) x) (sym c.as_slice-2.ensures.value) (lits_from (trail_shape c.args.trail.now) c.args.conflict.now 0 None c.requires.clause);
}

pub back_of-back-requires : goal.back_of-back-requires
back_of-back-requires c =
    let of : OfTrail c.args.trail.now c.walk_back.new.held = record { ships = c.in_ok-places.ensures.shape.ships ∙ c.in_ok-held.ensures.shape.ships; slots = c.in_ok-places.ensures.shape.slots ∙ c.in_ok-held.ensures.shape.slots } in
    record {
      fits = subst (λ (x : List Lit). All (λ lit. lit_fits (trail_shape c.args.trail.now) lit ≡ true) x) (sym c.as_slice-3.ensures.value)
          (all_fit (trail_shape c.args.trail.now) c.in_ok-lemma.lemma (lemma_clause c.args.trail.now c.walk_back.new.held c.in_ok-lemma.lemma of c.in_ok-lemma.ensures.normal));
    }

pub returns : goal.returns
returns c =
    let of : OfTrail c.args.trail.now c.walk_back.new.held = record { ships = c.in_ok-places.ensures.shape.ships ∙ c.in_ok-held.ensures.shape.ships; slots = c.in_ok-places.ensures.shape.slots ∙ c.in_ok-held.ensures.shape.slots } in
    let some : 1 ≤ c.walk_back.new.held.slots = omega (arith, of.slots, c.len.ensures.trail.shape.some_slot) in
    record {
      learnt = taught c.args.trail.now c.len.ensures.trail c.args.conflict.now c.in_ok-lemma.lemma c.last_of-last.result c.top_of-top.result c.first_of-first.result c.back_of-back.result c.in_ok-places.places.items c.in_ok-held.held c.walk_back.new.held
          c.requires.clause (subst (λ (x : List Lit). IsLastFalsified c.args.trail.now x c.last_of-last.result) c.as_slice.ensures.value c.last_of-last.ensures.last) c.top_of-top.ensures.level c.first_of-first.ensures.first
          c.in_ok-held.ensures.shape c.in_ok-held.ensures.room
          (subst (λ (x : List Lit). DeniesAll (knows (whole_room (trail_shape c.args.trail.now))) (knows c.in_ok-held.held) x) c.as_slice-2.ensures.value c.in_ok-held.ensures.denies)
          c.in_ok-places.ensures.walked of (spelled c.walk_back.new.held c.in_ok-lemma.lemma some c.in_ok-lemma.ensures.normal c.in_ok-lemma.ensures.denies) c.in_ok-lemma.ensures.normal
          (subst (λ (x : List Lit). IsBack c.args.trail.now c.top_of-top.result x c.back_of-back.result) c.as_slice-3.ensures.value c.back_of-back.ensures.back);
    }
