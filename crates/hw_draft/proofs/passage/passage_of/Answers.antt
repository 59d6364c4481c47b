use Rattle.std.proofs.Common.{rules, w64, w32, ◌+◌, ◌≡◌, ◌≤◌, ap, ◌∙◌}
use Rattle.std.proofs.lemmas.Int.{to_z-of_z}
use mir.Val.{SFits}
use Rattle.hw_port_model.specs.Drafts.{passing_slot, depth_of, draft_at, height_for_pass}
use Rattle.hw_draft.proofs.Passes.{made_of}
use Rattle.hw_draft.proofs.passage.passage_of.Goals as goal

pub returns-clause-value : goal.returns-clause-value
returns-clause-value c =
    let fits : SFits w64 c.left.result = search rules in
    let depth_fits : SFits w64 c.depth_at-depth.result = search rules in
    let height_fits : SFits w32 c.height-height.result = search rules in
    let clearance_fits : SFits w64 c.args.pass.now.clearance = search rules in
    let offset_fits : SFits w64 c.args.pass.now.offset = search rules in
    let waypoint_fits : SFits w64 c.args.pass.now.waypoint = search rules in
    let offset = simp to_z-of_z at c.natural.ensures in
    let waypoint = simp to_z-of_z at c.natural-waypoint.ensures in
    let value = simp to_z-of_z at c.left.ensures in
    let row : c.args.slot + c.natural.result ≡ passing_slot c.args.slot c.args.pass.now = ap (λ n. c.args.slot + n) offset in
    let height : c.height-height.result ≡ height_for_pass c.args.parts.now c.args.tide.now c.args.slot c.args.pass.now = rw (offset, waypoint, c.is_least.ensures) at c.height-height.ensures in
    let waypoints : c.deref.result.now ≡ c.args.parts.now.waypoints = search rules in
    let depth : c.depth_at-depth.result ≡ depth_of c.args.parts.now.waypoints c.args.pass.now = c.depth_at-depth.ensures.value ∙ ap (λ ws. depth_of ws c.args.pass.now) waypoints in
    let same : c.left.result ≡ draft_at c.args.parts.now c.args.tide.now c.args.slot c.args.pass.now = rw (depth, height) at value in
    simp to_z-of_z (made_of c.args.parts.now c.args.tide.now c.args.slot c.args.pass.now c.natural-waypoint.result (c.args.slot + c.natural.result) c.depth_at-depth.result c.height-height.result c.left.result waypoint row depth height same)

pub returns-clause-kept : goal.returns-clause-kept
returns-clause-kept c =
    let fits : SFits w64 c.left.result = search rules in
    let depth_fits : SFits w64 c.depth_at-depth.result = search rules in
    let height_fits : SFits w32 c.height-height.result = search rules in
    let clearance_fits : SFits w64 c.args.pass.now.clearance = search rules in
    let offset_fits : SFits w64 c.args.pass.now.offset = search rules in
    let soon : c.args.slot + c.natural.result ≤ 1_535 = search rules in
    simp to_z-of_z (record {
      slot = soon;
      depth = record { low = c.depth_at-depth.ensures.low; high = c.depth_at-depth.ensures.high };
      clearance = c.requires.pass.clearance;
    })
