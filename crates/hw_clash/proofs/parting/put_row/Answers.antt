use Rattle.std.proofs.Common.{◌≡◌, List, Option, ℕ, ◌++◌, [], ◌∷◌, append_assoc, ap, sym, ◌∙◌}
use Rattle.hw_plan_texts.specs.Grids.{row_of}
use Rattle.hw_plan_texts.proofs.Grids.{row_more}
use Rattle.hw_clash.specs.Parts.{part_value}
use Rattle.hw_clash.proofs.Parts.{value_by, refused_by}
use Rattle.hw_clash.proofs.parting.put_row.Goals as goal

pub loop-slot-preserved : goal.loop-slot-preserved
loop-slot-preserved c =
    let value = part_value c.args.wished.now c.args.kept.now in
    let here : c.part_value.result ≡ value c.args.ship c.loop-slot.slot = c.part_value.ensures ∙ value_by c.args.wished.now c.args.kept.now c.args.ship c.loop-slot.slot c.has-is_kept.result c.value-value.result c.is_refused-refused.result c.has-is_kept.ensures c.value-value.ensures (c.is_refused-refused.ensures ∙ refused_by c.args.wished.now c.args.kept.now c.args.ship c.loop-slot.slot c.has-is_wished.result c.wish_number.result c.wish-wish.result c.has-is_wished.ensures c.wish_number.ensures c.wish-wish.ensures) in
    c.in_ok-push.ensures.items
    ∙ (ap (λ (xs : List (Option ℕ)). xs ++ c.part_value.result ∷ []) c.loop-slot.invariant
    ∙ (append_assoc c.args.out.now.items (row_of value c.loop-slot.slot c.args.ship) (c.part_value.result ∷ [])
    ∙ ap (λ (ys : List (Option ℕ)). c.args.out.now.items ++ ys) (ap (λ (x : Option ℕ). row_of value c.loop-slot.slot c.args.ship ++ x ∷ []) here ∙ sym (row_more value c.loop-slot.slot c.args.ship))))
