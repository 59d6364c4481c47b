use Rattle.std.proofs.Common.{◌≡◌, ◌++◌, [], ◌∷◌, map, sym, refl}
use Rattle.hw_model.specs.Problem.{horizon}
use Rattle.hw_text.specs.Parts.{ended_lines}
use Rattle.hw_flat.specs.TextForms.{any_hours}
use Rattle.hw_flat.specs.TextWritten.{header_text, size_text, row_text, rows_in, rule_text}
use Rattle.hw_flat.proofs.WrittenWords.{text_put}
use Rattle.hw_flat.proofs.writing.put_lines.Goals as goal

pub returns : goal.returns
returns c =
    let f = c.args.flat.now in
    let head : c.put_head.new.out.items ≡ c.args.out.now.items ++ ended_lines (header_text f.stay (any_hours f.rules) ∷ size_text f.ships (horizon f) ∷ []) = rw (c.in_ok-put_head.ensures, c.horizon-sailing.ensures.value, c.any_hours.ensures, c.deref.ensures.value, sym c.flat.view_is) refl in
    let rows : c.put_rows.new.out.items ≡ c.put_head.new.out.items ++ ended_lines (map (row_text (horizon f)) (rows_in f.ships f.slots f.values)) = rw (c.in_ok-put_rows.ensures, c.deref-2.ensures.value, c.horizon-sailing.ensures.value, sym c.flat.view_is) refl in
    let rules : c.put_rules.new.out.items ≡ c.put_rows.new.out.items ++ ended_lines (map rule_text f.rules) = rw (c.in_ok-put_rules.ensures, c.deref-3.ensures.value, sym c.flat.view_is) refl in
    rw c.in_ok-extend_from_slice.ensures.items
    (text_put c.args.out.now.items c.put_head.new.out.items c.put_rows.new.out.items c.put_rules.new.out.items (header_text f.stay (any_hours f.rules)) (size_text f.ships (horizon f)) (map (row_text (horizon f)) (rows_in f.ships f.slots f.values)) (map rule_text f.rules) head rows rules)
