use Rattle.std.proofs.lemmas.List.{append_cancel_left, append_cancel_right}
use Rattle.hw_chart_svg.specs.Figures.{steps_begin, steps_path}
use Rattle.hw_chart_svg.specs.Shapes.{shape_begin}
use Rattle.hw_chart_svg.proofs.ReadBack.{moves_back}
use Rattle.hw_chart_svg.proofs.laws.same_text_same_levels.Goals as goal

pub returns : goal.returns
returns c = λ class level other first count base f g e.
    let paths = append_cancel_right (steps_path level first count base) (steps_path other first count base) _ (append_cancel_left (shape_begin class) _ _ e) in
    moves_back level other first count _ f g (append_cancel_left (steps_begin first base) _ _ paths)
