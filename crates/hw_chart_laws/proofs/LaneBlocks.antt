-- What is drawn in the window of a section are its blocks.
use Rattle.std.proofs.Common.{◌≡◌, ◌+◌, ◌++◌, ◌∙◌, ℕ, Bool, true, false, nat_eq, List, [], ◌∷◌, refl, ap, sym, append_assoc, append-nil, if◌then◌else◌}
use Rattle.hw_port.specs.declared.parts.Stretch.{Stretch}
use Rattle.hw_port.specs.Parts.{ShipParts}
use Rattle.hw_port_model.specs.Numbers.{whole}
use Rattle.hw_chart.specs.declared.course.Course.{Course}
use Rattle.hw_chart.specs.declared.course.Course.TheVariants.{Unplanned, Stays, Sails}
use Rattle.hw_chart_port.specs.Charts.{ChartParts, course}
use Rattle.hw_chart_port.specs.Lanes.{course_stays, stay_mark, stay_of, stays_from, stretch_mark, stretch_marks}
use Rattle.hw_chart_laws.specs.Lanes.{Block, LanesAreBlocks, blocks_from, stay_marks_text, course_blocks, stretch_block, stretch_blocks}

blocks-append : (section : List ℕ) (a b : List Block) → stay_marks_text section (a ++ b) ≡ stay_marks_text section a ++ stay_marks_text section b
blocks-append section [] b = refl
blocks-append section (x ∷ a) b = ap (λ (l : List ℕ). stay_mark x.ship section x.stay ++ l) (blocks-append section a b) ∙ sym (append_assoc (stay_mark x.ship section x.stay) (stay_marks_text section a) (stay_marks_text section b))

joined_by : (section : List ℕ) {s t : List ℕ} (a b : List Block) → s ≡ stay_marks_text section a → t ≡ stay_marks_text section b → s ++ t ≡ stay_marks_text section (a ++ b)
joined_by section {s = s} a b p q = ap (λ (l : List ℕ). s ++ l) q ∙ ap (λ (l : List ℕ). l ++ stay_marks_text section b) p ∙ sym (blocks-append section a b)

one_block : (b : Bool) (section : List ℕ) (block : Block) → (if b then stay_mark block.ship section block.stay else []) ≡ stay_marks_text section (if b then block ∷ [] else [])
one_block true section block = sym (append-nil (stay_mark block.ship section block.stay))
one_block false section block = refl

of_stretches : (chart : ChartParts) (place : ℕ) (section : List ℕ) (s : ShipParts) (slot : ℕ) (stretches : List Stretch) → stretch_marks chart place section s slot stretches ≡ stay_marks_text section (stretch_blocks chart place s slot stretches)
of_stretches chart place section s slot [] = refl
of_stretches chart place section s slot (stretch ∷ more) =
    let here : stretch_mark chart place section s slot stretch ≡ stay_marks_text section (stretch_block chart place s slot stretch) = one_block (nat_eq (whole stretch.section) place) section (record { ship = s; stay = stay_of chart s slot stretch }) in
    let rest = of_stretches chart place section s slot more in
    joined_by section (stretch_block chart place s slot stretch) (stretch_blocks chart place s slot more) here rest

of_course : (chart : ChartParts) (place : ℕ) (section : List ℕ) (s : ShipParts) (c : Course) → course_stays chart place section s c ≡ stay_marks_text section (course_blocks chart place s c)
of_course chart place section s Unplanned = refl
of_course chart place section s Stays = refl
of_course chart place section s (Sails slot) = of_stretches chart place section s slot s.channel

of_ships : (chart : ChartParts) (place : ℕ) (section : List ℕ) (v : ℕ) (ships : List ShipParts) → stays_from chart place section v ships ≡ stay_marks_text section (blocks_from chart place v ships)
of_ships chart place section v [] = refl
of_ships chart place section v (s ∷ more) =
    let here = of_course chart place section s (course chart v) in
    let rest = of_ships chart place section (v + 1) more in
    joined_by section (course_blocks chart place s (course chart v)) (blocks_from chart place (v + 1) more) here rest

pub lanes_are_blocks : LanesAreBlocks
lanes_are_blocks chart place section = of_ships chart place section 0 chart.port.ships
