-- The texts of a port's picture: classes without marks, and titles as elements hold them.
use Rattle.std.proofs.Common.{◌+◌, ◌-◌, ℕ, nat_eq, List, codes, refl}
use Rattle.hw_port.specs.Parts.{ShipParts}
use Rattle.hw_port.specs.Whole.{Parts}
use Rattle.hw_port_model.specs.Numbers.{is_outgoing}
use Rattle.hw_draft.specs.Passages.{waypoint_name}
use Rattle.hw_chart.specs.declared.course.Course.{Course}
use Rattle.hw_chart.specs.declared.course.Course.TheVariants.{Unplanned, Stays, Sails}
use Rattle.hw_chart_port.specs.declared.lane.Stay.{Stay}
use Rattle.hw_chart_port.specs.declared.passing.Passing.{Passing}
use Rattle.hw_chart_port.specs.declared.sailing.Sailing.{Sailing}
use Rattle.hw_chart_port.specs.declared.stays.Wait.{Wait}
use Rattle.hw_chart_port.specs.Charts.{ChartParts, mark_class, minutes_to, way}
use Rattle.hw_chart_port.specs.Closings.{closing_title}
use Rattle.hw_chart_port.specs.Figures.{shortness, tight}
use Rattle.hw_chart_port.specs.Heads.{sizes, sizes_text}
use Rattle.hw_chart_port.specs.Lanes.{stay_class, stay_title}
use Rattle.hw_chart_port.specs.Passings.{passing_title}
use Rattle.hw_chart_port.specs.Rows.{arrow_path, full_draft_word}
use Rattle.hw_chart_port.specs.Sailings.{sailing_of}
use Rattle.hw_chart_port.specs.Stays.{wait_title}
use Rattle.hw_chart_port.specs.Titles.{course_title, load_title, row_title, ship_title, time_title}
use Rattle.hw_chart_laws.proofs.Plain.{Plain, both, letters, nothing as no_letters, number}
use Rattle.hw_chart_laws.proofs.Shared.{either as either_plain}
use Rattle.hw_chart_laws.proofs.Spelled.{Spelled, also, either, fixed, name, nothing, of_clock, of_metres, of_number, of_tenths}

pub plain_way : (s : ShipParts) → Plain (way s)
plain_way s = either_plain (is_outgoing s) (letters (codes "ou") refl) (letters (codes "in") refl)

pub plain_mark : (s : ShipParts) → Plain (mark_class s)
plain_mark s = either_plain (is_outgoing s) (letters (codes "ou mk") refl) (letters (codes "in mk") refl)

pub plain_stay : (s : ShipParts) → Plain (stay_class s)
plain_stay s = either_plain (is_outgoing s) (letters (codes "ou ga") refl) (letters (codes "in ga") refl)

pub plain_tight : (g : Sailing) → Plain (tight g)
plain_tight g = either_plain (nat_eq g.draft g.allowed) (letters (codes "r q") refl) (letters (codes "r") refl)

pub plain_arrow : (s : ShipParts) (y : ℕ) → Plain (arrow_path s y)
unfolding arrow_path
plain_arrow s y =
    let begins = either_plain (is_outgoing s) (letters (codes "M4 ") refl) (letters (codes "M11 ") refl) in
    let turns = either_plain (is_outgoing s) (letters (codes "L11 ") refl) (letters (codes "L4 ") refl) in
    both begins (both (number (y + 9)) (both (letters (codes "V") refl) (both (number (y + 17)) (both turns (both (number (y + 13)) (both (letters (codes "z") refl) no_letters))))))

pub spelled_sizes : (p : Parts) → Spelled (sizes p)
unfolding sizes_text
spelled_sizes p = also (fixed (codes "ships ") refl) (also (of_number _) (also (fixed (codes ", slots ") refl) (also (of_number _) (also (fixed (codes " of ") refl) (also (of_number _) (also (fixed (codes " min, tugs ") refl) (also (of_number _) nothing)))))))

pub spelled_full : (s : ShipParts) → Spelled (full_draft_word s)
spelled_full s = either (is_outgoing s) (fixed (codes ", full ") refl) (fixed (codes ", draft ") refl)

pub spelled_short : (full draft : ℕ) → Spelled (shortness full draft)
spelled_short full draft = either (nat_eq draft full) (fixed (codes "full") refl) (also (of_metres _) (also (fixed (codes " short") refl) nothing))

spelled_ship : (text : List ℕ) (v : ℕ) → Spelled (ship_title text v)
unfolding ship_title
spelled_ship text v = also (name text) (also (fixed (codes ", ship ") refl) (also (of_number v) nothing))

spelled_time : (g : Sailing) → Spelled (time_title g)
unfolding time_title
spelled_time g = also (fixed (codes " in slot ") refl) (also (of_number g.slot) (also (fixed (codes ", ") refl) (also (of_clock g.time) nothing)))

spelled_load : (by : List ℕ) (g : Sailing) → Spelled (load_title by g)
unfolding load_title
spelled_load by g = also (fixed (codes ", draft ") refl) (also (of_metres g.draft) (also (fixed (codes " m, allowed ") refl) (also (of_metres g.allowed) (also (fixed (codes " m by ") refl) (also (name by) (also (fixed (codes ", cargo ") refl) (also (of_tenths g.cargo) (also (fixed (codes " t") refl) nothing))))))))

spelled_course : (chart : ChartParts) (v : ℕ) (s : ShipParts) (course : Course) → Spelled (course_title chart v s course)
spelled_course chart v s Unplanned = nothing
spelled_course chart v s Stays = fixed (codes ", stays") refl
spelled_course chart v s (Sails slot) =
    let g = sailing_of chart v slot in
    also (either (is_outgoing s) (fixed (codes ", sails out") refl) (fixed (codes ", comes in") refl)) (also (spelled_time g) (also (spelled_load (waypoint_name chart.port g.by) g) nothing))

pub spelled_row : (chart : ChartParts) (v : ℕ) (s : ShipParts) (course : Course) → Spelled (row_title chart v s course)
spelled_row chart v s course = also (spelled_ship s.name v) (spelled_course chart v s course)

pub spelled_stay : (ship section : List ℕ) (stay : Stay) → Spelled (stay_title ship section stay)
unfolding stay_title
spelled_stay ship section stay = also (name ship) (also (fixed (codes " in ") refl) (also (name section) (also (fixed (codes " from ") refl) (also (of_clock stay.begins) (also (fixed (codes " to ") refl) (also (of_clock stay.ends) nothing))))))

pub spelled_passing : (ship waypoint : List ℕ) (p : Passing) → Spelled (passing_title ship waypoint p)
unfolding passing_title
spelled_passing ship waypoint p = also (name ship) (also (fixed (codes " passes ") refl) (also (name waypoint) (also (fixed (codes " in slot ") refl) (also (of_number p.slot) (also (fixed (codes ", ") refl) (also (of_clock p.time) (also (fixed (codes ": draft ") refl) (also (of_metres p.draft) (also (fixed (codes ", water ") refl) (also (of_metres p.water) (also (fixed (codes ", under keel ") refl) (also (of_metres p.keel) (also (fixed (codes ", at least ") refl) (also (of_metres p.clearance) nothing))))))))))))))

pub spelled_closing : (chart : ChartParts) (from end : ℕ) → Spelled (closing_title chart from end)
unfolding closing_title
spelled_closing chart from end = also (fixed (codes "closed in slots ") refl) (also (of_number from) (also (fixed (codes " to ") refl) (also (of_number (end - 1)) (also (fixed (codes ", ") refl) (also (of_clock (minutes_to chart from)) (also (fixed (codes " to ") refl) (also (of_clock (minutes_to chart end)) nothing)))))))

pub spelled_wait : (second first : List ℕ) (wait : Wait) → Spelled (wait_title second first wait)
unfolding wait_title
spelled_wait second first wait = also (name second) (also (fixed (codes " after ") refl) (also (name first) (also (fixed (codes ": ") refl) (also (of_clock wait.waited) (also (fixed (codes ", at least ") refl) (also (of_clock wait.least) nothing))))))
