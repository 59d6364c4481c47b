-- The course of a ship, read back from the title of its row in a port's picture.
use Rattle.std.proofs.Common.{◌≡◌, ◌<◌, ◌^◌, ◌++◌, ◌∙◌, ℕ, Bool, true, false, Option, Some, None, List, [], codes, decimal, get_or, refl, ap, sym, arith, append_assoc, inl, inr, if◌then◌else◌}
use Rattle.std.proofs.lemmas.Bool.{cases_lt, lt-ltb, le-ltb}
use Rattle.std.proofs.lemmas.List.{append_cancel_left}
use Rattle.hw_port.specs.Parts.{ShipParts}
use Rattle.hw_port_model.specs.Numbers.{is_outgoing}
use Rattle.hw_draft.specs.Passages.{waypoint_name}
use Rattle.hw_chart_svg.specs.Numbers.{clock}
use Rattle.hw_chart_svg.specs.Sheets.{title_end}
use Rattle.hw_chart.specs.declared.course.Course.{Course}
use Rattle.hw_chart.specs.declared.course.Course.TheVariants.{Unplanned, Stays, Sails}
use Rattle.hw_chart.specs.Courses.{SailsBefore, course_of}
use Rattle.hw_chart_port.specs.Charts.{ChartParts}
use Rattle.hw_chart_port.specs.Sailings.{sailing_of}
use Rattle.hw_chart_port.specs.Titles.{course_title, load_title, time_title, way_title}
use Rattle.hw_chart_laws.proofs.Reading.{after_both, number_back}

abbrev way_text : Bool → List ℕ
way_text out = if out then codes ", sails out" else codes ", comes in"

-- the title of a ship that sails is not that of one that stays, nor an empty one
not_staying : (out : Bool) (t x y : List ℕ) → (way_text out ++ t) ++ x ≡ codes ", stays" ++ y → ⊥
not_staying true t x y e = let no : ◌≡◌ {A = ℕ} 97 116 = ap (λ (l : List ℕ). get_or l 3 0) e in omega (arith, no)
not_staying false t x y e = let no : ◌≡◌ {A = ℕ} 111 116 = ap (λ (l : List ℕ). get_or l 3 0) e in omega (arith, no)

not_empty : (out : Bool) (t x y : List ℕ) → (way_text out ++ t) ++ x ≡ title_end ++ y → ⊥
not_empty true t x y e = let no : ◌≡◌ {A = ℕ} 44 60 = ap (λ (l : List ℕ). get_or l 0 0) e in omega (arith, no)
not_empty false t x y e = let no : ◌≡◌ {A = ℕ} 44 60 = ap (λ (l : List ℕ). get_or l 0 0) e in omega (arith, no)

stays_not_empty : (x y : List ℕ) → codes ", stays" ++ x ≡ title_end ++ y → ⊥
stays_not_empty x y e = let no : ◌≡◌ {A = ℕ} 44 60 = ap (λ (l : List ℕ). get_or l 0 0) e in omega (arith, no)

-- the slot of a sailing
slot_back : (m n : ℕ) (a b s t x y : List ℕ) → m < 2 ^ 64 → n < 2 ^ 64 → ((codes " in slot " ++ (decimal m ++ (codes ", " ++ a))) ++ s) ++ x ≡ ((codes " in slot " ++ (decimal n ++ (codes ", " ++ b))) ++ t) ++ y → m ≡ n
slot_back m n a b s t x y p q e =
    let digits = append_cancel_left (codes " in slot ") (((decimal m ++ (codes ", " ++ a)) ++ s) ++ x) (((decimal n ++ (codes ", " ++ b)) ++ t) ++ y) e in
    let apart : (d c r z : List ℕ) → ((d ++ c) ++ r) ++ z ≡ d ++ (c ++ (r ++ z)) = λ d c r z. append_assoc (d ++ c) r z ∙ append_assoc d c (r ++ z) in
    number_back m n 44 _ _ refl p q (sym (apart (decimal m) (codes ", " ++ a) s x) ∙ digits ∙ apart (decimal n) (codes ", " ++ b) t y)

sails_back : (one two : ChartParts) (v : ℕ) (s : ShipParts) (m n : ℕ) (x y : List ℕ) → m < 2 ^ 64 → n < 2 ^ 64 → course_title one v s (Sails m) ++ x ≡ course_title two v s (Sails n) ++ y → m ≡ n
unfolding time_title
sails_back one two v s m n x y p q e =
    let g = sailing_of one v m in
    let k = sailing_of two v n in
    let load = load_title (waypoint_name one.port g.by) g ++ [] in
    let other = load_title (waypoint_name two.port k.by) k ++ [] in
    let times = after_both (way_title s) (time_title g ++ load) (time_title k ++ other) x y e in
    slot_back m n (clock g.time ++ []) (clock k.time ++ []) load other x y p q times

pub course_back : (one two : ChartParts) (v : ℕ) (s : ShipParts) (c d : Course) (x y : List ℕ) → SailsBefore (2 ^ 64) c → SailsBefore (2 ^ 64) d → course_title one v s c ++ (title_end ++ x) ≡ course_title two v s d ++ (title_end ++ y) → c ≡ d
course_back one two v s Unplanned Unplanned x y p q e = refl
course_back one two v s Unplanned Stays x y p q e = absurd (stays_not_empty (title_end ++ y) x (sym e))
course_back one two v s Unplanned (Sails n) x y p q e = absurd (not_empty (is_outgoing s) _ _ x (sym e))
course_back one two v s Stays Unplanned x y p q e = absurd (stays_not_empty (title_end ++ x) y e)
course_back one two v s Stays Stays x y p q e = refl
course_back one two v s Stays (Sails n) x y p q e = absurd (not_staying (is_outgoing s) _ _ (title_end ++ x) (sym e))
course_back one two v s (Sails m) Unplanned x y p q e = absurd (not_empty (is_outgoing s) _ _ y e)
course_back one two v s (Sails m) Stays x y p q e = absurd (not_staying (is_outgoing s) _ _ (title_end ++ y) e)
course_back one two v s (Sails m) (Sails n) x y p q e = ap Sails (sails_back one two v s m n (title_end ++ x) (title_end ++ y) p q e)

small_slot : (slot slots : ℕ) → slots < 2 ^ 64 → SailsBefore (2 ^ 64) (course_of (Some slot) slots)
small_slot slot slots small = elim (cases_lt slot slots) [
  | inl lt ↦ rw (lt-ltb slot slots lt) (omega (arith, lt, small))
  | inr le ↦ rw (le-ltb slot slots le) tt
]

pub small_course : (o : Option ℕ) (slots : ℕ) → slots < 2 ^ 64 → SailsBefore (2 ^ 64) (course_of o slots)
small_course None slots small = tt
small_course (Some slot) slots small = small_slot slot slots small
