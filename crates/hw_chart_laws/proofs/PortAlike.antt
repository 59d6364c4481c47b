-- Rows of a port's picture that are written alike show the same drafts.
use Rattle.std.proofs.Common.{◌≡◌, ◌⊎◌, ◌<◌, ◌≤◌, ◌+◌, ◌-◌, ◌^◌, ◌++◌, ◌∙◌, ◌≤ℤ◌, ◌<ℤ◌, ◌-ℤ◌, ℕ, ℤ, pos, Bool, true, false, cond, int_le, Option, Some, None, IfSome, option_and_then, option_map, slice_get, unsigned_abs, List, codes, decimal, drop, get_or, length, refl, ap, sym, subst, arith, inl, inr, if◌then◌else◌}
use Rattle.std.proofs.lemmas.Bool.{and_parts, cases_lt}
use Rattle.std.proofs.lemmas.Int.{ints}
use Rattle.std.proofs.lemmas.List.{append_cancel_left}
use Rattle.std.proofs.lemmas.Option.{slice_get_within}
use Rattle.hw_port.proofs.Keeping.{le_from_test}
use Rattle.hw_port.specs.Kept.{ShipKept, Within}
use Rattle.hw_port.specs.Parts.{ShipParts}
use Rattle.hw_port.specs.Whole.{Parts}
use Rattle.hw_tide.specs.Levels.{TideParts}
use Rattle.hw_port_laws.proofs.Ships.{ship_kept}
use Rattle.hw_port_model.specs.Drafts.{allowed_draft, floating, in_window, loaded, may_sail, sailing, sailing_draft}
use Rattle.hw_port_model.specs.Numbers.{is_outgoing, whole}
use Rattle.hw_chart_svg.specs.Numbers.{metres}
use Rattle.hw_chart_port.proofs.Bounds.{sails_between}
use Rattle.hw_chart.proofs.Ranks.{rank_small}
use Rattle.hw_chart_port.specs.Charts.{ChartParts, IsChart, tall_between}
use Rattle.hw_chart_port.specs.Drafts.{draft_level, short_level}
use Rattle.hw_chart_port.specs.Rows.{ranked_row, row_y}
use Rattle.hw_chart.specs.Layout.{rank_in}
use Rattle.hw_chart_laws.proofs.Bars.{short_less}
use Rattle.hw_chart_laws.proofs.PortRowParts.{ground_area, number_text, shared}
use Rattle.hw_chart_laws.proofs.Reading.{number_parted}
use Rattle.hw_chart_laws.proofs.Shown.{IsSmall, block_back, figure_back, line_back, metres_back}
use Rattle.hw_port_windows.specs.Statuses.{full_draft}

-- ---- the full draft, in the line with the ship's number

full_back : (out other : Bool) (v w m n : ℕ) → v < 2 ^ 64 → w < 2 ^ 64 → m < 2 ^ 64 → n < 2 ^ 64 → codes "ship " ++ (decimal v ++ ((if out then codes ", full " else codes ", draft ") ++ (metres m ++ codes " m"))) ≡ codes "ship " ++ (decimal w ++ ((if other then codes ", full " else codes ", draft ") ++ (metres n ++ codes " m"))) → m ≡ n
full_back true true v w m n a b c d e =
    let here = number_parted v w 44 (codes " full " ++ (metres m ++ codes " m")) (codes " full " ++ (metres n ++ codes " m")) refl a b (ap (drop 5) e) in
    metres_back m n (codes " m") (codes " m") c d (append_cancel_left (codes " full ") (metres m ++ codes " m") (metres n ++ codes " m") here.1)
full_back false false v w m n a b c d e =
    let here = number_parted v w 44 (codes " draft " ++ (metres m ++ codes " m")) (codes " draft " ++ (metres n ++ codes " m")) refl a b (ap (drop 5) e) in
    metres_back m n (codes " m") (codes " m") c d (append_cancel_left (codes " draft ") (metres m ++ codes " m") (metres n ++ codes " m") here.1)
full_back true false v w m n a b c d e =
    let here = number_parted v w 44 (codes " full " ++ (metres m ++ codes " m")) (codes " draft " ++ (metres n ++ codes " m")) refl a b (ap (drop 5) e) in
    let no : ◌≡◌ {A = ℕ} 102 100 = ap (λ (l : List ℕ). get_or l 1 0) here.1 in
    absurd (omega (arith, no))
full_back false true v w m n a b c d e =
    let here = number_parted v w 44 (codes " draft " ++ (metres m ++ codes " m")) (codes " full " ++ (metres n ++ codes " m")) refl a b (ap (drop 5) e) in
    let no : ◌≡◌ {A = ℕ} 100 102 = ap (λ (l : List ℕ). get_or l 1 0) here.1 in
    absurd (omega (arith, no))

-- ---- the numbers of a ship

full_by : (b : Bool) (light deep : ℤ) → Within (pos 0) (pos 10_000) light → Within (pos 0) (pos 10_000) deep → Within (pos 0) (pos 10_000) (cond b deep light)
full_by true light deep l d = d
full_by false light deep l d = l

full_within : (p : Parts) (s : ShipParts) → ShipKept p s → Within (pos 0) (pos 10_000) (full_draft s)
full_within p s k = full_by (is_outgoing s) s.light s.deep k.light k.deep

whole_back : (a b : ℤ) → pos 0 ≤ℤ a → pos 0 ≤ℤ b → unsigned_abs a ≡ unsigned_abs b → a ≡ b
whole_back a b p q e = grind (arith, ints)

gap_back : (full c d : ℤ) → c ≤ℤ full → d ≤ℤ full → unsigned_abs (full -ℤ c) ≡ unsigned_abs (full -ℤ d) → c ≡ d
gap_back full c d p q e = grind (arith, ints)

small_gap : (low high : ℤ) → pos 0 ≤ℤ low → low ≤ℤ pos 10_000 → pos 0 ≤ℤ high → high ≤ℤ pos 10_000 → unsigned_abs (high -ℤ low) ≤ 10_000
small_gap low high a b c d = grind (arith, ints)

small_whole : (z : ℤ) (n : ℕ) → pos 0 ≤ℤ z → z ≤ℤ pos n → whole z ≤ n
small_whole z n low high = grind (arith, ints)

tall_small : (p : Parts) (s : ShipParts) → ShipKept p s → tall_between s.light (full_draft s) ≤ 20_000
tall_small p s k =
    let f = full_within p s k in
    let gap = small_gap s.light (full_draft s) k.light.low k.light.high f.low f.high in
    omega (arith, gap)

-- a sailing draft is one between the light and the full one
abbrev Between : ShipParts → Option ℤ → Type 0
Between s o = IfSome o (λ d. (s.light ≤ℤ d) × (d ≤ℤ full_draft s))

level_small : (p : Parts) (s : ShipParts) → ShipKept p s → (o : Option ℤ) → Between s o → short_level (full_draft s) (tall_between s.light (full_draft s)) o < 2 ^ 64
level_small p s k None b = let tall = tall_small p s k in omega (arith, tall)
level_small p s k (Some d) b =
    let less = short_less s.light (full_draft s) d b.0 b.1 in
    let tall = tall_small p s k in
    omega (arith, tall, less)

-- ---- a draft, read back from its level

draft_back : (s r : ShipParts) (o q : Option ℤ) → full_draft s ≡ full_draft r → tall_between s.light (full_draft s) ≡ tall_between r.light (full_draft r) → Between s o → Between r q → short_level (full_draft s) (tall_between s.light (full_draft s)) o ≡ short_level (full_draft r) (tall_between r.light (full_draft r)) q → o ≡ q
draft_back s r None None full tall b c e = refl
draft_back s r None (Some d) full tall b c e =
    let less = short_less r.light (full_draft r) d c.0 c.1 in
    absurd (omega (arith, e, tall, less))
draft_back s r (Some d) None full tall b c e =
    let less = short_less s.light (full_draft s) d b.0 b.1 in
    absurd (omega (arith, e, tall, less))
draft_back s r (Some d) (Some k) full tall b c e =
    let below : k ≤ℤ full_draft s = rw full c.1 in
    let same : unsigned_abs (full_draft s -ℤ d) ≡ unsigned_abs (full_draft s -ℤ k) = e ∙ ap (λ (f : ℤ). unsigned_abs (f -ℤ k)) (sym full) in
    ap Some (gap_back (full_draft s) d k b.1 below same)

-- ---- outside its slots a ship doesn't sail

outside_by : (b : Bool) (s : ShipParts) (o : Option ℤ) → (b ≡ true → ⊥) → option_map (loaded s) (cond b o None) ≡ None
outside_by true s o not = absurd (not refl)
outside_by false s o not = refl

early : (z : ℤ) (slot : ℕ) → pos 0 ≤ℤ z → slot < whole z → z ≤ℤ pos slot → ⊥
early z slot low lt le = grind (arith, ints)

late : (z : ℤ) (slot : ℕ) → pos 0 ≤ℤ z → whole z < slot → pos slot ≤ℤ z → ⊥
late z slot low lt le = grind (arith, ints)

outside : (p : Parts) (h : TideParts) (s : ShipParts) (slot : ℕ) → ShipKept p s → (slot < whole s.earliest) ⊎ (whole s.latest < slot) → sailing_draft p h s slot ≡ None
outside p h s slot k out =
    outside_by (may_sail p s slot) s (option_and_then (floating s) (allowed_draft p h s slot)) (λ e.
    let m = and_parts (in_window s slot) _ e in
    let w = and_parts (int_le s.earliest (pos slot)) (int_le (pos slot) s.latest) m.0 in
    elim out [
      | inl before ↦ early s.earliest slot k.earliest.low before (le_from_test s.earliest (pos slot) w.0)
      | inr after ↦ late s.latest slot k.latest.low after (le_from_test (pos slot) s.latest w.1)
    ])

sails_as : (chart : ChartParts) (v : ℕ) (s : ShipParts) (slot : ℕ) → slice_get chart.port.ships v ≡ Some s → sailing chart.port chart.tide v slot ≡ sailing_draft chart.port chart.tide s slot
sails_as chart v s slot at = ap (λ (o : Option ShipParts). option_and_then (λ t. sailing_draft chart.port chart.tide t slot) o) at

-- ---- places of rows

rank_few : (table : Option (List ℕ)) (v n : ℕ) → IfSome table (λ slots. length slots ≡ n) → v < n → rank_in table v ≤ n
rank_few None v n listed lt = omega (arith, lt)
rank_few (Some slots) v n listed lt = let few = rank_small slots v in omega (arith, few, listed)

row_small : (chart : ChartParts) (v : ℕ) → IsChart chart → v < length chart.port.ships → row_y chart (rank_in chart.table v) ≤ 10_000
row_small chart v is lt =
    let few = rank_few chart.table v (length chart.port.ships) is.listed lt in
    let ships = is.kept.ship_count.high in
    let waypoints = is.kept.waypoint_count.high in
    omega (arith, few, ships, waypoints)

-- ---- a ship with its place in a chart

record Placed (chart : ChartParts) (v : ℕ) (s : ShipParts) : Type 0 where
  at : slice_get chart.port.ships v ≡ Some s
  kept : ShipKept chart.port s
  few : v < 40
  small : row_y chart (rank_in chart.table v) ≤ 10_000

placed : (chart : ChartParts) (v : ℕ) (s : ShipParts) → IsChart chart → slice_get chart.port.ships v ≡ Some s → Placed chart v s
placed chart v s is at =
    let lt = slice_get_within chart.port.ships v s at in
    record { at = at; kept = ship_kept chart.port v s is.kept at; few = omega (arith, lt, is.kept.ship_count.high); small = row_small chart v is lt }

between : (chart : ChartParts) (v : ℕ) (s : ShipParts) (slot : ℕ) → Placed chart v s → Between s (sailing chart.port chart.tide v slot)
between chart v s slot p = subst (Between s) (sym (sails_as chart v s slot p.at)) (sails_between chart.port chart.tide s slot p.kept.load)

ground_small : (chart : ChartParts) (v : ℕ) (s : ShipParts) → IsChart chart → Placed chart v s → IsSmall (ground_area s)
ground_small chart v s is p =
    let slots = is.kept.slots.high in
    let first = small_place s.earliest chart.port.slots p.kept.earliest.low p.kept.earliest.below slots in
    let last = small_place s.latest chart.port.slots p.kept.latest.low p.kept.latest.below slots in
    let tall = tall_small chart.port s p.kept in
    record { left = omega (arith, first); top = omega arith; right = omega (arith, last); bottom = omega (arith, tall) }
  where
    small_place : (z many : ℤ) → pos 0 ≤ℤ z → z <ℤ many → many ≤ℤ pos 512 → whole z ≤ 512
    small_place z many low below high = grind (arith, ints)

-- ---- the law

pub same_drafts : (one two : ChartParts) (v w : ℕ) (s r : ShipParts) → IsChart one → IsChart two → slice_get one.port.ships v ≡ Some s → slice_get two.port.ships w ≡ Some r → ranked_row one v s ≡ ranked_row two w r → (slot : ℕ) → sailing one.port one.tide v slot ≡ sailing two.port two.tide w slot
same_drafts one two v w s r is also_is at there e slot =
    let a = placed one v s is at in
    let b = placed two w r also_is there in
    let y = row_y one (rank_in one.table v) in
    let z = row_y two (rank_in two.table w) in
    let parts = shared one two v w s r e in
    let f = full_within one.port s a.kept in
    let g = full_within two.port r b.kept in
    let text = line_back (codes "m") 16 (y + 33) (z + 33) (number_text v s) (number_text w r) (omega (arith, a.small)) (omega (arith, b.small)) parts.number in
    let m = small_whole (full_draft s) 10_000 f.low f.high in
    let n = small_whole (full_draft r) 10_000 g.low g.high in
    let fulls : whole (full_draft s) ≡ whole (full_draft r) = full_back (is_outgoing s) (is_outgoing r) v w (whole (full_draft s)) (whole (full_draft r)) (omega (arith, a.few)) (omega (arith, b.few)) (omega (arith, m)) (omega (arith, n)) text in
    let full : full_draft s ≡ full_draft r = whole_back (full_draft s) (full_draft r) f.low g.low fulls in
    let sides = block_back (codes "wi") (ground_area s) (ground_area r) (ground_small one v s is a) (ground_small two w r also_is b) parts.ground in
    let left : whole s.earliest ≡ whole r.earliest = sides.left in
    let right : whole s.latest + 1 ≡ whole r.latest + 1 = sides.right in
    let tall : tall_between s.light (full_draft s) ≡ tall_between r.light (full_draft r) = sides.bottom in
    let count : whole s.latest + 1 - whole s.earliest ≡ whole r.latest + 1 - whole r.earliest = omega (arith, left, right) in
    let none : (slot < whole s.earliest) ⊎ (whole s.latest < slot) → (slot < whole r.earliest) ⊎ (whole r.latest < slot) → sailing one.port one.tide v slot ≡ sailing two.port two.tide w slot = λ out outer.
    sails_as one v s slot a.at ∙ outside one.port one.tide s slot a.kept out ∙ sym (sails_as two w r slot b.at ∙ outside two.port two.tide r slot b.kept outer) in
    elim (cases_lt slot (whole s.earliest)) [
      | inl before ↦ none (inl before) (inl (omega (arith, before, left)))
      | inr begun ↦ elim (cases_lt (whole s.latest) slot) [
        | inl after ↦ none (inr after) (inr (omega (arith, after, right)))
        | inr inside ↦
            let level = figure_back (codes "dr") (draft_level one v (full_draft s) (tall_between s.light (full_draft s))) (draft_level two w (full_draft r) (tall_between r.light (full_draft r))) (whole s.earliest) (whole s.latest + 1 - whole s.earliest) (tall_between s.light (full_draft s)) (whole r.earliest) (whole r.latest + 1 - whole r.earliest) (tall_between r.light (full_draft r)) (λ k. level_small one.port s a.kept (sailing one.port one.tide v k) (between one v s k a)) (λ k. level_small two.port r b.kept (sailing two.port two.tide w k) (between two w r k b)) left count tall parts.drafts slot begun (omega (arith, begun, inside)) in
            draft_back s r (sailing one.port one.tide v slot) (sailing two.port two.tide w slot) full tall (between one v s slot a) (between two w r slot b) level
      ]
    ]
