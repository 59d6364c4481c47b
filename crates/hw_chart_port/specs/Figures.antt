-- The numbers of a sailing, each with what it is held against below it.
use Rattle.std.specs.Prelude.{ℕ, ◌+◌, ◌-◌, ◌*◌, ◌-ℤ◌, List, [], ◌∷◌, ◌++◌, codes, decimal, nat_eq, if◌then◌else◌}
use Rattle.std.specs.List.{concat}
use Rattle.hw_draft.specs.Passages.{waypoint_name}
use Rattle.hw_chart_svg.specs.Lettering.{line, name_line}
use Rattle.hw_chart_svg.specs.Numbers.{clock, metres, tonnes_label}
use Rattle.hw_port.specs.Parts.{ShipParts}
use Rattle.hw_port_model.specs.Numbers.{whole, is_outgoing}
use Rattle.hw_chart_port.specs.declared.sailing.Sailing.{Sailing}
use Rattle.hw_chart_port.specs.Charts.{ChartParts}
use Rattle.hw_port_windows.specs.Statuses.{full_draft}

-- when the ship sails, and in which slot
abbrev pub time_figures : Sailing → ℕ → List ℕ
time_figures g y = line (codes "r b") 956 (y + 17) (clock g.time) ++ line (codes "r m") 956 (y + 33) (concat (codes "slot " ∷ decimal g.slot ∷ []))

-- how much a draft is short of the full one, if at all
abbrev pub shortness : ℕ → ℕ → List ℕ
shortness full draft = if nat_eq draft full then codes "full" else concat (metres (full - draft) ∷ codes " short" ∷ [])

abbrev pub short_figure : ShipParts → Sailing → ℕ → List ℕ
short_figure s g y = if is_outgoing s then line (codes "r m") 1020 (y + 33) (shortness (whole (full_draft s)) g.draft) else []

-- its draft, and how much that is short of the full one
abbrev pub draft_figures : ShipParts → Sailing → ℕ → List ℕ
draft_figures s g y = line (codes "r b") 1020 (y + 17) (metres g.draft) ++ short_figure s g y

-- the class of a number that decides: the draft is the allowed one
abbrev pub tight : Sailing → List ℕ
tight g = if nat_eq g.draft g.allowed then codes "r q" else codes "r"

-- the allowed draft, and the waypoint that decides it
abbrev pub allowed_figures : ChartParts → Sailing → ℕ → List ℕ
allowed_figures chart g y = line (tight g) 1100 (y + 17) (metres g.allowed) ++ name_line (codes "r m") 1100 (y + 33) (waypoint_name chart.port g.by) 72

-- the water under the keel where the draft is decided, and how much there must be
abbrev pub keel_figures : Sailing → ℕ → List ℕ
keel_figures g y = line (tight g) 1186 (y + 17) (metres g.keel) ++ line (codes "r m") 1186 (y + 33) (concat (codes "min " ∷ metres g.clearance ∷ []))

-- what an outgoing ship carries at its deepest draft, in tenths of a tonne
abbrev pub deepest_cargo : ShipParts → ℕ
deepest_cargo s = whole s.tpc * whole (s.deep -ℤ s.light)

-- its cargo, and what it would carry with its full draft
abbrev pub cargo_lines : ShipParts → Sailing → ℕ → List ℕ
cargo_lines s g y = line (codes "r b") 1268 (y + 17) (tonnes_label g.cargo) ++ line (codes "r m") 1268 (y + 33) (concat (codes "of " ∷ tonnes_label (deepest_cargo s) ∷ []))

abbrev pub cargo_figures : ShipParts → Sailing → ℕ → List ℕ
cargo_figures s g y = if is_outgoing s then cargo_lines s g y else []

abbrev pub figures : ChartParts → ShipParts → Sailing → ℕ → List ℕ
figures chart s g y = concat (time_figures g y ∷ draft_figures s g y ∷ allowed_figures chart g y ∷ keel_figures g y ∷ cargo_figures s g y ∷ [])
