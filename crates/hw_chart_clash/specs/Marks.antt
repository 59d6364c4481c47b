-- The marks of kept restrictions: the line of each, and what is drawn of it.
use Rattle.std.specs.Prelude.{ℕ, List, [], slice_get}
use Rattle.std.specs.Option.{option_map_or}
use Rattle.hw_port.specs.Whole.{Parts}
use Rattle.hw_port_named.specs.declared.named.Named.{Named}
use Rattle.hw_port_named.specs.declared.named.Named.TheVariants.{Window, Separation, Sections, Berth, After, Tugs}
use Rattle.hw_port_named.specs.Lines.{named_line}
use Rattle.hw_port_named.specs.Restrictions.{named_restrictions}
use Rattle.hw_chart_clash.specs.declared.mark.Mark.{Mark}
use Rattle.hw_chart_clash.specs.declared.mark.Shape.{Shape}
use Rattle.hw_chart_clash.specs.declared.mark.Shape.TheVariants.{Denied, Joined, Lacking}

-- the slots that a window denies its ship, two ships joined, or the slots in which the fleet is too small
abbrev pub kept_shape : Named → Shape
kept_shape (Window ship) = Denied ship
kept_shape (Separation v w after before) = Joined v w
kept_shape (Sections v w sections) = Joined v w
kept_shape (Berth v w clear) = Joined v w
kept_shape (After v w gap) = Joined v w
kept_shape (Tugs fleet) = Lacking

-- its line, as `explain port` prints it, and what is drawn
abbrev pub mark_named : Parts → ℕ → Named → Mark
mark_named p number named = record { title = named_line p number named; shape = kept_shape named }

-- what stands for a number that no restriction has; no kept restriction is so
abbrev pub no_mark : Mark
no_mark = record { title = []; shape = Lacking }

-- the mark of the restriction of a number, where these are all
abbrev pub mark_among : Parts → List Named → ℕ → Mark
mark_among p list number = option_map_or (mark_named p number) (slice_get list number) no_mark

-- that of the port's restriction of this number
abbrev pub kept_mark_at : Parts → ℕ → Mark
kept_mark_at p number = mark_among p (named_restrictions p) number
