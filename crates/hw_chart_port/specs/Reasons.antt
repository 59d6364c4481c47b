-- Why a ship has no slot in which it may sail, in the words of the report of windows.
use Rattle.std.specs.Prelude.{ℕ, ◌+◌, ◌-◌, Bool, true, false, not, is_none, length, List, [], codes, if◌then◌else◌}
use Rattle.std.specs.List.{list_all, list_any, range_with_len}
use Rattle.hw_chart_svg.specs.Lettering.{line}
use Rattle.hw_cert_lines.specs.declared.check.Verdict.{Verdict}
use Rattle.hw_cert_lines.specs.declared.check.Verdict.TheVariants.{Optimal, Infeasible, Unfinished}
use Rattle.hw_port.specs.Parts.{ShipParts}
use Rattle.hw_port_model.specs.Numbers.{whole, horizon_of}
use Rattle.hw_port_model.specs.Drafts.{sailing}
use Rattle.hw_port_windows.specs.declared.status.Status.{Status}
use Rattle.hw_port_windows.specs.Statuses.{is_closed_status, is_shallow, reason_in, tides_end}
use Rattle.hw_chart_port.specs.declared.reasons.Reason.{Reason}
use Rattle.hw_chart_port.specs.declared.reasons.Reason.TheVariants.{Shut, TableEnds, TooShallow}
use Rattle.hw_chart_port.specs.Charts.{ChartParts}

-- in no slot the ship may sail
abbrev pub has_no_slot : ChartParts → ℕ → Bool
has_no_slot chart v = list_all (λ slot. is_none (sailing chart.port chart.tide v slot)) (range_with_len 0 (horizon_of chart.port))

-- what is told of a slot is this reason
abbrev pub is_reason : Reason → Status → Bool
is_reason Shut status = is_closed_status status
is_reason TableEnds status = tides_end status
is_reason TooShallow status = is_shallow status

-- it is the reason against a slot from the ship's earliest to its latest
abbrev pub keeps_in : ChartParts → ℕ → ShipParts → Reason → Bool
keeps_in chart v s reason = list_any (λ slot. is_reason reason (reason_in chart.port chart.tide v slot)) (range_with_len (whole s.earliest) (whole s.latest + 1 - whole s.earliest))

-- by whether there are slots that are closed, passes outside the tide table, and slots with too little water: the reasons that there are, the shortest first
abbrev pub reasons_words : Bool → Bool → Bool → List ℕ
reasons_words true true true = codes "no slot: closed, tides end, too little water"
reasons_words true true false = codes "no slot: closed, tides end"
reasons_words true false true = codes "no slot: closed, too little water"
reasons_words true false false = codes "no slot: closed"
reasons_words false true true = codes "no slot: tides end, too little water"
reasons_words false true false = codes "no slot: tides end"
reasons_words false false true = codes "no slot: too little water"
reasons_words false false false = codes "no slot"

-- they stand right of the plot
abbrev pub no_slot_because : ChartParts → ℕ → ShipParts → ℕ → List ℕ
no_slot_because chart v s y = line (codes "q") 900 (y + 17) (reasons_words (keeps_in chart v s Shut) (keeps_in chart v s TableEnds) (keeps_in chart v s TooShallow))

-- where the ship has no slot
abbrev pub no_slot_where : ChartParts → ℕ → ShipParts → ℕ → List ℕ
no_slot_where chart v s y = if has_no_slot chart v then no_slot_because chart v s y else []

-- each ship has a slot in which it may sail
abbrev pub each_may_sail : ChartParts → Bool
each_may_sail chart = list_all (λ v. not (has_no_slot chart v)) (range_with_len 0 (length chart.port.ships))

-- how to find what leaves no timetable together
unfoldable pub clash_hint : List ℕ
clash_hint = line (codes "m r") 1268 56 (codes "each ship alone could sail; clash finds which restrictions together leave nothing")

abbrev pub clash_hint_where : ChartParts → List ℕ
clash_hint_where chart = if each_may_sail chart then clash_hint else []

-- only where no timetable is permitted
abbrev pub hint_by : ChartParts → Verdict → List ℕ
hint_by chart (Optimal cargo) = []
hint_by chart Infeasible = clash_hint_where chart
hint_by chart (Unfinished best) = []
