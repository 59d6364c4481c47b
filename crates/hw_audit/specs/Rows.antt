-- A small problem, and events with what was worked out for them by hand.
use Rattle.std.specs.Prelude.{◌≡◌, [], ◌∷◌, Some, None, Ok, Err, codes, true, false, List}
use Rattle.hw_model.specs.declared.rule.Rule.TheVariants.{Tugs}
use Rattle.hw_model.specs.Problem.{Problem}
use Rattle.hw_audit.specs.declared.event.PortEvent.{PortEvent}
use Rattle.hw_audit.specs.declared.event.PortEvent.TheVariants.{Sailed, Delayed, Withdrawn, Back}
use Rattle.hw_audit.specs.declared.fault.AuditWord.TheVariants as words
use Rattle.hw_audit.specs.Watching.{watched, after_all, first_refused, broken_now}
use Rattle.hw_audit.specs.Text.{timetable_of_text, events_text}

-- a ship with a value in the first of two slots; it holds two of four tugs for three slots
abbrev pub lone_ship : Problem
lone_ship = record { ships = 1; slots = 2; stay = false; values = Some 228_000 ∷ None ∷ []; rules = Tugs 4 [] (record { ship = 0; tugs = 2; hold = 3 } ∷ []) ∷ [] }

-- the same ship may stay
abbrev pub lone_stays : Problem
lone_stays = record { ships = 1; slots = 3; stay = true; values = Some 228_000 ∷ None ∷ Some 0 ∷ []; rules = Tugs 4 [] (record { ship = 0; tugs = 2; hold = 3 } ∷ []) ∷ [] }

abbrev pub three_events : List PortEvent
three_events = Withdrawn 3 ∷ Delayed 0 1 ∷ Back 2 ∷ []

-- what is broken after these events, and which events are refused
pub record WatchRows : Type 0 where
  pub before_any : broken_now lone_ship (watched (0 ∷ [])) ≡ []
  pub few_tugs : broken_now lone_ship (after_all (watched (0 ∷ [])) (Withdrawn 3 ∷ [])) ≡ 1 ∷ []
  pub delayed : broken_now lone_ship (after_all (watched (0 ∷ [])) (Withdrawn 3 ∷ Delayed 0 1 ∷ [])) ≡ 0 ∷ 1 ∷ []
  pub tugs_back : broken_now lone_ship (after_all (watched (0 ∷ [])) three_events) ≡ 0 ∷ []
  pub all_taken : first_refused lone_ship 4 2 (watched (0 ∷ [])) three_events ≡ None
  pub too_many_back : first_refused lone_ship 4 2 (watched (0 ∷ [])) (Withdrawn 3 ∷ Back 4 ∷ []) ≡ Some (3, words.Fleet)
  pub past_the_horizon : first_refused lone_ship 4 2 (watched (0 ∷ [])) (Delayed 0 2 ∷ []) ≡ Some (2, words.Range)
  pub sailed_before : first_refused lone_ship 4 2 (watched (0 ∷ [])) (Sailed 0 0 ∷ Delayed 0 1 ∷ []) ≡ Some (3, words.Sailed)
  pub stays : first_refused lone_stays 4 2 (watched (2 ∷ [])) (Delayed 0 1 ∷ []) ≡ Some (2, words.Stays)
  pub sails_after_all : first_refused lone_stays 4 2 (watched (2 ∷ [])) (Sailed 0 0 ∷ []) ≡ None
  pub no_such_ship : first_refused lone_ship 4 2 (watched (0 ∷ [])) (Sailed 1 9 ∷ []) ≡ Some (2, words.Range)
  pub sailed_before_range : first_refused lone_ship 4 2 (watched (0 ∷ [])) (Sailed 0 0 ∷ Sailed 0 9 ∷ []) ≡ Some (3, words.Sailed)

-- what texts say
pub record AuditTextRows : Type 0 where
  pub a_table : timetable_of_text (record { ships = 1; slots = 2; rules = 1 }) (codes "table 1\nt 0\n") ≡ Ok (0 ∷ [])
  pub no_such_slot : timetable_of_text (record { ships = 1; slots = 2; rules = 1 }) (codes "table 1\nt 2\n") ≡ Err (record { number = 2; word = words.Table })
  pub byte_after_table : timetable_of_text (record { ships = 1; slots = 2; rules = 1 }) (codes "table 1\nt 0\n\n") ≡ Err (record { number = 3; word = words.Tail })
  pub events : events_text (codes "events 1\nw 3\nd 0 1\nb 2\nend\n") ≡ Ok three_events
  pub no_events : events_text (codes "events 1\nend\n") ≡ Ok []
  pub no_byte : events_text [] ≡ Err (record { number = 1; word = words.Header })
  pub count_too_large : events_text (codes "events 1\nw 1001\nend\n") ≡ Err (record { number = 2; word = words.Form })
  pub count_of_none : events_text (codes "events 1\nw 1\nb 0\nend\n") ≡ Err (record { number = 3; word = words.Form })
  pub ship_too_large : events_text (codes "events 1\ns 4294967296 0\nend\n") ≡ Err (record { number = 2; word = words.Form })
  pub no_end : events_text (codes "events 1\nw 3\n") ≡ Err (record { number = 3; word = words.Form })
  pub byte_after_events : events_text (codes "events 1\nw 3\nend\n ") ≡ Err (record { number = 4; word = words.Tail })
