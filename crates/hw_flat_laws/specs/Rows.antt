-- Small texts with the line at which each is refused, worked out by hand.
use Rattle.std.specs.Prelude.{◌≡◌, ℕ, true, List, ◌++◌, map, Some, None, codes}
use Rattle.std.specs.List.{range_with_len}
use Rattle.hw_flat.specs.declared.fault.FlatWord.TheVariants as words
use Rattle.hw_flat.specs.TextForms.{◌and_then◌, rule_form, has_hours}
use Rattle.hw_flat.specs.TextWritten.{led, step_text}
use Rattle.hw_flat_laws.specs.Laws.{IsRefused}

-- seven small texts: another header, no number of slots, silence on staying, too many values, a ship after itself, `end` not
-- ended, an empty line after `end`
pub record BadLineRows : Type 0 where
  -- another header
  pub other_header : IsRefused (codes "flat 5\nsize 1 1\nv 5\nend\n") 1 words.Header
  -- a size line without a number of slots
  pub no_slots : IsRefused (codes "flat 1\nsize 2\nv 5\nend\n") 2 words.Size
  -- the second ship's line doesn't say whether it may stay
  pub silent_on_staying : IsRefused (codes "flat 2\nsize 2 1\nv 5 y\nv 7\nend\n") 4 words.Values
  -- two values where there is one slot
  pub too_many_values : IsRefused (codes "flat 1\nsize 1 1\nv 5 6\nend\n") 3 words.Values
  -- a ship after itself
  pub after_itself : IsRefused (codes "flat 1\nsize 2 1\nv 5\nv 7\ns 1 0 3\ns 1 1 3\nend\n") 6 words.Rule
  -- `end` without the end of its line
  pub end_not_ended : IsRefused (codes "flat 1\nsize 1 1\nv 5\nend") 4 words.Rule
  -- an empty line after `end`
  pub one_line_more : IsRefused (codes "flat 1\nsize 1 1\nv 5\nend\n\n") 5 words.Tail

-- a line of a fleet of one tug, of two from the slot after on, and so on by so many steps, and a job
abbrev pub stepping_line : ℕ → List ℕ
stepping_line count = codes "h 1" ++ led (map (λ from. step_text (record { from = from; fleet = 2 })) (range_with_len 1 count)) ++ codes " 0:1:1"

-- small texts with hours, or without those that their header gives fleets
pub record BadHoursRows : Type 0 where
  -- a header that gives fleets hours, and no rule
  pub no_rule_at_all : IsRefused (codes "flat 3\nsize 1 1\nv 5\nend\n") 4 words.Rule
  -- and a fleet that a text without hours can have
  pub fleet_of_before : IsRefused (codes "flat 4\nsize 1 1\nv 5 y\nu 1000 0:1:1\nend\n") 5 words.Rule
  -- hours without their header
  pub hours_in_1 : IsRefused (codes "flat 1\nsize 1 2\nv 5 6\nh 1 1:2 0:1:1\nend\n") 4 words.Rule
  pub hours_in_2 : IsRefused (codes "flat 2\nsize 1 2\nv 5 6 n\nh 1 1:2 0:1:1\nend\n") 4 words.Rule
  -- so great a fleet without its header
  pub great_fleet_in_1 : IsRefused (codes "flat 1\nsize 1 1\nv 5\nu 1001 0:1:1\nend\n") 4 words.Rule
  -- steps in the first slot, in the slot that means staying, in one slot, and descending
  pub step_at_0 : IsRefused (codes "flat 3\nsize 1 2\nv 5 6\nh 1 0:2 0:1:1\nend\n") 4 words.Rule
  pub step_at_stay : IsRefused (codes "flat 4\nsize 1 2\nv 5 6 y\nh 1 2:2 0:1:1\nend\n") 4 words.Rule
  pub steps_in_one_slot : IsRefused (codes "flat 3\nsize 1 3\nv 5 6 7\nh 1 1:2 1:3 0:1:1\nend\n") 4 words.Rule
  pub steps_descend : IsRefused (codes "flat 3\nsize 1 3\nv 5 6 7\nh 1 2:2 1:3 0:1:1\nend\n") 4 words.Rule
  -- no step, a step after the job, and no job
  pub no_step : IsRefused (codes "flat 3\nsize 1 2\nv 5 6\nh 1 0:1:1\nend\n") 4 words.Rule
  pub step_after_job : IsRefused (codes "flat 3\nsize 1 2\nv 5 6\nh 1 0:1:1 1:2\nend\n") 4 words.Rule
  pub no_job : IsRefused (codes "flat 3\nsize 1 2\nv 5 6\nh 1 1:2\nend\n") 4 words.Rule
  -- more tugs than all jobs can hold
  pub too_great_fleet : IsRefused (codes "flat 3\nsize 1 2\nv 5 6\nu 2561 0:1:1\nend\n") 4 words.Rule
  pub too_great_first : IsRefused (codes "flat 3\nsize 1 2\nv 5 6\nh 2561 1:2 0:1:1\nend\n") 4 words.Rule
  pub too_great_step : IsRefused (codes "flat 3\nsize 1 2\nv 5 6\nh 1 1:2561 0:1:1\nend\n") 4 words.Rule
  -- a line after `end`
  pub line_after_hours : IsRefused (codes "flat 3\nsize 1 2\nv 5 6\nh 1 1:2 0:1:1\nend\n\n") 6 words.Tail
  -- 511 steps where there are 512 slots make a rule with hours, and 512 none
  pub most_steps : (rule_form true 1 512 (stepping_line 511) and_then λ rule. Some (has_hours rule)) ≡ Some true
  pub too_many_steps : rule_form true 1 512 (stepping_line 512) ≡ None
