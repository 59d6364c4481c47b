-- A small problem with tolls and prices, and lines about them, with what was worked out for them by hand: which are refused, and why.
use Rattle.std.specs.Prelude.{◌≡◌, true, [], ◌∷◌, Some, None}
use Rattle.std.specs.List.{repeat}
use Rattle.hw_model.specs.declared.lit.Lit.TheVariants.{Before}
use Rattle.hw_model.specs.Problem.{Problem}
use Rattle.hw_price_laws.specs.declared.toll.Toll.TheVariants.{Narrows, Tugs}
use Rattle.hw_price_laws.specs.Rows.{tolled_ships_apart, late, one_job, late_costs, tariff_without_dues, tolls_alone}
use Rattle.hw_cert_lines.specs.declared.check.CheckWord.TheVariants as words
use Rattle.hw_cert_lines.specs.declared.line.Line.{Line}
use Rattle.hw_cert_lines.specs.declared.line.Line.TheVariants as lines
use Rattle.hw_cert_lines.specs.Refusals.{refusal, refused, refused_at}
use Rattle.hw_cert_lines.specs.Rows.{best_table}
use Rattle.hw_cert_lines.specs.Lines.{last_priced}

-- of the second and the third slot one ship at most has one
abbrev pub late_narrows : Line
late_narrows = lines.Toll late

-- in the second slot one of the two jobs at most is served
abbrev pub one_job_line : Line
one_job_line = lines.Toll one_job

-- a late slot costs 30 parts, which are 10 tenths of a tonne
abbrev pub late_costs_line : Line
late_costs_line = lines.Tariff late_costs

-- parts that are tenths of a tonne, and no prices
abbrev pub tariff_line_without_prices : Line
tariff_line_without_prices = lines.Tariff tariff_without_dues

-- a scale of 0: the toll alone
abbrev pub tolls_alone_line : Line
tolls_alone_line = lines.Tariff tolls_alone

-- the same prices, and cargo counts
abbrev pub small_costs : Line
small_costs = lines.Tariff (record { scale = 1; dues = record { toll = 1; price = 1 } ∷ [] })

-- the problem with a last slot that means staying
abbrev pub with_stay : Problem
with_stay = record tolled_ships_apart { stay = true }

-- the problem in which ships have values in late slots alone, so that it permits no timetable
abbrev pub only_late : Problem
only_late = record tolled_ships_apart { values = None ∷ Some 20 ∷ Some 30 ∷ None ∷ Some 20 ∷ None ∷ [] }

-- which lines about tolls and prices are refused after these, and why
pub record PriceLineRows : Type 0 where
  pub apart_by_the_rule : refusal tolled_ships_apart [] late_narrows ≡ None
  pub apart_to_the_edge : refusal tolled_ships_apart [] (lines.Toll (Narrows (record { ship = 0; low = 1; high = 1 } ∷ record { ship = 1; low = 0; high = 2 } ∷ []))) ≡ None
  pub two_slots_apart_is_allowed : refusal tolled_ships_apart [] (lines.Toll (Narrows (record { ship = 0; low = 0; high = 0 } ∷ record { ship = 1; low = 1; high = 2 } ∷ []))) ≡ refused words.Toll
  pub one_job_of_two : refusal tolled_ships_apart [] one_job_line ≡ None
  pub a_weight_too_heavy : refusal tolled_ships_apart [] (lines.Toll (Tugs 3 1 (1 ∷ 2 ∷ []) 1)) ≡ refused words.Toll
  pub a_job_without_a_weight : refusal tolled_ships_apart [] (lines.Toll (Tugs 3 1 (1 ∷ []) 1)) ≡ refused words.Toll
  pub not_a_rule_on_tugs : refusal tolled_ships_apart [] (lines.Toll (Tugs 2 1 (1 ∷ 1 ∷ []) 1)) ≡ refused words.Toll
  pub the_staying_slot : refusal with_stay [] (lines.Toll (Tugs 3 2 (1 ∷ 1 ∷ []) 1)) ≡ refused words.Toll
  pub toll_ten_thousand : refusal tolled_ships_apart (repeat 9_999 (late_narrows ∷ [])) late_narrows ≡ None
  pub toll_ten_thousand_and_one : refusal tolled_ships_apart (repeat 10_000 (late_narrows ∷ [])) late_narrows ≡ refused words.Many
  pub a_toll_declared : refusal tolled_ships_apart (late_narrows ∷ []) late_costs_line ≡ None
  pub a_toll_not_declared_yet : refusal tolled_ships_apart (late_narrows ∷ []) (lines.Tariff (record { scale = 3; dues = record { toll = 1; price = 30 } ∷ record { toll = 2; price = 5 } ∷ [] })) ≡ refused_at words.Due 2
  pub forty_is_the_most : refusal tolled_ships_apart (best_table ∷ late_narrows ∷ late_costs_line ∷ []) last_priced ≡ None
  pub nothing_follows : refusal tolled_ships_apart (best_table ∷ late_narrows ∷ late_costs_line ∷ last_priced ∷ []) one_job_line ≡ refused words.Ended
  pub no_prices_in_force : refusal tolled_ships_apart (best_table ∷ late_narrows ∷ []) last_priced ≡ refused words.Due
  pub prices_out_of_force : refusal tolled_ships_apart (best_table ∷ late_narrows ∷ late_costs_line ∷ tariff_line_without_prices ∷ []) last_priced ≡ refused words.Refute
  pub without_a_best : refusal tolled_ships_apart (late_narrows ∷ late_costs_line ∷ []) last_priced ≡ refused words.Refute
  pub both_late : refusal tolled_ships_apart (late_narrows ∷ tolls_alone_line ∷ []) (lines.Priced (Before 0 1 ∷ Before 1 1 ∷ [])) ≡ None
  pub one_late : refusal tolled_ships_apart (late_narrows ∷ tolls_alone_line ∷ []) (lines.Priced (Before 0 1 ∷ [])) ≡ refused words.Refute
  pub a_bound_of_forty : refusal tolled_ships_apart (late_narrows ∷ late_costs_line ∷ []) (lines.Bound 40) ≡ None
  pub no_bound_of_thirty_nine : refusal tolled_ships_apart (late_narrows ∷ late_costs_line ∷ []) (lines.Bound 39) ≡ refused words.Refute
  pub a_bound_without_prices_in_force : refusal tolled_ships_apart (late_narrows ∷ []) (lines.Bound 40) ≡ refused words.Due
  pub a_lower_bound : refusal tolled_ships_apart (late_narrows ∷ late_costs_line ∷ lines.Bound 41 ∷ []) (lines.Bound 40) ≡ None
  pub the_bound_again : refusal tolled_ships_apart (late_narrows ∷ late_costs_line ∷ lines.Bound 40 ∷ []) (lines.Bound 40) ≡ refused words.Looser
  pub none_permitted : refusal only_late (late_narrows ∷ tolls_alone_line ∷ []) last_priced ≡ None
  pub no_bound_without_a_scale : refusal only_late (late_narrows ∷ tolls_alone_line ∷ []) (lines.Bound 49) ≡ refused words.Refute
  pub a_bound_with_a_scale : refusal only_late (late_narrows ∷ small_costs ∷ []) (lines.Bound 49) ≡ None
