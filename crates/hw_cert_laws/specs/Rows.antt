-- Small certificates with what was worked out for them by hand: which lines are lean, which lemmas are new, and what deletions a certificate gets.
use Rattle.std.specs.Prelude.{◌≡◌, [], ◌∷◌, List}
use Rattle.hw_model.specs.declared.lit.Lit.{Lit}
use Rattle.hw_model.specs.declared.lit.Lit.TheVariants.{AtOrAfter, Before, First, NotFirst}
use Rattle.hw_model_laws.specs.Rows.{two_apart, three_ships}
use Rattle.hw_cert_lines.specs.declared.line.Line.{Line}
use Rattle.hw_cert_lines.specs.declared.line.Line.TheVariants as lines
use Rattle.hw_cert_lines.specs.Lemmas.{LeanAfter, IsNew}
use Rattle.hw_cert_lines.specs.PriceRows.{late_narrows, late_costs_line}
use Rattle.hw_cert_lines.specs.Lines.{last_priced}
use Rattle.hw_cert_lines.specs.Rows.{best_table, second_late, first_late, apart_explained, whole_lines}
use Rattle.hw_cert_laws.specs.Renewing.{renewed}

-- the first ship sails in the first slot, which lies within the room that leaves its first two slots
abbrev pub second_slot : List Lit
second_slot = AtOrAfter 0 1 ∷ []

abbrev pub third_slot : List Lit
third_slot = AtOrAfter 0 2 ∷ []

-- a reason that speaks only of its source, and a lemma of its hints, or not
pub record LeanRows : Type 0 where
  pub goal_of_ships : LeanAfter two_apart [] (lines.Goal (AtOrAfter 1 1 ∷ []))
  pub goal_of_an_order : LeanAfter two_apart [] (lines.Goal (First 0 1 ∷ [])) → ⊥
  pub prices_of_ships : LeanAfter two_apart [] (lines.Priced (AtOrAfter 1 1 ∷ []))
  pub prices_of_an_order : LeanAfter two_apart [] (lines.Priced (First 0 1 ∷ [])) → ⊥
  pub rule_of_its_ships_and_order : LeanAfter two_apart [] (lines.Explain 2 (Before 0 1 ∷ First 0 1 ∷ []))
  pub window_of_another_ship : LeanAfter two_apart [] (lines.Explain 0 (Before 0 1 ∷ Before 1 1 ∷ [])) → ⊥
  pub orders_of_three : LeanAfter three_ships [] (lines.Order 0 1 2 (NotFirst 0 1 ∷ First 0 2 ∷ NotFirst 1 2 ∷ []))
  pub order_of_a_ship : LeanAfter three_ships [] (lines.Order 0 1 2 (AtOrAfter 0 1 ∷ [])) → ⊥
  pub lemma_of_its_hint : LeanAfter two_apart (lines.Goal second_slot ∷ []) (lines.Lemma second_slot (1 ∷ []))
  pub lemma_of_no_hint : LeanAfter two_apart (lines.Goal second_slot ∷ []) (lines.Lemma third_slot (1 ∷ [])) → ⊥

-- lemmas of which none lies inside an earlier one, or one does
pub record NewRows : Type 0 where
  pub wider_later : IsNew two_apart (lines.Lemma second_slot [] ∷ lines.Lemma third_slot [] ∷ [])
  pub narrower_later : IsNew two_apart (lines.Lemma third_slot [] ∷ lines.Lemma second_slot [] ∷ []) → ⊥
  pub the_same_twice : IsNew two_apart (lines.Lemma second_slot [] ∷ lines.Lemma second_slot [] ∷ []) → ⊥
  pub reasons_are_no_lemmas : IsNew two_apart (lines.Goal second_slot ∷ lines.Lemma second_slot [] ∷ [])

-- a lemma of the first three clauses that names some of them twice and out of order
abbrev pub second_lemma : Line
second_lemma = lines.Lemma third_slot (3 ∷ 1 ∷ 3 ∷ [])

-- what deletions certificates get
pub record RenewedRows : Type 0 where
  pub one_never_named : renewed (best_table ∷ second_late ∷ second_late ∷ first_late ∷ apart_explained ∷ lines.Lemma [] (1 ∷ 3 ∷ 4 ∷ []) ∷ []) ≡ best_table ∷ second_late ∷ second_late ∷ lines.Delete (2 ∷ []) ∷ first_late ∷ apart_explained ∷ lines.Lemma [] (1 ∷ 3 ∷ 4 ∷ []) ∷ []
  pub all_named_at_the_end : renewed whole_lines ≡ whole_lines
  pub other_deletions_go : renewed (second_late ∷ first_late ∷ apart_explained ∷ lines.Delete (2 ∷ []) ∷ lines.Lemma [] (1 ∷ 3 ∷ []) ∷ []) ≡ second_late ∷ first_late ∷ lines.Delete (2 ∷ []) ∷ apart_explained ∷ lines.Lemma [] (1 ∷ 3 ∷ []) ∷ []
  pub deleted_after_the_last_hint : renewed (second_late ∷ first_late ∷ apart_explained ∷ second_lemma ∷ lines.Delete (1 ∷ []) ∷ lines.Lemma [] (2 ∷ 4 ∷ []) ∷ []) ≡ second_late ∷ first_late ∷ apart_explained ∷ second_lemma ∷ lines.Delete (1 ∷ 3 ∷ []) ∷ lines.Lemma [] (2 ∷ 4 ∷ []) ∷ []
  pub both_deletions : renewed (second_late ∷ second_late ∷ second_late ∷ second_lemma ∷ best_table ∷ []) ≡ second_late ∷ second_late ∷ lines.Delete (2 ∷ []) ∷ second_late ∷ second_lemma ∷ lines.Delete (1 ∷ 3 ∷ []) ∷ lines.Delete (4 ∷ []) ∷ best_table ∷ []
  pub tolls_and_prices_stay : renewed (best_table ∷ late_narrows ∷ late_costs_line ∷ second_late ∷ lines.Bound 40 ∷ last_priced ∷ []) ≡ best_table ∷ late_narrows ∷ late_costs_line ∷ second_late ∷ lines.Delete (1 ∷ []) ∷ lines.Bound 40 ∷ last_priced ∷ []
  pub priced_and_named : renewed (late_narrows ∷ late_costs_line ∷ lines.Priced second_slot ∷ lines.Lemma [] (1 ∷ []) ∷ []) ≡ late_narrows ∷ late_costs_line ∷ lines.Priced second_slot ∷ lines.Lemma [] (1 ∷ []) ∷ []
  pub no_lines : renewed [] ≡ []
