-- Small repairs with their texts, worked out by hand.
use Rattle.std.specs.Prelude.{◌≡◌, [], ◌∷◌, codes}
use Rattle.hw_model_laws.specs.Rows.{two_apart, one_stays}
use Rattle.hw_repair.specs.declared.plan.Wish.TheVariants.{Kept, Planned}
use Rattle.hw_repair.specs.Rows.{by}
use Rattle.hw_report.specs.Reports.{by_number}
use Rattle.hw_repair_text.specs.Texts.{repair_text}

pub record ExplainedRows : Type 0 where
  pub one_moved : repair_text two_apart by_number (by (Kept 2 ∷ Planned 2 0 ∷ [])) (2 ∷ 0 ∷ []) ≡ codes "sailed 0 2\nmoved 1 2 0\nlost 1 20\ntotal 60 40 lost 20\nend\n"
  pub none_moved : repair_text two_apart by_number (by (Planned 0 0 ∷ Planned 2 1 ∷ [])) (0 ∷ 2 ∷ []) ≡ codes "kept 0 0\nkept 1 2\ntotal 40 40 won 0\nend\n"
  -- ship 0 sails after all; ship 1, whose slot the plan keeps, stays
  pub sails_after_all : repair_text one_stays by_number (by (Planned 3 0 ∷ Kept 3 ∷ [])) (1 ∷ 3 ∷ []) ≡ codes "moved 0 stay 1\nkept 1 stay\nwon 0 20\ntotal 0 20 won 20\nend\n"
  -- ship 0 was planned for staying, which it may not
  pub no_value : repair_text one_stays by_number (by (Planned 3 0 ∷ Planned 1 0 ∷ [])) (2 ∷ 3 ∷ []) ≡ codes "moved 0 stay 2\nmoved 1 1 stay\nwon 0 30\nlost 1 20\ntotal 20 30 won 10\nend\n"
