use Rattle.std.proofs.Common.{rules, ◌≡◌, ◌∙◌, to_z, of_z, w64, IsTrue, ◌↔◌}
use Rattle.std.proofs.lemmas.Int.{to_z-of_z}
use Rattle.hw_rules.specs.Differences.{least, greatest, Covered}
use Rattle.hw_rules.proofs.Freed.{refuted_of, of_refuted}
use Rattle.hw_rules.proofs.spacing.two_refuted.Goals as goal

pub returns-then-not-may_be_free : goal.returns-then-not-may_be_free
returns-then-not-may_be_free c =
    let lo : to_z w64 (of_z w64 c.least_difference.result) ≡ least c.args.two = to_z-of_z w64 c.least_difference.result (search rules) ∙ c.least_difference.ensures in
    let hi : to_z w64 (of_z w64 c.greatest_difference.result) ≡ greatest c.args.two = to_z-of_z w64 c.greatest_difference.result (search rules) ∙ c.greatest_difference.ensures in
    let both : IsTrue c.covered.result ↔ Covered (least c.args.two) (greatest c.args.two) c.args.holes.now = rw (lo, hi) at c.covered.ensures in (
      λ t. refuted_of c.args.two c.args.holes.now c.args.freeing c.args.horizon c.may_be_free.result (search rules) c.may_be_free.ensures (both.0 t),
      λ r. both.1 (of_refuted c.args.two c.args.holes.now c.args.freeing c.args.horizon c.requires.slots r),
    )
