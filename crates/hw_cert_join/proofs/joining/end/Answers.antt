use Rattle.std.proofs.Common.{◌∙◌, List, subst}
use Rattle.hw_model.specs.declared.lit.Lit.{Lit}
use Rattle.hw_cert_lines.specs.declared.line.Line.TheVariants as lines
use Rattle.hw_cert_course.specs.Courses.{OfferingMeets}
use Rattle.hw_cert_course.proofs.Extended.{extends_self}
use Rattle.hw_cert_join.proofs.JoinLines.{by_end, closed_now, ended_before}
use Rattle.hw_cert_join.proofs.joining.end.Goals as goal

pub returns-then-not-is_open : goal.returns-then-not-is_open
returns-then-not-is_open c = ended_before (extends_self c.requires.stands) (closed_now c.is_open.ensures c.if-not-is_open.true)

pub returns : goal.returns
returns c = by_end c.args.course c.new-2.result.items c.offer.result c.requires.stands (subst (λ (clause : List Lit). OfferingMeets c.args.course (lines.Lemma clause c.new-2.result.items) c.offer.result) (c.of_normal.ensures.value ∙ c.new.ensures.items) c.offer.ensures)
