use Rattle.std.proofs.Common.{◌≡◌, ◌∙◌, None, sym}
use Rattle.hw_cert_lines.specs.Lemmas.{lemma_of}
use Rattle.hw_cert_course.specs.Raising.{KeepsFit}
use Rattle.hw_cert_course.proofs.Handed.{known_lemma, left_out}
use Rattle.hw_cert_course.proofs.handing.hand.Goals as goal

pub has_no_need_of-requires : goal.has_no_need_of-requires
has_no_need_of-requires c =
    let keeps : KeepsFit c.args.line.now c.in-Some.line = rw c.in-Some.is at c.in_ok-line.ensures.fits in
    record { fits = keeps c.args.course.flat.now c.requires.fits }

pub returns-then-has_no_need_of : goal.returns-then-has_no_need_of
returns-then-has_no_need_of c =
    let kept : lemma_of c.in-Some.line ≡ lemma_of c.args.line.now = rw c.in-Some.is at c.in_ok-line.ensures.lemma in
    let none : lemma_of c.in-Some.line ≡ None = known_lemma c.args.course.flat.now c.args.course.checker.kept c.in-Some.line (c.has_no_need_of.ensures.0 c.if-has_no_need_of.true) in
    left_out c.args.line.now c.requires.stands (sym kept ∙ none)

pub take-requires-clause-fits : goal.take-requires-clause-fits
take-requires-clause-fits c =
    let keeps : KeepsFit c.args.line.now c.in-Some.line = rw c.in-Some.is at c.in_ok-line.ensures.fits in
    keeps c.args.course.flat.now c.requires.fits

pub take-requires-clause-news : goal.take-requires-clause-news
take-requires-clause-news c = λ no_more.
    let is = c.has_no_need_of.ensures.1 no_more in
    let not = c.if-has_no_need_of.false in
    absurd (cc)
