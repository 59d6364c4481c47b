use Rattle.std.proofs.Common.{refl}
use Rattle.hw_desk.proofs.Written.{puts_on, puts_same, puts_nothing}
use Rattle.hw_flat_programme.specs.Rows.{span_terms, terms_of}
use Rattle.hw_flat_programme.specs.Texts.{terms_text}
use Rattle.hw_flat_programme.proofs.Onward.{terms_text-append, copies_next, items_end}
use Rattle.hw_flat_programme.proofs.terms.put_spans.Goals as goal

pub loop-span-preserved : goal.loop-span-preserved
loop-span-preserved g c = λ end h. c.loop-span.invariant end (puts_same _ (copies_next (terms_text c.args.flat.now.slots c.args.mark) (terms_text-append c.args.flat.now.slots c.args.mark) (span_terms c.args.flat.now) (terms_of c.args.flat.now) (λ x xs. refl) c.loop-span.span-index c.args.spans.now (record { ship = 0; from = 0; to = 0; weight = 0 }) c.loop-span-test.true) (puts_on c.put_span.ensures h))

pub returns : goal.returns
returns g c = c.loop-span.invariant _ (puts_same _ (items_end (terms_text c.args.flat.now.slots c.args.mark) (terms_of c.args.flat.now) refl c.loop-span.span-index c.args.spans.now c.loop-span-test.false) (puts_nothing _))
