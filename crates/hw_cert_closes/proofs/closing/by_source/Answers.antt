use Rattle.std.proofs.Common.{refl, rules}
use Rattle.hw_cert_closes.proofs.Narrowings.{source_kept}
use Rattle.hw_cert_closes.proofs.closing.by_source.Goals as goal

pub returns-in_ok-push-in-Clause : goal.returns-in_ok-push-in-Clause
returns-in_ok-push-in-Clause c = source_kept _ _ _ c.args.source _ c.of_source-line.result c.in_ok-passed-in-Clause.ensures.under_way c.requires.source_in (search rules) c.of_source-line.ensures.value refl c.in_ok-push-in-Clause.ensures.items
