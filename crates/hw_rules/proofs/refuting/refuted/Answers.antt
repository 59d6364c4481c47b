use Rattle.std.proofs.Common.{◌≡◌, ◌<◌, length, subst, sym, ap, ◌∙◌}
use Rattle.hw_model.specs.declared.source.Source.TheVariants as sources
use Rattle.hw_model.specs.Refuting.{IsSourceOf}
use Rattle.hw_model.specs.RefutingComputed.{refutes}
use Rattle.hw_rules.proofs.Named.{means_of, rule_at}
use Rattle.hw_rules.proofs.refuting.refuted.Goals as goal

told : (c : goal.After-rule_refuted) → c.rule_refuted.result ≡ refutes c.args.flat.now (sources.Rule c.in-Rule.place) c.args.best c.args.room.now
told c =
    let inside : c.in-Rule.place < length c.args.flat.now.rules = subst (IsSourceOf c.args.flat.now) c.in-Rule.is c.requires.source_in in
    rule_at c.args.flat.now c.in-Rule.place c.args.best c.args.room.now c.rules.result.now c.index-rules-place.result c.rule_refuted.result c.rules.ensures.value inside c.index-rules-place.is c.rule_refuted.ensures.value

pub returns-in-Window-clause-means : goal.returns-in-Window-clause-means
returns-in-Window-clause-means c = means_of c.args.flat.now c.args.source (sources.Window c.in-Window.ship) c.args.best c.args.room.now c.window_refuted.result c.in-Window.is c.window_refuted.ensures.value

pub returns-in-Rule-clause-computed : goal.returns-in-Rule-clause-computed
returns-in-Rule-clause-computed c = told c ∙ ap (λ s. refutes c.args.flat.now s c.args.best c.args.room.now) (sym c.in-Rule.is)

pub returns-in-Rule-clause-means : goal.returns-in-Rule-clause-means
returns-in-Rule-clause-means c = means_of c.args.flat.now c.args.source (sources.Rule c.in-Rule.place) c.args.best c.args.room.now c.rule_refuted.result c.in-Rule.is (told c)
