use Rattle.std.proofs.Common.{◌≡◌, ◌<◌, ◌≤◌, ℕ, List, length, get_or, sym, ap, subst}
use Rattle.hw_model.specs.declared.rule.Job.{Job}
use Rattle.hw_tugs.specs.Kinds.{jobs_of}
use Rattle.hw_rules.specs.Fleets.{jobs_in}
use Rattle.hw_tugs.specs.Held.{IsLoad, IsForced}
use Rattle.hw_tugs.proofs.Loads.{few_tugs, load_few, load_forced}
use Rattle.hw_tugs.proofs.profile.TugProfilePropagator.step.Goals as goal

pub tugs_step-requires-clause-small : goal.tugs_step-requires-clause-small
tugs_step-requires-clause-small c =
    let f = c.args.flat.now in
    let p = c.args.self.now in
    let fits = c.tugs_rule-rule.ensures.fits in
    let jobs : jobs_of f p.source ≡ c.tugs_rule-rule.result.jobs.now = ap jobs_in c.tugs_rule-rule.ensures.rule in
    let P : List Job → Type 0 = λ js. IsLoad js p.figures.seen.items p.figures.load.items in
    let Q : List ℕ → Type 0 = λ load. (slot : ℕ) → slot < length load → get_or load slot 0 ≤ 10_000 in
    subst Q (sym c.deref.ensures.value)
    (load_few c.tugs_rule-rule.result.jobs.now p.figures.seen.items p.figures.load.items (subst P jobs c.requires.ready.keeps.load) fits.few_jobs (few_tugs f.ships c.tugs_rule-rule.result.jobs.now fits.each_job))

pub tugs_step-requires-clause-forced : goal.tugs_step-requires-clause-forced
tugs_step-requires-clause-forced c =
    let f = c.args.flat.now in
    let p = c.args.self.now in
    let jobs : jobs_of f p.source ≡ c.tugs_rule-rule.result.jobs.now = ap jobs_in c.tugs_rule-rule.ensures.rule in
    let P : List Job → Type 0 = λ js. IsForced js c.args.room.now p.figures.load.items in
    let Q : List ℕ → Type 0 = IsForced c.tugs_rule-rule.result.jobs.now c.args.room.now in
    subst Q (sym c.deref.ensures.value) (subst P jobs (load_forced c.args.room.now (jobs_of f p.source) p.figures.seen.items p.figures.load.items c.requires.ready.keeps.load c.requires.ready.sees))
