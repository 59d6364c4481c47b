use Rattle.std.proofs.Common.{◌<◌, length, ◌∙◌, arith}
use Rattle.std.proofs.lemmas.List.{get_or_read}
use Rattle.hw_tugs.specs.Kinds.{jobs_of}
use Rattle.hw_tugs.proofs.Loads.{load_forced}
use Rattle.hw_tugs.proofs.profile.TugProfile.load.Goals as goal

pub returns : goal.returns
returns c =
    let p = c.args.self.now in
    let some = c.requires.ready in
    let lt : c.args.slot < length p.figures.load.items = omega (arith, some.3, some.2.keeps.each_slot) in
    record {
      value = λ f room ready.
          get_or_read p.figures.load.items _ _ lt c.index.ensures 0
          ∙ load_forced room (jobs_of f p.source) p.figures.seen.items p.figures.load.items ready.keeps.load ready.sees c.args.slot lt;
    }
